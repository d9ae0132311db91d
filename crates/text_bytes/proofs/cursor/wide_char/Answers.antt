use Rattle.std.proofs.Common.{◌≡◌, ℕ, List, [], IsUtf8, sym, ◌∙◌, subst}
use Rattle.std.specs.Prelude.{MatchOption}
use Rattle.std.proofs.lemmas.List.{take_rest}
use Rattle.utf8.specs.Decoding.{BeginsWith}
use Rattle.text_bytes.proofs.Places.{rest_is_text}
use Rattle.text_bytes.proofs.cursor.wide_char.Goals as goal

pub from_utf8_unchecked-requires : goal.from_utf8_unchecked-requires
from_utf8_unchecked-requires c = subst IsUtf8 (sym (take_rest c.args.text.now c.args.place)) (rest_is_text _ _ c.requires)

pub returns : goal.returns
returns c =
    subst (λ (bytes : List ℕ). MatchOption c.first_char.result (bytes ≡ []) (BeginsWith bytes)) (c.from_utf8_unchecked.ensures ∙ take_rest c.args.text.now c.args.place)
    c.first_char.ensures
