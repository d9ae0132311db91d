-- Two inputs with all of a text ahead, read to their ends.
use Rattle.std.proofs.Common.{◌≡◌, ℕ, List, [], sym, ap, ◌∙◌}
use lib.Utf8.{encodes}
use Rattle.std.specs.Str.{chars}
use Rattle.error.specs.Numbers.{Ending}
use Rattle.input.specs.declared.Closing.{Closing}
use Rattle.input.specs.View.{View}
use Rattle.input.specs.Calls.{closing_number, closing_of}
use Rattle.checklist.specs.Readings.{ReadOut}
use Rattle.checklist.specs.Both.{AllAhead, WholeText}

pub whole_text : {H K : Type 0} (bytes a b : List ℕ) (c d : Closing) (v : View H) (w : View K) → encodes (chars bytes) ≡ bytes → AllAhead bytes v → AllAhead bytes w
    → ReadOut a c v → ReadOut b d w → WholeText bytes a c b d
whole_text bytes a b c d v w text x y r s =
    record {
      same = r.all ∙ x.all ∙ sym y.all ∙ sym s.all;
      all = ap encodes (r.all ∙ x.all) ∙ text;
      card_whole = r.told ∙ ap (λ (e : Ending). closing_number (closing_of [] e)) x.finish;
      cable_whole = s.told ∙ ap (λ (e : Ending). closing_number (closing_of [] e)) y.finish;
    }
