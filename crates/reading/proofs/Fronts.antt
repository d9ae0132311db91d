-- Runs of a list's calls, and the bytes of a fetch.
use Rattle.std.proofs.Common.{◌≡◌, ℕ, ◌+◌, ◌-◌, ◌≤◌, Bool, true, false, cond, not, ◌&&◌, T, List, [], ◌∷◌, ◌++◌, length, take, drop, sym, refl, ap, ◌∙◌, subst, arith, nltb→le, length-take-le, drop_at}
use mathlib.Core.List.{IsPrefix}
use lib.Seq.{take-append_seam}
use lib.Utf8.{scalar, scalars, encodes}
use Rattle.std.specs.Str.{chars}
use Rattle.std.proofs.lemmas.Str.{chars-encodes}
use Rattle.utf8.specs.Room.{overlay}
use Rattle.char_traits.specs.Chars.{blank, alpha, yaml_non_space, not_breakz, printable_not_breakz, plain_safe}
use Rattle.runs.specs.declared.Colon.TheVariants.{Free, Leads}
use Rattle.runs.specs.Runs.{goes}
use Rattle.runs.specs.Rooms.{front_that_fits, beyond, part}
use Rattle.runs.proofs.Fronts.{prefix_trans, run_prefix, part_prefix}
use Rattle.calls.specs.declared.call.SkipCall.{SkipCall}
use Rattle.calls.specs.declared.call.FetchCall.{FetchCall}
use Rattle.calls.specs.Entries.{run_skipped, run_fetched}

-- each run is a prefix of what is ahead
module _ {C : Type 0} (member : C → ℕ → Bool) where
  pub skip_prefix : (k : SkipCall C) (a : List ℕ) → IsPrefix (run_skipped member k a) a
  skip_prefix (SkipCall.While class) a = run_prefix (goes (member class) Free) a
  skip_prefix SkipCall.WhileBlank a = run_prefix (goes blank Free) a
  skip_prefix SkipCall.WhileNonBreakz a = run_prefix (goes printable_not_breakz Free) a
  skip_prefix (SkipCall.PlainRun in_flow) a = run_prefix (goes (plain_safe in_flow) Leads) a

  pub fetch_prefix : (k : FetchCall C) (a : List ℕ) → IsPrefix (run_fetched member k a) a
  fetch_prefix (FetchCall.While class) a = run_prefix (goes (member class) Free) a
  fetch_prefix FetchCall.WhileIsAlpha a = run_prefix (goes alpha Free) a
  fetch_prefix FetchCall.WhileIsYamlNonSpace a = run_prefix (goes yaml_non_space Free) a
  fetch_prefix FetchCall.BlockScalarLine a = run_prefix (goes not_breakz Free) a
  fetch_prefix (FetchCall.PlainRun in_flow) a = run_prefix (goes (plain_safe in_flow) Leads) a

-- the bytes that were laid down after the filled ones
laid_there : (room : List ℕ) (filled : ℕ) (new : List ℕ) → filled ≤ length room → take (filled + length new - filled) (drop filled (overlay room filled new)) ≡ new
laid_there room filled new h =
    let rest : List ℕ = new ++ drop (filled + length new) room in
    let d : drop filled (overlay room filled new) ≡ rest = drop_at (take filled room) rest filled (length-take-le filled room h) in
    let n : filled + length new - filled ≡ length new = omega arith in
    ap (λ k. take k (drop filled (overlay room filled new))) n ∙ ap (λ r. take (length new) r) d ∙ take-append_seam new (drop (filled + length new) room)

none_laid : (left : List ℕ) (filled : ℕ) → take (filled + 0 - filled) (drop filled left) ≡ []
none_laid left filled = let n : filled + 0 - filled ≡ 0 = omega arith in ap (λ k. take k (drop filled left)) n

part_laid : (room : List ℕ) (filled : ℕ) (run : List ℕ)
    → let new : List ℕ = encodes (part room filled run) in take (filled + length new - filled) (drop filled (overlay room filled new)) ≡ new
part_laid room filled run = go (beyond room filled) (λ e. nltb→le (length room) filled (subst (λ (b : Bool). T (not b)) (sym e) tt))
  where
    go : (b : Bool) → (b ≡ false → filled ≤ length room)
        → let new : List ℕ = encodes (cond b [] (front_that_fits (length room - filled) run)) in take (filled + length new - filled) (drop filled (overlay room filled new)) ≡ new
    go true h = none_laid (overlay room filled []) filled
    go false h = laid_there room filled (encodes (front_that_fits (length room - filled) run)) (h refl)

scalars_front : (xs rest : List ℕ) → scalars (xs ++ rest) ≡ true → scalars xs ≡ true
scalars_front [] rest s = refl
scalars_front (c ∷ xs) rest s = and_then (scalar c) (scalars (xs ++ rest)) (scalars xs) s (scalars_front xs rest)
  where
    and_then : (x y z : Bool) → x && y ≡ true → (y ≡ true → z ≡ true) → x && z ≡ true
    and_then true y z e h = h e
    and_then false y z e h = e

-- a fetch took what it appended
pub part_appended : (room : List ℕ) (filled : ℕ) (run a left : List ℕ) (fills : ℕ) → IsPrefix run a → scalars a ≡ true → fills ≡ filled + length (encodes (part room filled run))
    → left ≡ overlay room filled (encodes (part room filled run)) → part room filled run ≡ chars (take (fills - filled) (drop filled left))
part_appended room filled run a left fills f s i e =
    let front = prefix_trans (part room filled run) run a (part_prefix room filled run) f in
    sym
    ((λ j. chars (take (i j - filled) (drop filled (e j))))
    ∙ ap chars (part_laid room filled run)
    ∙ chars-encodes (part room filled run) (scalars_front (part room filled run) front.0 (subst (λ (x : List ℕ). scalars x ≡ true) (sym front.1) s)))
