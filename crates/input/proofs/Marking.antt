-- A document marker is told by four characters.
use Rattle.std.proofs.Common.{◌≡◌, ℕ, ◌<◌, ◌≤◌, Bool, true, false, cond, ◌&&◌, eqb, List, get_or, Some, None, Option, refl, ap, ◌∙◌, arith}
use Rattle.char_traits.specs.Chars.{blank_or_breakz}
use Rattle.input.specs.declared.Marker.{Marker}
use Rattle.input.specs.declared.Marker.TheVariants.{Start, End}
use Rattle.input.specs.Tests.{flag, in_window, marker_in, Shown, Marks, is_marker}

marker_by : ℕ → ℕ → ℕ → ℕ → Option Marker
marker_by a b c d =
    cond (blank_or_breakz d) (cond (eqb a 0x2D && (eqb b 0x2D && eqb c 0x2D)) (Some Start) (cond (eqb a 0x2E && (eqb b 0x2E && eqb c 0x2E)) (Some End) None)) None

pub marker_same : (f g : ℕ → ℕ) → ((n : ℕ) → n < 4 → f n ≡ g n) → marker_in f ≡ marker_in g
unfolding marker_by
marker_same f g e =
    let zero = e 0 (omega arith) in
    let one = e 1 (omega arith) in
    let two = e 2 (omega arith) in
    let three = e 3 (omega arith) in
    λ i. marker_by (zero i) (one i) (two i) (three i)

flag_same : (a b : Bool) → flag a ≡ flag b → a ≡ b
flag_same true true e = refl
flag_same true false e = absurd (omega (arith, ap (λ xs. get_or xs 0 0) e))
flag_same false true e = absurd (omega (arith, ap (λ xs. get_or xs 0 0) e))
flag_same false false e = refl

-- with a window of 4 the answer is told, and by what is ahead
pub marker_told : (which : Option Marker → Bool) (window : ℕ) (s : Shown) (ahead : ℕ → ℕ) (is : Bool) → 4 ≤ window → ((n : ℕ) → n < 4 → s.at n ≡ ahead n) → Marks window s.at s.marker
    → (0, flag is) ≡ is_marker which s → is ≡ which (marker_in ahead)
marker_told which window s ahead is wide same marks e = go s.marker marks e
  where
    go : (r : Option (Option Marker)) → Marks window s.at r → (0, flag is) ≡ in_window (λ m. flag (which m)) r → is ≡ which (marker_in ahead)
    go None h e = absurd (omega arith)
    go (Some m) h e =
        flag_same is (which m) (ap (λ (a : ℕ × List ℕ). a.1) e) ∙ ap which (h wide ∙ marker_same s.at ahead same)

-- and it is told, not refused
pub marker_seen : (which : Option Marker → Bool) (window : ℕ) (s : Shown) → 4 ≤ window → Marks window s.at s.marker → is_marker which s ≡ (0, flag (which (marker_in s.at)))
marker_seen which window s wide marks = go s.marker marks
  where
    go : (r : Option (Option Marker)) → Marks window s.at r → in_window (λ m. flag (which m)) r ≡ (0, flag (which (marker_in s.at)))
    go None h = absurd (omega arith)
    go (Some m) h = ap (λ x. (0, flag (which x))) (h wide)
