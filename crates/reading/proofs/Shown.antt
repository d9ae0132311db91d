-- Tests of two inputs with the same characters ahead.
use Rattle.std.proofs.Common.{◌≡◌, ℕ, suc, ◌<◌, ◌≤◌, Bool, true, cond, ◌&&◌, eqb, List, [], ◌∷◌, length, get_or, Some, None, Option, sym, refl, ap, ◌∙◌, ap₂, arith}
use lib.Utf8.{scalars}
use Rattle.input.specs.View.{View}
use Rattle.input.specs.Calls.{none_left}
use Rattle.input.specs.Tests.{flag, are_shown, without_nul, Shown, Matches, IsFaithful, in_window, compare_number, compare_all_number, plain_goes_on}
use Rattle.input.proofs.Marking.{marker_same, marker_seen}
use Rattle.calls.specs.declared.call.Test.{Test}
use Rattle.calls.specs.Entries.{test_number, class_of, marker_of}
use Rattle.calls.specs.Kinds.{test_kind}

-- up to a reach
abbrev pub Upto : ℕ → (ℕ → ℕ) → (ℕ → ℕ) → Type 0
Upto reach f g = (n : ℕ) → n < reach → f n ≡ g n

found_same : (f g : ℕ → ℕ) (ws : List ℕ) → Upto (length ws) f g → are_shown f ws ≡ are_shown g ws
found_same f g [] e = refl
found_same f g (c ∷ ws) e =
    ap₂ (λ x y. eqb x c && y) (e 0 (omega arith)) (found_same (λ n. f (suc n)) (λ n. g (suc n)) ws (λ n h. e (suc n) (omega arith)))

plain_same : (in_flow : Bool) (f g : ℕ → ℕ) → Upto 2 f g → plain_goes_on in_flow f ≡ plain_goes_on in_flow g
plain_same in_flow f g e =
    let zero = e 0 (omega arith) in
    let one = e 1 (omega arith) in
    λ i. plain_goes_on in_flow (λ n. pick n (zero i) (one i))
  where
    pick : ℕ → ℕ → ℕ → ℕ
    pick n a b = cond (eqb n 0) a b

-- within its window an input answers by what it shows
matched : (ws : List ℕ) (window : ℕ) (shown : ℕ → ℕ) (r : Option Bool) → length ws ≤ window → without_nul ws ≡ true → Matches ws window shown r
    → in_window flag r ≡ (0, flag (are_shown shown ws))
matched ws window shown None h plain m = absurd (omega arith)
matched ws window shown (Some is) h plain m = ap (λ b. (0, flag b)) (m h plain)

module _ {H K : Type 0} (s u : Shown) (v : View H) (y : View K) (ahead : v.ahead ≡ y.ahead) (f : IsFaithful s v) (g : IsFaithful u y) where
  pub shown_same : (reach : ℕ) → reach ≤ v.window → reach ≤ y.window → Upto reach s.at u.at
  shown_same reach h k n l = f.at n (omega arith) ∙ ap (λ z. get_or z n 0) ahead ∙ sym (g.at n (omega arith))

  all_same : (ws : List ℕ) → length ws ≤ v.window → length ws ≤ y.window → without_nul ws ≡ true → compare_all_number ws s ≡ compare_all_number ws u
  all_same ws h k plain =
      ap (λ (z : ℕ × List ℕ). cond (scalars ws) z (3, []))
      (matched ws v.window s.at (s.matches ws) h plain (f.matches ws)
      ∙ ap (λ b. (0, flag b)) (found_same s.at u.at ws (shown_same (length ws) h k))
      ∙ sym (matched ws y.window u.at (u.matches ws) k plain (g.matches ws)))

  pub tests_same : (t : Test) → (test_kind t).reaches ≤ v.window → (test_kind t).reaches ≤ y.window → (test_kind t).plain ≡ true → test_number t s ≡ test_number t u
  tests_same Test.Z h k p = ap (λ z. (0, flag z)) (f.at_end (omega arith) ∙ ap none_left ahead ∙ sym (g.at_end (omega arith)))
  tests_same (Test.Class class) h k p = ap (λ z. (0, flag (class_of class z))) (shown_same 1 h k 0 (omega arith))
  tests_same (Test.CharIs code) h k p = ap (compare_number code) (shown_same 1 h k 0 (omega arith))
  tests_same (Test.NthIs n code) h k p = ap (compare_number code) (shown_same _ h k n (omega arith))
  tests_same (Test.TwoAre a b) h k p = all_same (a ∷ b ∷ []) h k p
  tests_same (Test.ThreeAre a b c) h k p = all_same (a ∷ b ∷ c ∷ []) h k p
  tests_same (Test.Marker which) h k p =
      marker_seen (marker_of which) v.window s h f.marker
      ∙ ap (λ o. (0, flag (marker_of which o))) (marker_same s.at u.at (shown_same 4 h k))
      ∙ sym (marker_seen (marker_of which) y.window u k g.marker)
  tests_same (Test.PlainScalar in_flow) h k p = ap (λ z. (0, flag z)) (plain_same in_flow s.at u.at (shown_same 2 h k))
