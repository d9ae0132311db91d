-- The first setpoint, found in windows of three bytes.
use Rattle.std.proofs.Common.{◌≡◌, ℕ, ◌+◌, ◌-◌, ◌<◌, ◌≤◌, Bool, true, false, ◌&&◌, eqb, List, length, length-drop, get_or, drop, Some, None, Option, sym, refl, ap, ◌∙◌, subst, inl, inr, arith}
use Rattle.std.proofs.lemmas.Bool.{cases_lt}
use Rattle.std.proofs.lemmas.List.{get_or-drop, get_or_past}
use Rattle.std.proofs.lemmas.List.Sums.{prefix_len-le-length, prefix_len_passes, prefix_len_stops}
use Rattle.std.specs.Iterator.Runs.{Run, EveryRun, SomeRun, IsWindowsRun, IsFirstToGive, AllItemsGive, CallKeepsClosure}
use Rattle.std.specs.List.{prefix_len, IsSubsliceAt}
use Rattle.std.specs.Option.{is_some, option_map, IsSomeAnd, IfSome}
use Rattle.std.specs.Prelude.{IsTrue}
use Rattle.std.specs.Slice.Iter.{windows_rest, windows_size, windows_steps}
use denote.Param.Members.{Mut, Called}
use denote.Ref.{Bor}
use Rattle.char_traits.specs.Chars.{digit}
use Rattle.input.proofs.Keeping.{never}
use Rattle.checklist.specs.Lines.{DigitsEnd, setpoint_at, NoSetpoint}

-- so many digits from a place
pub digits_from : (bytes : List ℕ) (from len : ℕ) → from ≤ length bytes → len ≡ prefix_len digit (drop from bytes) → DigitsEnd bytes from (from + len)
digits_from bytes from len h e =
    let rest : List ℕ = drop from bytes in
    let within : from + len ≤ length bytes = omega (arith, prefix_len-le-length digit rest, length-drop from bytes) in
    record {
      within = within;
      digits = λ k low high.
          let j : k ≡ from + (k - from) = omega arith in
          ap (λ n. digit (get_or bytes n 0)) j ∙ ap digit (sym (get_or-drop from bytes (k - from) 0)) ∙ prefix_len_passes digit rest (k - from) 0 (omega arith);
      stops = λ some.
          ap digit (sym (get_or-drop from bytes len 0)) ∙ ap (λ n. digit (get_or rest n 0)) e
          ∙ prefix_len_stops digit rest 0 (omega (arith, length-drop from bytes));
    }

and_false : (a b : Bool) → a && (b && false) ≡ false
and_false true true = refl
and_false true false = refl
and_false false b = refl

-- fewer than three bytes are no setpoint
past : (bytes : List ℕ) (k : ℕ) → length bytes ≤ k + 2 → setpoint_at bytes k ≡ false
past bytes k h =
    ap (λ c. eqb (get_or bytes k 0) 0x3A && (eqb (get_or bytes (k + 1) 0) 0x20 && digit c)) (get_or_past bytes (k + 2) 0 h)
    ∙ and_false (eqb (get_or bytes k 0) 0x3A) (eqb (get_or bytes (k + 1) 0) 0x20)

both : {A : Type 0} {P Q : A → Type 0} (o : Option A) → IsSomeAnd o P → IfSome o Q → (x : A) × P x × Q x
both None p q = absurd p
both (Some x) p q = (x, p, q)

given : {A B : Type 0} (P : A → Type 0) (f : A → B) (o : Option A) (y : B) → option_map f o ≡ Some y → IfSome o P → IsSomeAnd o P
given P f None y e p = absurd (let z : ◌≡◌ {A = Bool} false true = ap is_some e in never z)
given P f (Some x) y e p = p

module _ {F : Type 0} (g : Mut F (Bor (List ℕ) × Unit {0}) Bool) (f : F) (bytes : List ℕ) (s : _) (rest : windows_rest s ≡ bytes) (size : windows_size s ≡ 3)
    (each : EveryRun (windows_steps {A = ℕ}) (λ p. 0 < windows_size p.from → IsWindowsRun p (windows_size p.from) (windows_rest p.from)))
    (tells : (x : Bor (List ℕ)) (b : Bool) (q : F) → Called g f (x, tt) b q → (q ≡ f) × (b ≡ setpoint_at x.now 0)) where
  windows : (p : Run (windows_steps {A = ℕ})) → p.from ≡ s → IsWindowsRun p 3 bytes
  windows p e =
      let n : windows_size p.from ≡ 3 = ap windows_size e ∙ size in
      subst (λ (k : ℕ). IsWindowsRun p k bytes) n
      (subst (λ (xs : List ℕ). IsWindowsRun p (windows_size p.from) xs) (ap windows_rest e ∙ rest) (each p p.seen (omega arith)))

  keeps : CallKeepsClosure g f
  keeps a b q k = (tells a.0 b q k).0

  there : (x : Bor (List ℕ)) (k : ℕ) → IsSubsliceAt 3 bytes k x.now → setpoint_at x.now 0 ≡ setpoint_at bytes k
  there x k is =
      let a = is.2 0 0 (omega arith) ∙ ap (λ n. get_or bytes n 0) (let n : k + 0 ≡ k = omega arith in n) in
      let b = is.2 1 0 (omega arith) in
      let c = is.2 2 0 (omega arith) in
      (λ i. eqb (a i) 0x3A && (eqb (b i) 0x20 && digit (c i)))

  answered : (p : Run (windows_steps {A = ℕ})) → p.from ≡ s → (k : ℕ) (b : Bool) → IsSomeAnd (p.at k) (λ x. Called g f (x, tt) b f) → setpoint_at bytes k ≡ b
  answered p e k b c =
      let x = both (p.at k) c ((windows p e).2 k) in
      sym (there x.0 k x.2.2) ∙ sym (tells x.0 b f x.1).1

  pub first_found : (place : ℕ) → SomeRun windows_steps s (λ u. (u.len ≡ place + 1) × IsFirstToGive u g f true false place) → NoSetpoint bytes place × (setpoint_at bytes place ≡ true)
  first_found place run =
      let first = run.2.1 keeps in
      (λ k h. answered run.0 run.1 k false (first.1 k h), answered run.0 run.1 place true first.0)

  pub none_found : SomeRun windows_steps s (λ u. IsTrue u.whole × AllItemsGive u g f false) → NoSetpoint bytes (length bytes)
  none_found run k h =
      let w = windows run.0 run.1 in
      let count : run.0.len ≡ length bytes + 1 - 3 = w.1 run.2.0 in
      elim (cases_lt k run.0.len) [
        | inl l ↦ answered run.0 run.1 k false (given _ (λ x. get_or x.now 0 0) (run.0.at k) (get_or bytes k 0) (w.3 k 0 l) (run.2.1 keeps k))
        | inr l ↦ past bytes k (omega arith)
      ]
