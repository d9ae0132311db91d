-- A run as far as it was taken.
use Rattle.std.proofs.Common.{◌≡◌, ℕ, suc, ◌+◌, ◌-◌, ◌<◌, ◌≤◌, Bool, true, false, cond, ◌&&◌, ltb, List, [], ◌∷◌, length, get_or, take, drop, is_some, Some, None, Option, sym, refl, ap, ◌∙◌, subst, arith, length-drop, drop-drop, lt-ltb, le-ltb}
use Rattle.std.proofs.Math.Bool.{and-false}
use Rattle.std.proofs.Math.Seq.{take-nil}
use Rattle.std.proofs.lemmas.List.{length-take-le}
use Rattle.input.specs.View.{View, exactly, Keeps}
use Rattle.input.specs.Calls.{none_left, first_of, Skips}
use Rattle.input.proofs.Keeping.{never, both}
use Rattle.runs.specs.Runs.{run_by}
use Rattle.runs.specs.Scans.{PeeksRun, SkipsRun}

-- the first character of a run, and what the run is after it
pub record First (go : ℕ → ℕ → Bool) (a : List ℕ) (c : ℕ) : Type 0 where
  pub ahead : a ≡ c ∷ drop 1 a
  pub run : run_by go a ≡ c ∷ run_by go (drop 1 a)

pub first_some : (go : ℕ → ℕ → Bool) (a : List ℕ) (c : ℕ) → Some c ≡ first_of (run_by go a) → First go a c
first_some go [] c e = let z : ◌≡◌ {A = ℕ} 0 1 = cc in absurd (omega arith)
first_some go (d ∷ a) c e = step (go d (get_or a 0 0)) e refl
  where
    step : (b : Bool) → Some c ≡ first_of (cond b (d ∷ run_by go a) []) → go d (get_or a 0 0) ≡ b → First go (d ∷ a) c
    step true e h =
        let same : d ≡ c = cc in
        record { ahead = ap (λ x. x ∷ a) same; run = ap (λ (b : Bool). cond b (d ∷ run_by go a) []) h ∙ ap (λ x. x ∷ run_by go a) same }
    step false e h = let z : ◌≡◌ {A = ℕ} 0 1 = cc in absurd (omega arith)

pub first_none : (run : List ℕ) → None ≡ first_of run → run ≡ []
first_none [] e = refl
first_none (c ∷ run) e = let z : ◌≡◌ {A = ℕ} 0 1 = cc in absurd (omega arith)

pub some_left : (a : List ℕ) (c : ℕ) → a ≡ c ∷ drop 1 a → (none_left a ≡ false) × (0 < length a)
some_left [] c e = let z : ◌≡◌ {A = ℕ} 0 1 = cc in absurd (omega arith)
some_left (d ∷ a) c e = (refl, omega arith)

pub some_of : (r : Option ℕ) → is_some r ≡ true → (c : ℕ) × (Some c ≡ r)
some_of None e = absurd (never e)
some_of (Some c) e = (c, refl)

pub none_of : (r : Option ℕ) → is_some r ≡ false → None ≡ r
none_of None e = refl
none_of (Some c) e = absurd (never (sym e))

-- one character less of so many
pub take_less : (most n c : ℕ) (rest : List ℕ) → n < most → take (most - n) (c ∷ rest) ≡ c ∷ take (most - (n + 1)) rest
take_less most n c rest h = let e : most - n ≡ suc (most - (n + 1)) = omega arith in ap (λ k. take k (c ∷ rest)) e

pub take_over : (most n : ℕ) (rest : List ℕ) → most ≤ n → take (most - n) rest ≡ []
take_over most n rest h = let e : most - n ≡ 0 = omega arith in ap (λ k. take k rest) e

-- what is left of a run of which n characters were taken
abbrev pub rest_of : {H : Type 0} → (ℕ → ℕ → Bool) → ℕ → ℕ → View H → List ℕ
rest_of go most n v = take (most - n) (run_by go v.ahead)

abbrev pub all_of : {H : Type 0} → (ℕ → ℕ → Bool) → ℕ → View H → List ℕ
all_of go most v = take most (run_by go v.ahead)

-- n characters of a run were taken, from v to w
pub record Running {H : Type 0} (go : ℕ → ℕ → Bool) (most n : ℕ) (v w : View H) : Type 0 where
  pub keeps : Keeps false (exactly 0) v w
  pub told : w.told ≡ v.told
  pub ahead : w.ahead ≡ drop n v.ahead
  pub upto : n ≤ most
  pub so_far : length (all_of go most v) ≡ n + length (rest_of go most n w)

module _ {H : Type 0} (go : ℕ → ℕ → Bool) (most n : ℕ) (v u o : View H) (r : Option ℕ) (run : Running go most n v u) (peeks : PeeksRun go r u o) where
  shorter : length o.ahead ≤ length u.ahead
  shorter = omega (arith, ap length peeks.ahead)

  module _ (c : ℕ) (is : Some c ≡ r) (more : n < most) where
    pub first : First go u.ahead c
    first = first_some go u.ahead c (is ∙ peeks.first)

    -- what is left of the run before the character
    pub rest_is : (w : View H) → w.ahead ≡ drop 1 o.ahead → rest_of go most n u ≡ c ∷ rest_of go most (n + 1) w
    rest_is w e =
        ap (λ xs. take (most - n) xs) first.run
        ∙ take_less most n c (run_by go (drop 1 u.ahead)) more
        ∙ ap (λ xs. c ∷ take (most - (n + 1)) (run_by go xs)) (ap (drop 1) (sym peeks.ahead) ∙ sym e)

    still_there : Keeps false (exactly 0) u o
    still_there = subst (λ (b : Bool). Keeps b (exactly 0) u o) (some_left u.ahead c first.ahead).0 peeks.keeps

    pub offered : Keeps false (exactly 0) v o
    offered = both false (exactly 0) v u o shorter run.keeps still_there

    -- a next character of the run is left where it is
    pub run_open : SkipsRun (ltb n most) (exactly 0) (take n (all_of go most v)) n v o
    run_open =
        let some : none_left o.ahead ≡ false = ap none_left peeks.ahead ∙ (some_left u.ahead c first.ahead).0 in
        let no_end : false ≡ ltb n most && none_left o.ahead = sym (ap (λ b. ltb n most && b) some ∙ and-false (ltb n most)) in
        record {
          keeps = subst (λ (b : Bool). Keeps b (exactly 0) v o) no_end offered;
          told = peeks.told ∙ run.told;
          wide = omega arith;
          number = sym (length-take-le n (all_of go most v) (omega (arith, run.so_far)));
          ahead = peeks.ahead ∙ run.ahead;
        }

    pub run_more : (w : View H) → Skips 1 o w → Running go most (n + 1) v w
    run_more w k =
        let some = (some_left u.ahead c first.ahead).1 in
        let len : length w.ahead ≤ length o.ahead = omega (arith, ap length k.ahead ∙ length-drop 1 o.ahead) in
        let not_end : ltb (length o.ahead) 1 ≡ false = le-ltb _ _ (omega (arith, ap length peeks.ahead)) in
        record {
          keeps = both false (exactly 0) v o w len offered (subst (λ (b : Bool). Keeps b (exactly 0) o w) not_end k.keeps);
          told = k.told ∙ peeks.told ∙ run.told;
          ahead = k.ahead ∙ ap (drop 1) (peeks.ahead ∙ run.ahead) ∙ drop-drop 1 n v.ahead;
          upto = omega arith;
          so_far = omega (arith, run.so_far, ap length (rest_is w k.ahead));
        }

  -- the run has ended before the count
  module _ (is : None ≡ r) (more : n < most) where
    pub gone : rest_of go most n u ≡ []
    gone = ap (λ xs. take (most - n) xs) (first_none (run_by go u.ahead) (is ∙ peeks.first)) ∙ take-nil (most - n)

    pub ended : Keeps (ltb n most && none_left o.ahead) (exactly 0) v o
    ended =
        let looks : ltb n most ≡ true = lt-ltb n most more in
        let e : none_left u.ahead ≡ ltb n most && none_left o.ahead = ap none_left (sym peeks.ahead) ∙ ap (λ b. b && none_left o.ahead) (sym looks) in
        subst (λ (b : Bool). Keeps b (exactly 0) v o) e (both (none_left u.ahead) (exactly 0) v u o shorter run.keeps peeks.keeps)

    pub run_ended : SkipsRun (ltb n most) (exactly 0) (all_of go most v) n v o
    run_ended =
        record {
          keeps = ended;
          told = peeks.told ∙ run.told;
          wide = omega arith;
          number = omega (arith, run.so_far, ap length gone);
          ahead = peeks.ahead ∙ run.ahead;
        }

-- the count is reached
module _ {H : Type 0} (go : ℕ → ℕ → Bool) (most n : ℕ) (v w : View H) (run : Running go most n v w) (all : most ≤ n) where
  pub counted : Keeps (ltb n most && none_left w.ahead) (exactly 0) v w
  counted =
      subst (λ (b : Bool). Keeps (b && none_left w.ahead) (exactly 0) v w) (sym (le-ltb n most all)) run.keeps

  pub run_counted : SkipsRun (ltb n most) (exactly 0) (all_of go most v) n v w
  run_counted =
      record {
        keeps = counted;
        told = run.told;
        wide = omega arith;
        number = omega (arith, run.so_far, ap length (take_over most n (run_by go w.ahead) all));
        ahead = run.ahead;
      }
