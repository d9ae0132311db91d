-- A fetch as far as it has come.
use Rattle.std.proofs.Common.{◌≡◌, ℕ, ◌+◌, ◌-◌, ◌<◌, ◌≤◌, Bool, true, false, cond, ltb, List, [], ◌∷◌, length, take, drop, Some, None, Option, sym, refl, ap, ◌∙◌, subst, arith, length-append, lt-ltb, le-ltb}
use lib.Utf8.{encode, encodes}
use Rattle.error.specs.declared.Refusal.{Refusal}
use Rattle.utf8.specs.Room.{overlay}
use Rattle.utf8.proofs.Rooms.{laid_none}
use Rattle.input.specs.View.{View, exactly}
use Rattle.input.specs.Calls.{Skips}
use Rattle.runs.specs.declared.Fetched.{Fetched}
use Rattle.runs.specs.Rooms.{front_that_fits, beyond, part, refusal_number}
use Rattle.runs.specs.Scans.{PeeksRun, SkipsRun, Writes}
use Rattle.runs.proofs.Asking.{skips_as}
use Rattle.runs.proofs.Laying.{laid_length, laid_both, fit_one, fit_none, Appended, Full}
use Rattle.runs.proofs.Running.{Running, all_of, rest_of, run_more, rest_is, gone, run_ended, run_open}

-- n characters of a run were taken, from v to w, and their bytes lie in the room from `filled` to `end`
pub record Fetching {H : Type 0} (go : ℕ → ℕ → Bool) (most : ℕ) (start room : List ℕ) (filled end n : ℕ) (v w : View H) : Type 0 where
  pub run : Running go most n v w
  pub long : length room ≡ length start
  pub inside : end ≤ length room
  pub number : length (front_that_fits (length start - filled) (all_of go most v)) ≡ n + length (front_that_fits (length room - end) (rest_of go most n w))
  pub bytes : filled + length (encodes (front_that_fits (length start - filled) (all_of go most v))) ≡ end + length (encodes (front_that_fits (length room - end) (rest_of go most n w)))
  pub lies : overlay start filled (encodes (front_that_fits (length start - filled) (all_of go most v))) ≡ overlay room end (encodes (front_that_fits (length room - end) (rest_of go most n w)))

module _ {H : Type 0} (go : ℕ → ℕ → Bool) (most : ℕ) (start room : List ℕ) (filled end n : ℕ) (v u o : View H) (r : Option ℕ) (f : Fetching go most start room filled end n v u) (peeks : PeeksRun go r u o) where
  pub fetch_more : (c : ℕ) → Some c ≡ r → n < most → (next : ℕ) (new : List ℕ) → Appended (encode c) room end next new → (w : View H) → Skips 1 o w
      → Fetching go most start new filled next (n + 1) v w
  fetch_more c is more next new a w k =
      let rest = rest_is go most n v u o r f.run peeks c is more w k.ahead in
      let len : length new ≡ length room = ap length a.lies ∙ laid_length room end (encode c) a.fits in
      let free : length room - end - length (encode c) ≡ length new - next = omega (arith, a.end, a.fits) in
      let q : List ℕ = front_that_fits (length new - next) (rest_of go most (n + 1) w) in
      let fit : front_that_fits (length room - end) (rest_of go most n u) ≡ c ∷ q =
      ap (front_that_fits (length room - end)) rest
      ∙ fit_one (length room - end) c (rest_of go most (n + 1) w) (omega (arith, a.fits))
      ∙ ap (λ k. c ∷ front_that_fits k (rest_of go most (n + 1) w)) free in
      record {
        run = run_more go most n v u o r f.run peeks c is more w k;
        long = len ∙ f.long;
        inside = omega (arith, a.end, a.fits);
        number = f.number ∙ ap (λ xs. n + length xs) fit ∙ omega arith;
        bytes = f.bytes ∙ ap (λ xs. end + length (encodes xs)) fit ∙ (let e = length-append (encode c) (encodes q) in omega (arith, a.end));
        lies =
            f.lies ∙ ap (λ xs. overlay room end (encodes xs)) fit
            ∙ sym (laid_both room end (encode c) (encodes q) a.fits)
            ∙ (λ i. overlay (sym a.lies i) (sym a.end i) (encodes q));
      }

-- nothing more of the run fits, or nothing is left of it
module _ {H : Type 0} (go : ℕ → ℕ → Bool) (most : ℕ) (start room : List ℕ) (filled end n : ℕ) (v u : View H) (f : Fetching go most start room filled end n v u) (h : filled ≤ length start) (none : front_that_fits (length room - end) (rest_of go most n u) ≡ []) where
  within : beyond start filled ≡ false
  within = le-ltb (length start) filled h

  part_is : part start filled (all_of go most v) ≡ front_that_fits (length start - filled) (all_of go most v)
  part_is = ap (λ (b : Bool). cond b [] (front_that_fits (length start - filled) (all_of go most v))) within

  number_is : n ≡ length (part start filled (all_of go most v))
  number_is = sym (ap length part_is ∙ f.number ∙ ap (λ xs. n + length xs) none ∙ omega arith)

  pub skips_part : (looks : Bool) (one : List ℕ) (w : View H) → SkipsRun looks (exactly 0) one n v w → SkipsRun looks (exactly 0) (part start filled (all_of go most v)) n v w
  skips_part looks one w = skips_as looks (exactly 0) one (part start filled (all_of go most v)) n v w number_is

  pub writes_part : (refusal : Option Refusal) → refusal_number refusal ≡ cond (ltb n (length (all_of go most v))) (7, []) (0, [])
      → Writes (all_of go most v) start filled (record { count = n; filled = end; refusal = refusal }) room
  writes_part refusal is =
      record {
        fills = omega (arith, ap (λ xs. length (encodes xs)) part_is, f.bytes, ap (λ xs. length (encodes xs)) none);
        refusal = is ∙ (λ i. cond (sym within i) (6, []) (cond (ltb (number_is i) (length (all_of go most v))) (7, []) (0, [])));
        bytes = sym (ap (λ xs. overlay start filled (encodes xs)) part_is ∙ f.lies ∙ ap (λ xs. overlay room end (encodes xs)) none ∙ laid_none room end);
      }

-- all of the run was taken
all_taken : (n : ℕ) (all : List ℕ) → length all ≡ n → ◌≡◌ {A = ℕ × List ℕ} (0, []) (cond (ltb n (length all)) (7, []) (0, []))
all_taken n all e = sym (ap (λ (b : Bool). cond b (7, []) (0, [])) (le-ltb n (length all) (omega arith)))

-- what a fetch within the room promises
abbrev pub FetchesPart : {H : Type 0} → ℕ → List ℕ → List ℕ → ℕ → Fetched → List ℕ → View H → View H → Type 0
FetchesPart most run room filled r left v w = SkipsRun (ltb r.count most) (exactly 0) (part room filled run) r.count v w × Writes run room filled r left

module _ {H : Type 0} (go : ℕ → ℕ → Bool) (most : ℕ) (start room : List ℕ) (filled end n : ℕ) (v u o : View H) (r : Option ℕ) (f : Fetching go most start room filled end n v u) (peeks : PeeksRun go r u o) (h : filled ≤ length start) where
  pub fetch_ended : None ≡ r → n < most → FetchesPart most (all_of go most v) start filled (record { count = n; filled = end; refusal = None }) room v o
  fetch_ended is more =
      let none = gone go most n v u o r f.run peeks is more in
      let fit = ap (front_that_fits (length room - end)) none in (
        skips_part go most start room filled end n v u f h fit (ltb n most) (all_of go most v) o (run_ended go most n v u o r f.run peeks is more),
        writes_part go most start room filled end n v u f h fit None (all_taken n (all_of go most v) (f.run.so_far ∙ ap (λ xs. n + length xs) none ∙ omega arith)),
      )

  pub fetch_full : (c : ℕ) → Some c ≡ r → n < most → (refusal : Refusal) (new : List ℕ) → Full (encode c) room end refusal new
      → FetchesPart most (all_of go most v) start filled (record { count = n; filled = end; refusal = Some refusal }) new v o
  fetch_full c is more refusal new full =
      let rest = rest_is go most n v u o r f.run peeks c is more (record o { ahead = drop 1 o.ahead }) refl in
      let fit = ap (front_that_fits (length room - end)) rest ∙ fit_none (length room - end) c _ (omega (arith, full.wide, f.inside)) in
      let fewer : ltb n (length (all_of go most v)) ≡ true = lt-ltb n _ (omega (arith, f.run.so_far, ap length rest)) in (
        skips_part go most start room filled end n v u f h fit (ltb n most) (take n (all_of go most v)) o (run_open go most n v u o r f.run peeks c is more),
        subst (λ (bytes : List ℕ). Writes (all_of go most v) start filled (record { count = n; filled = end; refusal = Some refusal }) bytes) (sym full.same)
            (writes_part go most start room filled end n v u f h fit (Some refusal) (full.is ∙ sym (ap (λ (b : Bool). cond b (7, []) (0, [])) fewer))),
      )

-- a fetch as it is answered
pub answered : {H : Type 0} (most : ℕ) (run start : List ℕ) (filled : ℕ) (made : Fetched) (left : List ℕ) (v w : View H) (r : Fetched)
    → r ≡ made → FetchesPart most run start filled made left v w → FetchesPart most run start filled r left v w
answered most run start filled made left v w r e = subst (λ (x : Fetched). FetchesPart most run start filled x left v w) (sym e)
