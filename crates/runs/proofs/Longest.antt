-- Runs, and what fits, are the longest fronts of their kind.
use Rattle.std.proofs.Common.{◌≡◌, ℕ, zero, suc, ◌+◌, ◌-◌, ◌≤◌, Bool, true, false, cond, not, ◌&&◌, ◌||◌, eqb, leb, List, [], ◌∷◌, length, get_or, take, sym, refl, ap, ◌∙◌, arith, length-append, eq-eqb, eqb-true, le-leb, leb-true}
use lib.Utf8.{encode, encodes}
use Rattle.std.proofs.lemmas.Bool.{and_parts}
use Rattle.char_traits.specs.Chars.{plain_safe}
use Rattle.input.proofs.Keeping.{never}
use Rattle.runs.specs.declared.Colon.TheVariants.{Free, Leads}
use Rattle.runs.specs.Laws.{LongestFront, GoesOn, OfClass, Plain, Fits}
use Rattle.runs.specs.Rooms.{front_that_fits}
use Rattle.runs.specs.Runs.{goes, run_by, run_of, plain_run}

-- none where it holds of no first one
none : (Holds : ℕ → Type 0) (ahead : List ℕ) → Holds 0 → ((n : ℕ) → Holds (suc n) → ⊥) → LongestFront Holds ahead []
none Holds ahead zeroth not_first = record { front = (ahead, refl); holds = zeroth; longest = λ n _ all. longest n all }
  where
    longest : (n : ℕ) → Holds n → n ≤ 0
    longest zero all = omega arith
    longest (suc n) all = absurd (not_first n all)

-- one more where it holds of the first one and of those after it
longer : (Rest Holds : ℕ → Type 0) (c : ℕ) (ahead run : List ℕ) → ((n : ℕ) → Rest n → Holds (suc n)) → ((n : ℕ) → Holds (suc n) → Rest n) → LongestFront Rest ahead run
    → LongestFront Holds (c ∷ ahead) (c ∷ run)
longer Rest Holds c ahead run more less rest =
    record { front = (rest.front.0, ap (λ xs. c ∷ xs) rest.front.1); holds = more (length run) rest.holds; longest = longest }
  where
    longest : (n : ℕ) → n ≤ length (c ∷ ahead) → Holds n → n ≤ length (c ∷ run)
    longest zero h all = omega arith
    longest (suc n) h all = let l = rest.longest n (omega arith) (less n all) in omega arith

after : (c i : ℕ) (a : List ℕ) → get_or (c ∷ a) (suc i + 1) 0 ≡ get_or a (i + 1) 0
after c i a = let e : suc i + 1 ≡ suc (i + 1) = omega arith in ap (λ k. get_or (c ∷ a) k 0) e

pub run_longest : (go : ℕ → ℕ → Bool) (ahead : List ℕ) → LongestFront (GoesOn go ahead) ahead (run_by go ahead)
run_longest go [] = record { front = ([], refl); holds = λ i h. absurd (omega arith); longest = λ n h _. h }
run_longest go (c ∷ a) = step (go c (get_or a 0 0)) refl (run_longest go a)
  where
    more : go c (get_or a 0 0) ≡ true → (n : ℕ) → GoesOn go a n → GoesOn go (c ∷ a) (suc n)
    more e n all zero h = e
    more e n all (suc i) h = ap (go (get_or a i 0)) (after c i a) ∙ all i (omega arith)

    less : (n : ℕ) → GoesOn go (c ∷ a) (suc n) → GoesOn go a n
    less n all i h = ap (go (get_or a i 0)) (sym (after c i a)) ∙ all (suc i) (omega arith)

    step : (b : Bool) → go c (get_or a 0 0) ≡ b → LongestFront (GoesOn go a) a (run_by go a) → LongestFront (GoesOn go (c ∷ a)) (c ∷ a) (cond b (c ∷ run_by go a) [])
    step true e rest = longer (GoesOn go a) (GoesOn go (c ∷ a)) c a (run_by go a) (more e) less rest
    step false e rest = none (GoesOn go (c ∷ a)) (c ∷ a) (λ i h. absurd (omega arith)) (λ n all. never (sym e ∙ all 0 (omega arith)))

pub class_longest : (class : ℕ → Bool) (ahead : List ℕ) → LongestFront (OfClass class ahead) ahead (run_of class ahead)
class_longest class ahead = let l = run_longest (goes class Free) ahead in record { front = l.front; holds = l.holds; longest = l.longest }

leads : (is colon after : Bool) → is ≡ true → (colon ≡ true → after ≡ true) → is && (not colon || after) ≡ true
leads true true after e h = h refl
leads true false after e h = refl
leads false colon after e h = e

led : (is colon after : Bool) → is && (not colon || after) ≡ true → colon ≡ true → after ≡ true
led true true after e h = e
led true false after e h = absurd (never h)
led false colon after e h = absurd (never e)

pub plain_longest : (in_flow : Bool) (ahead : List ℕ) → LongestFront (Plain in_flow ahead) ahead (plain_run in_flow ahead)
plain_longest in_flow ahead =
    let l = run_longest (goes (plain_safe in_flow) Leads) ahead in
    record { front = l.front; holds = to (length (plain_run in_flow ahead)) l.holds; longest = λ n h p. l.longest n h (from n p) }
  where
    to : (n : ℕ) → GoesOn (goes (plain_safe in_flow) Leads) ahead n → Plain in_flow ahead n
    to n all =
        record {
          safe = λ i h. (and_parts (plain_safe in_flow (get_or ahead i 0)) _ (all i h)).0;
          colons = λ i h e. led (plain_safe in_flow (get_or ahead i 0)) (eqb (get_or ahead i 0) 0x3A) _ (all i h) (eq-eqb _ _ e);
        }

    from : (n : ℕ) → Plain in_flow ahead n → GoesOn (goes (plain_safe in_flow) Leads) ahead n
    from n p i h = leads (plain_safe in_flow (get_or ahead i 0)) (eqb (get_or ahead i 0) 0x3A) _ (p.safe i h) (λ e. p.colons i h (eqb-true _ _ e))

-- the bytes of one character, and of those after it
one_more : (c n : ℕ) (cs : List ℕ) → length (encodes (take (suc n) (c ∷ cs))) ≡ length (encode c) + length (encodes (take n cs))
one_more c n cs = length-append (encode c) (encodes (take n cs))

pub fitting_longest : (free : ℕ) (cs : List ℕ) → LongestFront (Fits free cs) cs (front_that_fits free cs)
fitting_longest free [] = record { front = ([], refl); holds = omega arith; longest = λ n h _. h }
fitting_longest free (c ∷ cs) = step (leb (length (encode c)) free) refl (fitting_longest (free - length (encode c)) cs)
  where
    step : (b : Bool) → leb (length (encode c)) free ≡ b → LongestFront (Fits (free - length (encode c)) cs) cs (front_that_fits (free - length (encode c)) cs)
        → LongestFront (Fits free (c ∷ cs)) (c ∷ cs) (cond b (c ∷ front_that_fits (free - length (encode c)) cs) [])
    step true e rest =
        let wide : length (encode c) ≤ free = leb-true _ _ e in
        longer (Fits (free - length (encode c)) cs) (Fits free (c ∷ cs)) c cs (front_that_fits (free - length (encode c)) cs)
        (λ n h. omega (arith, one_more c n cs)) (λ n h. omega (arith, one_more c n cs)) rest
    step false e rest =
        none (Fits free (c ∷ cs)) (c ∷ cs) (omega arith)
        (λ n h. never (sym e ∙ le-leb _ _ (omega (arith, one_more c n cs))))
