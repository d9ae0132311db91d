-- Blanks, byte by byte.
use Rattle.std.proofs.Common.{◌≡◌, ℕ, zero, suc, ◌+◌, ◌-◌, ◌<◌, ◌≤◌, Bool, true, false, ◌||◌, eqb, List, [], ◌∷◌, ◌++◌, length, get_or, sym, refl, ap, ◌∙◌, subst, ap₂, arith}
use Rattle.std.proofs.Math.Bool.{or-true, or-false}
use Rattle.std.proofs.lemmas.Bool.{cond-true, cond-false, eq-eqb, ne_eqb}
use Rattle.std.proofs.lemmas.Bool.Decides.{nat_tests}
use Rattle.input.specs.Tests.{flag}
use Rattle.runs.specs.Runs.{goes, separates, blanks_of, has, at_hash}
use Rattle.runs.specs.Scans.{flags_of}
use Rattle.runs.specs.declared.SkipTabs.{SkipTabs}
use Rattle.runs.specs.declared.SkipTabs.TheVariants.{Yes, No}
use Rattle.runs.specs.declared.Colon.TheVariants.{Free}
use Rattle.text_bytes.specs.declared.cursor.Cursor.{Cursor}
use Rattle.text_bytes.specs.Bytes.{IsPlace, ahead_at}
use Rattle.text_bytes.specs.Cursors.{ahead_from}
use Rattle.text_bytes.specs.Ends.{Ends}
use Rattle.text_bytes.specs.Spans.{Spaces}
use Rattle.text_bytes.proofs.Places.{StepsAt, moved, ahead_too, none_ahead, step_ascii, first_char}
use Rattle.text_bytes.proofs.Running.{Running, running_none, running_more, running_stops, running_out, run_ends}

low : (tabs : SkipTabs) (b : ℕ) → separates tabs b ≡ true → b < 128
low Yes b e = grind (arith, nat_tests)
low No b e = grind (arith, nat_tests)

space : (tabs : SkipTabs) (b : ℕ) → separates tabs b ≡ true → (b ≡ 9 → ⊥) → b ≡ 32
space Yes b e n = grind (arith, nat_tests)
space No b e n = grind (arith, nat_tests)

a_space : (tabs : SkipTabs) → separates tabs 0x20 ≡ true
a_space Yes = refl
a_space No = refl

-- a byte that separates is the character there
same : (tabs : SkipTabs) (b c : ℕ) → (c < 128 → b ≡ c) → (b < 128 → c ≡ b)
    → separates tabs b ≡ separates tabs c
same Yes b c f g = grind (arith, nat_tests)
same No b c f g = grind (arith, nat_tests)

module _ (tabs : SkipTabs) (x : Cursor) where
  abbrev go : ℕ → ℕ → Bool
  go = goes (separates tabs) Free

  abbrev ahead : ℕ → List ℕ
  ahead place = ahead_at x.text.now place

  abbrev blanks_at : ℕ → List ℕ
  blanks_at place = blanks_of tabs (ahead place)

  -- the blanks behind the place are counted, and which kinds were among them
  pub record Blanking (place : ℕ) (found spaces : Bool) : Type 0 where
    pub order : x.place ≤ place
    pub placed : IsPlace x.text.now place
    pub running : Running go (ahead x.place) (ahead place) (place - x.place)
    pub tab : has 0x09 (blanks_at x.place) ≡ (found || has 0x09 (blanks_at place))
    pub space : has 0x20 (blanks_at x.place) ≡ (spaces || has 0x20 (blanks_at place))

  pub blanking_none : Blanking x.place false false
  blanking_none =
      record {
        order = omega arith;
        placed = x.placed;
        running = subst (Running go (ahead x.place) (ahead x.place)) (omega arith) (running_none go (ahead x.place));
        tab = refl;
        space = refl;
      }

  pub blanking_as : (place : ℕ) (f g s t : Bool) → f ≡ g → s ≡ t → Blanking place g t
      → Blanking place f s
  blanking_as place f g s t e h b =
      subst (λ (a : Bool). Blanking place a s) (sym e)
      (subst (λ (a : Bool). Blanking place g a) (sym h) b)

  module _ (place : ℕ) (found spaces : Bool) (s : Blanking place found spaces)
      (inside : place < length x.text.now) where
    -- the byte there
    abbrev here : ℕ
    here = get_or x.text.now place 0

    step : separates tabs here ≡ true → StepsAt x.text.now place here (place + 1)
    step e = step_ascii x.text.now place here s.placed inside refl (low tabs here e)

    next : separates tabs here ≡ true → IsPlace x.text.now (place + 1)
    next e = moved x.text.now place (place + 1) s.placed (step e).boundary

    run : (e : separates tabs here ≡ true)
        → Running go (ahead x.place) (ahead (place + 1)) (place + 1 - x.place)
    run e =
        let o = s.order in
        subst (Running go (ahead x.place) (ahead (place + 1))) (omega arith)
        (running_more go (ahead x.place) (ahead place) (place - x.place) s.running here (ahead (place + 1))
        (separates tabs here) (step e).first refl e)

    more : (e : separates tabs here ≡ true) → blanks_at place ≡ here ∷ blanks_at (place + 1)
    more e = ap (blanks_of tabs) (step e).first ∙ cond-true (separates tabs here) _ _ e

    -- one more of a kind, and none more of the other
    one : (c : ℕ) (b : Bool) (rest : List ℕ) → here ≡ c
        → (b || has c (here ∷ rest)) ≡ (true || has c rest)
    one c b rest e = ap (λ t. b || (t || has c rest)) (eq-eqb here c e) ∙ or-true b

    other : (c : ℕ) (b : Bool) (rest : List ℕ) → (here ≡ c → ⊥)
        → (b || has c (here ∷ rest)) ≡ (b || has c rest)
    other c b rest e = ap (λ t. b || (t || has c rest)) (ne_eqb here c e)

    pub blanking_tab : separates tabs here ≡ true → here ≡ 9 → Blanking (place + 1) true spaces
    blanking_tab e is =
        let rest = blanks_at (place + 1) in
        record {
          order = omega (arith, s.order);
          placed = next e;
          running = run e;
          tab = s.tab ∙ ap (λ xs. found || has 0x09 xs) (more e) ∙ one 9 found rest is;
          space = s.space ∙ ap (λ xs. spaces || has 0x20 xs) (more e) ∙ other 32 spaces rest (omega arith);
        }

    pub blanking_space : separates tabs here ≡ true
        → (here ≡ 9 → ⊥) → Blanking (place + 1) found true
    blanking_space e is =
        let rest = blanks_at (place + 1) in
        record {
          order = omega (arith, s.order);
          placed = next e;
          running = run e;
          tab = s.tab ∙ ap (λ xs. found || has 0x09 xs) (more e) ∙ other 9 found rest is;
          space = s.space ∙ ap (λ xs. spaces || has 0x20 xs) (more e) ∙ one 32 spaces rest (space tabs here e is);
        }

  -- spaces after a space: nothing more is found
  blanking_spaces : (n place to : ℕ) (found : Bool) → to ≡ place + n → Blanking place found true
      → to ≤ length x.text.now
      → ((k : ℕ) → place ≤ k → k < to → get_or x.text.now k 0 ≡ 0x20) → Blanking to found true
  blanking_spaces zero place to found e s h each =
      subst (λ (k : ℕ). Blanking k found true) (omega arith) s
  blanking_spaces (suc n) place to found e s h each =
      let is = each place (omega arith) (omega arith) in
      let one : separates tabs (get_or x.text.now place 0) ≡ true = ap (separates tabs) is ∙ a_space tabs in
      let next = blanking_space place found true s (omega arith) one (λ t. omega arith) in
      blanking_spaces n (place + 1) to found (omega arith) next h (λ k l m. each k (omega arith) m)

  pub blanking_far : (place to : ℕ) (found : Bool) → Blanking (place + 1) found true
      → Spaces x.text.now (place + 1) to → Blanking to found true
  blanking_far place to found s far =
      let o = far.order in
      blanking_spaces (to - (place + 1)) (place + 1) to found (omega arith) s far.inside far.each

  -- what is known where the blanks end
  pub record Blanked (y : Cursor) (found spaces : Bool) : Type 0 where
    pub ends : Ends x (blanks_at x.place) y (y.place - x.place)
    pub seen : flag found ++ flag spaces ≡ flags_of (blanks_at x.place)

  module _ (y : Cursor) (same_text : y.text.now ≡ x.text.now) (found spaces : Bool)
      (s : Blanking y.place found spaces) where
    blanked : length (blanks_at x.place) ≡ y.place - x.place → blanks_at y.place ≡ []
        → Blanked y found spaces
    blanked is e =
        let n = y.place - x.place in
        let run = subst (λ (l : List ℕ). Running go (ahead x.place) l n) (ahead_too x y same_text) s.running in
        record {
          ends = run_ends go x y n same_text run is;
          seen =
              sym
              (ap₂ (λ a b. flag a ++ flag b) (s.tab ∙ ap (λ xs. found || has 0x09 xs) e ∙ or-false found)
              (s.space ∙ ap (λ xs. spaces || has 0x20 xs) e ∙ or-false spaces));
        }

    pub blanked_out : length x.text.now ≤ y.place → Blanked y found spaces
    blanked_out h =
        let e = none_ahead x.text.now y.place h in
        blanked (running_out go (ahead x.place) (ahead y.place) (y.place - x.place) s.running e) (ap (blanks_of tabs) e)

    pub blanked_stops : y.place < length x.text.now
        → separates tabs (get_or x.text.now y.place 0) ≡ false → Blanked y found spaces
    blanked_stops h e =
        let f = first_char x.text.now y.place s.placed h in
        let is = same tabs (get_or x.text.now y.place 0) f.c f.byte f.character in
        blanked
        (running_stops go (ahead x.place) (ahead y.place) (y.place - x.place) s.running f.c (ahead f.next)
        (separates tabs (get_or x.text.now y.place 0)) f.steps.first is e)
        (ap (blanks_of tabs) f.steps.first ∙ cond-false (separates tabs f.c) _ _ (sym is ∙ e))

-- a comment, by its first byte
pub hash_there : (x : Cursor) → x.place < length x.text.now
    → eqb (get_or x.text.now x.place 0) 0x23 ≡ at_hash (ahead_from x)
hash_there x h =
    let f = first_char x.text.now x.place x.placed h in
    same_hash (get_or x.text.now x.place 0) f.c f.byte f.character ∙ sym (ap at_hash f.steps.first)
  where
    same_hash : (b c : ℕ) → (c < 128 → b ≡ c) → (b < 128 → c ≡ b) → eqb b 0x23 ≡ eqb c 0x23
    same_hash b c f g = grind (arith, nat_tests)

pub no_hash : (x : Cursor) → length x.text.now ≤ x.place → false ≡ at_hash (ahead_from x)
no_hash x h = sym (ap at_hash (none_ahead x.text.now x.place h))
