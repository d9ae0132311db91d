-- The trace of a reading, from what its calls did.
use Rattle.std.proofs.Common.{◌≡◌, ℕ, ◌<◌, ◌≤◌, min, max, Bool, true, false, cond, not, ◌&&◌, ◌||◌, ltb, List, [], ◌∷◌, ◌++◌, length, take, map, is_some, Some, None, Option, sym, refl, ap, ◌∙◌, subst, append_assoc, append-nil, length-append, take-append-drop, arith, ltb-true}
use Rattle.std.specs.List.{concat, fold}
use Rattle.std.proofs.Math.Bool.{or_assoc, or_comm, or-false, and-true}
use Rattle.std.proofs.lemmas.List.{map-append}
use Rattle.std.proofs.lemmas.List.Folds.{concat-append, list_any-append}
use Rattle.std.proofs.lemmas.List.Sums.{fold-append}
use Rattle.error.specs.Numbers.{Ending, fault_of}
use Rattle.error.specs.declared.Fault.{Fault}
use Rattle.input.specs.View.{View, IsSound, IsNew}
use Rattle.input.specs.Calls.{closing_of}
use Rattle.input.proofs.Keeping.{never, prompt_of}
use Rattle.calls.specs.declared.call.Call.{Call}
use Rattle.calls.specs.declared.call.Answer.{Answer}
use Rattle.calls.specs.Entries.{Entry, Performs, answer_number}
use Rattle.calls.specs.Kinds.{kind_of, finds_end, Took}
use Rattle.reading.specs.Reading.{Event, Trace, AllAlong, Each, all_taken, ClosesAfter, left, done, KeepsAll, untold_fault, looked_for, due, due_at, fault_was_asked, TellsEnding, Account}
use Rattle.reading.proofs.Runs.{Ran}
use Rattle.reading.proofs.Facts.{Facts, Tells_of, facts}

-- one more event at the end
module _ {C H : Type 0} where
  -- the largest count asked for, or n if that is larger
  abbrev largest : ℕ → List (Event C H) → ℕ
  largest = fold (λ n m. max n (looked_for m))

  due_more : (n : ℕ) (ms : List (Event C H)) (m : Event C H) → due n (ms ++ (m ∷ [])) ≡ due n ms || due_at (max (largest n ms) (looked_for m)) m
  due_more n [] m = or-false _
  due_more n (x ∷ ms) m =
      let k : ℕ = max n (looked_for x) in
      ap (λ b. due_at k x || b) (due_more k ms m) ∙ sym (or_assoc (due_at k x) (due k ms) (due_at (max (largest k ms) (looked_for m)) m))

  asked_more : (ms : List (Event C H)) (m : Event C H) → fault_was_asked (ms ++ (m ∷ [])) ≡ fault_was_asked ms || ((kind_of m.entry.call).takes_fault && m.before.met)
  asked_more ms m = list_any-append _ ms (m ∷ []) ∙ ap (λ b. fault_was_asked ms || b) (or-false _)

  joined_more : (ms : List (Event C H)) (m : Event C H) → all_taken (ms ++ (m ∷ [])) ≡ all_taken ms ++ m.taken
  joined_more ms m =
      let taken : Event C H → List ℕ = λ x. x.taken in
      ap concat (map-append taken ms (m ∷ [])) ∙ concat-append (map taken ms) (m.taken ∷ []) ∙ ap (λ xs. all_taken ms ++ xs) (append-nil m.taken)

-- what is known of an input, v at the start, after the events `earlier`
record Since {C H : Type 0} (v : View H) (earlier : List (Event C H)) (u : View H) : Type 0 where
  so_far : all_taken earlier ++ u.ahead ≡ v.ahead
  manner : u.manner ≡ v.manner
  ending : u.ending ≡ v.ending

-- and of one that was new
record Known {C H : Type 0} (v : View H) (earlier : List (Event C H)) (u : View H) : Type 0 where
  manner : u.manner ≡ v.manner
  told : u.told ≡ fault_was_asked earlier && is_some (fault_of u.ending)
  wide : min 16 (largest 0 earlier) ≤ u.window
  met : due 0 earlier ≡ true → u.met ≡ true
  narrow : v.manner.prompt ≡ true → u.window ≡ min 16 (largest 0 earlier)
  exactly : v.manner.prompt ≡ true → u.met ≡ due 0 earlier

known_new : {C H : Type 0} (v : View H) → IsNew v → Known {C = C} v [] v
known_new v n = record { manner = refl; told = n.untold; wide = omega arith; met = λ e. absurd (never e); narrow = n.closed; exactly = n.unmet }

told_step : (a k m s : Bool) → (a && s) || (k && (m && s)) ≡ (a || (k && m)) && s
told_step true k m true = refl
told_step true true true false = refl
told_step true true false false = refl
told_step true false m false = refl
told_step false true true s = refl
told_step false true false s = refl
told_step false false m s = refl

or_cases : (a b c : Bool) (X : Type 0) → (a ≡ true → X) → (b ≡ true → X) → (c ≡ true → X) → a || (b || c) ≡ true → X
or_cases true b c X f g h e = f refl
or_cases false true c X f g h e = g refl
or_cases false false c X f g h e = h e

-- what the first asking is told once the ending is met
first_told : (t m a : Bool) (o : Option Fault) → t ≡ a && is_some o → cond (m && not t) o None ≡ cond (m && not a) o None
first_told t false a o e = refl
first_told t true a (Some f) e = ap (λ b. cond (not b) (Some f) None) (e ∙ and-true a)
first_told t true a None e = same (not t) None ∙ sym (same (not a) None)
  where
    same : (b : Bool) (x : Option Fault) → cond b x x ≡ x
    same true x = refl
    same false x = refl

-- a closing, by what was taken before it
closes_of : (e : Ending) (all taken ahead : List ℕ) (answer : ℕ × List ℕ) → taken ++ ahead ≡ all
    → answer ≡ answer_number (Answer.Closed (closing_of ahead e)) → ClosesAfter taken all e answer
closes_of e all taken [] answer k a = done (sym (append-nil taken) ∙ k) a
closes_of e all taken (c ∷ ahead) answer k a = left (omega (arith, ap length k, length-append taken (c ∷ ahead))) a

module _ {C H : Type 0} where
  abbrev event : (e : Entry C) (v u : View H) → Facts e.call e v u → Event C H
  event e v u f = record { entry = e; before = v; taken = take f.count v.ahead; after = u }

module _ {C H : Type 0} (start : View H) (earlier : List (Event C H)) (e : Entry C) (v u : View H) (f : Facts e.call e v u) where
  abbrev m : Event C H
  m = event e v u f

  moves : v.ahead ≡ m.taken ++ u.ahead
  moves = sym (take-append-drop f.count v.ahead) ∙ ap (λ xs. take f.count v.ahead ++ xs) (sym f.drops)

  since_step : Since start earlier v → Since start (earlier ++ (m ∷ [])) u
  since_step k =
      record {
        so_far =
            ap (λ xs. xs ++ u.ahead) (joined_more earlier m)
            ∙ append_assoc (all_taken earlier) m.taken u.ahead
            ∙ ap (λ xs. all_taken earlier ++ xs) (sym moves)
            ∙ k.so_far;
        manner = f.keeps.manner ∙ k.manner;
        ending = f.keeps.ending ∙ k.ending;
      }

  known_step : IsSound u → Known start earlier v → Known start (earlier ++ (m ∷ [])) u
  known_step s k =
      let n : ℕ = largest 0 earlier in
      let a : ℕ = looked_for m in
      let lm : largest 0 (earlier ++ (m ∷ [])) ≡ max n a = fold-append _ 0 earlier (m ∷ []) in
      let dm : due 0 (earlier ++ (m ∷ [])) ≡ due 0 earlier || due_at (max n a) m = due_more 0 earlier m in
      let w : min 16 (max n a) ≤ u.window = omega (arith, k.wide, f.wide, f.keeps.window) in
      let finds : Bool = finds_end e.call e v.ahead u.ahead in
      let some : Bool = is_some (fault_of v.ending) in
      let p : start.manner.prompt ≡ true → v.manner.prompt ≡ true = prompt_of start.manner v.manner k.manner in
      let i : start.manner.prompt ≡ true → u.window ≡ min 16 (max n a) = λ h. omega (arith, f.keeps.narrow (p h), k.narrow h) in
      record {
        manner = f.keeps.manner ∙ k.manner;
        told =
            f.told
            ∙ ap (λ b. b || ((kind_of e.call).takes_fault && (v.met && some))) k.told
            ∙ told_step (fault_was_asked earlier) (kind_of e.call).takes_fault v.met some
            ∙ (λ j. sym (asked_more earlier m) j && is_some (fault_of (sym f.keeps.ending j)));
        wide = rw lm w;
        met = λ h.
            or_cases (due 0 earlier) (ltb (length u.ahead) (min 16 (max n a))) finds (u.met ≡ true) (λ d. f.keeps.stays (k.met d))
            (λ d. let lt = ltb-true _ _ d in s.waits (omega arith)) (λ d. f.keeps.meets d) (sym dm ∙ h);
        narrow = λ h. i h ∙ ap (λ x. min 16 x) (sym lm);
        exactly = λ h.
            f.keeps.late (p h)
            ∙ ap (λ b. b || (finds || ltb (length u.ahead) u.window)) (k.exactly h)
            ∙ ap (λ x. due 0 earlier || (finds || ltb (length u.ahead) x)) (i h)
            ∙ ap (λ b. due 0 earlier || b) (or_comm finds (ltb (length u.ahead) (min 16 (max n a))))
            ∙ sym dm;
      }

  -- what an asking and a closing answer
  asked_at : Known start earlier v → e.call ≡ Call.TakeSourceError → answer_number e.answer ≡ answer_number (Answer.Asked (untold_fault v (fault_was_asked earlier)))
  asked_at k c =
      subst (λ (x : Call C). Tells_of x e.answer v) c f.tells
      ∙ ap (λ (o : Option Fault). answer_number (Answer.Asked o)) (first_told v.told v.met (fault_was_asked earlier) (fault_of v.ending) k.told)

  closed_at : e.call ≡ Call.Close → answer_number e.answer ≡ answer_number (Answer.Closed (closing_of v.ahead v.ending))
  closed_at c = subst (λ (x : Call C). Tells_of x e.answer v) c f.tells

module _ {C H : Type 0} (member : C → ℕ → Bool) (start : View H) where
  facts_of : (e : Entry C) (v u : View H) → IsSound v → Performs member e v u → Facts e.call e v u
  facts_of e v u s (shown, faithful, means) = facts member shown v u s e e.call means

  events : (es : List (Entry C)) (v w : View H) → IsSound v → Ran member es v w → List (Event C H)
  events [] v w s r = []
  events (e ∷ es) v w s (u, perf, sound, rest) = event e v u (facts_of e v u s perf) ∷ events es u w sound rest

  trace : (es : List (Entry C)) (v w : View H) (s : IsSound v) (r : Ran member es v w) → Trace member es v w (events es v w s r)
  unfolding events
  trace [] v w s r = r
  trace (e ∷ es) v w s (u, perf, sound, rest) = (refl, refl, perf, sound, trace es u w sound rest)

  -- what holds by what is known of the events before, by an event's facts and by what is known then holds all along the trace
  knowing : (K : List (Event C H) → View H → Type 0) (P : List (Event C H) → Event C H → Type 0)
      → ((earlier : List (Event C H)) (e : Entry C) (v u : View H) (f : Facts e.call e v u) → IsSound u → K earlier v → K (earlier ++ (event e v u f ∷ [])) u)
      → ((earlier : List (Event C H)) (e : Entry C) (v u : View H) (f : Facts e.call e v u) → IsSound u → K earlier v → K (earlier ++ (event e v u f ∷ [])) u → P earlier (event e v u f))
      → (earlier : List (Event C H)) (es : List (Entry C)) (v w : View H) (s : IsSound v) (r : Ran member es v w) → K earlier v → AllAlong P earlier (events es v w s r)
  unfolding events
  knowing K P step from earlier [] v w s r k = tt
  knowing K P step from earlier (e ∷ es) v w s (u, perf, sound, rest) k =
      let f = facts_of e v u s perf in
      let next = step earlier e v u f sound k in
      (from earlier e v u f sound k next, knowing K P step from (earlier ++ (event e v u f ∷ [])) es u w sound rest next)

  whole : (es : List (Entry C)) (v w : View H) (s : IsSound v) (r : Ran member es v w) → all_taken (events es v w s r) ++ w.ahead ≡ v.ahead
  unfolding events
  whole [] v w s r = ap (λ (x : View H). x.ahead) r
  whole (e ∷ es) v w s (u, perf, sound, rest) =
      let f = facts_of e v u s perf in
      let taken = take f.count v.ahead in
      append_assoc taken (all_taken (events es u w sound rest)) w.ahead ∙ ap (λ xs. taken ++ xs) (whole es u w sound rest) ∙ sym (moves start [] e v u f)

  module _ (es : List (Entry C)) (w : View H) (s : IsSound start) (r : Ran member es start w) where
    -- by its facts alone
    each : (P : Event C H → Type 0) → ((e : Entry C) (v u : View H) (f : Facts e.call e v u) → IsSound u → P (event e v u f)) → Each P (events es start w s r)
    each P from = knowing (λ _ _. Unit {0}) (λ _ m. P m) (λ _ _ _ _ _ _ _. tt) (λ _ e v u f sound _ _. from e v u f sound) [] es start w s r tt

    kept : KeepsAll start w (events es start w s r)
    kept =
        let along = λ (P : List (Event C H) → Event C H → Type 0)
        (from : (earlier : List (Event C H)) (e : Entry C) (v u : View H) (f : Facts e.call e v u) → Since start earlier v → P earlier (event e v u f)).
        knowing (Since start) P (λ earlier e v u f _. since_step start earlier e v u f) (λ earlier e v u f _ k _. from earlier e v u f k) [] es start w s r
        (record { so_far = refl; manner = refl; ending = refl })
        in
        record {
          whole = whole es start w s r;
          moves = each (λ m. m.before.ahead ≡ m.taken ++ m.after.ahead) (λ e v u f _. moves start [] e v u f);
          took = each (λ m. Took m.entry.call m.entry.answer m.entry m.before.ahead m.taken) (λ e v u f _. f.took);
          ending = along (λ _ m. m.before.ending ≡ start.ending) (λ _ e v u f k. k.ending);
          closes =
              along (λ earlier m. m.entry.call ≡ Call.Close → ClosesAfter (all_taken earlier) start.ahead m.before.ending (answer_number m.entry.answer))
              (λ earlier e v u f k c. closes_of v.ending start.ahead (all_taken earlier) v.ahead (answer_number e.answer) k.so_far (closed_at start earlier e v u f c));
          still = each (λ m. m.before.met ≡ true → m.after.held ≡ m.before.held) (λ e v u f _. f.keeps.still);
        }

    told : IsNew start → TellsEnding start (events es start w s r)
    told n =
        let along = λ (P : List (Event C H) → Event C H → Type 0)
        (from : (earlier : List (Event C H)) (e : Entry C) (v u : View H) (f : Facts e.call e v u) → Known start earlier v → Known start (earlier ++ (event e v u f ∷ [])) u → P earlier (event e v u f)).
        knowing (Known start) P (known_step start) (λ earlier e v u f _. from earlier e v u f) [] es start w s r (known_new start n)
        in
        record {
          fault =
              along (λ earlier m. m.entry.call ≡ Call.TakeSourceError → answer_number m.entry.answer ≡ answer_number (Answer.Asked (untold_fault m.before (fault_was_asked earlier))))
              (λ earlier e v u f k _ c. asked_at start earlier e v u f k c);
          stays = each (λ m. m.before.met ≡ true → m.after.met ≡ true) (λ e v u f _. f.keeps.stays);
          waits = each (λ m. length m.after.ahead < m.after.window → m.after.met ≡ true) (λ e v u f sound. sound.waits);
          met = along (λ earlier m. due 0 (earlier ++ (m ∷ [])) ≡ true → m.after.met ≡ true) (λ _ e v u f _ k. k.met);
          exactly = λ h. along (λ earlier m. m.after.met ≡ due 0 (earlier ++ (m ∷ []))) (λ _ e v u f _ k. k.exactly h);
          closes =
              each (λ m. m.entry.call ≡ Call.Close → answer_number m.entry.answer ≡ answer_number (Answer.Closed (closing_of m.before.ahead m.before.ending)))
              (λ e v u f _. closed_at start [] e v u f);
        }

    pub account : Account member es start w
    account = record { events = events es start w s r; trace = trace es start w s r; kept = kept; told = told }
