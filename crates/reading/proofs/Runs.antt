-- A list as far as it has been run.
use Rattle.std.proofs.Common.{◌≡◌, ℕ, zero, suc, ◌+◌, ◌<◌, ◌≤◌, Bool, List, [], ◌∷◌, length, get_or, take, drop, set, sym, refl, ap, ◌∙◌, subst, le_of_suc-le-suc, not-suc-le-zero, add-one, arith, take_all, drop_of_length-le}
use Rattle.std.proofs.Math.Seq.{map-set_same}
use Rattle.input.specs.View.{View, IsSound}
use Rattle.calls.specs.declared.call.Step.{Step}
use Rattle.calls.specs.Entries.{Entry, entry_of, opens, Performs}
use Rattle.reading.specs.Reading.{log_of, call_and_filled, SameCalls, Trace, Event, open_after}

module _ {C : Type 0} where
  -- whether a reading is open after the calls from a place on, and from the place after it
  open_step : (i : ℕ) (ts : List (Step C)) (t d : Step C) (held : Bool) → i < length ts
      → open_after (drop (suc i) (set ts i t)) (opens (get_or ts i d).call held) ≡ open_after (drop i ts) held
  open_step i [] t d held h = absurd (not-suc-le-zero h)
  open_step zero (x ∷ ts) t d held h = refl
  open_step (suc i) (x ∷ ts) t d held h = open_step i ts t d held (le_of_suc-le-suc h)

  pub open_more : (i : ℕ) (ts : List (Step C)) (t d : Step C) (held now last : Bool) → i < length ts → now ≡ opens (get_or ts i d).call held
      → open_after (drop i ts) held ≡ last → open_after (drop (i + 1) (set ts i t)) now ≡ last
  open_more i ts t d held now last h e r = rw add-one (ap (λ b. open_after (drop (suc i) (set ts i t)) b) e ∙ open_step i ts t d held h ∙ r)

  pub open_all : (i : ℕ) (ts : List (Step C)) (held last : Bool) → length ts ≤ i → open_after (drop i ts) held ≡ last → held ≡ last
  open_all i ts held last h e = sym (ap (λ xs. open_after xs held) (drop_of_length-le ts h)) ∙ e

  -- a step that keeps its call and its filled count
  pub calls_more : (ss ts : List (Step C)) (i : ℕ) (t d : Step C) → SameCalls ss ts → t.call ≡ (get_or ts i d).call → t.filled ≡ (get_or ts i d).filled
      → SameCalls ss (set ts i t)
  calls_more ss ts i t d same call filled = map-set_same call_and_filled ts i t d (λ j. (call j, filled j)) ∙ same

module _ {C H : Type 0} (member : C → ℕ → Bool) where
  -- the calls were made one after another, from the meaning v of the input to w
  abbrev pub Ran : List (Entry C) → View H → View H → Type 0
  Ran [] v w = w ≡ v
  Ran (e ∷ es) v w = (u : View H) × Performs member e v u × IsSound u × Ran es u w

  pub ran : (es : List (Entry C)) (v w : View H) (ms : List (Event C H)) → Trace member es v w ms → Ran es v w
  ran [] v w [] t = t
  ran (e ∷ es) v w (m ∷ ms) (_, _, perf, sound, rest) = (m.after, perf, sound, ran es m.after w ms rest)
  ran [] v w (m ∷ ms) t = absurd t
  ran (e ∷ es) v w [] t = absurd t

  abbrev pub Upto : ℕ → List (Step C) → List (Step C) → View H → View H → Type 0
  Upto i ss ts v w = Ran (log_of (take i ss) (take i ts)) v w × (drop i ts ≡ drop i ss)

  pub none : (ss : List (Step C)) (v : View H) → Upto 0 ss ss v v
  none ss v = (refl, refl)

  next : (i : ℕ) (ss ts : List (Step C)) (t d : Step C) (v u w : View H) → length ts ≡ length ss → i < length ss → Upto i ss ts v u
      → Performs member (entry_of (get_or ts i d) t) u w → IsSound w → Upto (suc i) ss (set ts i t) v w
  next i [] ts t d v u w e h inv perf sound = absurd (not-suc-le-zero h)
  next i (s ∷ ss) [] t d v u w e h inv perf sound = absurd (omega arith)
  next zero (s ∷ ss) (x ∷ ts) t d v u w e h inv perf sound =
      let head : x ≡ s = cc in
      let tail : ts ≡ ss = cc in
      let Q : Step C → View H → Type 0 = λ y z. Performs member (entry_of y t) z w in
      ((w, subst (Q s) inv.0 (subst (λ (y : Step C). Q y u) head perf), sound, refl), tail)
  next (suc i) (s ∷ ss) (x ∷ ts) t d v u w e h (ran, rest) perf sound =
      let more = next i ss ts t d ran.0 u w (omega arith) (le_of_suc-le-suc h) (ran.3, rest) perf sound in
      ((ran.0, ran.1, ran.2, more.0), more.1)

  pub more : (i : ℕ) (ss ts : List (Step C)) (t d : Step C) (v u w : View H) → length ts ≡ length ss → i < length ss → Upto i ss ts v u
      → Performs member (entry_of (get_or ts i d) t) u w → IsSound w → Upto (i + 1) ss (set ts i t) v w
  more i ss ts t d v u w e h inv perf sound = rw add-one (next i ss ts t d v u w e h inv perf sound)

  pub all : (i : ℕ) (ss ts : List (Step C)) (v w : View H) → length ts ≡ length ss → length ss ≤ i → Upto i ss ts v w → Ran (log_of ss ts) v w
  all i ss ts v w e h inv =
      let a : take i ss ≡ ss = take_all _ _ h in
      let le : length ts ≤ i = omega arith in
      let b : take i ts ≡ ts = take_all _ _ le in
      subst (λ (y : List (Step C)). Ran (log_of ss y) v w) b (subst (λ (x : List (Step C)). Ran (log_of x (take i ts)) v w) a inv.0)
