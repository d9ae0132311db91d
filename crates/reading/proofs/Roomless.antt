-- The theorem of lists that fetch nothing, in calls and answers alone.
use Rattle.std.proofs.Common.{◌≡◌, ℕ, ◌≤◌, max, Bool, true, false, cond, List, [], ◌∷◌, map, sym, refl, ap, ◌∙◌, subst, arith}
use Rattle.input.specs.View.{View}
use Rattle.input.proofs.Keeping.{never}
use Rattle.calls.specs.declared.call.Call.{Call}
use Rattle.calls.specs.Entries.{Entry, answer_number}
use Rattle.calls.specs.Kinds.{kind_of}
use Rattle.reading.specs.Reading.{call_given, answer_got, compared_entries, IsReadingList, SameAnswers}

module _ {C : Type 0} where
  -- the calls that are compared, and their answers by number and values
  abbrev pub called : List (Entry C) → List (Call C)
  called es = map (λ e. e.call) (compared_entries es)

  abbrev pub said : List (Entry C) → List (ℕ × List ℕ)
  said es = map (λ e. answer_number e.answer) (compared_entries es)

  -- none of them brings a room, and they are a reading list
  abbrev pub Roomless : ℕ → List (Call C) → Type 0
  Roomless reach [] = Unit {0}
  Roomless reach (k ∷ ks) =
      ((kind_of k).fetches ≡ false) × ((kind_of k).plain ≡ true) × ((kind_of k).reaches ≤ reach) × Roomless (max reach (kind_of k).lengthens) ks

  bare : Call C → Call C × List ℕ × ℕ
  bare k = (k, [], 0)

  calls_bare : (es : List (Entry C)) (reach : ℕ) → Roomless reach (map (λ e. e.call) es) → map call_given es ≡ map bare (map (λ e. e.call) es)
  unfolding bare
  calls_bare [] reach h = refl
  calls_bare (e ∷ es) reach (none, _, _, more) =
      let same = calls_bare es _ more in λ i. (e.call, cond (none i) e.room [], cond (none i) e.filled 0) ∷ same i

  said_got : (es : List (Entry C)) → map (λ e. answer_number e.answer) es ≡ map (λ (g : (ℕ × List ℕ) × List ℕ). g.0) (map answer_got es)
  said_got [] = refl
  said_got (e ∷ es) = ap (λ r. answer_number e.answer ∷ r) (said_got es)

  uncompared : (k : Call C) → (kind_of k).compared ≡ false → ((kind_of k).plain ≡ true) × ((kind_of k).reaches ≡ 0) × ((kind_of k).lengthens ≡ 0)
  uncompared (Call.Added n) h = (refl, refl, refl)
  uncompared Call.TakeSourceError h = (refl, refl, refl)
  uncompared Call.Open h = (refl, refl, refl)
  uncompared Call.Close h = (refl, refl, refl)
  uncompared _ h = absurd (never (sym h))

  listed : (es : List (Entry C)) (reach : ℕ) → Roomless reach (called es) → IsReadingList reach es
  listed [] reach h = tt
  listed (e ∷ es) reach h = go (kind_of e.call).compared refl (listed es) h
    where
      go : (b : Bool) → (kind_of e.call).compared ≡ b → ((r : ℕ) → Roomless r (called es) → IsReadingList r es)
          → Roomless reach (map (λ x. x.call) (cond b (e ∷ compared_entries es) (compared_entries es))) → IsReadingList reach (e ∷ es)
      go true c rest (_, plain, here, more) = (plain, here, rest _ more)
      go false c rest more =
          let (plain, none, short) = uncompared e.call c in
          let stays : reach ≡ max reach (kind_of e.call).lengthens = omega (arith, short) in
          (plain, omega (arith, none), rest _ (subst (λ n. Roomless n (called es)) stays more))

pub roomless : {C H K : Type 0} (ls ms : List (Entry C)) (v : View H) (u : View K) → SameAnswers ls ms v u → called ls ≡ called ms → Roomless 0 (called ls) → v.ahead ≡ u.ahead → said ls ≡ said ms
roomless {C} ls ms v u same c h e =
    let one = calls_bare (compared_entries ls) 0 h in
    let other = calls_bare (compared_entries ms) 0 (subst (λ (ks : List (Call C)). Roomless 0 ks) c h) in
    said_got (compared_entries ls) ∙ ap (map (λ (g : (ℕ × List ℕ) × List ℕ). g.0)) (same (one ∙ ap (map bare) c ∙ sym other) (listed ls 0 h) e) ∙ sym (said_got (compared_entries ms))
