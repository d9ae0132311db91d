-- What of the characters ahead fits so many bytes.
use Rattle.std.proofs.Common.{◌≡◌, ℕ, ◌+◌, ◌-◌, ◌<◌, ◌≤◌, List, [], ◌∷◌, ◌++◌, length, take, drop, sym, refl, ap, ◌∙◌, subst, ap₂, inl, inr, arith, length-append, length-drop, take-append-drop}
use lib.Utf8.{encode, encodes}
use Rattle.std.proofs.lemmas.List.{append-nil, drop-drop, length-take-le}
use Rattle.std.proofs.lemmas.Bool.{cases_lt}
use Rattle.std.proofs.lemmas.Str.{encodes-append, encodes-chars, encodes_same}
use Rattle.runs.specs.Rooms.{front_that_fits}
use Rattle.runs.proofs.Laying.{fit_one, fit_none}
use Rattle.runs.proofs.Fronts.{prefix_taken}
use Rattle.runs.proofs.Longest.{fitting_longest}
use Rattle.text_bytes.specs.declared.cursor.Cursor.{Cursor}
use Rattle.text_bytes.specs.Cursors.{ahead_from, StepsTo}
use Rattle.text_bytes.specs.Ends.{Ends}
use Rattle.text_bytes.proofs.Places.{rest_is_text, placed_too, ahead_too}
use Rattle.text_bytes.proofs.Runs.{one_more}
use Rattle.text_bytes.proofs.Running.{taken_from, front_ends}

pub fit_all : (free : ℕ) (run : List ℕ) → length (encodes run) ≤ free → front_that_fits free run ≡ run
fit_all free [] h = refl
fit_all free (c ∷ run) h =
    let l = length-append (encode c) (encodes run) in
    fit_one free c run (omega arith) ∙ ap (λ r. c ∷ r) (fit_all (free - length (encode c)) run (omega arith))

-- what follows a run that does not fit has no part in it
fit_short : (free : ℕ) (run rest : List ℕ) → free < length (encodes run)
    → front_that_fits free (run ++ rest) ≡ front_that_fits free run
fit_short free [] rest h = absurd (omega arith)
fit_short free (c ∷ run) rest h =
    elim (cases_lt free (length (encode c))) [
      | inl k ↦ fit_none free c (run ++ rest) k ∙ sym (fit_none free c run k)
      | inr k ↦
          (let l = length-append (encode c) (encodes run) in
          fit_one free c (run ++ rest) k ∙ ap (λ r. c ∷ r) (fit_short (free - length (encode c)) run rest (omega arith)) ∙ sym (fit_one free c run k))
    ]

-- a step has the bytes of its character
wide_step : (x : Cursor) (c : ℕ) (y : Cursor) → StepsTo x c y
    → y.place ≡ x.place + length (encode c)
wide_step x c y s =
    let t = taken_from x y 1 s.text (sym (ap (drop 1) s.first)) in
    t.far ∙ ap (λ xs. x.place + length (encodes (take 1 xs))) s.first ∙ ap (λ bs. x.place + length bs) (append-nil (encode c))

-- n characters that fit are behind the place
module _ (x : Cursor) (limit : ℕ) where
  pub record Fitted (y : Cursor) (n : ℕ) : Type 0 where
    pub text : y.text.now ≡ x.text.now
    pub ahead : ahead_from y ≡ drop n (ahead_from x)
    pub fit : length (front_that_fits (limit - x.place) (ahead_from x)) ≡ n + length (front_that_fits (limit - y.place) (ahead_from y))

  module _ (y : Cursor) (n : ℕ) (f : Fitted y n) where
    pub fitted_more : (c : ℕ) (z : Cursor) → StepsTo y c z → z.place ≤ limit → Fitted z (n + 1)
    fitted_more c z s low =
        let w = wide_step y c z s in
        let e : front_that_fits (limit - y.place) (ahead_from y) ≡ c ∷ front_that_fits (limit - z.place) (ahead_from z) =
        ap (front_that_fits (limit - y.place)) s.first ∙ fit_one (limit - y.place) c (ahead_from z) (omega arith)
        ∙ ap (λ k. c ∷ front_that_fits k (ahead_from z)) (omega arith)
        in
        record {
          text = s.text ∙ f.text;
          ahead = one_more (ahead_from x) (ahead_from y) n f.ahead c (ahead_from z) s.first;
          fit = omega (arith, ap length e, f.fit);
        }

    ended : front_that_fits (limit - y.place) (ahead_from y) ≡ []
        → Ends x (front_that_fits (limit - x.place) (ahead_from x)) y n
    ended e =
        let all = ahead_from x in
        front_ends x y n f.text f.ahead (front_that_fits (limit - x.place) all) (omega (arith, f.fit, ap length e)) (sym (prefix_taken _ _ (fitting_longest (limit - x.place) all).front))

    pub fitted_stops : (c : ℕ) (z : Cursor) → StepsTo y c z → y.place ≤ limit → limit < z.place
        → Ends x (front_that_fits (limit - x.place) (ahead_from x)) y n
    fitted_stops c z s low high =
        let w = wide_step y c z s in
        ended (ap (front_that_fits (limit - y.place)) s.first ∙ fit_none (limit - y.place) c (ahead_from z) (omega arith))

    pub fitted_out : ahead_from y ≡ [] → Ends x (front_that_fits (limit - x.place) (ahead_from x)) y n
    fitted_out e = ended (ap (front_that_fits (limit - y.place)) e)

-- a run and its end
module _ (x : Cursor) (run : List ℕ) (end : Cursor) (count : ℕ) (e : Ends x run end count) where
  pub inside : end.place ≤ length x.text.now
  inside = (placed_too x end e.text).boundary.0

  wide_run : length (encodes run) ≡ end.place - x.place
  wide_run =
      let h = inside in
      let l = length-drop x.place x.text.now in
      ap length e.bytes ∙ length-take-le (end.place - x.place) (drop x.place x.text.now) (omega arith)

  rest_of : ahead_from x ≡ run ++ ahead_from end
  rest_of =
      let text = x.text.now in
      let o = e.order in
      let there : x.place + (end.place - x.place) ≡ end.place = omega arith in
      let after : drop (end.place - x.place) (drop x.place text) ≡ encodes (ahead_from end) =
      drop-drop (end.place - x.place) x.place text ∙ ap (λ k. drop k text) there
      ∙ sym (ap encodes (sym (ahead_too x end e.text)) ∙ encodes-chars (drop end.place text) (rest_is_text text end.place (placed_too x end e.text)))
      in
      encodes_same (ahead_from x) (run ++ ahead_from end)
      (encodes-chars (drop x.place text) (rest_is_text text x.place x.placed) ∙ sym (take-append-drop (end.place - x.place) (drop x.place text))
      ∙ ap₂ (λ a b. a ++ b) (sym e.bytes) after
      ∙ sym (encodes-append run (ahead_from end)))

  pub cut_whole : (free : ℕ) → end.place - x.place ≤ free → Ends x (front_that_fits free run) end count
  cut_whole free h = subst (λ (r : List ℕ). Ends x r end count) (sym (fit_all free run (omega (arith, wide_run)))) e

  pub cut_short : (free : ℕ) (y : Cursor) (n : ℕ) → free < end.place - x.place
      → Ends x (front_that_fits (x.place + free - x.place) (ahead_from x)) y n
      → Ends x (front_that_fits free run) y n
  cut_short free y n h f =
      let k : x.place + free - x.place ≡ free = omega arith in
      let same : front_that_fits (x.place + free - x.place) (ahead_from x) ≡ front_that_fits free run =
      ap₂ front_that_fits k rest_of ∙ fit_short free run (ahead_from end) (omega (arith, wide_run))
      in
      subst (λ (r : List ℕ). Ends x r y n) same f
