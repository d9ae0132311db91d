-- A run, character by character in the bytes of a text.
use Rattle.std.proofs.Common.{◌≡◌, ℕ, ◌+◌, ◌-◌, Bool, true, false, cond, List, [], ◌∷◌, ◌++◌, length, get_or, take, drop, sym, refl, ap, ◌∙◌, arith, length-append, length-drop, take-append-drop}
use lib.Utf8.{encodes}
use Rattle.std.proofs.lemmas.List.{take_at, drop-drop}
use Rattle.std.proofs.lemmas.Str.{encodes-append, encodes-chars}
use Rattle.runs.specs.Runs.{run_by}
use Rattle.runs.proofs.Fronts.{prefix_taken, run_prefix}
use Rattle.text_bytes.specs.declared.cursor.Cursor.{Cursor}
use Rattle.text_bytes.specs.Bytes.{IsPlace, ahead_at}
use Rattle.text_bytes.specs.Cursors.{ahead_from}
use Rattle.text_bytes.specs.Ends.{Ends}
use Rattle.text_bytes.specs.Spans.{Crosses}
use Rattle.text_bytes.proofs.Places.{rest_is_text, placed_too, ahead_too}
use Rattle.text_bytes.proofs.Runs.{one_more}

-- a place n characters on, by bytes
pub record Taken (text : List ℕ) (at place n : ℕ) : Type 0 where
  pub far : place ≡ at + length (encodes (take n (ahead_at text at)))
  pub bytes : encodes (take n (ahead_at text at)) ≡ take (place - at) (drop at text)

pub taken : (text : List ℕ) (at place n : ℕ) → IsPlace text at → IsPlace text place
    → ahead_at text place ≡ drop n (ahead_at text at) → Taken text at place n
taken text at place n p q e =
    let all = ahead_at text at in
    let front = encodes (take n all) in
    let split : drop at text ≡ front ++ drop place text =
    sym (encodes-chars (drop at text) (rest_is_text text at p)) ∙ ap encodes (sym (take-append-drop n all)) ∙ encodes-append (take n all) (drop n all)
    ∙ ap (λ r. front ++ r) (ap encodes (sym e) ∙ encodes-chars (drop place text) (rest_is_text text place q))
    in
    let s : length (drop at text) ≡ length front + length (drop place text) = ap length split ∙ length-append front (drop place text) in
    let h = p.boundary.0 in
    let k = q.boundary.0 in
    let far : place ≡ at + length front = omega (arith, s, length-drop at text, length-drop place text) in
    record { far = far; bytes = sym (ap (take (place - at)) split ∙ take_at front (drop place text) (place - at) (omega arith)) }

-- a later place in the same text, n characters on
module _ (x y : Cursor) (n : ℕ) (same : y.text.now ≡ x.text.now) (e : ahead_from y ≡ drop n (ahead_from x)) where
  pub taken_from : Taken x.text.now x.place y.place n
  taken_from = taken x.text.now x.place y.place n x.placed (placed_too x y same) (ahead_too x y same ∙ e)

  -- a front of what is ahead ends there
  pub front_ends : (run : List ℕ) → length run ≡ n → run ≡ take (length run) (ahead_from x)
      → Ends x run y n
  front_ends run is front =
      let all = ahead_from x in
      let t = taken_from in
      record {
        text = same;
        number = sym is;
        order = omega (arith, t.far);
        ahead = e ∙ ap (λ k. drop k all) (sym is);
        bytes = ap encodes (front ∙ ap (λ k. take k all) is) ∙ t.bytes;
      }

-- n characters of a run were taken
module _ (go : ℕ → ℕ → Bool) (all : List ℕ) where
  pub record Running (left : List ℕ) (n : ℕ) : Type 0 where
    pub ahead : left ≡ drop n all
    pub run : length (run_by go all) ≡ n + length (run_by go left)

  pub running_none : Running all 0
  running_none = record { ahead = refl; run = omega arith }

  module _ (left : List ℕ) (n : ℕ) (r : Running left n) where
    pub running_more : (c : ℕ) (rest : List ℕ) (b : Bool) → left ≡ c ∷ rest
        → b ≡ go c (get_or rest 0 0) → b ≡ true → Running rest (n + 1)
    running_more c rest b s is on =
        let e = ap (λ xs. length (run_by go xs)) s ∙ ap (λ t. length (cond t (c ∷ run_by go rest) [])) (sym is ∙ on) in
        record { ahead = one_more all left n r.ahead c rest s; run = omega (arith, e, r.run) }

    pub running_stops : (c : ℕ) (rest : List ℕ) (b : Bool) → left ≡ c ∷ rest
        → b ≡ go c (get_or rest 0 0) → b ≡ false → length (run_by go all) ≡ n
    running_stops c rest b s is off =
        let e = ap (λ xs. length (run_by go xs)) s ∙ ap (λ t. length (cond t (c ∷ run_by go rest) [])) (sym is ∙ off) in
        omega (arith, e, r.run)

    pub running_out : left ≡ [] → length (run_by go all) ≡ n
    running_out e = let none = ap (λ xs. length (run_by go xs)) e in omega (arith, none, r.run)

-- so many characters of a run lie before a later place
pub running_from : (go : ℕ → ℕ → Bool) (y z : Cursor) (n : ℕ) → Crosses go y z n
    → Running go (ahead_from y) (ahead_from z) n
running_from go y z n c = record { ahead = c.ahead; run = c.run }

-- and so many more lie after the next character
pub running_on : (go : ℕ → ℕ → Bool) (all : List ℕ) (y z : Cursor) (n more : ℕ)
    → Running go all (ahead_from y) (n + 1) → Crosses go y z more
    → Running go all (ahead_from z) (n + (1 + more))
running_on go all y z n more r c =
    let far : n + 1 + more ≡ n + (1 + more) = omega arith in
    record {
      ahead = c.ahead ∙ ap (drop more) r.ahead ∙ drop-drop more (n + 1) all ∙ ap (λ k. drop k all) far;
      run = omega (arith, r.run, c.run);
    }

-- all of a run was taken
pub run_ends : (go : ℕ → ℕ → Bool) (x y : Cursor) (n : ℕ) → y.text.now ≡ x.text.now
    → Running go (ahead_from x) (ahead_from y) n → length (run_by go (ahead_from x)) ≡ n
    → Ends x (run_by go (ahead_from x)) y n
run_ends go x y n same r is = front_ends x y n same r.ahead (run_by go (ahead_from x)) is (sym (prefix_taken _ _ (run_prefix go (ahead_from x))))
