-- Bytes laid into a room.
use Rattle.std.proofs.Common.{◌≡◌, ℕ, ◌+◌, ◌-◌, ◌<◌, ◌≤◌, Bool, cond, List, [], ◌∷◌, ◌++◌, length, get_or, take, drop, sym, ap, ◌∙◌, inl, inr, append_assoc, arith, length-append, length-drop, take_at}
use lib.Seq.{drop-append-add}
use lib.Utf8.{encode}
use Rattle.std.proofs.lemmas.List.{drop-drop, length-take-le}
use Rattle.std.proofs.lemmas.Bool.{cases_lt, le-leb, lt-leb}
use Rattle.error.specs.Numbers.{number}
use Rattle.error.specs.declared.Refusal.{Refusal}
use Rattle.error.proofs.Numbered.{refusal_some}
use Rattle.utf8.specs.Room.{overlay, Appends}
use Rattle.runs.specs.Rooms.{front_that_fits}

pub laid_length : (xs : List ℕ) (at : ℕ) (a : List ℕ) → at + length a ≤ length xs → length (overlay xs at a) ≡ length xs
laid_length xs at a h =
    let l = length-append (take at xs) (a ++ drop (at + length a) xs) in
    let m = length-append a (drop (at + length a) xs) in
    let t = length-take-le at xs (omega arith) in
    let d = length-drop (at + length a) xs in
    omega arith

-- one after the other
pub laid_both : (xs : List ℕ) (at : ℕ) (a b : List ℕ) → at + length a ≤ length xs → overlay (overlay xs at a) (at + length a) b ≡ overlay xs at (a ++ b)
laid_both xs at a b h =
    let m : ℕ = at + length a in
    let front : List ℕ = take at xs ++ a in
    let back : List ℕ = drop m xs in
    let len : length front ≡ m = length-append (take at xs) a ∙ ap (λ k. k + length a) (length-take-le at xs (omega arith)) in
    let whole : overlay xs at a ≡ front ++ back = sym (append_assoc (take at xs) a back) in
    let one : take m (front ++ back) ≡ front = take_at front back m len in
    let two : drop (m + length b) (front ++ back) ≡ drop (at + length (a ++ b)) xs =
    ap (λ k. drop (k + length b) (front ++ back)) (sym len) ∙ drop-append-add front back (length b) ∙ drop-drop (length b) m xs
    ∙ ap (λ k. drop k xs) (let e = length-append a b in omega arith) in
    ap (λ (l : List ℕ). overlay l m b) whole
    ∙ (λ i. one i ++ (b ++ two i))
    ∙ append_assoc (take at xs) a (b ++ drop (at + length (a ++ b)) xs)
    ∙ ap (λ r. take at xs ++ r) (sym (append_assoc a b (drop (at + length (a ++ b)) xs)))

pub fit_one : (free c : ℕ) (cs : List ℕ) → length (encode c) ≤ free → front_that_fits free (c ∷ cs) ≡ c ∷ front_that_fits (free - length (encode c)) cs
fit_one free c cs h = ap (λ (b : Bool). cond b (c ∷ front_that_fits (free - length (encode c)) cs) []) (le-leb (length (encode c)) free h)

pub fit_none : (free c : ℕ) (cs : List ℕ) → free < length (encode c) → front_that_fits free (c ∷ cs) ≡ []
fit_none free c cs h = ap (λ (b : Bool). cond b (c ∷ front_that_fits (free - length (encode c)) cs) []) (lt-leb (length (encode c)) free h)

-- what was appended, where it was not refused
pub record Appended (bytes old : List ℕ) (filled next : ℕ) (new : List ℕ) : Type 0 where
  pub fits : filled + length bytes ≤ length old
  pub end : next ≡ filled + length bytes
  pub lies : new ≡ overlay old filled bytes

pub appended : (bytes old : List ℕ) (filled next : ℕ) (new : List ℕ) → filled ≤ length old → Appends bytes old filled (0, next ∷ []) new → Appended bytes old filled next new
appended bytes old filled next new h a =
    elim (cases_lt (length old) (filled + length bytes)) [
      | inl l ↦ absurd (omega (arith, ap (λ (x : ℕ × List ℕ). x.0) (a.full h l).0))
      | inr l ↦ (let f = a.fits l in record { fits = l; end = ap (λ (x : ℕ × List ℕ). get_or x.1 0 0) f.0; lies = f.1 })
    ]

pub record Full (bytes old : List ℕ) (filled : ℕ) (r : Refusal) (new : List ℕ) : Type 0 where
  pub wide : length old < filled + length bytes
  pub is : number r ≡ (7, [])
  pub same : new ≡ old

pub full : (bytes old : List ℕ) (filled : ℕ) (r : Refusal) (new : List ℕ) → filled ≤ length old → Appends bytes old filled (number r) new → Full bytes old filled r new
full bytes old filled r new h a =
    elim (cases_lt (length old) (filled + length bytes)) [
      | inl l ↦ (let f = a.full h l in record { wide = l; is = f.0; same = f.1 })
      | inr l ↦ absurd (refusal_some r (ap (λ (x : ℕ × List ℕ). x.0) (a.fits l).0))
    ]
