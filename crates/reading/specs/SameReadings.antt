-- What two readings have in common: two new inputs, each made and taken through its list.
use Rattle.std.specs.Prelude.{◌≡◌, ℕ, ◌+◌, Bool, List, [], length}
use Rattle.error.specs.Numbers.{PlacedAt, number}
use Rattle.error.specs.declared.Refusal.{Refusal}
use Rattle.input.specs.View.{View, Making, IsFresh}
use Rattle.calls.specs.Entries.{Entry}
use Rattle.reading.specs.Reading.{calls, answers, IsReadingList, Account}

-- a reading of a new input made of it; the place of a fault counts the characters before it
pub record ReadsNew {C : Type 0} (member : C → ℕ → Bool) (H : Type 0) (of : Making)
    (es : List (Entry C)) : Type 0 where
  pub start : View H
  pub end : View H
  pub fresh : IsFresh of start
  pub placed : PlacedAt of.finish (of.given + length of.chars)
  pub account : Account member es start end

-- two new inputs, each taken through its list: with equal characters, equal answers to one list
pub record SameReadings {C : Type 0} (member : C → ℕ → Bool) (H K : Type 0) (of with : Making)
    (es fs : List (Entry C)) : Type 0 where
  pub same :
      of.chars ≡ with.chars → calls es ≡ calls fs → IsReadingList 0 es
      → answers es ≡ answers fs
  pub one : ReadsNew member H of es
  pub other : ReadsNew member K with fs

-- both were made, or the first was refused, or the second: by the answer's number and values
pub data MadeTwo (One Other : ℕ × List ℕ → Type 0) (a : ℕ × List ℕ) : Type 0 where
  both : One (0, []) → Other (0, []) → a ≡ (0, []) → MadeTwo One Other a
  first : (r : Refusal) → One (number r) → a ≡ number r → MadeTwo One Other a
  second : (r : Refusal) → One (0, []) → Other (number r) → a ≡ number r → MadeTwo One Other a
