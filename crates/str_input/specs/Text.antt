-- A text at hand as an input.
use Rattle.std.specs.Prelude.{◌≡◌, ℕ, max, true, false, List, drop, Some, Option, MatchOption, slice_index}
use Rattle.std.specs.Str.{chars}
use Rattle.error.specs.Numbers.{clean}
use Rattle.input.specs.View.{Manner, View, Making, IsNew}
use Rattle.input.specs.Calls.{none_left}
use Rattle.input.specs.Tests.{Shown, marker_in}
use Rattle.str_input.specs.declared.str_input.StrInput.{StrInput}
use Rattle.text_bytes.specs.Bytes.{begins, Cut, IsPart}
use Rattle.text_bytes.specs.Cursors.{text_of, place_of, ahead_from}

-- the characters from the place on
abbrev pub ahead_of : StrInput → List ℕ
ahead_of x = ahead_from x.at

-- its ending is met from the start; lookaheads alone raise its window, and its scans leave it
abbrev pub text_manner : Manner
text_manner = record { prompt = false; steady = true; steps = false; most = 128 }

-- all of the text is at hand: the ending is met, and it is clean
abbrev pub text_view : StrInput → View (Unit {0})
text_view x =
    record {
      ahead = ahead_of x;
      window = x.window;
      ending = clean;
      met = true;
      told = false;
      manner = text_manner;
      held = tt;
    }

-- a text shows what is ahead, whatever its window, and NUL after that, which is no character of it
abbrev pub text_shown : StrInput → Shown
text_shown x =
    record {
      at = slice_index (ahead_of x);
      at_end = none_left (ahead_of x);
      matches = λ wanted. Some (begins wanted (ahead_of x));
      marker = Some (marker_in (slice_index (ahead_of x)));
    }

-- a text with all of its characters
abbrev pub text_making : List ℕ → Making
text_making bytes = record { manner = text_manner; chars = chars bytes; finish = clean; given = 0 }

-- a part of the whole text, or none where the bounds are reversed, beyond it or off a boundary
abbrev pub LendsPart : StrInput → ℕ → ℕ → Option (List ℕ) → Type 0
LendsPart x start end part =
    let text = text_of x.at in
    MatchOption part (Cut text start end → ⊥) (IsPart text start end)

-- so many characters are taken, or all; nothing else changes
pub record MovesOn (n : ℕ) (x y : StrInput) : Type 0 where
  pub text : text_of y.at ≡ text_of x.at
  pub window : y.window ≡ x.window
  pub ahead : ahead_of y ≡ drop n (ahead_of x)

-- the window is raised to a count, however large
pub record Widens (n : ℕ) (x y : StrInput) : Type 0 where
  pub text : text_of y.at ≡ text_of x.at
  pub place : place_of y.at ≡ place_of x.at
  pub window : y.window ≡ max x.window n

-- the window is raised first, and then so many characters are taken
pub record MovesWide (look n : ℕ) (x y : StrInput) : Type 0 where
  pub text : text_of y.at ≡ text_of x.at
  pub window : y.window ≡ max x.window look
  pub ahead : ahead_of y ≡ drop n (ahead_of x)

-- all of a text is ahead
pub record Opens (bytes : List ℕ) (x : StrInput) : Type 0 where
  pub text : text_of x.at ≡ bytes
  pub place : place_of x.at ≡ 0
  pub window : x.window ≡ 0
  pub ahead : ahead_of x ≡ chars bytes
  pub fresh : IsNew (text_view x)
