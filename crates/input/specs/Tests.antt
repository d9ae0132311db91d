-- What an input shows, and what its tests tell of it.
use Rattle.std.specs.Prelude.{◌≡◌, ℕ, suc, ◌<◌, ◌≤◌, Bool, true, false, cond, not, ◌&&◌, ◌||◌, List, [], ◌∷◌, length, Some, None, Option, ◌==◌, slice_index}
use Rattle.std.proofs.Math.Utf8.{scalar, scalars}
use Rattle.char_traits.specs.Chars.{blank_or_breakz, flow}
use Rattle.input.specs.declared.Marker.{Marker}
use Rattle.input.specs.declared.Marker.TheVariants.{Start, End}
use Rattle.input.specs.View.{View}
use Rattle.input.specs.Calls.{none_left}

-- the values of a yes or no
abbrev pub flag : Bool → List ℕ
flag false = 0 ∷ []
flag true = 1 ∷ []

-- the values of a marker or none
abbrev pub mark : Option Marker → List ℕ
mark None = 0 ∷ []
mark (Some Start) = 1 ∷ []
mark (Some End) = 2 ∷ []

-- the characters wanted are those that are shown
abbrev pub are_shown : (ℕ → ℕ) → List ℕ → Bool
are_shown shown [] = true
are_shown shown (c ∷ cs) = shown 0 == c && are_shown (λ n. shown (suc n)) cs

abbrev pub without_nul : List ℕ → Bool
without_nul [] = true
without_nul (c ∷ cs) = not (c == 0) && without_nul cs

-- A document marker: three - or three . followed by a blank, a breakz or the end, which shows as NUL.
abbrev pub thrice : ℕ → (ℕ → ℕ) → Bool
thrice c shown = shown 0 == c && (shown 1 == c && shown 2 == c)

abbrev pub marker_in : (ℕ → ℕ) → Option Marker
marker_in shown =
    cond (blank_or_breakz (shown 3))
    (cond (thrice 0x2D shown) (Some Start) (cond (thrice 0x2E shown) (Some End) None)) None

-- WHAT A STATE SHOWS

-- What an input answers to peeks and tests in one state: the character at a place; whether it tells the end; whether the next
-- characters are those wanted, and the document marker that is next, or none if it refuses its window as too narrow.
pub record Shown : Type 0 where
  pub at : ℕ → ℕ
  pub at_end : Bool
  pub matches : List ℕ → Option Bool
  pub marker : Option (Option Marker)

-- Refused only below the window that is wanted. Within it the answer is by what is shown, but where a NUL is wanted each kind's own.
abbrev pub Matches : List ℕ → ℕ → (ℕ → ℕ) → Option Bool → Type 0
Matches wanted window shown None = window < length wanted
Matches wanted window shown (Some is) =
    length wanted ≤ window → without_nul wanted ≡ true → is ≡ are_shown shown wanted

abbrev pub Marks : ℕ → (ℕ → ℕ) → Option (Option Marker) → Type 0
Marks window shown None = window < 4
Marks window shown (Some marker) = 4 ≤ window → marker ≡ marker_in shown

-- within its window an input tells what is ahead, and NUL at the end; beyond it, as it likes
pub record IsFaithful {H : Type 0} (s : Shown) (v : View H) : Type 0 where
  pub at : (n : ℕ) → n < v.window → s.at n ≡ slice_index v.ahead n
  pub at_end : 0 < v.window → s.at_end ≡ none_left v.ahead
  pub matches : (wanted : List ℕ) → Matches wanted v.window s.at (s.matches wanted)
  pub marker : Marks v.window s.at s.marker

-- WHAT A TEST TELLS, by the number and the values of its answer

-- 4 for a window that is too narrow
abbrev pub in_window : {T : Type 0} → (T → List ℕ) → Option T → ℕ × List ℕ
in_window values None = (4, [])
in_window values (Some x) = (0, values x)

-- a number that is a character, or refused 3
abbrev pub character_number : ℕ → ℕ × List ℕ
character_number code = cond (scalar code) (0, code ∷ []) (3, [])

-- a character that is shown is held against a number: refused 3 if that is no character
abbrev pub compare_number : ℕ → ℕ → ℕ × List ℕ
compare_number code shown = cond (scalar code) (0, flag (shown == code)) (3, [])

-- the next characters are held against numbers: refused 3 if one is no character, before the window is asked for
abbrev pub compare_all_number : List ℕ → Shown → ℕ × List ℕ
compare_all_number codes s = cond (scalars codes) (in_window flag (s.matches codes)) (3, [])

abbrev pub any_marker : Option Marker → Bool
any_marker None = false
any_marker (Some m) = true

abbrev pub start_marker : Option Marker → Bool
start_marker None = false
start_marker (Some Start) = true
start_marker (Some End) = false

abbrev pub end_marker : Option Marker → Bool
end_marker None = false
end_marker (Some Start) = false
end_marker (Some End) = true

-- whether the marker that is next is one of these
abbrev pub is_marker : (Option Marker → Bool) → Shown → ℕ × List ℕ
is_marker which s = in_window (λ m. flag (which m)) s.marker

-- a : that ends a plain run: a blank, a breakz, the end or, in flow, a flow character follows
abbrev pub colon_stops : Bool → (ℕ → ℕ) → Bool
colon_stops in_flow shown =
    shown 0 == 0x3A && (blank_or_breakz (shown 1) || (in_flow && flow (shown 1)))

abbrev pub plain_goes_on : Bool → (ℕ → ℕ) → Bool
plain_goes_on in_flow shown = not (colon_stops in_flow shown || (in_flow && flow (shown 0)))
