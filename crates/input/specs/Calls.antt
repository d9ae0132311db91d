-- What each call of an input means: the input before it, v, its answer, and the input after it, w.
use Rattle.std.specs.Prelude.{◌≡◌, ℕ, ◌≤◌, min, Bool, true, false, cond, not, ◌&&◌, ◌||◌, List, [], ◌∷◌, length, drop, is_some, Ok, Err, Some, None, Option, nat_lt, slice_index}
use Rattle.error.specs.Numbers.{Ending, fault_number, fault_of}
use Rattle.error.specs.declared.Fault.{Fault}
use Rattle.char_traits.specs.Chars.{breakz}
use Rattle.input.specs.View.{View, Keeps, exactly}
use Rattle.input.specs.declared.Closing.{Closing}
use Rattle.input.specs.declared.Closing.TheVariants.{Left, Failed, Whole}

abbrev pub none_left : List ℕ → Bool
none_left [] = true
none_left (c ∷ cs) = false

abbrev pub first_of : List ℕ → Option ℕ
first_of [] = None
first_of (c ∷ cs) = Some c

-- the first character, unless it ends the line
abbrev pub first_in_line : List ℕ → Option ℕ
first_in_line [] = None
first_in_line (c ∷ cs) = cond (breakz c) None (Some c)

abbrev pub taken_by : Option ℕ → ℕ
taken_by None = 0
taken_by (Some c) = 1

-- the window is raised to a count, as far as the input can always have it, and to 16 at least
pub record Looks {H : Type 0} (n : ℕ) (v w : View H) : Type 0 where
  pub keeps : Keeps false (exactly n) v w
  pub told : w.told ≡ v.told
  pub ahead : w.ahead ≡ v.ahead
  pub wide : min 16 n ≤ w.window
  pub far : min n v.manner.most ≤ w.window

pub record Reads {H : Type 0} (c : ℕ) (v w : View H) : Type 0 where
  pub keeps : Keeps (none_left v.ahead) (exactly 0) v w
  pub told : w.told ≡ v.told
  pub ahead : w.ahead ≡ drop 1 v.ahead
  pub character : c ≡ slice_index v.ahead 0

-- the first character is taken, and told by an option
pub record TakesNext {H : Type 0} (r : Option ℕ) (v w : View H) : Type 0 where
  pub keeps : Keeps (none_left v.ahead) (exactly 0) v w
  pub told : w.told ≡ v.told
  pub ahead : w.ahead ≡ drop 1 v.ahead
  pub first : r ≡ first_of v.ahead

pub record ReadsInLine {H : Type 0} (r : Option ℕ) (v w : View H) : Type 0 where
  pub keeps : Keeps (none_left v.ahead) (exactly 0) v w
  pub told : w.told ≡ v.told
  pub ahead : w.ahead ≡ drop (taken_by r) v.ahead
  pub character : r ≡ first_in_line v.ahead

pub record Skips {H : Type 0} (n : ℕ) (v w : View H) : Type 0 where
  pub keeps : Keeps (nat_lt (length v.ahead) n) (exactly 0) v w
  pub told : w.told ≡ v.told
  pub ahead : w.ahead ≡ drop n v.ahead

-- the next character is told, and stays ahead; the window stays as it was
pub record PeeksNext {H : Type 0} (r : Option ℕ) (v w : View H) : Type 0 where
  pub keeps : Keeps (none_left v.ahead) (exactly 0) v w
  pub told : w.told ≡ v.told
  pub ahead : w.ahead ≡ v.ahead
  pub window : w.window ≡ v.window
  pub next : r ≡ first_of v.ahead

-- the fault, if it is met and untold; what was given is told from then on
pub record TakesFault {H : Type 0} (r : Option Fault) (v w : View H) : Type 0 where
  pub keeps : Keeps false (exactly 0) v w
  pub ahead : w.ahead ≡ v.ahead
  pub fault : r ≡ cond (v.met && not v.told) (fault_of v.ending) None
  pub told : w.told ≡ (v.told || is_some r)

-- the number of each answer to a closing, with its values
abbrev pub closing_number : Closing → ℕ × List ℕ
closing_number Whole = (0, [])
closing_number Left = (1, [])
closing_number (Failed fault) = fault_number fault

-- left if characters are ahead, else failed at a fault, else whole
abbrev pub closing_at : Ending → Closing
closing_at (Ok done) = Whole
closing_at (Err fault) = Failed fault

abbrev pub closing_of : List ℕ → Ending → Closing
closing_of ahead ending = cond (none_left ahead) (closing_at ending) Left

-- closing asks for lookahead 1, and is no asking
pub record Closes {H : Type 0} (r : Closing) (v w : View H) : Type 0 where
  pub looks : Looks 1 v w
  pub closing : closing_number r ≡ closing_number (closing_of v.ahead v.ending)

-- a reading that may be open is closed if it is; else nothing changes
abbrev pub ClosesHeld : {H : Type 0} → Option Closing → View H → View H → Type 0
ClosesHeld None v w = w ≡ v
ClosesHeld (Some r) v w = Closes r v w
