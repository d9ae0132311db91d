-- What the words of a line have to be.
use Rattle.std.specs.Prelude.{◌≡◌, ℕ, ◌≤◌, Bool, List, [], ◌∷◌, Some, None, Option}
use Rattle.std.specs.Bool.{⊤}
use Rattle.runs.specs.declared.SkipTabs.{SkipTabs}
use Rattle.protocol.specs.Values.{ReadsNumber, truth_name, skip_tabs_name}

-- what a word has to be
abbrev pub Form : Type 1
Form = List ℕ → Type 0

abbrev pub Is : List ℕ → Form
Is name word = name ≡ word

abbrev pub Count : ℕ → Form
Count n word = ReadsNumber 64 10 word (Some n)

abbrev pub Code : ℕ → Form
Code c word = ReadsNumber 32 16 word (Some c)

abbrev pub Truth : Bool → Form
Truth b = Is (truth_name b)

abbrev pub Tabs : SkipTabs → Form
Tabs tabs = Is (skip_tabs_name tabs)

-- the largest room that can be asked for
abbrev pub most_room : ℕ
most_room = 1000000

abbrev pub Size : ℕ → Form
Size n word = Count n word × (n ≤ most_room)

-- the words are of these forms, each of its own
abbrev pub HaveForms : List (List ℕ) → List Form → Type 0
HaveForms [] [] = ⊤
HaveForms [] (form ∷ forms) = ⊥
HaveForms (word ∷ words) [] = ⊥
HaveForms (word ∷ words) (form ∷ forms) = form word × HaveForms words forms

-- the words are those of one of a kind, or else of none of it
abbrev pub Parses : {T : Type 0} → (T → List Form) → List (List ℕ) → Option T → Type 0
Parses {T = T} forms words None = (x : T) → HaveForms words (forms x) → ⊥
Parses forms words (Some x) = HaveForms words (forms x)
