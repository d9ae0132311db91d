-- Runs of characters, from the productions of YAML 1.2.2.
use Rattle.std.specs.Prelude.{ℕ, Bool, false, cond, not, ◌&&◌, ◌||◌, List, [], ◌∷◌, ◌++◌, length, drop, ◌==◌, nat_lt, slice_index}
use Rattle.char_traits.specs.Chars.{blank, not_breakz, plain_safe}
use Rattle.input.specs.Calls.{none_left}
use Rattle.runs.specs.declared.Colon.{Colon}
use Rattle.runs.specs.declared.Colon.TheVariants.{Free, Stops, Leads}
use Rattle.runs.specs.declared.SkipTabs.{SkipTabs}
use Rattle.runs.specs.declared.SkipTabs.TheVariants.{Yes, No}

-- whether a run goes on with c, by its class and by the character after c, which is NUL at the end
abbrev pub goes : (ℕ → Bool) → Colon → ℕ → ℕ → Bool
goes class Free c after = class c
goes class Stops c after = class c && not (c == 0x3A)
-- ns-plain-char: a : belongs to it only before ns-plain-safe
goes class Leads c after = class c && (not (c == 0x3A) || class after)

-- the longest front with each character of which the run goes on
abbrev pub run_by : (ℕ → ℕ → Bool) → List ℕ → List ℕ
run_by go [] = []
run_by go (c ∷ cs) = cond (go c (slice_index cs 0)) (c ∷ run_by go cs) []

-- the longest run of a class
abbrev pub run_of : (ℕ → Bool) → List ℕ → List ℕ
run_of class = run_by (goes class Free)

abbrev pub plain_run : Bool → List ℕ → List ℕ
plain_run in_flow = run_by (goes (plain_safe in_flow) Leads)

-- with a window of 1 what follows a : is not seen
abbrev pub colon_at : ℕ → Colon
colon_at window = cond (nat_lt window 2) Stops Leads

-- as much of a plain run as can be told apart with this window
abbrev pub chunk_run : Colon → Bool → List ℕ → List ℕ
chunk_run colon in_flow = run_by (goes (plain_safe in_flow) colon)

abbrev pub has : ℕ → List ℕ → Bool
has c [] = false
has c (d ∷ ds) = d == c || has c ds

-- s-separate-in-line: spaces, and tabs if they are allowed
abbrev pub separates : SkipTabs → ℕ → Bool
separates Yes c = blank c
separates No c = c == 0x20

abbrev pub blanks_of : SkipTabs → List ℕ → List ℕ
blanks_of tabs ahead = run_of (separates tabs) ahead

-- what the blanks leave ahead
abbrev pub after_blanks : SkipTabs → List ℕ → List ℕ
after_blanks tabs ahead = drop (length (blanks_of tabs ahead)) ahead

abbrev pub at_hash : List ℕ → Bool
at_hash ahead = slice_index ahead 0 == 0x23

-- c-nb-comment-text, with any character up to a breakz or the end
abbrev pub comment_of : List ℕ → List ℕ
comment_of ahead = cond (at_hash ahead) (run_of not_breakz ahead) []

-- s-b-comment without its break: a comment only after blanks
abbrev pub eol_run : SkipTabs → List ℕ → List ℕ
eol_run tabs ahead =
    blanks_of tabs ahead
    ++ cond (none_left (blanks_of tabs ahead)) [] (comment_of (after_blanks tabs ahead))

-- a comment with no blank before it
abbrev pub unseparated : SkipTabs → List ℕ → Bool
unseparated tabs ahead = none_left (blanks_of tabs ahead) && at_hash ahead
