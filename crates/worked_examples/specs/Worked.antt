-- The ten worked examples, each of every kind of input or prompt kind, with these characters ahead.
use Rattle.std.specs.Prelude.{◌≡◌, ℕ, ◌<◌, ◌≤◌, Bool, true, false, List, [], ◌∷◌, ◌++◌, drop, Some, None, codes, Option, Result, Err}
use Rattle.std.specs.Bool.{OnTrue}
use Rattle.error.specs.Numbers.{outcome}
use Rattle.error.specs.declared.Fault.{Fault}
use Rattle.error.specs.declared.FaultKind.TheVariants.{InputIo}
use Rattle.error.specs.declared.Refusal.{Refusal}
use Rattle.char_traits.specs.Chars.{yaml_non_space}
use Rattle.source.specs.Codes.{CodesStart, code_chars, code_ending, codes_ahead, codes_ending, codes_given}
use Rattle.source.specs.declared.codes.Codes.{Codes}
use Rattle.source.specs.declared.codes.CodesEnding.TheVariants.{InputIo as PulledThen}
use Rattle.input.specs.View.{View, Look, IsNew, IsFresh}
use Rattle.input.specs.Calls.{Looks, TakesFault}
use Rattle.input.specs.Tests.{flag, Shown, IsFaithful, start_marker, is_marker}
use Rattle.runs.specs.declared.Fetched.{Fetched}
use Rattle.runs.specs.declared.SkipTabs.{SkipTabs}
use Rattle.runs.specs.declared.SkipTabs.TheVariants.{Yes, No}
use Rattle.runs.specs.declared.WhitespaceResult.{WhitespaceResult}
use Rattle.runs.specs.Runs.{run_of, plain_run}
use Rattle.runs.specs.Rooms.{fetch_number}
use Rattle.runs.specs.Scans.{SkipsRun, Fetches, StepsChunk, flags, SkipsToEol}
use Rattle.buffered.specs.Buffered.{ring_making}
use Rattle.buffered.specs.Fallible.{failing_making}

-- two spaces, a tab, # hot and a break
abbrev pub hot_line : List ℕ
hot_line = codes "  " ++ (0x09 ∷ (codes "# hot" ++ (0x0A ∷ [])))

abbrev pub pulled : Fault
pulled = record { kind = InputIo; place = 2 }

-- of a kind of input that holds something of type H
module _ (H : Type 0) where
  -- what a skip to the end of the line answers: its count, and its number with the flags for a tab and a space
  abbrev pub EolGives : SkipTabs → List ℕ → ℕ → ℕ × List ℕ → Type 0
  EolGives tabs ahead count answer =
      (r : ℕ × Result WhitespaceResult Refusal) (v w : View H) → v.ahead ≡ ahead
      → SkipsToEol tabs r v w
      → (r.0 ≡ count) × (outcome flags r.1 ≡ answer) × (w.ahead ≡ drop count ahead)

  -- whether a document start is next, with a window of 4
  abbrev pub StartIs : List ℕ → Bool → Type 0
  StartIs ahead is =
      (s : Shown) (v : View H) → v.ahead ≡ ahead → 4 ≤ v.window → IsFaithful s v
      → is_marker start_marker s ≡ (0, flag is)

  -- how long a plain run is
  abbrev pub PlainIs : Bool → List ℕ → ℕ → Type 0
  PlainIs in_flow ahead count =
      (look : Look) (n : ℕ) (v w : View H) → v.ahead ≡ ahead
      → SkipsRun true look (plain_run in_flow v.ahead) n v w → n ≡ count

  -- a fetch of yaml_non_space from abé into three bytes of which none is filled
  abbrev pub HalfFetched : Type 0
  HalfFetched =
      (look : Look) (x y z : ℕ) (r : Fetched) (left : List ℕ) (v w : View H)
      → v.ahead ≡ 0x61 ∷ 0x62 ∷ 0xE9 ∷ []
      → Fetches true look (run_of yaml_non_space v.ahead) (x ∷ y ∷ z ∷ []) 0 r left v w
      → (fetch_number r ≡ (7, 2 ∷ 2 ∷ [])) × (left ≡ 0x61 ∷ 0x62 ∷ z ∷ []) × (w.ahead ≡ 0xE9 ∷ [])

  -- the end is not told before a NUL, with a window
  abbrev pub NulIsNoEnd : Type 0
  NulIsNoEnd =
      (s : Shown) (v : View H) → v.ahead ≡ 0x00 ∷ 0x7A ∷ [] → 0 < v.window → IsFaithful s v
      → s.at_end ≡ false

  -- what a chunk of three answers on any prompt input with this window
  abbrev pub PromptChunkIs : List ℕ → ℕ → Bool → ℕ → Type 0
  PromptChunkIs ahead window stopped count =
      (r : Bool × ℕ) (v w : View H) → v.manner.prompt ≡ true → v.ahead ≡ ahead → v.window ≡ window
      → StepsChunk false 3 r v w → (r.0 ≡ stopped) × (r.1 ≡ count)

  -- what a chunk of three answers on a new ring over a source, after a lookahead
  abbrev pub ChunkIs : List ℕ → ℕ → Bool → ℕ → Type 0
  ChunkIs ahead window stopped count =
      (aheads : H → List ℕ) (source : H) (r : Bool × ℕ) (v u w : View H) → aheads source ≡ ahead
      → IsFresh (ring_making aheads source) v → Looks window v u
      → OnTrue u.manner.steps (StepsChunk false 3 r u w) → (r.0 ≡ stopped) × (r.1 ≡ count)

  -- ab and then a pulled cable, through any new prompt input, by the calls of `ToldOnce`
  abbrev pub PromptToldOnce : Type 0
  PromptToldOnce =
      (one two three : Option Fault) (v a b c d e : View H)
      → v.manner.prompt ≡ true → IsNew v → v.ahead ≡ codes "ab" → v.ending ≡ Err pulled
      → Looks 2 v a → TakesFault one a b → Looks 3 b c → TakesFault two c d → TakesFault three d e
      → (one ≡ None) × (two ≡ Some pulled) × (three ≡ None)

-- the codes of ab and then a pulled cable, through a new ring: lookahead 2, an asking, lookahead 3, two askings
abbrev pub ToldOnce : Type 0
ToldOnce =
    (source : Codes) (one two three : Option Fault) (v a b c d e : View Codes)
    → CodesStart source (code_chars (codes "ab")) (code_ending PulledThen 0 (codes "ab"))
    → IsFresh (failing_making codes_ahead codes_ending codes_given source) v
    → Looks 2 v a → TakesFault one a b → Looks 3 b c → TakesFault two c d → TakesFault three d e
    → (one ≡ None) × (two ≡ Some pulled) × (three ≡ None)

pub record Worked (H : Type 0) : Type 0 where
  pub hot_with_tabs : EolGives H Yes hot_line 8 (0, 1 ∷ 1 ∷ [])
  pub hot_without : EolGives H No hot_line 2 (0, 0 ∷ 1 ∷ [])
  pub unseparated : (tabs : SkipTabs) → EolGives H tabs (codes "#x") 0 (5, [])
  pub start_at_end : StartIs H (codes "---") true
  pub no_start : StartIs H (codes "---a") false
  pub colon_inside : PlainIs H false (codes "a:b c") 3
  pub colon_stops : PlainIs H false (codes "a: b") 1
  pub flow_stops : PlainIs H true (codes "a,b") 1
  pub half_fetched : HalfFetched H
  pub nul_is_no_end : NulIsNoEnd H
  pub prompt_chunk_narrow : PromptChunkIs H (codes "a:b") 1 true 1
  pub prompt_chunk_wide : PromptChunkIs H (codes "a:b") 2 false 3
  pub chunk_narrow : ChunkIs H (codes "a:b") 1 true 1
  pub chunk_wide : ChunkIs H (codes "a:b") 2 false 3
  pub prompt_told_once : PromptToldOnce H
  pub told_once : ToldOnce
