-- What is left of a text after its lines.
use Rattle.std.proofs.Common.{◌≢◌, ℕ, ◌<◌, ◌≤◌, List, [], ◌∷◌, ◌++◌, length, Some, None, refl, sym, ap, ◌∙◌, subst, arith, length-drop}
use Rattle.std.specs.Borrow.{Bor}
use Rattle.protocol.specs.Commands.{IsLine}
use Rattle.protocol.specs.declared.command.Command.{Command}
use Rattle.player.specs.Lines.{LineFrom, TakesLine, Passes, PassesSome, Leaves}

next_inside : (text : List ℕ) (end next : ℕ) → 0 < length text → LineFrom text 0 end next → 0 < next
next_inside text end next h l = let ends = l.ends in let last = l.last in let inside = l.inside in grind arith

pub shorter : (text : List ℕ) (line : Bor (List ℕ)) (rest : List ℕ) → TakesLine text (Some line) rest → length rest < length text
shorter text line rest (some, next, l, _, e) = let up = next_inside text (length line.now) next some l in grind (arith, length-drop)

-- one line more
passes_more : (text left rest : List ℕ) (lines : List (Bor (List ℕ))) (line : Bor (List ℕ)) (command : Command) → Passes text lines left → TakesLine left (Some line) rest → IsLine line.now command → command ≢ Command.New → Passes text (lines ++ (line ∷ [])) rest
passes_more text left rest [] line command e taken is other = (rest, subst (λ xs. TakesLine xs (Some line) rest) e taken, (command, is, other), refl)
passes_more text left rest (first ∷ lines) line command (mid, first_taken, says, passes) taken is other =
    (mid, first_taken, says, passes_more mid left rest lines line command passes taken is other)

pub passed_none : (text : List ℕ) → PassesSome text text
passed_none text = ([], refl)

pub passed_more : (text left rest : List ℕ) (line : Bor (List ℕ)) (command : Command) → PassesSome text left → TakesLine left (Some line) rest → IsLine line.now command → command ≢ Command.New → PassesSome text rest
passed_more text left rest line command (lines, passes) taken is other = (lines ++ (line ∷ []), passes_more text left rest lines line command passes taken is other)

pub leaves_none : (text left rest : List ℕ) → PassesSome text left → TakesLine left None rest → Leaves text None rest
leaves_none text left rest passed (none, e) = (e, subst (λ xs. PassesSome text xs) (none ∙ sym e) passed)

pub leaves_some : (text left rest : List ℕ) (line : Bor (List ℕ)) → PassesSome text left → TakesLine left (Some line) rest → IsLine line.now Command.New → Leaves text (Some line) rest
leaves_some text left rest line passed taken new = (left, passed, taken, new)

passes_shorter : (text rest : List ℕ) (lines : List (Bor (List ℕ))) → Passes text lines rest → length rest ≤ length text
passes_shorter text rest [] e = let same = ap length e in omega (arith, same)
passes_shorter text rest (line ∷ lines) (left, taken, _, passes) =
    let less = shorter text line left taken in let rest_less = passes_shorter left rest lines passes in omega (arith, less, rest_less)

pub leaves_shorter : (text rest : List ℕ) (line : Bor (List ℕ)) → Leaves text (Some line) rest → length rest < length text
leaves_shorter text rest line (left, (lines, passes), taken, _) =
    let less = shorter left line rest taken in let left_less = passes_shorter text left lines passes in omega (arith, less, left_less)
