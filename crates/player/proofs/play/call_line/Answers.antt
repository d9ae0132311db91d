use Rattle.std.proofs.Common.{[], sym, ap}
use Rattle.protocol.specs.Answers.{answer_text, line_of}
use Rattle.player.proofs.Laid.{none_appended}
use Rattle.player.proofs.play.call_line.Goals as goal

pub returns-clause-line : goal.returns-clause-line
returns-clause-line g c =
    let made = c.answer_to-answer.ensures in
    let a = c.answer_to-answer.result.0 in
    let left = c.answer_to-answer.new.room in
    let none = none_appended left _ c.answer_to-answer.auto.room in (
      line_of (answer_text a []),
      a,
      left,
      c.push_answer.ensures,
      record { means = made.means; tells = ap (λ bytes. line_of (answer_text a bytes)) (sym none) },
    )
