use Rattle.text_bytes.proofs.Starting.{found_text, starts}
use Rattle.text_bytes.proofs.cursor.Cursor.start.Goals as goal

pub invariant_of-result : goal.invariant_of-result
invariant_of-result c =
    let told = c.in_ok-check_text.ensures in
    record { placed = starts c.args.text.now (told.agree.formed_text c.args.text.now (found_text c.args.text.now told.checked).formed) }
