use Rattle.std.proofs.Common.{sym, subst}
use Rattle.utf8.specs.Checking.{FormedTo}
use Rattle.utf8.proofs.Texts.{formed_to, whole_to}
use Rattle.utf8.proofs.text.formed_end.Goals as goal

pub returns-in-Ok : goal.returns-in-Ok
returns-in-Ok c = whole_to c.args.bytes.now c.in-Ok.ensures.cases.1

pub returns-in-Err : goal.returns-in-Err
returns-in-Err c = subst (FormedTo c.args.bytes.now) (sym c.valid_up_to.ensures) (formed_to _ _ c.in-Err.ensures.cases.1)
