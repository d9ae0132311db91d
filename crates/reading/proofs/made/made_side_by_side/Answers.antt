use Rattle.std.proofs.Common.{◌≡◌, [], Result, sym, ap, ◌∙◌}
use Rattle.std.specs.Result.{IsErrAnd}
use Rattle.std.proofs.lemmas.Result.{err_from_is_err_and}
use Rattle.error.specs.Numbers.{number, outcome}
use Rattle.error.specs.declared.Refusal.{Refusal}
use Rattle.reading.specs.SameReadings.{first, second}
use Rattle.reading.proofs.made.made_side_by_side.Goals as goal

-- a maker's refusal is handed on
handed : (r : Result (Unit {0}) Refusal) (refusal : Refusal) → IsErrAnd r (λ x. x ≡ refusal) → outcome (λ _. []) r ≡ number refusal
handed r refusal h = let p = err_from_is_err_and r h in ap (outcome (λ _. [])) p.1 ∙ ap number p.2

pub returns-in_err-left-clause-answers : goal.returns-in_err-left-clause-answers
returns-in_err-left-clause-answers g c = first c.in_err-left.field-0.0 c.in_err-left.ensures.answers (handed _ _ c.from_residual.ensures.1)

pub returns-in_err-right-clause-answers : goal.returns-in_err-right-clause-answers
returns-in_err-right-clause-answers g c =
    second c.in_err-right.field-0.0 c.in_ok-left.ensures.answers c.in_err-right.ensures.answers (handed _ _ c.from_residual-in_err-right.ensures.1)

pub returns-clause-beside : goal.returns-clause-beside
returns-clause-beside g c =
    let one = c.in_ok-left.ensures.fresh in
    let other = c.in_ok-right.ensures.fresh in
    let held = c.side_by_side_with-held.ensures in
    record {
      same = λ chars calls listed. held.same calls listed (one.all ∙ chars ∙ sym other.all);
      one = record { start = _; end = _; fresh = one; placed = g.L.Made.placed c.args.a; account = held.one.account };
      other = record { start = _; end = _; fresh = other; placed = g.R.Made.placed c.args.b; account = held.other.account };
    }
