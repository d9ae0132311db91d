use Rattle.runs.proofs.plain.fetch_safe.Goals as goal

pub returns-then-in_flow : goal.returns-then-in_flow
returns-then-in_flow g c = simp c.if-in_flow.true c.fetch_run.ensures

pub returns-else-in_flow : goal.returns-else-in_flow
returns-else-in_flow g c = simp c.if-in_flow.false c.fetch_run-else-in_flow.ensures
