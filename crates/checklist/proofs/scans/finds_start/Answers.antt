use Rattle.std.proofs.Common.{◌≤◌, false, get_or, drop, ap, ◌∙◌, arith}
use Rattle.std.specs.Result.{result_unwrap_or}
use Rattle.checklist.proofs.Starts.{told_or}
use Rattle.checklist.proofs.scans.finds_start.Goals as goal

pub returns : goal.returns
returns g c =
    let input = g.I.Input in
    let after = c.lookahead.new.self in
    let looks = c.lookahead.ensures.looks in
    let faithful = input.faithful after in
    let wide : 4 ≤ (input.view after).window = omega (arith, looks.wide) in
    ◌∙◌ {b = result_unwrap_or c.next_is_document_start.result false} c.unwrap_or.ensures
    (told_or _ _ (input.shown after) (λ n. get_or (drop c.args.place (input.view c.args.input.now).ahead) n 0) c.next_is_document_start.result wide
    (λ n h. faithful.at n (omega arith) ∙ ap (λ a. get_or a n 0) (looks.ahead ∙ c.skip_n.ensures.ahead)) faithful.marker c.next_is_document_start.ensures)
