use Rattle.std.proofs.Common.{refl, arith}
use Rattle.text_bytes.proofs.Places.{moved, none_ahead, step_ascii, step_first}
use Rattle.text_bytes.proofs.cursor.Cursor.first.Goals as goal

pub returns-then-place-text : goal.returns-then-place-text
returns-then-place-text c = let x = c.args.self.now in none_ahead x.text.now x.place (omega arith)

pub invariant_of-result : goal.invariant_of-result
invariant_of-result c =
    let x = c.args.self.now in
    let b = x.placed.boundary.0 in
    record { placed = moved _ _ _ x.placed (step_ascii _ _ c.from.result x.placed (omega arith) c.from.ensures (omega arith)).boundary }

pub returns-then-byte-lt128 : goal.returns-then-byte-lt128
returns-then-byte-lt128 c =
    let x = c.args.self.now in
    let b = x.placed.boundary.0 in
    record { text = refl; first = (step_ascii _ _ c.from.result x.placed (omega arith) c.from.ensures (omega arith)).first; onward = omega arith }

pub overflow_add-next-2 : goal.overflow_add-next-2
overflow_add-next-2 c =
    let x = c.args.self.now in
    let b = (step_first _ _ _ _ x.placed c.in_ok-c.ensures c.len_utf8.ensures.value).boundary.0 in
    omega arith

pub invariant_of-result-2 : goal.invariant_of-result-2
invariant_of-result-2 c =
    let x = c.args.self.now in
    record { placed = moved _ _ _ x.placed (step_first _ _ _ _ x.placed c.in_ok-c.ensures c.len_utf8.ensures.value).boundary }

pub returns : goal.returns
returns c =
    let x = c.args.self.now in
    let s = step_first _ _ _ _ x.placed c.in_ok-c.ensures c.len_utf8.ensures.value in
    record { text = refl; first = s.first; onward = omega (arith, c.len_utf8.ensures.lower_bound) }
