use Rattle.std.proofs.Common.{get_or, vec_items, sym, arith}
use Rattle.protocol.proofs.Spelling.{spelled_more, digits_at}
use Rattle.protocol.proofs.values.bytes_of.Goals as goal

pub returns-in-None : goal.returns-in-None
returns-in-None c bytes s =
    let pair = digits_at c.as_chunks.result.0.now c.args.word.now c.loop-high.high-index c.as_chunks.ensures.front (omega arith) in
    c.in-None.ensures (get_or bytes c.loop-high.high-index 0) (rw (pair.0, pair.1) (s.each c.loop-high.high-index (omega arith)))

pub loop-high-preserved : goal.loop-high-preserved
loop-high-preserved c =
    let pair = digits_at c.as_chunks.result.0.now c.args.word.now c.loop-high.high-index c.as_chunks.ensures.front (omega arith) in
    spelled_more c.args.word.now (vec_items c.loop-high.bytes) (vec_items c.push.new.self) c.loop-high.high-index c.in-Some.byte
    c.loop-high.invariant.0 c.in_ok-push-in-Some.ensures.items (rw (sym pair.0, sym pair.1) c.in-Some.ensures) c.loop-high.invariant.1
