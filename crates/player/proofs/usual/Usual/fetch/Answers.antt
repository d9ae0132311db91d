use Rattle.std.proofs.Common.{length, drop, ap, ◌∙◌, arith}
use Rattle.player.specs.Untouched.{usual_size}
use Rattle.player.proofs.Laid.{fetched_all}
use Rattle.player.proofs.usual.Usual.fetch.Goals as goal

pub invariant_of-self : goal.invariant_of-self
invariant_of-self g c =
    let bytes = c.wipe.new.self.bytes in
    let (same, l) = fetched_all _ _ bytes.items usual_size bytes.len _ c.fetch_line-pushed.ensures.lays c.as_mut_slice-room.ensures.value c.wipe.ensures.bytes (omega arith) in
    record { size = ap length same ∙ l.all; within = l.within; rest = ap (drop c.fetch_line-pushed.result.2) same ∙ l.rest }
