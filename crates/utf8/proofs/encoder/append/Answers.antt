use Rattle.std.proofs.Common.{sym, ltb-true}
use Rattle.utf8.proofs.Rooms.{append_ascii}
use Rattle.utf8.proofs.encoder.append.Goals as goal

pub returns-then-filled-room-2 : goal.returns-then-filled-room-2
returns-then-filled-room-2 c = append_ascii c.args.room.now c.args.filled c.args.c (ltb-true _ _ (sym c.if-is_ascii.ensures)) c.if-filled-room-2.true
