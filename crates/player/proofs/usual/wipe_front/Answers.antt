use Rattle.player.proofs.Laid.{wiped}
use Rattle.player.proofs.usual.wipe_front.Goals as goal

pub returns : goal.returns
returns c = wiped c.args.bytes.now c.wipe.new.bytes c.args.until c.requires.within c.requires.rest c.wipe.ensures
