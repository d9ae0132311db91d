use Rattle.std.proofs.Common.{◌≡◌, ◌<◌, true, length, arith, rules}
use lib.Utf8.{scalar}
use Rattle.input.specs.Held.{scalars_set}
use Rattle.buffered.specs.RingLaws.{held_length}
use Rattle.buffered.proofs.Rings.{held_push}
use Rattle.buffered.proofs.ring.Ring.push.Goals as goal

pub invariant_of-self : goal.invariant_of-self
invariant_of-self c =
    let r = c.args.self.now in
    let s : scalar c.args.c ≡ true = search rules in
    record {
      characters = scalars_set r.places _ c.args.c s r.characters;
      inside = r.inside;
      room = omega (arith, c.requires, held_length r.places r.head r.len);
    }

pub returns : goal.returns
returns c =
    let r = c.args.self.now in
    let l : length r.places ≡ 16 = search rules in
    let free : r.len < 16 = omega (arith, c.requires, held_length r.places r.head r.len) in
    held_push r.places r.head r.len c.args.c l free
