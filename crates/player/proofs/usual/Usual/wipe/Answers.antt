use Rattle.std.proofs.Common.{◌-◌, length, drop, sym, ap, ◌∙◌, arith}
use Rattle.player.specs.Untouched.{untouched, usual_size}
use Rattle.player.proofs.Laid.{unwritten, wiped_all}
use Rattle.player.proofs.usual.Usual.wipe.Goals as goal

pub wipe_front-requires : goal.wipe_front-requires
wipe_front-requires c =
    let x = c.args.self.now in
    let all = ap length c.as_mut_slice-bytes.ensures.value ∙ x.size in
    record {
      within = omega (arith, all, x.within);
      rest = ap (drop x.filled) c.as_mut_slice-bytes.ensures.value ∙ (x.rest ∙ ap (λ n. untouched (n - x.filled)) (sym all));
    }

pub invariant_of-self : goal.invariant_of-self
invariant_of-self c =
    let x = c.args.self.now in
    let l = unwritten usual_size _ (wiped_all _ _ x.bytes.items usual_size x.bytes.len c.wipe_front.ensures c.as_mut_slice-bytes.ensures.value x.size (omega arith)) in
    record { size = l.all; within = l.within; rest = l.rest }

pub returns-clause-bytes : goal.returns-clause-bytes
returns-clause-bytes c =
    let x = c.args.self.now in
    wiped_all _ _ x.bytes.items usual_size x.bytes.len c.wipe_front.ensures c.as_mut_slice-bytes.ensures.value x.size (omega arith)
