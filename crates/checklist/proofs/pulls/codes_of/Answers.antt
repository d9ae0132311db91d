use Rattle.std.proofs.Common.{ℕ, take, rules}
use Rattle.std.proofs.lemmas.Iterator.{YieldsList-from_slice, YieldsList-from_take, YieldsList-from_map}
use Rattle.std.proofs.lemmas.Iterator.Adapters.{items_from_extend}
use Rattle.std.proofs.lemmas.List.{map-id}
use Rattle.checklist.proofs.pulls.codes_of.Goals as goal

pub returns : goal.returns
returns c =
    let h = items_from_extend c.extend.result c.extend.ensures.ran
    (YieldsList-from_map _ (λ (x : ℕ). x) (YieldsList-from_take c.args.most (YieldsList-from_slice c.args.chars.now cc) cc) c.map.ensures.closure (λ x r q k. search rules)) in
    let same = map-id (take c.args.most c.args.chars.now) in
    search rules
