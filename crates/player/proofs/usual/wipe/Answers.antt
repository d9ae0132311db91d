use Rattle.std.proofs.Common.{◌≡◌, ℕ, ◌<◌, length, slice_index, rules}
use Rattle.std.proofs.lemmas.List.{places}
use Rattle.player.proofs.Laid.{all_untouched}
use Rattle.player.proofs.usual.wipe.Goals as goal

pub returns : goal.returns
returns c =
    let bytes = c.fill.new.self in
    let size = length c.args.bytes.now in
    let long : length bytes ≡ size = search rules in
    let each : (k : ℕ) → k < size → slice_index bytes k ≡ 0xEE = search (rules, places) in
    all_untouched bytes size long each
