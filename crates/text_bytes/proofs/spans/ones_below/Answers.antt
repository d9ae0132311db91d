use Rattle.std.proofs.Common.{◌≡◌, ◌-◌, ◌*◌, ◌%◌, ◌^◌, bit_and, count_ones, ap, ◌∙◌, arith}
use Rattle.std.proofs.lemmas.Nat.{and_mask}
use Rattle.std.proofs.Math.Pow.{pow_mono}
use Rattle.std.proofs.Math.Nat.{mod-eq_of_lt}
use Rattle.text_bytes.proofs.spans.ones_below.Goals as goal

pub returns : goal.returns
returns c =
    let n = c.args.lanes in
    let low : 1 * 2 ^ n % 2 ^ 64 ≡ 2 ^ n = ap (λ m. m % 2 ^ 64) (omega arith) ∙ mod-eq_of_lt (omega (arith, pow_mono {i = n} {j = 16} c.requires)) in
    ap (λ m. count_ones (bit_and c.args.bits (m - 1))) low ∙ ap count_ones (and_mask c.args.bits n)
