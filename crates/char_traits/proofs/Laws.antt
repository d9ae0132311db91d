-- How the classes lie to each other.
use Rattle.std.proofs.Common.{arith}
use Rattle.std.proofs.lemmas.Bool.Decides.{nat_tests}
use Rattle.char_traits.specs.Ties.{Ties}

pub ties : Ties
ties =
    record {
      break_breakz = λ c h. grind (arith, nat_tests);
      z_breakz = λ c h. grind (arith, nat_tests);
      break_printable = λ c h. grind (arith, nat_tests);
      blank_non_break = λ c h. grind (arith, nat_tests);
      digit_hex = λ c h. grind (arith, nat_tests);
      hex_word = λ c h. grind (arith, nat_tests);
      word_alpha = λ c h. grind (arith, nat_tests);
      alpha_uri = λ c h. grind (arith, nat_tests);
      uri_non_space = λ c h. grind (arith, nat_tests);
      tag_anchor = λ c h. grind (arith, nat_tests);
      flow_non_space = λ c h. grind (arith, nat_tests);
      non_space_non_break = λ c h. grind (arith, nat_tests);
      non_break_printable = λ c h. grind (arith, nat_tests);
      blank_breakz = λ c h. grind (arith, nat_tests);
      non_break_breakz = λ c h. grind (arith, nat_tests);
      non_space_blank_or_breakz = λ c h. grind (arith, nat_tests);
      alpha_flow = λ c h. grind (arith, nat_tests);
      anchor_flow = λ c h. grind (arith, nat_tests);
      z_printable = λ c h. grind (arith, nat_tests);
      bom_non_break = λ c h. grind (arith, nat_tests);
    }
