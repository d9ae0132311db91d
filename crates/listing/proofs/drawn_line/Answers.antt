use Rattle.std.proofs.Common.{◌<◌, length, string_bytes, ap, ◌∙◌, arith}
use Rattle.std.proofs.lemmas.List.{get_or_read}
use Rattle.listing.specs.Lines.{drawing_of}
use Rattle.listing.proofs.Steps.{drawn_more}
use Rattle.listing.proofs.drawn_line.Goals as goal

pub loop-c-preserved : goal.loop-c-preserved
loop-c-preserved c =
    let i = c.loop-c.c-index in
    let h : i < length c.args.line.now = omega arith in
    let item = get_or_read c.args.line.now i c.c-item.result h c.c-item.is 0 in
    drawn_more c.args.line.now (string_bytes c.loop-c.s) (string_bytes c.push.new.self) i c.drawn_char.result h
    (c.drawn_char.ensures ∙ ap drawing_of item) c.in_ok-push.ensures.bytes c.loop-c.invariant
