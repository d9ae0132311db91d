use Rattle.std.proofs.Common.{Some}
use Rattle.protocol.proofs.Words.{takes_word}
use Rattle.protocol.proofs.Listing.{code_more, code_none}
use Rattle.protocol.proofs.make.codes_in.Goals as goal

-- src/make.rt:68:5
pub loop-word-preserved : goal.loop-word-preserved
loop-word-preserved c =
    let taken = takes_word c.loop-word.word-iterator c.next.new.self (Some c.in-Some.word) c.in-Some.ensures.steps in
    code_more _ _ _ _ _ _ _ c.loop-word.invariant taken c.in-Some-code_of.ensures c.in_ok-push-in-Some-code_of.ensures.items

-- src/make.rt:71:21
pub returns-in-None-code_of : goal.returns-in-None-code_of
returns-in-None-code_of c =
    let taken = takes_word c.loop-word.word-iterator c.next.new.self (Some c.in-Some.word) c.in-Some.ensures.steps in
    code_none _ _ _ _ _ c.loop-word.invariant taken c.in-None-code_of.ensures
