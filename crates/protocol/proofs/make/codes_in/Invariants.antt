use Rattle.std.proofs.Common.{vec_items}
use Rattle.protocol.specs.Words.{words_left}
use Rattle.protocol.proofs.Listing.{SoFar}
use Rattle.protocol.proofs.make.codes_in.Given as goal

abbrev pub invariant-loop-word : goal.invariant-loop-word
invariant-loop-word l = SoFar (vec_items l.codes) (words_left l.fn.words) (words_left l.word-iterator)
