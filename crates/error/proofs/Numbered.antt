-- No refusal has the number of what is not refused.
use Rattle.std.proofs.Common.{◌≢◌, arith}
use Rattle.error.specs.Numbers.{kind_number, number}
use Rattle.error.specs.declared.FaultKind.{FaultKind}
use Rattle.error.specs.declared.FaultKind.TheVariants.{InputIo, InputDecoding}
use Rattle.error.specs.declared.Refusal.{Refusal}
use Rattle.error.specs.declared.Refusal.TheVariants.{TooLong, IllFormed, NotACharacter, NarrowWindow, CommentNotSeparated, BeyondRoom, RoomFull, Source}

kind_some : (kind : FaultKind) → kind_number kind ≢ 0
kind_some InputIo e = absurd (omega arith)
kind_some InputDecoding e = absurd (omega arith)

pub refusal_some : (refusal : Refusal) → (number refusal).0 ≢ 0
refusal_some TooLong e = absurd (omega arith)
refusal_some (IllFormed place) e = absurd (omega arith)
refusal_some NotACharacter e = absurd (omega arith)
refusal_some NarrowWindow e = absurd (omega arith)
refusal_some CommentNotSeparated e = absurd (omega arith)
refusal_some BeyondRoom e = absurd (omega arith)
refusal_some RoomFull e = absurd (omega arith)
refusal_some (Source fault) e = kind_some fault.kind e
