use Rattle.std.proofs.Common.{◌≡◌, map, take, string_bytes}
use lib.Utf8.{encodes}
use Rattle.listing.specs.Lines.{drawing_of}
use Rattle.listing.proofs.drawn_line.Given as goal

abbrev pub invariant-loop-c : goal.invariant-loop-c
invariant-loop-c l = string_bytes l.s ≡ encodes (map drawing_of (take l.c-index l.line))
