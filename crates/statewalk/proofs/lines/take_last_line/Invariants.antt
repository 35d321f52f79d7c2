-- What is left is still to be taken.
use Rattle.std.proofs.Common.{◌≡◌, drop}
use Rattle.closure.specs.Closed.{last_from, last_line}
use Rattle.statewalk.proofs.lines.take_last_line.Given as goal

abbrev pub invariant-loop-byte : goal.invariant-loop-byte
invariant-loop-byte l = last_from l.line.items l.ended (drop l.byte-index l.text) ≡ last_line l.text
