-- What is left is still to be added.
use Rattle.std.proofs.Common.{◌≡◌, ◌++◌, drop, true}
use Rattle.wayreport.specs.Reports.{indented}
use Rattle.wayreport.proofs.text.push_indented.Given as goal

abbrev pub invariant-loop-byte : goal.invariant-loop-byte
invariant-loop-byte l = l.out.items ++ indented l.begins (drop l.byte-index l.text) ≡ l.fn.out.items ++ indented true l.text
