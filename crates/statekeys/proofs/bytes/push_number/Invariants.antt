-- What is still to be added is what is left.
use Rattle.std.proofs.Common.{◌≡◌, ◌++◌, ◌-◌}
use Rattle.statekeys.specs.Keys.{bytes_in, number_bytes}
use Rattle.statekeys.proofs.bytes.push_number.Given as goal

abbrev pub invariant-loop-round : goal.invariant-loop-round
invariant-loop-round l = l.out.items ++ bytes_in (9 - l.round) l.left ≡ l.fn.out.items ++ number_bytes l.fn.number
