-- The bytes of the first numbers are added.
use Rattle.std.proofs.Common.{◌≡◌, ◌++◌, take}
use Rattle.statekeys.specs.Keys.{key_bytes}
use Rattle.statekeys.proofs.bytes.push_bytes.Given as goal

abbrev pub invariant-loop-number : goal.invariant-loop-number
invariant-loop-number l = l.out.items ≡ l.fn.out.items ++ key_bytes (take l.number-index l.numbers)
