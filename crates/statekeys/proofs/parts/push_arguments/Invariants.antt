-- What is still to be added is what is left of the arguments.
use Rattle.std.proofs.Common.{◌≡◌, ◌++◌, drop, map}
use Rattle.exectrace.specs.Short.{short_argument}
use Rattle.statekeys.specs.Numbers.{argument_numbers}
use Rattle.statekeys.proofs.parts.push_arguments.Given as goal

abbrev pub invariant-loop-argument : goal.invariant-loop-argument
invariant-loop-argument l =
    l.numbers.items ++ argument_numbers (map (short_argument l.quoted.bytes) (drop l.argument-index l.arguments))
    ≡ l.fn.numbers.items ++ argument_numbers (map (short_argument l.quoted.bytes) l.arguments)
