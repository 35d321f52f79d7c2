-- What is still to be added is what is left of the list.
use Rattle.std.proofs.Common.{◌≡◌, ◌++◌, drop}
use Rattle.statekeys.specs.Numbers.{list_numbers}
use Rattle.statekeys.proofs.parts.push_words.Given as goal

abbrev pub invariant-loop-item : goal.invariant-loop-item
invariant-loop-item l = l.numbers.items ++ list_numbers (drop l.item-index l.list) ≡ l.fn.numbers.items ++ list_numbers l.list
