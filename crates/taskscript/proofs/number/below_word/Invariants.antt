-- What holds in the loops of `below_word`.
use Rattle.std.proofs.Common.{◌≡◌, ◌<◌, take}
use Rattle.std.specs.Str.Parse.{digits_value}
use Rattle.taskscript.proofs.number.below_word.Given as goal

abbrev pub invariant-loop-b : goal.invariant-loop-b
invariant-loop-b l = record {
  so_far : l.total ≡ digits_value l.radix (take l.b-index l.bytes);
  small : l.total < 4294967296;
}
