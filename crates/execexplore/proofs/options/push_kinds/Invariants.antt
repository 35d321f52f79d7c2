-- What is left is still to be added.
use Rattle.std.proofs.Common.{◌≡◌, ◌++◌, drop, flat_map, string_bytes}
use Rattle.execexplore.specs.Reporting.{marked_kind}
use Rattle.execexplore.proofs.options.push_kinds.Given as goal

abbrev pub invariant-loop-kind : goal.invariant-loop-kind
invariant-loop-kind l = string_bytes l.out ++ flat_map marked_kind (drop l.kind-index l.kinds) ≡ string_bytes l.fn.out ++ flat_map marked_kind l.kinds
