-- What holds in the loops of `are_known`.
use Rattle.std.proofs.Common.{◌≡◌, drop, map}
use Rattle.script.specs.Names.{texts}
use Rattle.taskscript.specs.{Interrupting.softints_among, Lines.named_argument_view}
use Rattle.taskscript.proofs.Interrupts.{are_known}
use Rattle.taskscript.proofs.interrupting.are_known.Given as goal

abbrev pub invariant-loop-i : goal.invariant-loop-i
invariant-loop-i l =
    are_known (texts l.softints) (softints_among (drop l.i l.kinds) (map named_argument_view (drop l.i l.arguments)))
    ≡ are_known (texts l.softints) (softints_among l.kinds (map named_argument_view l.arguments))
