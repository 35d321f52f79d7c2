-- The proof of `add_arguments`.
use Rattle.exectrace.proofs.Pieces.{adds_none, adds_then, flat_map_mapped_next}
use Rattle.std.proofs.Common.{sym}
use Rattle.exectrace.specs.{Trace.argument_text, Shown.shown_argument}
use Rattle.exectrace.proofs.printing.add_arguments.Goals as goal

pub loop-argument-init : goal.loop-argument-init
loop-argument-init g c = adds_none _ _

pub loop-argument-preserved : goal.loop-argument-preserved
loop-argument-preserved g c = adds_then _ c.loop-argument.invariant c.add_argument.ensures (flat_map_mapped_next argument_text shown_argument _ _ c.argument-item.result c.loop-argument-test.true (sym c.argument-item.is))
