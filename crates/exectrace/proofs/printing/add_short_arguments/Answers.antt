-- The proof of `add_short_arguments`.
use Rattle.exectrace.proofs.Pieces.{adds_none, adds_then, flat_map_mapped_more}
use Rattle.exectrace.specs.{Trace.argument_text, Short.short_argument}
use Rattle.exectrace.proofs.printing.add_short_arguments.Goals as goal

pub loop-argument-init : goal.loop-argument-init
loop-argument-init g c = adds_none _ _

pub loop-argument-preserved : goal.loop-argument-preserved
loop-argument-preserved g c = adds_then _ c.loop-argument.invariant c.add_short.ensures (flat_map_mapped_more argument_text (short_argument c.args.quoted.now.bytes) _ _ _ c.loop-argument-test.true)
