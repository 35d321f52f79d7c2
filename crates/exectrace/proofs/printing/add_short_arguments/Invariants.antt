-- What holds in the loops of `add_short_arguments`.
use Rattle.std.proofs.Common.{take, map, flat_map}
use Rattle.exectrace.specs.{Sink.Adds, Trace.argument_text, Short.short_argument}
use Rattle.exectrace.proofs.printing.add_short_arguments.Given as goal

-- the arguments so far were added
abbrev pub invariant-loop-argument : goal.invariant-loop-argument
invariant-loop-argument g l = Adds (g.W.Sink.tape l.initial.out) (g.W.Sink.tape l.out) l.initial.line.items l.line.items (flat_map argument_text (map (short_argument l.quoted.bytes) (take l.argument-index l.arguments)))
