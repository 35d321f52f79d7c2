-- What holds in the loops of `arguments_of`.
use Rattle.std.proofs.Common.{◌≡◌, drop, length, map}
use Rattle.taskscript.specs.{Lines.named_argument_view, Parsing.arguments_of}
use Rattle.taskscript.proofs.Arguments.{with_front}
use Rattle.taskscript.proofs.line.arguments_of.Given as goal

abbrev pub invariant-loop-i : goal.invariant-loop-i
invariant-loop-i l = record {
  counted : length l.arguments.items ≡ l.i;
  found : with_front (map named_argument_view l.arguments.items) (arguments_of (drop l.i l.kinds) (drop l.i (map (λ f. f.now) l.fields))) ≡ arguments_of l.kinds (map (λ f. f.now) l.fields);
}
