-- What an argument represents whose name is beside the arguments.
use Rattle.std.specs.Prelude.{ℕ, List}
use Rattle.exectrace.specs.{declared.lines.ShortArg.ShortArg, Trace.Argument, Trace.Value, Trace.Quoted}
use Rattle.exectrace.specs.declared.lines.ShortArg.TheVariants as short

abbrev pub short_argument : List ℕ → ShortArg → Argument
short_argument name (short.Value n) = Value n
short_argument name short.Quoted = Quoted name
