-- A printer hears what it puts to its sink: the bytes of the lines, all of them, or a part and then nothing.
use Rattle.std.specs.Prelude.{◌≡◌, ◌≢◌, Bool, true, false, List, [], ◌++◌, flat_map}
use Rattle.std.proofs.Common.{ap, sym, ◌∙◌}
use Rattle.std.proofs.lemmas.Grind.{flat_map-append}
use Rattle.exectrace.specs.{Sink.Tape, Sink.Puts, declared.sinks.SinkState.SinkState, Trace.TraceLine, Trace.printed, Trace.printed_line}
use Rattle.exectrace.specs.declared.sinks.SinkState.TheVariants.{Good, Empty, Failed}
use Rattle.exectrace.specs.Putting.{puts_none, puts_nothing, puts_then}
use Rattle.exectrace.specs.Hearing.{Hearing}

abbrev pub is_good : SinkState → Bool
is_good Good = true
is_good (Empty n) = false
is_good Failed = false

pub bad : (state : SinkState) → is_good state ≡ false → state ≢ Good
bad state is good = let e : true ≡ false = ap is_good (sym good) ∙ is in cc

abbrev pub printing : Hearing
printing = record {
  Told = Tape;
  good = λ t. is_good t.state;
  hears = λ a b lines. Puts a b (printed lines);
  none = λ a. puts_none a;
  both = λ a b c xs ys p q. puts_then _ p q (flat_map-append printed_line xs ys);
  deaf = λ a b xs is p. p.afterwards (bad a.state is);
  ignores = λ a xs is. puts_nothing _ (bad a.state is);
}
