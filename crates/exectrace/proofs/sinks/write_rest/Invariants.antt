-- What holds in the loops of `write_rest`: writes these bytes, at least one, in as many writes as it needs, to a sink
-- whose last 16 writes did not all take none.
use Rattle.std.proofs.Common.{length, take, ◌-◌, ◌≡◌, ◌<◌, ◌≤◌, ◌+◌, ◌*◌}
use Rattle.std.specs.Io.KnownBytes.{Appends}
use Rattle.exectrace.specs.{Sink.empties, declared.sinks.SinkState.TheVariants.Good}
use Rattle.exectrace.proofs.sinks.write_rest.Given as goal

-- the bytes so far were taken, and the sink is open, and good at the end
abbrev pub invariant-loop-done : goal.invariant-loop-done
invariant-loop-done g l = record {
  in_range : l.done ≤ length l.bytes;
  took : Appends (g.W.Sink.tape l.initial.out).taken (g.W.Sink.tape l.out).taken (take l.done l.bytes);
  few_empty : empties (g.W.Sink.tape l.out).state < 16;
  good_at_end : length l.bytes ≤ l.done → (g.W.Sink.tape l.out).state ≡ Good;
}

-- a write that takes a byte may begin 16 empty ones anew
abbrev pub decreases-loop-done : goal.decreases-loop-done
decreases-loop-done g l = 17 * (length l.bytes - l.done) + (16 - empties (g.W.Sink.tape l.out).state)
