-- How the public calls follow from what the machine does without its failure to write.
use Rattle.std.proofs.Common.{◌≡◌, ℕ, ◌+◌, Bool, true, false, not, refl, ap, sym, ◌∙◌, arith, List, Result, Ok, Err, IsOk}
use Rattle.exectrace.specs.{Sink.Tape, declared.sinks.SinkState.TheVariants.Good, declared.sinks.WriteFault.WriteFault}
use Rattle.exectrace.proofs.Pieces.{puts_written}
use Rattle.exectrace.specs.Hearing.{Hearing}
use Rattle.exectrace.specs.Printing.{is_good, printing}
use Rattle.script.specs.{File.MachineData, declared.event.Event.Event}
use Rattle.taskscript.specs.{declared.fault.FileFault.FileFault, declared.fault.EventFault.EventFault}
use Rattle.execmodel.specs.{State.State, State.Outcome, State.andthen, State.booted, Step.starts, Step.events, Step.run}
use Rattle.execsim.specs.Headline.{Shown, Acts, Finishes, Simulates, flow_of, end_of, end_for, ended}
use Rattle.execsim.specs.{Agreement.Seen, Agreement.Agrees, Agreement.FollowsWhileGood, declared.machine.Flow.Flow, Reached.IsReached, Time.HasTimeFor, Time.IsKnown}
use Rattle.execsim.proofs.Clock.{Gains, time_left}

pub acts_by : {next : State → Outcome} {old new : Shown} {a b : Tape} {result : Result Flow WriteFault}
    → FollowsWhileGood printing next old.seen new.seen a b → a.state ≡ Good → Finishes new.seen.stopped new.failed b result → Acts next old new a b result
acts_by {result = result} follows good finishes = record {
  agrees = λ s e whole. follows.agrees s e (ap is_good (finishes.written.0 whole));
  writes = λ s e. puts_written result (follows.prints s e) good finishes.written;
  going = finishes.going;
  failing = finishes.failing;
}

-- a machine that has not failed shows a state that it comes to by an action, if it showed one before
pub known_after_action : {next : State → Outcome} {m n : Seen} {failed : Bool} {a b : Tape} {result : Result Flow WriteFault}
    → ((s : State) → IsReached s → IsReached (next s).state)
    → IsKnown m → FollowsWhileGood printing next m n a b → Finishes n.stopped failed b result → failed ≡ false → IsKnown n
known_after_action {next} {m} {n} {failed} {a} {b} {result} reaches known follows finishes going = by_result result finishes
  where
    by_result : (result : Result Flow WriteFault) → Finishes n.stopped failed b result → IsKnown n
    by_result (Ok flow) finishes = record {
      state = (next known.state).state;
      agrees = follows.agrees known.state known.agrees (ap is_good (finishes.written.0 refl));
      reached = reaches known.state known.reached;
    }
    by_result (Err why) finishes = let bad : true ≡ false = sym finishes.failing ∙ going in absurd cc

-- who listens is good, if the answer is not that it is not
pub still_good : (b good : Bool) → b ≡ good → not b ≡ false → good ≡ true
still_good true good is going = sym is
still_good false good is going = let bad : true ≡ false = going in cc

-- a machine shows a state that it comes to by an action, if it showed one before and is listened to
pub known_after : {H : Hearing} {next : State → Outcome} {m n : Seen} {a b : H.Told}
    → ((s : State) → IsReached s → IsReached (next s).state) → IsKnown m → FollowsWhileGood H next m n a b → H.good b ≡ true → IsKnown n
known_after {H} {next} {m} {n} {a} {b} reaches known follows good = record {
  state = (next known.state).state;
  agrees = follows.agrees known.state known.agrees good;
  reached = reaches known.state known.reached;
}

-- of the time that a machine has, an action that was written whole takes no more than what it brings of ticks
pub time_after : {next : State → Outcome} {m n : Seen} {failed : Bool} {a b : Tape} {result : Result Flow WriteFault} (spent : ℕ)
    → ((s : State) → Gains spent s (next s).state) → ((s : State) → IsReached s → IsReached (next s).state)
    → IsKnown m → FollowsWhileGood printing next m n a b → Finishes n.stopped failed b result
    → IsOk result → (ticks : ℕ) → HasTimeFor (spent + ticks) m → HasTimeFor ticks n
time_after spent gains reaches known follows finishes whole ticks enough =
    (time_left spent ticks (spent + ticks) (omega arith) gains reaches (λ good. record { known = known; time = enough }) follows (ap is_good (finishes.written.0 whole))).time

end-flow : (b : Bool) → end_for (flow_of b) ≡ end_of b
end-flow true = refl
end-flow false = refl

-- the whole run of a machine that was booted from its file
pub simulates : {old new : Shown} {a b : Tape} (file : Result MachineData FileFault) (script : Result (List Event) EventFault) (machine : MachineData) (list : List Event)
    (result : Result Flow WriteFault) → file ≡ Ok machine → script ≡ Ok list → Agrees old.seen (booted machine)
    → Acts (andthen starts (events list)) old new a b result → Simulates file script a b (ended result)
unfolding run
simulates file script machine list (Ok flow) reads_file reads_events agrees acts = record {
  machine = machine;
  events = list;
  reads_file = reads_file;
  reads_events = reads_events;
  writes = acts.writes (booted machine) agrees;
  ends = ap end_for acts.going.0 ∙ end-flow _ ∙ ap end_of (acts.agrees (booted machine) agrees refl).stopped;
}
simulates file script machine list (Err why) reads_file reads_events agrees acts = record {
  machine = machine;
  events = list;
  reads_file = reads_file;
  reads_events = reads_events;
  writes = acts.writes (booted machine) agrees;
}
