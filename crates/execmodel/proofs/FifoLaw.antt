-- First in, first out: over every stretch of every run.
use Rattle.std.proofs.Common.{◌≡◌, ℕ, List, [], ◌++◌, refl, sym, ap, subst}
use Rattle.std.proofs.lemmas.Grind.{flat_map-append}
use Rattle.execlist.specs.Disciplines.{by_arrival}
use Rattle.script.specs.{File.MachineData, declared.event.Event.Event}
use Rattle.execmodel.specs.{State.Call, State.Memory, State.Mark, State.State, State.Outcome, State.on_schedule, State.booted, State.andthen, Ports.messages_of, Bodies.body_step, Step.switches, Step.ends, Step.starts, Step.events, Step.run, Marks.port_turn, Marks.turns_at_port, Laws.FirstInFirstOut, Requests.finishes}
use Rattle.scheduler.specs.Dispatch.{rescheduled}
use Rattle.execmodel.proofs.{Queues.Follows, Queues.IsOnce, Queues.follows_more, Queues.follows_once, Queues.in_order, WithoutFinishing.does_itself, WithoutFinishing.call_works, Stretches.Relation, Stretches.HoldsOfEach, Stretches.clock_gains, Stretches.of_starts, Stretches.of_events, LinesOf.body_alters, Posts.IsTidy, Asking.finishing, Asking.without_reply, RequestsAfter.Works, RequestsAfter.by_moves, RequestsAfter.by_asking, RequestsAfter.by_taking, Fifo.touched_follow, Fifo.moves_follow, Fifo.asked_follow, Fifo.taken_follow, NoStraysLaw.tidies, NoStraysLaw.rescheduled_tidy, NoStraysLaw.booted_tidy, NoStraysLaw.quietly, NoStraysLaw.switches_quiet}

-- the state stays in order, and each port follows its marks
abbrev Ports : Relation
Ports old marks new =
    IsTidy old
    → IsTidy new × ((port : ℕ) → Follows (messages_of port old.memory.heap) (turns_at_port port marks) (messages_of port new.memory.heap))

joined : (s : State) (some : List Mark) (r : State) (more : List Mark) (q : State) → Ports s some r → Ports r more q → Ports s (some ++ more) q
joined s some r more q first next tidy =
    let mid = first tidy in
    let end = next mid.0 in (
      end.0,
      λ port. subst (λ turns. Follows (messages_of port s.memory.heap) turns (messages_of port q.memory.heap))
          (sym (flat_map-append (port_turn port) some more))
          (follows_more (messages_of port s.memory.heap) (turns_at_port port some) (messages_of port r.memory.heap) (turns_at_port port more)
          (messages_of port q.memory.heap) (mid.1 port) (end.1 port)),
    )

called_follow : (t : ℕ) (call : Call) (s : State) (o : Outcome) → Works t call s o → IsTidy s
    → (port : ℕ) → Follows (messages_of port s.memory.heap) (turns_at_port port o.marks) (messages_of port o.state.memory.heap)
called_follow t call s o (by_moves makes same) tidy =
    moves_follow s.memory.regions t call s.memory.heap o.marks o.state.memory.heap makes.1 tidy.formed
called_follow t call s o (by_asking regions asks) tidy = asked_follow s o.marks o.state.memory.heap o.state.memory.timer.waiting asks tidy
called_follow t call s o (by_taking port request regions same marks heap lives) tidy = λ p.
    subst (λ h. Follows (messages_of p s.memory.heap) (turns_at_port p o.marks) (messages_of p h)) (sym heap)
    (subst (λ ms. Follows (messages_of p s.memory.heap) (turns_at_port p ms) (messages_of p (without_reply port request s.memory.heap))) (sym marks)
    (taken_follow port request s.memory.heap (lives tidy) p))

-- only the schedule changes
rescheduling : (s r : State) → r.memory ≡ s.memory → Ports s [] r
rescheduling s r same tidy = (rescheduled_tidy s r same tidy, λ port. ap (λ (m : Memory). messages_of port m.heap) same)

ports : HoldsOfEach Ports
unfolding ends
ports = record {
  interrupting = record {
    nothing = λ s tidy. (tidy, λ port. refl);
    joined = joined;
    commanding = λ name command s tidy. (
      tidies.interrupting.commanding name command s tidy,
      touched_follow s.memory.heap (body_step name command s).marks (body_step name command s).state.memory.heap (body_alters name command s).blocks,
    );
    pending = λ f s. rescheduling s _ refl;
    finishing = λ request s waits tidy. (
      tidies.interrupting.finishing request s waits tidy,
      asked_follow s _ (finishes request s).state.memory.heap (finishes request s).state.memory.timer.waiting (finishing request s waits).asks tidy,
    );
    looking = λ s tidy. (tidies.interrupting.looking s tidy, λ port. refl);
    ticking = λ s. rescheduling s _ refl;
    switching = λ s. quietly Ports s (switches s) (on_schedule (rescheduled by_arrival) s) (switches_quiet s) (rescheduling s _ refl);
  };
  adding = λ t s less. rescheduling s _ refl;
  calling = λ t call s runs is tidy. (
    tidies.calling t call s runs is tidy,
    called_follow t call s (does_itself t call s) (call_works t call s) tidy,
  );
  ending = λ t s runs. rescheduling s _ refl;
}

clocked : (s : State) → Ports s [] (clock_gains s)
clocked s tidy = (record { formed = tidy.formed; order = tidy.order }, λ port. refl)

run_ports : (machine : MachineData) (list : List Event) → Ports (booted machine) (run machine list).marks (run machine list).state
unfolding run andthen
run_ports machine list =
    joined (booted machine) (starts (booted machine)).marks (starts (booted machine)).state
    (events list (starts (booted machine)).state).marks (events list (starts (booted machine)).state).state
    (of_starts Ports ports (booted machine)) (of_events Ports ports clocked list (starts (booted machine)).state)

booted_empty : (machine : MachineData) (port : ℕ) → messages_of port (booted machine).memory.heap ≡ []
unfolding booted messages_of
booted_empty machine port = refl

pub first_in_first_out : FirstInFirstOut
first_in_first_out port machine before during is =
    let begun = run_ports machine before (booted_tidy machine is) in
    let old = (run machine before).state in
    let once = follows_once (messages_of port (booted machine).memory.heap) (turns_at_port port (run machine before).marks)
    (messages_of port old.memory.heap) (subst (λ q. IsOnce q) (sym (booted_empty machine port)) tt) (begun.1 port) in
    in_order (messages_of port old.memory.heap) (turns_at_port port (events during old).marks)
    (messages_of port (events during old).state.memory.heap) once ((of_events Ports ports clocked during old begun.0).1 port)
