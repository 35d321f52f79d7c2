-- The clock has counted the ticks of the events: nothing but a tick moves it.
use Rattle.std.proofs.Common.{◌≡◌, ℕ, zero, suc, ◌+◌, ◌*◌, ◌≤◌, Bool, true, false, List, [], ◌∷◌, refl, sym, ap, ◌∙◌, subst, arith, if◌then◌else◌, sum_by, add-mul}
use Rattle.std.proofs.lemmas.List.Sums.{sum_by-cons}
use Rattle.execlist.specs.Disciplines.{by_arrival}
use Rattle.softint.specs.{declared.source.Source.Source, declared.source.Source.TheVariants.Vertb}
use Rattle.script.specs.declared.event.Event.TheVariants.{Run, Tick, Irq}
use Rattle.script.specs.{declared.word.Word.Word, declared.event.Event.Event, Events.event_ticks, File.MachineData}
use Rattle.script.specs.declared.word.Word.TheVariants as group
use Rattle.execmodel.specs.{State.Call, State.Timer, State.State, State.Outcome, State.quiet, State.andthen, State.booted, State.on_schedule, Step.ends, Step.switches, Step.step, Step.steps, Step.request, Step.tick, Step.ticks, Step.event, Step.events, Step.starts, Step.run, Laws.TheClockCountsTicks}
use Rattle.scheduler.specs.Dispatch.{rescheduled}
use Rattle.execmodel.proofs.{Heaps.true_is_not_false, WithoutFinishing.word_itself, WithoutFinishing.word_keeps, Stopped.step_stopped, Stopped.request_stopped, Stretches.Relation, Stretches.HoldsOfEach, Stretches.clock_gains, Stretches.of_request, Stretches.of_step, Stretches.of_starts, LinesOf.body_alters, Asking.finishing, NoStraysLaw.quietly, NoStraysLaw.switches_quiet}

-- ---- but for ticks the clock is

-- the clock, and what it gains at a tick, are the same
abbrev Stands : Relation
Stands old marks new = (new.memory.timer.clock ≡ old.memory.timer.clock) × (new.memory.timer.tick_micros ≡ old.memory.timer.tick_micros)

pub word_stands : (word : Word) (t : ℕ) (call : Call) (s : State) → Stands s (word_itself word t call s).marks (word_itself word t call s).state
word_stands (group.Requests word) t call s =
    let same = word_keeps (group.Requests word) t call s in
    (ap (λ (x : State). x.memory.timer.clock) same, ap (λ (x : State). x.memory.timer.tick_micros) same)
word_stands word t call s =
    let same = word_keeps word t call s in
    (ap (λ (x : State). x.memory.timer.clock) same, ap (λ (x : State). x.memory.timer.tick_micros) same)

stands : HoldsOfEach Stands
unfolding ends
stands = record {
  interrupting = record {
    nothing = λ s. (refl, refl);
    joined = λ s some r more q first next. (next.0 ∙ first.0, next.1 ∙ first.1);
    commanding = λ name command s. (
      ap (λ (timer : Timer). timer.clock) (body_alters name command s).timer,
      ap (λ (timer : Timer). timer.tick_micros) (body_alters name command s).timer,
    );
    pending = λ f s. (refl, refl);
    finishing = λ request s waits. ((finishing request s waits).clock, (finishing request s waits).tick_micros);
    looking = λ s. (refl, refl);
    ticking = λ s. (refl, refl);
    switching = λ s. quietly Stands s (switches s) (on_schedule (rescheduled by_arrival) s) (switches_quiet s) (refl, refl);
  };
  adding = λ t s less. (refl, refl);
  calling = λ t call s runs is. word_stands call.word t call s;
  ending = λ t s runs. (refl, refl);
}

-- ---- that many ticks

-- The clock has gained that many ticks, unless an alert has stopped the machine; and it has not gained more. A machine
-- that still goes on went on before.
record Gains (n : ℕ) (s r : State) : Type 0 where
  micros : r.memory.timer.tick_micros ≡ s.memory.timer.tick_micros
  going : r.stopped ≡ false → r.memory.timer.clock ≡ s.memory.timer.clock + n * s.memory.timer.tick_micros
  most : r.memory.timer.clock ≤ s.memory.timer.clock + n * s.memory.timer.tick_micros
  before : r.stopped ≡ false → s.stopped ≡ false

gains_none : (s r : State) → (r.memory.timer.clock ≡ s.memory.timer.clock) × (r.memory.timer.tick_micros ≡ s.memory.timer.tick_micros)
    → (r.stopped ≡ false → s.stopped ≡ false) → Gains 0 s r
gains_none s r same before = record {
  micros = same.1;
  going = λ on. same.0 ∙ add_none s.memory.timer.clock s.memory.timer.tick_micros;
  most = let e = same.0 ∙ add_none s.memory.timer.clock s.memory.timer.tick_micros in omega (arith, e);
  before = before;
}
  where
    add_none : (clock micros : ℕ) → clock ≡ clock + 0 * micros
    add_none clock micros = omega arith

gains_more : (n m : ℕ) (s r q : State) → Gains n s r → Gains m r q → Gains (n + m) s q
gains_more n m s r q first next = record {
  micros = next.micros ∙ first.micros;
  going = λ on.
      let one = first.going (next.before on) in
      let two = next.going on ∙ ap (λ k. r.memory.timer.clock + m * k) first.micros in
      let sum = add-mul n m s.memory.timer.tick_micros in
      omega (arith, one, two, sum);
  most =
      let one = first.most in
      let two = subst (λ k. q.memory.timer.clock ≤ r.memory.timer.clock + m * k) first.micros next.most in
      let sum = add-mul n m s.memory.timer.tick_micros in
      omega (arith, one, two, sum);
  before = λ on. first.before (next.before on);
}

-- an action that leaves a stopped machine as it is
went_on : (next : State → Outcome) (s : State) → (s.stopped ≡ true → next s ≡ quiet s) → (next s).state.stopped ≡ false → s.stopped ≡ false
went_on next s stays on = tested s.stopped refl
  where
    tested : (b : Bool) → s.stopped ≡ b → s.stopped ≡ false
    tested true e = true_is_not_false (sym e ∙ sym (ap (λ (o : Outcome). o.state.stopped) (stays e)) ∙ on)
    tested false e = e

step_gains : (s : State) → Gains 0 s (step s).state
step_gains s = gains_none s (step s).state (of_step Stands stands s) (went_on step s (step_stopped s))

asked_gains : (source : Source) (s : State) → Gains 0 s (request source s).state
asked_gains source s = gains_none s (request source s).state (of_request Stands stands.interrupting source s) (went_on (request source) s (request_stopped source s))

tick_gains : (s : State) → Gains 1 s (tick s).state
unfolding tick
tick_gains s = tested s.stopped refl
  where
    once : (clock micros : ℕ) → clock + micros ≡ clock + 1 * micros
    once clock micros = omega arith

    most_once : (clock micros : ℕ) → clock ≤ clock + 1 * micros
    most_once clock micros = omega arith

    tested : (b : Bool) → s.stopped ≡ b → Gains 1 s (if b then quiet s else request Vertb (clock_gains s)).state
    tested true e = record {
      micros = refl;
      going = λ on. true_is_not_false (sym e ∙ on);
      most = most_once s.memory.timer.clock s.memory.timer.tick_micros;
      before = λ on. on;
    }
    tested false e =
        let same = of_request Stands stands.interrupting Vertb (clock_gains s) in
        let now = same.0 ∙ once s.memory.timer.clock s.memory.timer.tick_micros in
        record { micros = same.1; going = λ on. now; most = omega (arith, now); before = λ on. e }

steps_gain : (n : ℕ) (s : State) → Gains 0 s (steps n s).state
unfolding steps andthen
steps_gain zero s = gains_none s s (refl, refl) (λ on. on)
steps_gain (suc n) s = gains_more 0 0 s (steps n s).state (step (steps n s).state).state (steps_gain n s) (step_gains (steps n s).state)

ticks_gain : (n : ℕ) (s : State) → Gains n s (ticks n s).state
unfolding ticks andthen
ticks_gain zero s = gains_none s s (refl, refl) (λ on. on)
ticks_gain (suc n) s =
    let r = (ticks n s).state in
    let e : n + 1 ≡ suc n = omega arith in
    subst (λ k. Gains k s (tick r).state) e (gains_more n 1 s r (tick r).state (ticks_gain n s) (tick_gains r))

event_gains : (e : Event) (s : State) → Gains (event_ticks e) s (event e s).state
unfolding event
event_gains (Run n) s = steps_gain n s
event_gains (Tick n) s = ticks_gain n s
event_gains (Irq asks) s = asked_gains asks s

events_gain : (list : List Event) (s : State) → Gains (sum_by event_ticks list) s (events list s).state
unfolding events andthen
events_gain [] s = gains_none s s (refl, refl) (λ on. on)
events_gain (e ∷ rest) s =
    let r = (event e s).state in
    subst (λ n. Gains n s (events rest r).state) (sym (sum_by-cons event_ticks e rest))
    (gains_more (event_ticks e) (sum_by event_ticks rest) s r (events rest r).state (event_gains e s) (events_gain rest r))

-- ---- every run

started_clock : (machine : MachineData) → Stands (booted machine) (starts (booted machine)).marks (starts (booted machine)).state
started_clock machine = of_starts Stands stands (booted machine)

pub the_clock_counts_ticks : TheClockCountsTicks
unfolding run andthen booted
the_clock_counts_ticks machine list is =
    let s = (starts (booted machine)).state in
    let begun = started_clock machine in
    let gains = events_gain list s in
    let clock : s.memory.timer.clock + sum_by event_ticks list * s.memory.timer.tick_micros ≡ sum_by event_ticks list * machine.tick_micros =
    ap (λ c. c + sum_by event_ticks list * s.memory.timer.tick_micros) begun.0 ∙ ap (λ k. 0 + sum_by event_ticks list * k) begun.1
    ∙ from_none (sum_by event_ticks list * machine.tick_micros) in
    record {
      ticks = gains.micros ∙ begun.1;
      going = λ on. gains.going on ∙ clock;
      stopped = let most = gains.most in omega (arith, most, clock);
    }
  where
    from_none : (n : ℕ) → 0 + n ≡ n
    from_none n = omega arith
