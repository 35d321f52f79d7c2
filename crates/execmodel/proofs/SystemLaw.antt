-- System time goes with the clock, but if a request sets it.
use Rattle.std.proofs.Common.{[], ◌⊎◌, inl, inr, ◌≡◌, ℕ, ◌+◌, Bool, true, false, Option, None, Some, refl, sym, ap, ◌∙◌, subst, arith, pos, ◌-ℤ◌, if◌then◌else◌}
use Rattle.std.proofs.lemmas.Int.{ints}
use Rattle.execlist.specs.Disciplines.{by_arrival}
use Rattle.softint.specs.declared.source.Source.TheVariants.{Vertb}
use Rattle.iorequest.specs.Request.{sets_time, time_of}
use Rattle.script.specs.{declared.word.Word.Word, declared.word.requests.RequestWord.RequestWord}
use Rattle.script.specs.declared.word.Word.TheVariants as group
use Rattle.script.specs.declared.word.requests.RequestWord.TheVariants as requests
use Rattle.timerdev.specs.Timing.{offset}
use Rattle.execmodel.specs.{State.Call, State.Timer, State.State, State.quiet, State.andthen, State.on_schedule, Calls.argument, Calls.next_call, Pending.next_softint, Requests.request_of, Requests.finishes_set, Requests.does_requests, Step.switches, Step.settle, Step.ends, Step.call_step, Step.task_step, Step.softint_or_task_step, Step.step_action, Step.acts, Step.step, Step.tick, Step.request, Step.run, Laws.Action as Act, Laws.OneStep, Laws.OneTick, Laws.OneRequest, Laws.outcome_of, Laws.IsSetting, Laws.SystemTimeGoesWithTheClock}
use Rattle.scheduler.specs.Dispatch.{rescheduled}
use Rattle.execmodel.proofs.Stretches.{Relation, HoldsOfInterrupts, clock_gains, of_softint, of_set, of_settle, of_request}
use Rattle.execmodel.proofs.{Setting.Leaves, Setting.system_of, Words.requests_facts, WithoutFinishing.word_itself, WithoutFinishing.word_keeps, WithoutFinishing.ends_followed, LinesOf.body_alters, Asking.finishing, ClockLaw.word_stands, NoStraysLaw.quietly, NoStraysLaw.switches_quiet}

-- ---- but for ticks, and requests that set it, system time is

-- the clock and system time are the same
abbrev Stands : Relation
Stands old marks new = (new.memory.timer.clock ≡ old.memory.timer.clock) × (system_of new ≡ system_of old)

stands : HoldsOfInterrupts Stands
stands = record {
  nothing = λ s. (refl, refl);
  joined = λ s some r more q first next. (next.0 ∙ first.0, next.1 ∙ first.1);
  commanding = λ name command s. (
    ap (λ (timer : Timer). timer.clock) (body_alters name command s).timer,
    ap (λ (timer : Timer). timer.system) (body_alters name command s).timer,
  );
  pending = λ f s. (refl, refl);
  finishing = λ request s waits. ((finishing request s waits).clock, (finishing request s waits).system);
  looking = λ s. (refl, refl);
  ticking = λ s. (refl, refl);
  switching = λ s. quietly Stands s (switches s) (on_schedule (rescheduled by_arrival) s) (switches_quiet s) (refl, refl);
}

-- ---- a call on requests

-- ---- any call

-- what a call does to system time
record SetsBy (call : Call) (s : State) (system : ℕ) : Type 0 where
  begins : (call.word ≡ group.Requests requests.SendIO) ⊎ (call.word ≡ group.Requests requests.DoIO)
  sets : sets_time (request_of (argument 0 call) s.memory.heap) ≡ true
  becomes : system ≡ time_of (request_of (argument 0 call) s.memory.heap)

named : (word : RequestWord) (call : Call) → call.word ≡ group.Requests word → (word ≡ requests.SendIO) ⊎ (word ≡ requests.DoIO)
    → (call.word ≡ group.Requests requests.SendIO) ⊎ (call.word ≡ group.Requests requests.DoIO)
named word call is (inl e) = inl (is ∙ ap (λ w. group.Requests w) e)
named word call is (inr e) = inr (is ∙ ap (λ w. group.Requests w) e)

by_requests : (word : RequestWord) (call : Call) (s r : State) → call.word ≡ group.Requests word → Leaves word (argument 0 call) s r
    → (system_of r ≡ system_of s) ⊎ SetsBy call s (system_of r)
by_requests word call s r is (inl same) = inl same
by_requests word call s r is (inr sets) = inr (record { begins = named word call is sets.begins; sets = sets.sets; becomes = sets.becomes })

word_leaves : (word : Word) (t : ℕ) (call : Call) (s : State) → call.word ≡ word
    → (system_of (word_itself word t call s).state ≡ system_of s) ⊎ SetsBy call s (system_of (word_itself word t call s).state)
word_leaves (group.Requests word) t call s is =
    by_requests word call s (does_requests word t call s).state is ((requests_facts word t call s).blocks is).1
word_leaves word t call s is = inl (ap system_of (word_keeps word t call s))

-- ---- every action

-- the clock stays, and system time does, or the running task sets it
record Goes (s r : State) : Type 0 where
  clock : r.memory.timer.clock ≡ s.memory.timer.clock
  system : (system_of r ≡ system_of s) ⊎ IsSetting s (system_of r)

same_goes : (s r : State) → Stands s [] r → Goes s r
same_goes s r same = record { clock = same.0; system = inl same.1 }

-- what leaves both as they are may follow
goes_on : (s r q : State) → Goes s r → Stands r [] q → Goes s q
goes_on s r q goes same = record {
  clock = same.0 ∙ goes.clock;
  system = subst (λ n. (n ≡ system_of s) ⊎ IsSetting s n) (sym same.1) goes.system;
}

called : (t : ℕ) (call : Option Call) (s : State) → next_softint s ≡ None → s.schedule.running ≡ Some t → next_call t s.scripts ≡ call
    → Goes s (call_step t call s).state
unfolding ends
called t None s first runs calls = record { clock = refl; system = inl refl }
called t (Some call) s first runs calls =
    ends_followed (λ r. Goes s r) (λ r goes. goes_on s r (finishes_set r).state goes (of_set Stands stands r)) t call s
    (record {
      clock = (word_stands call.word t call s).0;
      system = elim (word_leaves call.word t call s refl) [
        | inl same ↦ inl same
        | inr sets ↦ inr (record {
          t = t;
          call = call;
          calls = record { first = first; runs = runs; calls = calls };
          begins = sets.begins;
          sets = sets.sets;
          becomes = sets.becomes;
        })
      ];
    })

tried : (running : Option ℕ) (s : State) → next_softint s ≡ None → s.schedule.running ≡ running → Goes s (task_step running s).state
tried None s first runs = record { clock = refl; system = inl refl }
tried (Some t) s first runs = called t (next_call t s.scripts) s first runs refl

chosen : (found : Option ℕ) (s : State) → next_softint s ≡ found → Goes s (softint_or_task_step found s).state
chosen None s first = tried s.schedule.running s first refl
chosen (Some i) s first = same_goes s _ (of_softint Stands stands i s)

acted : (test : Bool) (s : State) → Goes s (if test then quiet s else step_action s).state
unfolding step_action
acted true s = record { clock = refl; system = inl refl }
acted false s = chosen (next_softint s) s refl

stepped : (s : State) → Goes s (step s).state
unfolding step acts andthen
stepped s = goes_on s (acts s).state (settle (acts s).state).state (acted s.stopped s) (of_settle Stands stands (acts s).state)

-- if both are the same, so is what one is ahead of the other
same_offset : (s r : State) → r.memory.timer.clock ≡ s.memory.timer.clock → system_of r ≡ system_of s
    → offset r.memory.timer ≡ offset s.memory.timer
same_offset s r clock system = ap (λ k. pos (system_of r) -ℤ pos k) clock ∙ ap (λ k. pos k -ℤ pos s.memory.timer.clock) system

gained : (system clock micros : ℕ) → pos (system + micros) -ℤ pos (clock + micros) ≡ pos system -ℤ pos clock
gained system clock micros = omega (arith, ints)

tick_offset : (s : State) → offset (tick s).state.memory.timer ≡ offset s.memory.timer
unfolding tick
tick_offset s = tested s.stopped
  where
    tested : (b : Bool) → offset (if b then quiet s else request Vertb (clock_gains s)).state.memory.timer ≡ offset s.memory.timer
    tested true = refl
    tested false =
        let same = of_request Stands stands Vertb (clock_gains s) in
        same_offset (clock_gains s) (request Vertb (clock_gains s)).state same.0 same.1
        ∙ gained s.memory.timer.system s.memory.timer.clock s.memory.timer.tick_micros

at_action : (action : Act) (s : State)
    → (offset (outcome_of action s).state.memory.timer ≡ offset s.memory.timer)
    ⊎ ((action ≡ OneStep) × IsSetting s (system_of (outcome_of action s).state))
at_action OneStep s =
    let goes = stepped s in
    elim goes.system [ inl same ↦ inl (same_offset s (step s).state goes.clock same) | inr sets ↦ inr (refl, sets) ]
at_action OneTick s = inl (tick_offset s)
at_action (OneRequest asks) s =
    let same = of_request Stands stands asks s in inl (same_offset s (request asks s).state same.0 same.1)

pub system_time_goes_with_the_clock : SystemTimeGoesWithTheClock
system_time_goes_with_the_clock machine list action is = at_action action (run machine list).state
