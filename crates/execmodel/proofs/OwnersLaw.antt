-- Owners and idle semaphores, over every run.
use Rattle.std.proofs.Common.{◌⊎◌, inl, inr, ◌≡◌, ℕ, Bool, true, false, Option, None, Some, refl, sym, ap, ◌∙◌, subst, if◌then◌else◌}
use Rattle.execlist.specs.{Lists.is_at, Disciplines.by_arrival}
use Rattle.memlist.proofs.Answered.{nat_eq-other, cases_eq}
use Rattle.script.specs.File.{MachineData}
use Rattle.execmodel.specs.{State.Call, State.State, State.Outcome, State.Memory, State.quiet, State.booted, State.andthen, State.on_schedule, Calls.next_call, Pending.next_softint, Bodies.body_step, Objects.object_at, Semaphores.sem_of, Semaphores.waiters_of, Step.switches, Step.settle, Step.ends, Step.call_step, Step.task_step, Step.softint_or_task_step, Step.step_action, Step.acts, Step.step, Step.tick, Step.starts, Step.run, Laws.Action, Laws.OneStep, Laws.OneTick, Laws.OneRequest, Laws.outcome_of, Laws.IsLastRelease, Laws.OwnersChangeAtTheLastRelease, Laws.FreeSemaphoresHaveNoWaiters, Requests.finishes}
use Rattle.scheduler.specs.Dispatch.{rescheduled}
use Rattle.execmodel.proofs.Stretches.{Relation, HoldsOfInterrupts, HoldsOfEach, of_softint, of_set, of_settle, of_request, ticked, of_starts, of_events}
use Rattle.execmodel.proofs.Owners.{AllIdle, Owns, owner_in, touched_idle, moves_idle, asked_idle, taken_idle, touched_own, moves_own, asked_own, taken_own}
use Rattle.execmodel.proofs.{Heaps.true_is_not_false, WithoutFinishing.does_itself, WithoutFinishing.ends_followed, WithoutFinishing.call_works, LinesOf.body_alters, Posts.IsTidy, Asking.finishing, RequestsAfter.Works, RequestsAfter.by_moves, RequestsAfter.by_asking, RequestsAfter.by_taking, NoStraysLaw.quietly, NoStraysLaw.switches_quiet, NoStraysLaw.tidy_in_every_state}

-- ---- nobody waits for a free semaphore

abbrev IdleStays : Relation
IdleStays old marks new = AllIdle old.memory.heap → AllIdle new.memory.heap

pub called_idle : (t : ℕ) (call : Call) (s : State) (o : Outcome) → Works t call s o → AllIdle s.memory.heap → AllIdle o.state.memory.heap
called_idle t call s o (by_moves makes same) idle = moves_idle s.memory.regions t call s.memory.heap o.marks o.state.memory.heap makes.1 idle
called_idle t call s o (by_asking regions asks) idle = asked_idle s o.marks o.state.memory.heap o.state.memory.timer.waiting asks idle
called_idle t call s o (by_taking port request regions same marks heap lives) idle =
    subst (λ h. AllIdle h) (sym heap) (taken_idle port request s.memory.heap idle)

idle_stays : HoldsOfEach IdleStays
unfolding ends
idle_stays = record {
  interrupting = record {
    nothing = λ s idle. idle;
    joined = λ s some r more q first next idle. next (first idle);
    commanding = λ name command s idle.
        touched_idle s.memory.heap (body_step name command s).marks (body_step name command s).state.memory.heap (body_alters name command s).blocks idle;
    pending = λ f s idle. idle;
    finishing = λ request s waits.
        asked_idle s _ (finishes request s).state.memory.heap (finishes request s).state.memory.timer.waiting (finishing request s waits).asks;
    looking = λ s idle. idle;
    ticking = λ s idle. idle;
    switching = λ s. quietly IdleStays s (switches s) (on_schedule (rescheduled by_arrival) s) (switches_quiet s) (λ idle. idle);
  };
  adding = λ t s less idle. idle;
  calling = λ t call s runs is. called_idle t call s (does_itself t call s) (call_works t call s);
  ending = λ t s runs idle. idle;
}

booted_idle : (machine : MachineData) → AllIdle (booted machine).memory.heap
unfolding booted
booted_idle machine a = λ e. refl

pub free_semaphores_have_no_waiters : FreeSemaphoresHaveNoWaiters
unfolding run andthen sem_of waiters_of
free_semaphores_have_no_waiters semaphore machine list is =
    of_events IdleStays idle_stays (λ s idle. idle) list (starts (booted machine)).state
    (of_starts IdleStays idle_stays (booted machine) (booted_idle machine)) semaphore

-- ---- owners

-- the owner at an address stays
abbrev Kept : ℕ → Relation
Kept a old marks new = owner_in (object_at a new.memory.heap) ≡ owner_in (object_at a old.memory.heap)

-- no interrupt changes an owner, and no switch
kept : (a : ℕ) → HoldsOfInterrupts (Kept a)
kept a = record {
  nothing = λ s. refl;
  joined = λ s some r more q first next. next ∙ first;
  commanding = λ name command s.
      touched_own s.memory.heap (body_step name command s).marks (body_step name command s).state.memory.heap (body_alters name command s).blocks a;
  pending = λ f s. refl;
  finishing = λ request s waits.
      asked_own s _ (finishes request s).state.memory.heap (finishes request s).state.memory.timer.waiting (finishing request s waits).asks a;
  looking = λ s. refl;
  ticking = λ s. refl;
  switching = λ s. quietly (Kept a) s (switches s) (on_schedule (rescheduled by_arrival) s) (switches_quiet s) refl;
}

-- what an action does to the owner at an address
Changes : (a : ℕ) (s : State) (heap : Memory) → Type 0
Changes a s memory =
    (owner_in (object_at a memory.heap) ≡ owner_in (object_at a s.memory.heap))
    ⊎ (owner_in (object_at a s.memory.heap) ≡ None)
    ⊎ IsLastRelease a s

is_owner_some : (t : ℕ) (owner : Option ℕ) → is_at owner t ≡ true → owner ≡ Some t
is_owner_some t None e = true_is_not_false (sym e)
is_owner_some t (Some o) e = cases_eq o t (λ same. ap (λ k. Some k) same) (λ apart. true_is_not_false (sym e ∙ nat_eq-other o t apart))

called_own : (t : ℕ) (call : Call) (s : State) (o : Outcome) → Works t call s o → IsTidy s → (a : ℕ) → Owns t call a s.memory.heap o.state.memory.heap
called_own t call s o (by_moves makes same) tidy a =
    moves_own s.memory.regions t call s.memory.heap o.marks o.state.memory.heap makes.1 tidy.formed a
called_own t call s o (by_asking regions asks) tidy a = inl (asked_own s o.marks o.state.memory.heap o.state.memory.timer.waiting asks a)
called_own t call s o (by_taking port request regions same marks heap lives) tidy a =
    inl (ap (λ h. owner_in (object_at a h)) heap ∙ taken_own port request s.memory.heap (lives tidy) a)

called : (t : ℕ) (call : Option Call) (a : ℕ) (s : State) → IsTidy s → next_softint s ≡ None → s.schedule.running ≡ Some t
    → next_call t s.scripts ≡ call → Changes a s (call_step t call s).state.memory
unfolding ends Changes
called t None a s tidy first runs is = inl refl
called t (Some call) a s tidy first runs is =
    elim (called_own t call s (does_itself t call s) (call_works t call s) tidy a) [
      | inl same ↦ inl (ends_followed (λ r. owner_in (object_at a r.memory.heap) ≡ owner_in (object_at a s.memory.heap))
          (λ r e. of_set (Kept a) (kept a) r ∙ e) t call s same)
      | inr (inl none) ↦ inr (inl none)
      | inr (inr last) ↦ inr (inr (record {
        t = t;
        call = call;
        calls = record { first = first; runs = runs; calls = is };
        word = last.0.word;
        names = last.0.names;
        owned = is_owner_some t (sem_of a s.memory.heap).owner last.0.owns;
        once = last.1;
      }))
    ]

tried : (running : Option ℕ) (a : ℕ) (s : State) → IsTidy s → next_softint s ≡ None → s.schedule.running ≡ running
    → Changes a s (task_step running s).state.memory
unfolding Changes
tried None a s tidy first runs = inl refl
tried (Some t) a s tidy first runs = called t (next_call t s.scripts) a s tidy first runs refl

chosen : (found : Option ℕ) (a : ℕ) (s : State) → IsTidy s → next_softint s ≡ found → Changes a s (softint_or_task_step found s).state.memory
unfolding Changes
chosen None a s tidy first = tried s.schedule.running a s tidy first refl
chosen (Some i) a s tidy first = inl (of_softint (Kept a) (kept a) i s)

acted : (test : Bool) (a : ℕ) (s : State) → IsTidy s → Changes a s (if test then quiet s else step_action s).state.memory
unfolding Changes step_action
acted true a s tidy = inl refl
acted false a s tidy = chosen (next_softint s) a s tidy refl

settled : (a : ℕ) (s r : State) → Changes a s r.memory → Changes a s (settle r).state.memory
unfolding Changes
settled a s r changes =
    let same = of_settle (Kept a) (kept a) r in
    subst (λ owner. (owner ≡ owner_in (object_at a s.memory.heap)) ⊎ (owner_in (object_at a s.memory.heap) ≡ None) ⊎ IsLastRelease a s) (sym same)
    changes

at_action : (action : Action) (a : ℕ) (s : State) → IsTidy s
    → (owner_in (object_at a (outcome_of action s).state.memory.heap) ≡ owner_in (object_at a s.memory.heap))
    ⊎ (owner_in (object_at a s.memory.heap) ≡ None)
    ⊎ ((action ≡ OneStep) × IsLastRelease a s)
unfolding step tick andthen acts Changes
at_action OneStep a s tidy =
    elim (settled a s (acts s).state (acted s.stopped a s tidy))
    [ inl same ↦ inl same | inr (inl none) ↦ inr (inl none) | inr (inr last) ↦ inr (inr (refl, last)) ]
at_action OneTick a s tidy = inl (ticked (Kept a) (kept a) (λ r. refl) s)
at_action (OneRequest asks) a s tidy = inl (of_request (Kept a) (kept a) asks s)

pub owners_change_at_the_last_release : OwnersChangeAtTheLastRelease
unfolding sem_of
owners_change_at_the_last_release semaphore machine list action is =
    at_action action semaphore (run machine list).state (tidy_in_every_state machine list is)
