-- What holds over every stretch of every run: proved once from what holds of each thing that a machine does.
use Rattle.std.proofs.Common.{◌≡◌, ℕ, zero, suc, ◌<◌, ◌≤◌, Bool, true, false, List, [], ◌∷◌, ◌++◌, Option, None, Some, refl, arith, length, if◌then◌else◌}
use Rattle.execlist.specs.Disciplines.{by_arrival}
use Rattle.exectrace.specs.Trace.{Serve, Server, Softint, TraceLine}
use Rattle.script.specs.declared.event.Event.TheVariants.{Run, Tick, Irq}
use Rattle.script.specs.{Commands.CommandData, declared.event.Event.Event}
use Rattle.scheduler.specs.{Schedule.quantum_ticked, Dispatch.added}
use Rattle.softint.specs.declared.source.Source.{Source}
use Rattle.softint.specs.declared.source.Source.TheVariants as source
use Rattle.execmodel.specs.State.{Call, Pending, Timer as Clock, State, Mark, Outcome, quiet, prints_line, andthen, unless_stopped, on_schedule, on_memory, on_timer, on_pending}
use Rattle.softint.specs.Sources.{source_text}
use Rattle.execmodel.specs.Interrupts.{softint_at, runs_softint, server_at, chain_of, runs_server, runs_chain, serving_counted, finishes_for, serves, servings, interrupts}
use Rattle.execmodel.specs.Step.{switches, settle, does, ends, task_step, call_step, softint_or_task_step, step_action, acts, step, steps, request, tick, ticks, all_added, starts, event, events}
use Rattle.execmodel.specs.{Calls.next_call, Pending.caused_no_more, Pending.with_latch_of, Pending.next_softint, Pending.next_source, Bodies.body_step, Bodies.runs_body, Requests.does_requests, Requests.finishes, Requests.finishes_each, Requests.finishes_all_due, Requests.finishes_set, Laws.times_waiting}
use Rattle.timerdev.specs.Timing.{clock_ticked, due_next, looked_at, until_next}
use Rattle.execmodel.proofs.{Asking.due_stands, Asking.until_stands, Keeping.finishes_found, WithoutFinishing.does_itself, WithoutFinishing.followed}

-- a relation of the state before, the marks that are left, and the state after
abbrev pub Relation : Type 1
Relation = State → List Mark → State → Type 0

-- it holds of an action, from every state
abbrev pub HoldsOf : Relation → (State → Outcome) → Type 0
HoldsOf R next = (s : State) → R s (next s).marks (next s).state

-- What holds of each thing that is done beside a task's commands: one command of the body of a software interrupt or a
-- server; other interrupts are pending; a request that waits finishes; system time was set, and is not looked at again;
-- the quantum loses one serving; and a switch. It holds if nothing is done, and of one thing after another.
pub record HoldsOfInterrupts (R : Relation) : Type 0 where
  pub nothing : (s : State) → R s [] s
  pub joined : (s : State) (some : List Mark) (r : State) (more : List Mark) (q : State) → R s some r → R r more q → R s (some ++ more) q
  pub commanding : (name : List ℕ) (command : CommandData) → HoldsOf R (body_step name command)
  pub pending : (f : Pending → Pending) (s : State) → R s [] (on_pending f s)
  pub finishing : (request : ℕ) (s : State) → 0 < times_waiting request s.memory.timer.waiting
      → R s (finishes request s).marks (finishes request s).state
  pub looking : (s : State) → R s [] (on_memory (on_timer looked_at) s)
  pub ticking : (s : State) → R s [] (on_schedule quantum_ticked s)
  pub switching : HoldsOf R switches

-- What holds of each thing that a machine does, but that a tick moves the clock: that, and of the running task's call
-- by its word alone, or its end; and that a task is added at the start.
pub record HoldsOfEach (R : Relation) : Type 0 where
  pub interrupting : HoldsOfInterrupts R
  pub adding : (t : ℕ) (s : State) → t < length s.scripts.programs → R s [] (on_schedule (added by_arrival t) s)
  pub calling : (t : ℕ) (call : Call) (s : State) → s.schedule.running ≡ Some t → next_call t s.scripts ≡ Some call
      → R s (does_itself t call s).marks (does_itself t call s).state
  pub ending : (t : ℕ) (s : State) → s.schedule.running ≡ Some t → R s (ends t s).marks (ends t s).state

-- ---- interrupts

-- the source that is found is served, and then what comes next
abbrev serves_found : (State → Outcome) → Option Source → State → Outcome
serves_found next found s =
    elim found as (λ (x : Option Source). Outcome) [ None ↦ quiet s | Some asks ↦ andthen (serves asks) (unless_stopped next) s ]

module _ (R : Relation) (each : HoldsOfInterrupts R) where
  both : (first next : State → Outcome) → HoldsOf R first → HoldsOf R next → HoldsOf R (andthen first next)
  unfolding andthen
  both first next f n s = each.joined s (first s).marks (first s).state _ _ (f s) (n (first s).state)

  unless : (next : State → Outcome) → HoldsOf R next → HoldsOf R (unless_stopped next)
  unless next holds s = by_test s.stopped
    where
      by_test : (test : Bool) → R s (if test then quiet s else next s).marks (if test then quiet s else next s).state
      by_test true = each.nothing s
      by_test false = holds s

  of_saying : (line : TraceLine) → HoldsOf R (prints_line line)
  of_saying line s = each.nothing s

  of_body : (name : List ℕ) (code : List CommandData) → HoldsOf R (runs_body name code)
  unfolding runs_body
  of_body name [] s = each.nothing s
  of_body name (command ∷ others) s =
      both (unless_stopped (body_step name command)) (runs_body name others)
      (unless (body_step name command) (each.commanding name command)) (of_body name others) s

  pub of_softint : (i : ℕ) → HoldsOf R (runs_softint i)
  unfolding runs_softint
  of_softint i s =
      let softint = softint_at i s.bodies in
      each.joined s [] (on_pending (caused_no_more i) s) _ _ (each.pending (caused_no_more i) s)
      (both (prints_line (Softint softint.name)) (runs_body softint.name softint.code) (of_saying (Softint softint.name))
      (of_body softint.name softint.code) (on_pending (caused_no_more i) s))

  of_server : (k : ℕ) → HoldsOf R (runs_server k)
  unfolding runs_server
  of_server k s =
      let server = server_at k s.bodies in
      both (prints_line (Server server.name)) (runs_body server.name server.code) (of_saying (Server server.name)) (of_body server.name server.code) s

  unless_claimed : (claim : Bool) (next : State → Outcome) → HoldsOf R next → HoldsOf R (if claim then quiet else next)
  unless_claimed true next holds s = each.nothing s
  unless_claimed false next holds s = holds s

  of_chain : (chain : List ℕ) → HoldsOf R (runs_chain chain)
  unfolding runs_chain
  of_chain [] s = each.nothing s
  of_chain (k ∷ others) s =
      let claim = (server_at k s.bodies).claim in
      both (runs_server k) (unless_stopped (if claim then quiet else runs_chain others)) (of_server k)
      (unless (if claim then quiet else runs_chain others) (unless_claimed claim (runs_chain others) (of_chain others))) s

  of_counting : (asks : Source) (s : State) → R s [] (on_schedule (serving_counted asks) s)
  of_counting source.Ports s = each.nothing s
  of_counting source.Vertb s = each.ticking s
  of_counting source.Exter s = each.nothing s

  of_found : (next : State → Outcome) → HoldsOf R next → (found : Option ℕ) (s : State)
      → ((request : ℕ) → found ≡ Some request → 0 < times_waiting request s.memory.timer.waiting)
      → R s (finishes_found next found s).marks (finishes_found next found s).state
  unfolding andthen
  of_found next holds None s waits = each.nothing s
  of_found next holds (Some request) s waits =
      each.joined s (finishes request s).marks (finishes request s).state _ _ (each.finishing request s (waits request refl))
      (holds (finishes request s).state)

  of_each : (next : Clock → Option ℕ)
      → ((request : ℕ) (timer : Clock) → next timer ≡ Some request → 0 < times_waiting request timer.waiting)
      → (n : ℕ) → HoldsOf R (finishes_each next n)
  unfolding finishes_each
  of_each next stands zero s = each.nothing s
  of_each next stands (suc n) s =
      of_found (finishes_each next n) (of_each next stands n) (next s.memory.timer) s (λ request e. stands request s.memory.timer e)

  -- if system time was set, and if it was not
  pub of_set : HoldsOf R finishes_set
  unfolding finishes_set
  of_set s = by_test s.memory.timer.is_set
    where
      looked : State
      looked = on_memory (on_timer looked_at) s

      all : State → Outcome
      all r = finishes_each until_next (length s.memory.timer.waiting) r

      by_test : (test : Bool) → R s (if test then all looked else quiet s).marks (if test then all looked else quiet s).state
      by_test true = each.joined s [] looked _ _ (each.looking s) (of_each until_next until_stands (length s.memory.timer.waiting) looked)
      by_test false = each.nothing s

  of_finishing : (asks : Source) → HoldsOf R (finishes_for asks)
  unfolding finishes_all_due
  of_finishing source.Ports s = each.nothing s
  of_finishing source.Vertb s = of_each due_next due_stands _ s
  of_finishing source.Exter s = each.nothing s

  of_serves : (asks : Source) → HoldsOf R (serves asks)
  unfolding serves
  of_serves asks s =
      let cleared = on_pending (with_latch_of asks false) s in
      let begun = on_schedule (serving_counted asks) cleared in
      let chain = chain_of asks s.bodies.servers in
      each.joined s [] begun _ _
      (each.joined s [] cleared [] begun (each.pending (with_latch_of asks false) s) (of_counting asks cleared))
      (both (prints_line (Serve (source_text asks))) (andthen (finishes_for asks) (runs_chain chain)) (of_saying (Serve (source_text asks)))
      (both (finishes_for asks) (runs_chain chain) (of_finishing asks) (of_chain chain)) begun)

  serving : (next : State → Outcome) → HoldsOf R next → (found : Option Source) → HoldsOf R (serves_found next found)
  serving next holds None s = each.nothing s
  serving next holds (Some asks) s = both (serves asks) (unless_stopped next) (of_serves asks) (unless next holds) s

  of_servings : (n : ℕ) → HoldsOf R (servings n)
  unfolding servings
  of_servings zero s = each.nothing s
  of_servings (suc n) s = serving (servings n) (of_servings n) (next_source s) s

  pub of_interrupts : HoldsOf R interrupts
  unfolding interrupts
  of_interrupts s = of_servings 3 s

  pub of_settle : HoldsOf R settle
  unfolding settle
  of_settle s =
      unless (andthen interrupts (unless_stopped switches))
      (both interrupts (unless_stopped switches) of_interrupts (unless switches each.switching)) s

  pub of_request : (asks : Source) → HoldsOf R (request asks)
  unfolding request
  of_request asks s =
      unless (λ s. settle (on_pending (with_latch_of asks true) s))
      (λ s. each.joined s [] (on_pending (with_latch_of asks true) s) _ _ (each.pending (with_latch_of asks true) s)
      (of_settle (on_pending (with_latch_of asks true) s))) s

-- ---- steps, and the start

module _ (R : Relation) (each : HoldsOfEach R) where
  joins : (first next : State → Outcome) → HoldsOf R first → HoldsOf R next → HoldsOf R (andthen first next)
  joins first next f n s = both R each.interrupting first next f n s

  nothing : HoldsOf R quiet
  nothing s = each.interrupting.nothing s

  -- a call: its word, and what follows that if it set system time
  of_call : (t : ℕ) (call : Call) (s : State) → s.schedule.running ≡ Some t → next_call t s.scripts ≡ Some call
      → R s (does t call s).marks (does t call s).state
  unfolding does andthen
  of_call t call s runs is =
      followed (λ o. R s o.marks o.state) t call s
      (λ word holds. each.interrupting.joined s (does_requests word t call s).marks (does_requests word t call s).state _ _ holds
      (of_set R each.interrupting (does_requests word t call s).state))
      call.word (each.calling t call s runs is)

  calls : (t : ℕ) (call : Option Call) (s : State) → s.schedule.running ≡ Some t → next_call t s.scripts ≡ call
      → R s (call_step t call s).marks (call_step t call s).state
  calls t None s runs is = each.ending t s runs
  calls t (Some call) s runs is = of_call t call s runs is

  tasks : (running : Option ℕ) (s : State) → s.schedule.running ≡ running → R s (task_step running s).marks (task_step running s).state
  tasks None s runs = nothing s
  tasks (Some t) s runs = calls t (next_call t s.scripts) s runs refl

  either : (found : Option ℕ) (s : State) → R s (softint_or_task_step found s).marks (softint_or_task_step found s).state
  either None s = tasks s.schedule.running s refl
  either (Some i) s = of_softint R each.interrupting i s

  of_acting : HoldsOf R step_action
  unfolding step_action
  of_acting s = either (next_softint s) s

  pub of_acts : HoldsOf R acts
  unfolding acts
  of_acts s = unless R each.interrupting step_action of_acting s

  pub of_step : HoldsOf R step
  unfolding step
  of_step s = joins acts settle of_acts (of_settle R each.interrupting) s

  pub of_steps : (n : ℕ) → HoldsOf R (steps n)
  unfolding steps
  of_steps zero s = nothing s
  of_steps (suc n) s = joins (steps n) step (of_steps n) of_step s

  starting : (b : Bool) (t : ℕ) (s : State) → t < length s.scripts.programs → R s [] (on_schedule (λ r. if b then added by_arrival t r else r) s)
  starting true t s less = each.adding t s less
  starting false t s less = nothing s

  pub of_adding : (n : ℕ) (s : State) → n ≤ length s.scripts.programs → R s [] (on_schedule (all_added s.scripts n) s)
  unfolding all_added
  of_adding zero s most = nothing s
  of_adding (suc n) s most =
      each.interrupting.joined s [] (on_schedule (all_added s.scripts n) s) [] _ (of_adding n s (omega (arith, most)))
      (starting _ n (on_schedule (all_added s.scripts n) s) most)

  pub of_starts : HoldsOf R starts
  unfolding starts
  of_starts s =
      each.interrupting.joined s [] (on_schedule (all_added s.scripts (length s.scripts.programs)) s) _ _
      (of_adding (length s.scripts.programs) s (omega arith))
      (of_settle R each.interrupting (on_schedule (all_added s.scripts (length s.scripts.programs)) s))

-- ---- whole runs

-- the clock gains a tick
abbrev pub clock_gains : State → State
clock_gains s = on_memory (on_timer clock_ticked) s

pub ticked : (R : Relation) → HoldsOfInterrupts R → ((s : State) → R s [] (clock_gains s)) → HoldsOf R tick
unfolding tick
ticked R each clocked s =
    unless R each (λ s. request source.Vertb (clock_gains s))
    (λ s. each.joined s [] (clock_gains s) _ _ (clocked s) (of_request R each source.Vertb (clock_gains s))) s

module _ (R : Relation) (each : HoldsOfEach R) (clocked : (s : State) → R s [] (clock_gains s)) where
  of_tick : HoldsOf R tick
  of_tick s = ticked R each.interrupting clocked s

  of_ticks : (n : ℕ) → HoldsOf R (ticks n)
  unfolding ticks
  of_ticks zero s = each.interrupting.nothing s
  of_ticks (suc n) s = both R each.interrupting (ticks n) tick (of_ticks n) of_tick s

  pub of_event : (e : Event) → HoldsOf R (event e)
  unfolding event
  of_event (Run n) s = of_steps R each n s
  of_event (Tick n) s = of_ticks n s
  of_event (Irq asks) s = of_request R each.interrupting asks s

  -- what holds of each thing that is done holds over every stretch
  pub of_events : (list : List Event) → HoldsOf R (events list)
  unfolding events
  of_events [] s = each.interrupting.nothing s
  of_events (e ∷ rest) s = both R each.interrupting (event e) (events rest) (of_event e) (of_events rest) s
