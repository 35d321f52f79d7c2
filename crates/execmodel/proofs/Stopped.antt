-- A machine that an alert has stopped does nothing.
use Rattle.std.proofs.Common.{◌≡◌, ℕ, zero, suc, Bool, true, false, List, [], ◌∷◌, ◌++◌, refl, ap, sym, ◌∙◌, if◌then◌else◌, append-nil}
use Rattle.script.specs.declared.event.Event.TheVariants.{Run, Tick, Irq}
use Rattle.script.specs.declared.event.Event.{Event}
use Rattle.execmodel.specs.{State.State, State.Outcome, State.quiet, State.andthen, State.unless_stopped, Step.acts, Step.settle, Step.step, Step.steps, Step.request, Step.tick, Step.ticks, Step.event, Step.events}
use Rattle.softint.specs.declared.source.Source.{Source}

-- an outcome, and then another action
abbrev after : (State → Outcome) → Outcome → Outcome
after next a = let b = next a.state in record { state = b.state; lines = a.lines ++ b.lines; marks = a.marks ++ b.marks }

-- two actions that do nothing
both_quiet : (first next : State → Outcome) (s : State) → first s ≡ quiet s → next s ≡ quiet s → andthen first next s ≡ quiet s
unfolding andthen
both_quiet first next s f n =
    ap (after next) f ∙ ap (λ (b : Outcome). record { state = b.state; lines = [] ++ b.lines; marks = [] ++ b.marks }) n

acts_stopped : (s : State) → s.stopped ≡ true → acts s ≡ quiet s
unfolding acts
acts_stopped s h = rw h refl

settle_stopped : (s : State) → s.stopped ≡ true → settle s ≡ quiet s
unfolding settle
settle_stopped s h = rw h refl

pub step_stopped : (s : State) → s.stopped ≡ true → step s ≡ quiet s
unfolding step
step_stopped s h = both_quiet acts settle s (acts_stopped s h) (settle_stopped s h)

pub steps_stopped : (n : ℕ) (s : State) → s.stopped ≡ true → steps n s ≡ quiet s
unfolding steps
steps_stopped zero s h = refl
steps_stopped (suc n) s h = both_quiet (steps n) step s (steps_stopped n s h) (step_stopped s h)

pub request_stopped : (asks : Source) (s : State) → s.stopped ≡ true → request asks s ≡ quiet s
unfolding request
request_stopped asks s h = rw h refl

pub tick_stopped : (s : State) → s.stopped ≡ true → tick s ≡ quiet s
unfolding tick
tick_stopped s h = rw h refl

pub ticks_stopped : (n : ℕ) (s : State) → s.stopped ≡ true → ticks n s ≡ quiet s
unfolding ticks
ticks_stopped zero s h = refl
ticks_stopped (suc n) s h = both_quiet (ticks n) tick s (ticks_stopped n s h) (tick_stopped s h)

pub event_stopped : (e : Event) (s : State) → s.stopped ≡ true → event e s ≡ quiet s
unfolding event
event_stopped (Run n) s h = steps_stopped n s h
event_stopped (Tick n) s h = ticks_stopped n s h
event_stopped (Irq asks) s h = request_stopped asks s h

pub events_stopped : (list : List Event) (s : State) → s.stopped ≡ true → events list s ≡ quiet s
unfolding events
events_stopped [] s h = refl
events_stopped (e ∷ rest) s h = both_quiet (event e) (events rest) s (event_stopped e s h) (events_stopped rest s h)

-- if the first of two actions stops the machine, the second one does nothing
ends_there : (test : Bool) (a p : Outcome) → test ≡ true → after (λ s. if test then quiet s else p) a ≡ a
ends_there true a p e = λ i. record { state = a.state; lines = append-nil a.lines i; marks = append-nil a.marks i }
ends_there false a p e = let bad : true ≡ false = sym e in cc

pub stopped_between : (first next : State → Outcome) (s : State) → (first s).state.stopped ≡ true
    → andthen first (unless_stopped next) s ≡ first s
unfolding andthen
stopped_between first next s e = ends_there (first s).state.stopped (first s) (next (first s).state) e
