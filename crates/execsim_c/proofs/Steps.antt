-- Events that a machine does one after another.
use Rattle.std.proofs.Common.{◌≡◌, ◌∙◌, ℕ, ◌+◌, ◌<◌, List, [], ◌∷◌, ◌++◌, take, drop, get_or, length, refl, ap, ap₂, sym, subst, sum_by, Ok, append-nil}
use Rattle.std.specs.Io.KnownBytes.{Appends}
use Rattle.std.proofs.lemmas.{List.take_more, List.drop_more, List.Concat.flat_map-append, List.Sums.sum_by-cons}
use Rattle.exectrace.specs.{Sink.Tape, Trace.TraceLine, Trace.printed, Trace.printed_line}
use Rattle.exectrace.specs.Putting.{Appends-none, Appends-then}
use Rattle.script.specs.{Events.event_ticks, declared.event.Event.Event}
use Rattle.execmodel.specs.{State.State, State.Outcome, State.Mark, State.andthen, Step.event, Step.events}
use Rattle.execmodel.proofs.Moments.{events_more}
use Rattle.execsim.specs.{Agreement.Seen, Agreement.Agrees, Headline.Shown, Headline.Acts, declared.machine.Flow.Flow}
use Rattle.execsim_c.specs.Stepping.{Does}

quietly : (o : Outcome) → record { state = o.state; lines = o.lines ++ []; marks = o.marks ++ [] } ≡ o
quietly o = ap₂ (λ (l : List TraceLine) (m : List Mark). record { state = o.state; lines = l; marks = m }) (append-nil o.lines) (append-nil o.marks)

one_event : (e : Event) (s : State) → events (e ∷ []) s ≡ event e s
unfolding events andthen
one_event e s = quietly (event e s)

state_more : (list : List Event) (e : Event) (s : State) → (events (list ++ e ∷ []) s).state ≡ (event e (events list s).state).state
unfolding andthen
state_more list e s = ap (λ (o : Outcome). o.state) (events_more list (e ∷ []) s) ∙ ap (λ (o : Outcome). o.state) (one_event e (events list s).state)

lines_more : (list : List Event) (e : Event) (s : State) → (events (list ++ e ∷ []) s).lines ≡ (events list s).lines ++ (event e (events list s).state).lines
unfolding andthen
lines_more list e s =
    ap (λ (o : Outcome). o.lines) (events_more list (e ∷ []) s)
    ∙ ap (λ (o : Outcome). (events list s).lines ++ o.lines) (one_event e (events list s).state)

-- one event more of a list
state_next : (list : List Event) (k : ℕ) (d : Event) (s : State) → k < length list
    → (events (take (k + 1) list) s).state ≡ (event (get_or list k d) (events (take k list) s).state).state
state_next list k d s within = ap (λ (l : List Event). (events l s).state) (take_more list k d within) ∙ state_more (take k list) (get_or list k d) s

lines_next : (list : List Event) (k : ℕ) (d : Event) (s : State) → k < length list
    → printed (events (take (k + 1) list) s).lines ≡ printed (events (take k list) s).lines ++ printed (event (get_or list k d) (events (take k list) s).state).lines
lines_next list k d s within =
    ap (λ (l : List Event). printed (events l s).lines) (take_more list k d within)
    ∙ (ap printed (lines_more (take k list) (get_or list k d) s)
    ∙ flat_map-append printed_line (events (take k list) s).lines (event (get_or list k d) (events (take k list) s).state).lines)

-- no event yet
pub does_none : (seen : Seen) (tape : Tape) → Does (events []) seen seen tape.taken tape.taken
unfolding events
does_none seen tape = record { agrees = λ s there. there; prints = λ s there. Appends-none tape.taken }

-- one event more
pub does_more : (list : List Event) (k : ℕ) (d : Event) (old : Seen) (mid new : Shown) (before between after : Tape) (flow : Flow) → k < length list
    → Does (events (take k list)) old mid.seen before.taken between.taken
    → Acts (event (get_or list k d)) mid new between after (Ok flow)
    → Does (events (take (k + 1) list)) old new.seen before.taken after.taken
does_more list k d old mid new before between after flow within so_far acts = record {
  agrees = λ s there. subst (Agrees new.seen) (sym (state_next list k d s within)) (acts.agrees (events (take k list) s).state (so_far.agrees s there) refl);
  prints = λ s there.
      let t = (events (take k list) s).state in
      subst (Appends before.taken after.taken) (sym (lines_next list k d s within))
      (Appends-then before.taken between.taken after.taken (printed (events (take k list) s).lines) (printed (event (get_or list k d) t).lines)
      (so_far.prints s there) (acts.writes t (so_far.agrees s there)).took);
}

-- the time of what is left
pub ticks_left : (list : List Event) (k : ℕ) (d : Event) → k < length list
    → sum_by event_ticks (drop k list) ≡ event_ticks (get_or list k d) + sum_by event_ticks (drop (k + 1) list)
ticks_left list k d within = ap (sum_by event_ticks) (drop_more list k d within) ∙ sum_by-cons event_ticks (get_or list k d) (drop (k + 1) list)
