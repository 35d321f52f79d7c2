-- Every due time of a run is the end of a run: of the events before it, and of its own cut short.
use Rattle.std.proofs.Common.{◌≡◌, ℕ, zero, suc, ◌+◌, List, [], ◌∷◌, ◌++◌, refl, sym, ap, ◌∙◌, append-nil, append_assoc, arith}
use Rattle.script.specs.declared.event.Event.TheVariants.{Run, Tick}
use Rattle.script.specs.declared.event.Event.{Event}
use Rattle.execmodel.specs.{State.State, State.Outcome, State.quiet, State.andthen, Step.step, Step.steps, Step.tick, Step.ticks, Step.event, Step.events}

-- an outcome, and then another action
abbrev after : (State → Outcome) → Outcome → Outcome
after next a = let b = next a.state in record { state = b.state; lines = a.lines ++ b.lines; marks = a.marks ++ b.marks }

pub joined : (f g h : State → Outcome) (s : State) → andthen (andthen f g) h s ≡ andthen f (andthen g h) s
unfolding andthen
joined f g h s =
    let a = f s in
    let b = g a.state in
    let c = h b.state in
    ap (λ ls. record { state = c.state; lines = ls; marks = (a.marks ++ b.marks) ++ c.marks }) (append_assoc a.lines b.lines c.lines)
    ∙ ap (λ ms. record { state = c.state; lines = a.lines ++ (b.lines ++ c.lines); marks = ms }) (append_assoc a.marks b.marks c.marks)

pub ends_quietly : (f : State → Outcome) (s : State) → andthen f quiet s ≡ f s
unfolding andthen
ends_quietly f s =
    let a = f s in
    ap (λ ls. record { state = a.state; lines = ls; marks = a.marks ++ [] }) (append-nil a.lines)
    ∙ ap (λ ms. record { state = a.state; lines = a.lines; marks = ms }) (append-nil a.marks)

pub first_same : (f g next : State → Outcome) (s : State) → f s ≡ g s → andthen f next s ≡ andthen g next s
unfolding andthen
first_same f g next s e = ap (after next) e

pub next_same : (first f g : State → Outcome) (s : State) → ((r : State) → f r ≡ g r) → andthen first f s ≡ andthen first g s
unfolding andthen
next_same first f g s e =
    let a = first s in
    ap (λ (b : Outcome). record { state = b.state; lines = a.lines ++ b.lines; marks = a.marks ++ b.marks }) (e a.state)

-- some steps, and then some more
steps_more : (k m : ℕ) (s : State) → steps (k + m) s ≡ andthen (steps k) (steps m) s
unfolding steps
steps_more k zero s = let e : k + zero ≡ k = omega arith in ap (λ n. steps n s) e ∙ sym (ends_quietly (steps k) s)
steps_more k (suc m) s =
    let e : k + suc m ≡ suc (k + m) = omega arith in
    ap (λ n. steps n s) e
    ∙ first_same (steps (k + m)) (andthen (steps k) (steps m)) step s (steps_more k m s)
    ∙ joined (steps k) (steps m) step s

ticks_more : (k m : ℕ) (s : State) → ticks (k + m) s ≡ andthen (ticks k) (ticks m) s
unfolding ticks
ticks_more k zero s = let e : k + zero ≡ k = omega arith in ap (λ n. ticks n s) e ∙ sym (ends_quietly (ticks k) s)
ticks_more k (suc m) s =
    let e : k + suc m ≡ suc (k + m) = omega arith in
    ap (λ n. ticks n s) e
    ∙ first_same (ticks (k + m)) (andthen (ticks k) (ticks m)) tick s (ticks_more k m s)
    ∙ joined (ticks k) (ticks m) tick s

-- an event cut in two, and what follows it
pub run_cut : (k m : ℕ) (rest : List Event) (s : State) → events (Run (k + m) ∷ rest) s ≡ andthen (events (Run k ∷ [])) (events (Run m ∷ rest)) s
unfolding events event
run_cut k m rest s =
    first_same (steps (k + m)) (andthen (steps k) (steps m)) (events rest) s (steps_more k m s)
    ∙ joined (steps k) (steps m) (events rest) s
    ∙ sym (first_same (andthen (steps k) quiet) (steps k) (andthen (steps m) (events rest)) s (ends_quietly (steps k) s))

pub tick_cut : (k m : ℕ) (rest : List Event) (s : State) → events (Tick (k + m) ∷ rest) s ≡ andthen (events (Tick k ∷ [])) (events (Tick m ∷ rest)) s
unfolding events event
tick_cut k m rest s =
    first_same (ticks (k + m)) (andthen (ticks k) (ticks m)) (events rest) s (ticks_more k m s)
    ∙ joined (ticks k) (ticks m) (events rest) s
    ∙ sym (first_same (andthen (ticks k) quiet) (ticks k) (andthen (ticks m) (events rest)) s (ends_quietly (ticks k) s))

-- some events, and then others
pub events_more : (some more : List Event) (s : State) → events (some ++ more) s ≡ andthen (events some) (events more) s
unfolding events
events_more [] more s = sym (begins_quietly (events more) s)
  where
    begins_quietly : (f : State → Outcome) (s : State) → andthen quiet f s ≡ f s
    begins_quietly f s = unfold andthen in refl
events_more (e ∷ some) more s =
    next_same (event e) (events (some ++ more)) (andthen (events some) (events more)) s (events_more some more)
    ∙ sym (joined (event e) (events some) (events more) s)
