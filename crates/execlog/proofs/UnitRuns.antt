-- A run is the same one step and one tick at a time.
use Rattle.std.proofs.Common.{◌≡◌, ℕ, zero, suc, ◌+◌, ◌*◌, List, [], ◌∷◌, ◌++◌, replicate, refl, ap, sym, ◌∙◌, append-nil, arith, sum_by}
use Rattle.std.proofs.lemmas.{List.Folds.sum_by-replicate, List.Sums.sum_by-append, List.Sums.sum_by-cons}
use Rattle.script.specs.declared.event.Event.TheVariants.{Run, Tick, Irq}
use Rattle.script.specs.{Events.event_ticks, declared.event.Event.Event}
use Rattle.execmodel.specs.{State.State, State.Outcome, State.quiet, State.andthen, Step.steps, Step.ticks, Step.event, Step.events}
use Rattle.execmodel.proofs.Moments.{events_more, run_cut, tick_cut}
use Rattle.execlog.specs.Log.{unit_of, units}

ends_quietly : (f : State → Outcome) (s : State) → andthen f quiet s ≡ f s
unfolding andthen
ends_quietly f s =
    let a = f s in
    ap (λ ls. record { state = a.state; lines = ls; marks = a.marks ++ [] }) (append-nil a.lines)
    ∙ ap (λ ms. record { state = a.state; lines = a.lines; marks = ms }) (append-nil a.marks)

first_same : (f g next : State → Outcome) (s : State) → f s ≡ g s → andthen f next s ≡ andthen g next s
unfolding andthen
first_same f g next s e = ap (λ (a : Outcome). let b = next a.state in record { state = b.state; lines = a.lines ++ b.lines; marks = a.marks ++ b.marks }) e

next_same : (first f g : State → Outcome) (s : State) → ((r : State) → f r ≡ g r) → andthen first f s ≡ andthen first g s
unfolding andthen
next_same first f g s e =
    let a = first s in
    ap (λ (b : Outcome). record { state = b.state; lines = a.lines ++ b.lines; marks = a.marks ++ b.marks }) (e a.state)

alone : (e : Event) (s : State) → events (e ∷ []) s ≡ event e s
unfolding events
alone e s = ends_quietly (event e) s

many_steps : (n : ℕ) (s : State) → events (replicate n (Run 1)) s ≡ events (Run n ∷ []) s
many_steps zero s = unfold events in unfold event in unfold steps in unfold andthen in refl
many_steps (suc n) s =
    let whole : 1 + n ≡ suc n = omega arith in
    events_more (Run 1 ∷ []) (replicate n (Run 1)) s
    ∙ next_same (events (Run 1 ∷ [])) (events (replicate n (Run 1))) (events (Run n ∷ [])) s (many_steps n)
    ∙ sym (run_cut 1 n [] s)
    ∙ ap (λ (k : ℕ). events (Run k ∷ []) s) whole

many_ticks : (n : ℕ) (s : State) → events (replicate n (Tick 1)) s ≡ events (Tick n ∷ []) s
many_ticks zero s = unfold events in unfold event in unfold ticks in unfold andthen in refl
many_ticks (suc n) s =
    let whole : 1 + n ≡ suc n = omega arith in
    events_more (Tick 1 ∷ []) (replicate n (Tick 1)) s
    ∙ next_same (events (Tick 1 ∷ [])) (events (replicate n (Tick 1))) (events (Tick n ∷ [])) s (many_ticks n)
    ∙ sym (tick_cut 1 n [] s)
    ∙ ap (λ (k : ℕ). events (Tick k ∷ []) s) whole

-- steps one after another
pub steps_same : (n : ℕ) (s : State) → events (replicate n (Run 1)) s ≡ steps n s
unfolding event
steps_same n s = many_steps n s ∙ alone (Run n) s

unit_same : (e : Event) (s : State) → events (unit_of e) s ≡ event e s
unit_same (Run n) s = many_steps n s ∙ alone (Run n) s
unit_same (Tick n) s = many_ticks n s ∙ alone (Tick n) s
unit_same (Irq source) s = alone (Irq source) s

pub units_same : (list : List Event) (s : State) → events (units list) s ≡ events list s
units_same [] s = refl
units_same (e ∷ rest) s =
    events_more (unit_of e) (units rest) s
    ∙ first_same (events (unit_of e)) (event e) (events (units rest)) s (unit_same e s)
    ∙ next_same (event e) (events (units rest)) (events rest) s (units_same rest)
    ∙ (unfold events in refl)

-- ---- the ticks of events

unit_ticks : (e : Event) → sum_by event_ticks (unit_of e) ≡ event_ticks e
unit_ticks (Run n) = let none : n * 0 ≡ 0 = omega arith in sum_by-replicate event_ticks n (Run 1) ∙ none
unit_ticks (Tick n) = let all : n * 1 ≡ n = omega arith in sum_by-replicate event_ticks n (Tick 1) ∙ all
unit_ticks (Irq source) = let none : 1 * 0 ≡ 0 = omega arith in sum_by-replicate event_ticks 1 (Irq source) ∙ none

pub units_ticks : (list : List Event) → sum_by event_ticks (units list) ≡ sum_by event_ticks list
units_ticks [] = refl
units_ticks (e ∷ rest) =
    let both = sum_by-append event_ticks (unit_of e) (units rest) in
    let first = unit_ticks e in
    let others = units_ticks rest in
    let whole = sum_by-cons event_ticks e rest in
    omega (arith, both, first, others, whole)
