-- What servings leave as it is, what they print, and what they make of the latches.
use Rattle.std.proofs.Common.{◌≡◌, ℕ, zero, suc, ◌+◌, ◌≤◌, Bool, true, false, List, [], ◌∷◌, ◌++◌, Option, None, Some, refl, sym, ap, ◌∙◌, arith, if◌then◌else◌, count_by, slice_index_or}
use Rattle.std.proofs.lemmas.List.Sums.{sum_by-cons, sum_by-append}
use Rattle.execlist.specs.Disciplines.{by_arrival}
use Rattle.exectrace.specs.Trace.{TraceLine, Switch, Serve}
use Rattle.forbid.specs.Nesting.{Nesting, initial_nesting, may_interrupt}
use Rattle.softint.specs.{declared.source.Source.Source, declared.latches.Latches.Latches, Sources.is_latched, Sources.no_latches, Sources.with_latch, Sources.highest}
use Rattle.softint.specs.declared.source.Source.TheVariants as source
use Rattle.scheduler.specs.{Schedule.Schedule, Schedule.quantum_ticked, Schedule.ticked_for, Schedule.is_interrupting_allowed, declared.Switch.Switch as Choice, Dispatch.switch_of, Dispatch.rescheduled}
use Rattle.scheduler.specs.declared.Switch.TheVariants as switch
use Rattle.softint.specs.Sources.{source_text}
use Rattle.execmodel.specs.Interrupts.{serving_counted, finishes_for, chain_of, runs_chain, serves, servings, interrupts}
use Rattle.execmodel.specs.{State.State, State.Outcome, State.quiet, State.andthen, State.unless_stopped, State.on_schedule, State.on_pending, Pending.allows_interrupts, Pending.with_latch_of, Pending.next_source, Step.announced, Step.switches, Step.settle, Laws.says_switch, Laws.is_serving, Laws.InterruptsKeepNestings, Laws.ThreeServingsAtMost}
use Rattle.execmodel.proofs.BodyActions.{standing, steady, IsOfBody, AreOfBodies, softint_bodily, served_bodily}
use Rattle.execmodel.proofs.Heaps.{true_is_not_false}

-- ---- lines

-- one for the line of a serving
abbrev served : TraceLine → ℕ
served line = if is_serving line then 1 else 0

served_line : (line : TraceLine) → IsOfBody line → served line ≡ 0
served_line (Serve name) one = absurd one
served_line _ one = refl

-- no body prints the line of a serving
none_served : (lines : List TraceLine) → AreOfBodies lines → count_by is_serving lines ≡ 0
none_served [] told = refl
none_served (line ∷ lines) told =
    let first = served_line line told.0 in
    let others = none_served lines told.1 in
    omega (arith, sum_by-cons served line lines, first, others)

-- no body prints the line of a switch
pub none_switched : (lines : List TraceLine) → AreOfBodies lines → says_switch lines ≡ false
none_switched [] told = refl
none_switched (Switch name ∷ lines) told = absurd told.0
none_switched (_ ∷ lines) told = none_switched lines told.1

pub switched_more : (some more : List TraceLine) → says_switch some ≡ false → says_switch more ≡ false → says_switch (some ++ more) ≡ false
switched_more [] more one other = other
switched_more (Switch name ∷ lines) more one other = true_is_not_false one
switched_more (_ ∷ lines) more one other = switched_more lines more one other

served_more : (some more : List TraceLine) → count_by is_serving (some ++ more) ≡ count_by is_serving some + count_by is_serving more
served_more some more = sum_by-append served some more

-- ---- one serving

ticked_stands : (o : Option ℕ) (s : Schedule) → standing (ticked_for o s) ≡ standing s
ticked_stands None s = refl
ticked_stands (Some r) s = refl

counted_stands : (asks : Source) (s : Schedule) → standing (serving_counted asks s) ≡ standing s
unfolding quantum_ticked
counted_stands source.Ports s = refl
counted_stands source.Vertb s = ticked_stands s.running s
counted_stands source.Exter s = refl

-- only the latch that is served is another
served_steady : (asks : Source) (s : State)
    → steady (serves asks s).state ≡ (s.schedule.running, s.schedule.nestings, with_latch asks false s.pending.latches)
unfolding serves andthen
served_steady asks s =
    (served_bodily asks (chain_of asks s.bodies.servers) (on_schedule (serving_counted asks) (on_pending (with_latch_of asks false) s))).same
    ∙ ap (λ (p : Option ℕ × List Nesting). (p.0, p.1, with_latch asks false s.pending.latches)) (counted_stands asks s.schedule)

served_first : (name : List ℕ) (lines : List TraceLine) → AreOfBodies lines → count_by is_serving (Serve name ∷ lines) ≡ 1
served_first name lines told = sum_by-cons served (Serve name) lines ∙ ap (λ n. 1 + n) (none_served lines told)

served_once : (asks : Source) (s : State) → count_by is_serving (serves asks s).lines ≡ 1
unfolding serves andthen
served_once asks s =
    let o = andthen (finishes_for asks) (runs_chain (chain_of asks s.bodies.servers)) (on_schedule (serving_counted asks) (on_pending (with_latch_of asks false) s)) in
    served_first (source_text asks) o.lines
    (served_bodily asks (chain_of asks s.bodies.servers) (on_schedule (serving_counted asks) (on_pending (with_latch_of asks false) s))).told

served_silent : (asks : Source) (s : State) → says_switch (serves asks s).lines ≡ false
unfolding serves andthen
served_silent asks s =
    let o = andthen (finishes_for asks) (runs_chain (chain_of asks s.bodies.servers)) (on_schedule (serving_counted asks) (on_pending (with_latch_of asks false) s)) in
    none_switched o.lines
    (served_bodily asks (chain_of asks s.bodies.servers) (on_schedule (serving_counted asks) (on_pending (with_latch_of asks false) s))).told

-- ---- some servings

-- that many servings at most
pub record Serving (n : ℕ) (s : State) (o : Outcome) : Type 0 where
  pub stands : standing o.state.schedule ≡ standing s.schedule
  pub counts : count_by is_serving o.lines ≤ n
  pub silent : says_switch o.lines ≡ false

nothing_served : (n : ℕ) (s : State) → Serving n s (quiet s)
nothing_served n s = record { stands = refl; counts = omega arith; silent = refl }

either_served : (n : ℕ) (test : Bool) (s : State) (o : Outcome) → Serving n s o → Serving n s (if test then quiet s else o)
either_served n true s o one = nothing_served n s
either_served n false s o one = one

-- a source is served, if one is next, and then others
abbrev one_more : ℕ → Option Source → State → Outcome
one_more n choice s =
    elim choice as (λ (x : Option Source). Outcome)
    [ None ↦ quiet s | Some asks ↦ andthen (serves asks) (unless_stopped (servings n)) s ]

one_more_served : (n : ℕ) (choice : Option Source) (s : State) → ((r : State) → Serving n r (servings n r)) → Serving (suc n) s (one_more n choice s)
unfolding andthen
one_more_served n None s others = nothing_served (suc n) s
one_more_served n (Some asks) s others =
    let r = (serves asks s).state in
    let rest = either_served n r.stopped r (servings n r) (others r) in
    let once = served_once asks s in
    let counted_all = served_more (serves asks s).lines (unless_stopped (servings n) r).lines in
    let most = rest.counts in
    record {
      stands = rest.stands ∙ ap (λ (p : Option ℕ × List Nesting × Latches). (p.0, p.1)) (served_steady asks s);
      counts = omega (arith, once, counted_all, most);
      silent = switched_more (serves asks s).lines (unless_stopped (servings n) r).lines (served_silent asks s) rest.silent;
    }

pub all_served : (n : ℕ) (s : State) → Serving n s (servings n s)
unfolding servings
all_served zero s = nothing_served zero s
all_served (suc n) s = one_more_served n (next_source s) s (all_served n)

-- ---- the latches

-- the latches after that many servings
abbrev cleared_by : (Latches → Latches) → Option Source → Latches → Latches
cleared_by others None latches = latches
cleared_by others (Some asks) latches = others (with_latch asks false latches)

abbrev cleared : ℕ → Latches → Latches
cleared zero latches = latches
cleared (suc n) latches = cleared_by (cleared n) (highest latches) latches

each_cleared : (ports vertb exter : Bool) → cleared 3 (record { ports = ports; vertb = vertb; exter = exter }) ≡ no_latches
each_cleared true true true = refl
each_cleared true true false = refl
each_cleared true false true = refl
each_cleared true false false = refl
each_cleared false true true = refl
each_cleared false true false = refl
each_cleared false false true = refl
each_cleared false false false = refl

none_latched : (asks : Source) → is_latched asks no_latches ≡ false
none_latched source.Ports = refl
none_latched source.Vertb = refl
none_latched source.Exter = refl

-- whether interrupts are allowed rests on which task runs and on the nestings
abbrev allowed_by : Option ℕ → List Nesting → Bool
allowed_by None nestings = true
allowed_by (Some r) nestings = may_interrupt (slice_index_or nestings r initial_nesting)

allowed_for : (o : Option ℕ) (s : Schedule) → is_interrupting_allowed o s ≡ allowed_by o s.nestings
allowed_for None s = refl
allowed_for (Some r) s = refl

same_allowance : (r s : Schedule) → standing r ≡ standing s → allows_interrupts r ≡ allows_interrupts s
same_allowance r s e =
    allowed_for r.running r ∙ ap (λ (p : Option ℕ × List Nesting). allowed_by p.0 p.1) e ∙ sym (allowed_for s.running s)

-- the latches after a serving and others, unless an alert has stopped the machine
abbrev IsCleared : ℕ → State → Outcome → Type 0
IsCleared n s o = o.state.stopped ≡ false → o.state.pending.latches ≡ cleared n s.pending.latches

either_cleared : (n : ℕ) (test : Bool) (s : State) (o : Outcome) → s.stopped ≡ test → IsCleared n s o → IsCleared n s (if test then quiet s else o)
either_cleared n true s o is one going = true_is_not_false (sym is ∙ going)
either_cleared n false s o is one going = one going

one_more_cleared : (n : ℕ) (choice : Option Source) (s : State) → allows_interrupts s.schedule ≡ true
    → ((r : State) → allows_interrupts r.schedule ≡ true → IsCleared n r (servings n r))
    → (one_more n choice s).state.stopped ≡ false
    → (one_more n choice s).state.pending.latches ≡ cleared_by (cleared n) choice s.pending.latches
unfolding andthen
one_more_cleared n None s allowed others going = refl
one_more_cleared n (Some asks) s allowed others going =
    let r = (serves asks s).state in
    let same = served_steady asks s in
    let still = same_allowance r.schedule s.schedule (ap (λ (p : Option ℕ × List Nesting × Latches). (p.0, p.1)) same) in
    either_cleared n r.stopped r (servings n r) refl (others r (still ∙ allowed)) going
    ∙ ap (λ (p : Option ℕ × List Nesting × Latches). cleared n p.2) same

all_cleared : (n : ℕ) (s : State) → allows_interrupts s.schedule ≡ true → IsCleared n s (servings n s)
unfolding servings next_source
all_cleared zero s allowed going = refl
all_cleared (suc n) s allowed going =
    one_more_cleared n (next_source s) s allowed (all_cleared n) going
    ∙ ap (λ b. cleared_by (cleared n) (if b then highest s.pending.latches else None) s.pending.latches) allowed

blocked_by : (allowed : Bool) (s : State) → allows_interrupts s.schedule ≡ allowed → (interrupts s).state.stopped ≡ false
    → (asks : Source) → is_latched asks (interrupts s).state.pending.latches ≡ true → allows_interrupts (interrupts s).state.schedule ≡ false
unfolding interrupts
blocked_by true s is going asks latched =
    true_is_not_false
    (sym latched
    ∙ ap (is_latched asks) (all_cleared 3 s is going ∙ each_cleared s.pending.latches.ports s.pending.latches.vertb s.pending.latches.exter)
    ∙ none_latched asks)
blocked_by false s is going asks latched = same_allowance (servings 3 s).state.schedule s.schedule (all_served 3 s).stands ∙ is

-- a source asks to be served after a settle only if interrupts are not allowed
pub interrupts_blocked : (s : State) → (interrupts s).state.stopped ≡ false
    → (asks : Source) → is_latched asks (interrupts s).state.pending.latches ≡ true → allows_interrupts (interrupts s).state.schedule ≡ false
interrupts_blocked s = blocked_by (allows_interrupts s.schedule) s refl

-- ---- laws

pub interrupts_keep_nestings : InterruptsKeepNestings
unfolding interrupts
interrupts_keep_nestings = record {
  of_softints = λ i s. ap (λ (p : Option ℕ × List Nesting × Latches). p.1) (softint_bodily i s).same;
  of_interrupts = λ s. ap (λ (p : Option ℕ × List Nesting). p.1) (all_served 3 s).stands;
}

announced_serves_none : (c : Option Choice) (s : State) → count_by is_serving (announced c s).lines ≡ 0
announced_serves_none None s = refl
announced_serves_none (Some (switch.To t)) s = refl
announced_serves_none (Some switch.Idle) s = refl

either_counts : (n : ℕ) (test : Bool) (s : State) (o : Outcome) → count_by is_serving o.lines ≤ n
    → count_by is_serving (if test then quiet s else o).lines ≤ n
either_counts n true s o most = omega arith
either_counts n false s o most = most

pub three_servings_at_most : ThreeServingsAtMost
unfolding settle interrupts switches andthen
three_servings_at_most s =
    let r = (servings 3 s).state in
    let most = (all_served 3 s).counts in
    let none = announced_serves_none (switch_of by_arrival r.schedule) (on_schedule (rescheduled by_arrival) r) in
    let last = either_counts 0 r.stopped r (announced (switch_of by_arrival r.schedule) (on_schedule (rescheduled by_arrival) r)) (omega (arith, none)) in
    let all = served_more (servings 3 s).lines (unless_stopped switches r).lines in
    either_counts 3 s.stopped s (andthen interrupts (unless_stopped switches) s) (omega (arith, most, last, all))
