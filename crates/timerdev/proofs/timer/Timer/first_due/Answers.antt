-- The first of all is the better of the first of the clock and the first of system time.
use Rattle.std.proofs.Common.{rules, ◌≡◌, ◌<◌, ◌≤◌, ◌-◌, ℕ, Some, cond, arith, refl, sym, ap, ◌∙◌, subst, ◌&&◌, ◌||◌, IsTrue, nat_eq, nat_lt}
use Rattle.std.proofs.lemmas.{Grind.get_or_default_zero, Option.IfSome_then}
use Rattle.execlist.specs.Lists.{home, sequence}
use Rattle.timerdev.specs.{Timing.is_waiting, Timing.due_next, Held.Held, Held.Rises, Held.due_at, Held.is_before}
use Rattle.timerdev.proofs.{Keeping.rises_now, Keeping.timer_of, Next.due_of_both, Next.due_of_clock, Next.due_of_system, Next.found_by, Next.home_below, Next.home_waits, timer.Timer.first_due.Goals.After-is_first, timer.Timer.first_due.Goals.After-self}
use Rattle.timerdev.proofs.timer.Timer.first_due.Goals as goal

module _ (g : _) (c : After-self g) where
  rises : (h : ℕ) → h < 2 → Rises (due_at c.self.inside.dues.items) (sequence (g.S.ListSpace.sequences c.self.inside.queues) h)
  rises = rises_now (g.S.ListSpace.sequences c.self.inside.queues) (g.S.ListSpace.sequences c.self.inside.begun) (g.S.ListSpace.homes c.self.inside.queues)
      (g.S.ListSpace.homes c.self.inside.begun) c.self.inside.dues.items c.self.invariant

  -- what is in a header waits
  waits : (h r : ℕ) → home (g.S.ListSpace.homes c.self.inside.queues) r ≡ Some h → IsTrue (is_waiting r c.args.self.now.timer)
  waits h r own = subst (λ (held : Held). IsTrue (is_waiting r held.timer)) c.self.view_is
      (home_waits (g.S.ListSpace.sequences c.self.inside.queues) (g.S.ListSpace.sequences c.self.inside.begun) (g.S.ListSpace.homes c.self.inside.queues)
      (g.S.ListSpace.homes c.self.inside.begun) c.self.inside.dues.items c.self.invariant (g.met.S.ListSpace.stands c.self.inside.queues) r h own)

-- the first of both, if both have come
first_of_both : (g : _) (c : After-is_first g)
    → due_next (timer_of c.self.inside.clock c.self.inside.system c.self.inside.tick_micros c.self.inside.is_set (g.S.ListSpace.homes c.self.inside.queues) c.self.inside.dues.items (g.S.ListSpace.sequences c.self.inside.begun))
    ≡ cond c.is_first.result (Some c.in-Some.a) (Some c.in-Some-of_system.b)
first_of_both g c =
    let inside = c.self.inside in
    let queues = g.S.ListSpace.sequences inside.queues in
    let homes = g.S.ListSpace.homes inside.queues in
    let all = g.S.ListSpace.sequences inside.begun in
    let begun = g.S.ListSpace.homes inside.begun in
    let dues = inside.dues.items in
    let stands = g.met.S.ListSpace.stands inside.queues in
    let a = c.in-Some.a in
    let b = c.in-Some-of_system.b in
    let come_a = subst (λ d. due_at d a ≤ inside.clock) c.deref.ensures.value c.in-Some.ensures.come in
    let come_b = subst (λ d. due_at d b ≤ inside.system) c.deref-2.ensures.value c.in-Some-of_system.ensures.come in
    let known_a = home_below queues all homes begun dues c.self.invariant stands a 0 c.in-Some.ensures.home in
    let known_b = home_below queues all homes begun dues c.self.invariant stands b 1 c.in-Some-of_system.ensures.home in
    let time_a : c.index.result.now ≡ due_at dues a = c.index.ensures ∙ get_or_default_zero dues a c.index.result.now known_a in
    let time_b : c.index-2.result.now ≡ due_at dues b = c.index-2.ensures ∙ get_or_default_zero dues b c.index-2.result.now known_b in
    let tells = c.is_first.ensures
    ∙ ap (λ n. nat_lt (inside.system - c.index-2.result.now) (inside.clock - n)
    || (nat_eq (inside.system - c.index-2.result.now) (inside.clock - n) && is_before a b (sequence all 0))) time_a
    ∙ ap (λ n. nat_lt (inside.system - n) (inside.clock - due_at dues a)
    || (nat_eq (inside.system - n) (inside.clock - due_at dues a) && is_before a b (sequence all 0))) time_b in
    due_of_both queues all homes begun dues c.self.invariant stands
    (timer_of inside.clock inside.system inside.tick_micros inside.is_set homes dues all) refl c.first_come-of_clock.result c.first_come-of_system.result
    (found_by inside.clock (sequence queues 0) c.first_come-of_clock.ensures.value c.deref.ensures.value)
    (found_by inside.system (sequence queues 1) c.first_come-of_system.ensures.value c.deref-2.ensures.value) a b c.is_first.result c.in-Some.is c.in-Some-of_system.is c.in-Some.ensures.home c.in-Some-of_system.ensures.home
    come_a come_b tells

pub first_come-of_clock-requires-clause-sorted : goal.first_come-of_clock-requires-clause-sorted
first_come-of_clock-requires-clause-sorted g c =
    subst (λ d. Rises (due_at d) (sequence (g.S.ListSpace.sequences c.self.inside.queues) 0)) (sym c.deref.ensures.value) (rises g (goal.at.first_come-of_clock-requires-clause-sorted g c).After-self 0 (omega arith))

pub first_come-of_system-requires-clause-sorted : goal.first_come-of_system-requires-clause-sorted
first_come-of_system-requires-clause-sorted g c =
    subst (λ d. Rises (due_at d) (sequence (g.S.ListSpace.sequences c.self.inside.queues) 1)) (sym c.deref-2.ensures.value) (rises g (goal.at.first_come-of_system-requires-clause-sorted g c).After-self 1 (omega arith))

pub returns-in_default-clause-value : goal.returns-in_default-clause-value
returns-in_default-clause-value g c =
    let inside = c.self.inside in
    let queues = g.S.ListSpace.sequences inside.queues in
    let all = g.S.ListSpace.sequences inside.begun in
    let homes = g.S.ListSpace.homes inside.queues in
    sym (due_of_system queues all homes (g.S.ListSpace.homes inside.begun) inside.dues.items c.self.invariant (g.met.S.ListSpace.stands inside.queues)
    (timer_of inside.clock inside.system inside.tick_micros inside.is_set homes inside.dues.items all) refl c.first_come-of_clock.result c.first_come-of_system.result
    (found_by inside.clock (sequence queues 0) c.first_come-of_clock.ensures.value c.deref.ensures.value)
    (found_by inside.system (sequence queues 1) c.first_come-of_system.ensures.value c.deref-2.ensures.value) (search rules))
    ∙ ap (λ (held : Held). due_next held.timer) c.self.view_is

pub returns-in_default-clause-waits : goal.returns-in_default-clause-waits
returns-in_default-clause-waits g c = IfSome_then c.first_come-of_system.result c.first_come-of_system.ensures.home (waits g (goal.at.returns-in_default-clause-waits g c).After-self 1)

pub returns-in_default-of_system-clause-value : goal.returns-in_default-of_system-clause-value
returns-in_default-of_system-clause-value g c =
    let inside = c.self.inside in
    let queues = g.S.ListSpace.sequences inside.queues in
    let all = g.S.ListSpace.sequences inside.begun in
    let homes = g.S.ListSpace.homes inside.queues in
    sym (due_of_clock queues all homes (g.S.ListSpace.homes inside.begun) inside.dues.items c.self.invariant (g.met.S.ListSpace.stands inside.queues)
    (timer_of inside.clock inside.system inside.tick_micros inside.is_set homes inside.dues.items all) refl c.first_come-of_clock.result c.first_come-of_system.result
    (found_by inside.clock (sequence queues 0) c.first_come-of_clock.ensures.value c.deref.ensures.value)
    (found_by inside.system (sequence queues 1) c.first_come-of_system.ensures.value c.deref-2.ensures.value) c.in-Some.a c.in-Some.is (search rules))
    ∙ ap (λ (held : Held). due_next held.timer) c.self.view_is

pub returns-in_default-of_system-clause-waits : goal.returns-in_default-of_system-clause-waits
returns-in_default-of_system-clause-waits g c = waits g (goal.at.returns-in_default-of_system-clause-waits g c).After-self 0 c.in-Some.a c.in-Some.ensures.home

pub returns-then-is_first-clause-value : goal.returns-then-is_first-clause-value
returns-then-is_first-clause-value g c =
    sym (first_of_both g (goal.at.returns-then-is_first-clause-value g c).After-is_first ∙ ap (λ t. cond t (Some c.in-Some.a) (Some c.in-Some-of_system.b)) c.if-is_first.true) ∙ ap (λ (held : Held). due_next held.timer) c.self.view_is

pub returns-then-is_first-clause-waits : goal.returns-then-is_first-clause-waits
returns-then-is_first-clause-waits g c = waits g (goal.at.returns-then-is_first-clause-waits g c).After-self 0 c.in-Some.a c.in-Some.ensures.home

pub returns-else-is_first-clause-value : goal.returns-else-is_first-clause-value
returns-else-is_first-clause-value g c =
    sym (first_of_both g (goal.at.returns-else-is_first-clause-value g c).After-is_first ∙ ap (λ t. cond t (Some c.in-Some.a) (Some c.in-Some-of_system.b)) c.if-is_first.false) ∙ ap (λ (held : Held). due_next held.timer) c.self.view_is

pub returns-else-is_first-clause-waits : goal.returns-else-is_first-clause-waits
returns-else-is_first-clause-waits g c = waits g (goal.at.returns-else-is_first-clause-waits g c).After-self 1 c.in-Some-of_system.b c.in-Some-of_system.ensures.home
