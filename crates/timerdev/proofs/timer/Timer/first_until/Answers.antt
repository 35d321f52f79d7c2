-- The first of those that wait for system time is the first of their header.
use Rattle.std.proofs.Common.{arith, refl, sym, ap, ◌∙◌, subst, IsTrue, find, nat_le}
use Rattle.std.proofs.lemmas.Option.{IfSome_then}
use Rattle.execlist.specs.Lists.{sequence}
use Rattle.timerdev.specs.{Timing.is_waiting, Timing.until_next, Held.Held, Held.Rises, Held.due_at}
use Rattle.timerdev.proofs.{Keeping.rises_now, Keeping.timer_of, Next.home_waits, Next.until_is_first}
use Rattle.timerdev.proofs.timer.Timer.first_until.Goals as goal

pub first_come-requires-clause-sorted : goal.first_come-requires-clause-sorted
first_come-requires-clause-sorted g c =
    let queues = g.S.ListSpace.sequences c.self.inside.queues in
    let all = g.S.ListSpace.sequences c.self.inside.begun in
    subst (λ d. Rises (due_at d) (sequence queues 1)) (sym c.deref.ensures.value)
    (rises_now queues all (g.S.ListSpace.homes c.self.inside.queues) (g.S.ListSpace.homes c.self.inside.begun) c.self.inside.dues.items
    c.self.invariant 1 (omega arith))

pub returns-clause-value : goal.returns-clause-value
returns-clause-value g c =
    let inside = c.self.inside in
    let queues = g.S.ListSpace.sequences inside.queues in
    let homes = g.S.ListSpace.homes inside.queues in
    let all = g.S.ListSpace.sequences inside.begun in
    let dues = inside.dues.items in
    c.first_come.ensures.value ∙ ap (λ d. find (λ r. nat_le (due_at d r) inside.system) (sequence queues 1)) c.deref.ensures.value
    ∙ sym (until_is_first queues all homes (g.S.ListSpace.homes inside.begun) dues c.self.invariant (g.met.S.ListSpace.stands inside.queues)
    (timer_of inside.clock inside.system inside.tick_micros inside.is_set homes dues all) refl)
    ∙ ap (λ (held : Held). until_next held.timer) c.self.view_is

pub returns-clause-waits : goal.returns-clause-waits
returns-clause-waits g c =
    let inside = c.self.inside in
    let homes = g.S.ListSpace.homes inside.queues in
    IfSome_then c.first_come.result c.first_come.ensures.home
    (λ r own. subst (λ (held : Held). IsTrue (is_waiting r held.timer)) c.self.view_is
    (home_waits (g.S.ListSpace.sequences inside.queues) (g.S.ListSpace.sequences inside.begun) homes (g.S.ListSpace.homes inside.begun)
    inside.dues.items c.self.invariant (g.met.S.ListSpace.stands inside.queues) r 1 own))
