-- A request that does not wait has no home, and goes if the times of its header rise.
use Rattle.std.proofs.Common.{◌≡◌, ◌<◌, ◌++◌, ◌∷◌, [], ℕ, length, slice_set, sym, ap, ◌∙◌, subst, arith, IsTrue, not, length-set, get_or-set_same}
use Rattle.execlist.specs.{Order.enqueue, Lists.home, Lists.put_after, Lists.sequence, Lists.times}
use Rattle.timerdev.specs.{Timing.begins_to_wait, Timing.is_waiting, Held.Held, Held.Rises, Held.due_at, Held.due_for, Held.due_in, Held.on_timer, Held.sooner_of, Held.waiting_for}
use Rattle.timerdev.proofs.{Filters.one_that_is_loose, Homes.homeless, Homes.only_header, Keeping.IsKept, Keeping.one_comes, Keeping.queue_rises, Keeping.timer_of, Keeping.with_waiting, timer.Timer.put.Goals.After-add_tail, timer.Timer.put.Goals.After-self}
use Rattle.timerdev.proofs.timer.Timer.put.Goals as goal

loose : (g : _) (c : After-self g) → times c.args.r (sequence (g.S.ListSpace.sequences c.self.inside.begun) 0) ≡ 0
loose g c =
    one_that_is_loose (due_in (g.S.ListSpace.homes c.self.inside.queues) c.self.inside.dues.items) c.args.r (sequence (g.S.ListSpace.sequences c.self.inside.begun) 0)
    (subst (λ (held : Held). IsTrue (not (is_waiting c.args.r held.timer))) (sym c.self.view_is) c.requires.loose)

comes : (g : _) (c : After-add_tail g) → times c.args.r (sequence (g.S.ListSpace.sequences c.self.inside.begun) 0) ≡ 0
    → IsKept (g.S.ListSpace.sequences c.insert.new.self) (g.S.ListSpace.homes c.insert.new.self) (g.S.ListSpace.sequences c.add_tail.new.self) (g.S.ListSpace.homes c.add_tail.new.self)
    (slice_set c.self.inside.dues.items c.args.r c.args.time)
    (waiting_for (due_in (g.S.ListSpace.homes c.self.inside.queues) c.self.inside.dues.items) (sequence (g.S.ListSpace.sequences c.self.inside.begun) 0)
    ++ record { request = c.args.r; due = due_for c.args.h c.args.time } ∷ [])
comes g c loose =
    let r = c.args.r in
    let h = c.args.h in
    let time = c.args.time in
    let queues = g.S.ListSpace.sequences c.self.inside.queues in
    let dues = c.self.inside.dues.items in
    let after = c.place_after-after.result in
    let known : r < length dues = omega (arith, c.requires.known, ap (λ (held : Held). held.room) c.self.view_is) in
    let is : c.deref.result.now ≡ slice_set dues r time = c.deref.ensures.value in
    let same = ap (λ d. due_at d r) is ∙ get_or-set_same dues r time 0 known in
    one_comes queues (g.S.ListSpace.sequences c.self.inside.begun) (g.S.ListSpace.homes c.self.inside.queues) (g.S.ListSpace.homes c.self.inside.begun) dues
    c.self.invariant r h time c.requires.header known loose
    (g.S.ListSpace.sequences c.insert.new.self) (g.S.ListSpace.sequences c.add_tail.new.self) (g.S.ListSpace.homes c.insert.new.self)
    (g.S.ListSpace.homes c.add_tail.new.self) (put_after after r (sequence queues h))
    (subst (λ d. put_after after r (sequence queues h) ≡ enqueue (sooner_of d) (sequence queues h) r) is (c.place_after-after.ensures.place r same))
    c.insert.ensures.placed c.insert.ensures.homes c.add_tail.ensures.placed c.add_tail.ensures.homes

pub place_after-after-requires-clause-sorted : goal.place_after-after-requires-clause-sorted
place_after-after-requires-clause-sorted g c =
    subst (λ d. Rises (due_at d) (sequence (g.S.ListSpace.sequences c.self.inside.queues) c.args.h)) (sym c.deref.ensures.value)
    (queue_rises (g.S.ListSpace.sequences c.self.inside.queues) (g.S.ListSpace.sequences c.self.inside.begun) (g.S.ListSpace.homes c.self.inside.queues)
    (g.S.ListSpace.homes c.self.inside.begun) c.self.inside.dues.items c.self.invariant c.args.r c.args.h c.args.time c.requires.header (loose g (goal.at.place_after-after-requires-clause-sorted g c).After-self))

pub insert-requires-clause-unlinked : goal.insert-requires-clause-unlinked
insert-requires-clause-unlinked g c =
    homeless (home (g.S.ListSpace.homes c.self.inside.queues) c.args.r) (times c.args.r (sequence (g.S.ListSpace.sequences c.self.inside.begun) 0))
    (c.self.invariant.waits c.args.r) (loose g (goal.at.insert-requires-clause-unlinked g c).After-self)

pub add_tail-requires-clause-unlinked : goal.add_tail-requires-clause-unlinked
add_tail-requires-clause-unlinked g c =
    let all = g.S.ListSpace.sequences c.self.inside.begun in
    let begun = g.S.ListSpace.homes c.self.inside.begun in
    homeless (home begun c.args.r) (times c.args.r (sequence all 0))
    (only_header all begun c.args.r c.self.invariant.one_header (g.met.S.ListSpace.stands c.self.inside.begun)) (loose g (goal.at.add_tail-requires-clause-unlinked g c).After-self)

pub invariant_of-self : goal.invariant_of-self
invariant_of-self g c = (comes g (goal.at.invariant_of-self g c).After-add_tail (loose g (goal.at.invariant_of-self g c).After-self)).held

pub returns : goal.returns
returns g c =
    let inside = c.self.inside in
    let dues = inside.dues.items in
    let now : Held = record { room = length dues; timer = timer_of inside.clock inside.system inside.tick_micros inside.is_set (g.S.ListSpace.homes inside.queues) dues (g.S.ListSpace.sequences inside.begun) } in
    let next = waiting_for (due_in (g.S.ListSpace.homes c.insert.new.self) (slice_set dues c.args.r c.args.time))
    (sequence (g.S.ListSpace.sequences c.add_tail.new.self) 0) in
    ap (λ (n : ℕ). with_waiting (record now { room = n }) next) (length-set dues c.args.r c.args.time) ∙ ap (with_waiting now) (comes g (goal.at.returns g c).After-add_tail (loose g (goal.at.returns g c).After-self)).waits
    ∙ ap (on_timer (begins_to_wait c.args.r (due_for c.args.h c.args.time))) c.self.view_is
