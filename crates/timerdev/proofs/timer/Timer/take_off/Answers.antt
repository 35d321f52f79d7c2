-- A request that waits has a home in either space, and leaves each sequence.
use Rattle.std.proofs.Common.{◌≡◌, ◌≤◌, Some, not, eqb, is_some, length, sym, ap, ◌∙◌, subst, IsSome, IsTrue, filter}
use Rattle.execlist.specs.Lists.{home, sequence, times}
use Rattle.timerdev.specs.{Timing.Waiting, Timing.is_waiting, Timing.waits_no_more, Held.Held, Held.due_in, Held.on_timer, Held.waiting_for}
use Rattle.timerdev.proofs.{Filters.one_that_waits, Homes.has_home, Homes.home_zero, Homes.some_known, Keeping.IsKept, Keeping.departed, Keeping.one_goes, Keeping.timer_of, Keeping.with_waiting, timer.Timer.take_off.Goals.After-remove-2, timer.Timer.take_off.Goals.After-self}
use Rattle.timerdev.proofs.timer.Timer.take_off.Goals as goal

module _ (g : _) (c : After-self g) where
  stands : 1 ≤ times c.args.r (sequence (g.S.ListSpace.sequences c.self.inside.begun) 0)
  stands =
      one_that_waits (due_in (g.S.ListSpace.homes c.self.inside.queues) c.self.inside.dues.items) c.args.r (sequence (g.S.ListSpace.sequences c.self.inside.begun) 0)
      (subst (λ (held : Held). IsTrue (is_waiting c.args.r held.timer)) (sym c.self.view_is) c.requires)

  queued : IsSome (home (g.S.ListSpace.homes c.self.inside.queues) c.args.r)
  queued = has_home (home (g.S.ListSpace.homes c.self.inside.queues) c.args.r) _ (c.self.invariant.waits c.args.r) stands

  begun : home (g.S.ListSpace.homes c.self.inside.begun) c.args.r ≡ Some 0
  begun =
      home_zero (g.S.ListSpace.sequences c.self.inside.begun) (g.S.ListSpace.homes c.self.inside.begun) c.args.r c.self.invariant.one_header
      (g.met.S.ListSpace.stands c.self.inside.begun) stands

goes : (g : _) (c : After-remove-2 g) → IsSome (home (g.S.ListSpace.homes c.self.inside.queues) c.args.r) → home (g.S.ListSpace.homes c.self.inside.begun) c.args.r ≡ Some 0
    → IsKept (g.S.ListSpace.sequences c.remove.new.self) (g.S.ListSpace.homes c.remove.new.self) (g.S.ListSpace.sequences c.remove-2.new.self) (g.S.ListSpace.homes c.remove-2.new.self)
    c.self.inside.dues.items (filter (λ (w : Waiting). not (eqb w.request c.args.r))
    (waiting_for (due_in (g.S.ListSpace.homes c.self.inside.queues) c.self.inside.dues.items) (sequence (g.S.ListSpace.sequences c.self.inside.begun) 0)))
goes g c queued begun =
    let r = c.args.r in
    let queues = g.S.ListSpace.sequences c.self.inside.queues in
    let homes = g.S.ListSpace.homes c.self.inside.queues in
    let all = g.S.ListSpace.sequences c.self.inside.begun in
    let queues' = g.S.ListSpace.sequences c.remove.new.self in
    let all' = g.S.ListSpace.sequences c.remove-2.new.self in
    one_goes queues all homes (g.S.ListSpace.homes c.self.inside.begun) c.self.inside.dues.items c.self.invariant r (some_known homes r queued) queues' all'
    (g.S.ListSpace.homes c.remove.new.self) (g.S.ListSpace.homes c.remove-2.new.self)
    c.remove.ensures.headers (departed queues queues' homes r (g.met.S.ListSpace.stands c.self.inside.queues) queued c.remove.ensures.taken)
    c.remove.ensures.homes c.remove-2.ensures.headers
    (departed all all' (g.S.ListSpace.homes c.self.inside.begun) r (g.met.S.ListSpace.stands c.self.inside.begun) (ap is_some begun) c.remove-2.ensures.taken 0)
    c.remove-2.ensures.homes

pub remove-requires : goal.remove-requires
remove-requires g c = queued g (goal.at.remove-requires g c).After-self

pub remove-requires-2 : goal.remove-requires-2
remove-requires-2 g c = ap is_some (begun g (goal.at.remove-requires-2 g c).After-self)

pub invariant_of-self : goal.invariant_of-self
invariant_of-self g c = (goes g (goal.at.invariant_of-self g c).After-remove-2 (queued g (goal.at.invariant_of-self g c).After-self) (begun g (goal.at.invariant_of-self g c).After-self)).held

pub returns : goal.returns
returns g c =
    let inside = c.self.inside in
    let now : Held = record { room = length inside.dues.items; timer = timer_of inside.clock inside.system inside.tick_micros inside.is_set (g.S.ListSpace.homes inside.queues) inside.dues.items (g.S.ListSpace.sequences inside.begun) } in
    ap (with_waiting now) (goes g (goal.at.returns g c).After-remove-2 (queued g (goal.at.returns g c).After-self) (begun g (goal.at.returns g c).After-self)).waits ∙ ap (on_timer (waits_no_more c.args.r)) c.self.view_is
