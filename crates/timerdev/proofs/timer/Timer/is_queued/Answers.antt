-- A request waits where it is in the order of beginning.
use Rattle.std.proofs.Common.{ap, sym, ◌∙◌, is_some}
use Rattle.execlist.specs.Lists.{home, sequence, times}
use Rattle.timerdev.specs.{Timing.is_waiting, Held.Held, Held.due_in}
use Rattle.timerdev.proofs.{Filters.waits_where_it_stands, Homes.only_header, Homes.is_some_stands}
use Rattle.timerdev.proofs.timer.Timer.is_queued.Goals as goal

pub returns : goal.returns
returns g c =
    let r = c.args.r in
    let all = g.S.ListSpace.sequences c.self.inside.begun in
    let homes = g.S.ListSpace.homes c.self.inside.begun in
    c.is_some.ensures ∙ ap is_some c.home.ensures.value
    ∙ is_some_stands (home homes r) (times r (sequence all 0))
    (only_header all homes r c.self.invariant.one_header (g.met.S.ListSpace.stands c.self.inside.begun))
    ∙ sym (waits_where_it_stands (due_in (g.S.ListSpace.homes c.self.inside.queues) c.self.inside.dues.items) r (sequence all 0))
    ∙ ap (λ (held : Held). is_waiting r held.timer) c.self.view_is
