-- The priority is stored as it was given, and the tasks with it are those of `reprioritized`.
use Rattle.std.proofs.Common.{rules, ap, ◌∙◌, slice_set, w8, SFits}
use Rattle.std.proofs.lemmas.Int.{to_z-of_z}
use Rattle.execlist.specs.Disciplines.{by_priority}
use Rattle.scheduler.specs.Dispatch.{reprioritized}
use Rattle.scheduler.proofs.ScheduleLemmas.{reprioritized_is}
use Rattle.scheduler.proofs.Sched.set_pri.Goals as goal

pub returns-clause-next : goal.returns-clause-next
returns-clause-next g c =
    let e = c.set_pri.ensures in
    let fits : SFits w8 c.args.pri = search rules in
    let pris = e.pris ∙ ap (slice_set c.self.inside.queue.pris c.args.t) (to_z-of_z w8 c.args.pri fits) in
    reprioritized_is _ c.set_pri.new.self c.args.t c.args.pri e.ready e.states pris e.names
    ∙ ap (reprioritized by_priority c.args.t c.args.pri) c.self.view_is
