-- A ready task is still ready when the running one is put back, and begins then.
use Rattle.std.proofs.Common.{ap, sym, ◌∙◌, Some}
use Rattle.execlist.specs.Disciplines.{by_priority}
use Rattle.scheduler.specs.{Schedule.begins, Dispatch.displaced, Dispatch.after_switch}
use Rattle.scheduler.proofs.ScheduleLemmas.{to_ready, displaced_ready, begins-vacant}
use Rattle.scheduler.proofs.Sched.make_switch.Goals as goal

pub begin-requires-clause-ready : goal.begin-requires-clause-ready
begin-requires-clause-ready g c =
    let s = c.args.self.now in
    let ready = to_ready (Some c.args.switch) c.in-To.t s.queue.states (ap Some c.in-To.is) c.requires in
    rw c.displace.ensures.next (displaced_ready s s.running c.in-To.t ready)

pub returns-in-To-clause-next : goal.returns-in-To-clause-next
returns-in-To-clause-next g c =
    let s = c.args.self.now in
    let t = c.in-To.t in
    c.begin.ensures.next ∙ ap (begins t) c.displace.ensures.next ∙ begins-vacant t (displaced by_priority s.running s) ∙ ap (λ w. after_switch by_priority (Some w) s) (sym c.in-To.is)
