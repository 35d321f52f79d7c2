-- The task that is picked is the first ready one, of which `switch_of` speaks.
use Rattle.std.proofs.Common.{sym, ap, ◌∙◌, cond, Some, None}
use Rattle.execlist.specs.Order.{first}
use Rattle.scheduler.specs.declared.Switch.TheVariants.{To}
use Rattle.scheduler.proofs.ScheduleLemmas.{switch_of-is}
use Rattle.scheduler.proofs.Sched.due_switch.Goals as goal

pub returns-in-None-clause-value : goal.returns-in-None-clause-value
returns-in-None-clause-value g c =
    let choice = sym (c.in-None.ensures.value ∙ ap (λ s. first s.queue.ready) c.self.view_is) in
    c.due_idling.ensures.value ∙ sym (switch_of-is c.args.self.now None choice)

pub returns-then-gives_way-clause-value : goal.returns-then-gives_way-clause-value
returns-then-gives_way-clause-value g c =
    let choice = sym (c.in-Some.ensures.value ∙ ap (λ s. first s.queue.ready) c.self.view_is) in
    let due = switch_of-is c.args.self.now (Some c.in-Some.t) choice ∙ c.gives_way.ensures in
    sym (due ∙ ap (λ b. cond b (Some (To c.in-Some.t)) None) c.if-gives_way.true)

pub returns-else-gives_way-clause-value : goal.returns-else-gives_way-clause-value
returns-else-gives_way-clause-value g c =
    let choice = sym (c.in-Some.ensures.value ∙ ap (λ s. first s.queue.ready) c.self.view_is) in
    let due = switch_of-is c.args.self.now (Some c.in-Some.t) choice ∙ c.gives_way.ensures in
    sym (due ∙ ap (λ b. cond b (Some (To c.in-Some.t)) None) c.if-gives_way.false)
