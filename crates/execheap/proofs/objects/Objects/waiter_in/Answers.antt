-- No task waits whose number is past the last.
use Rattle.std.proofs.Common.{ℕ, Option, ap, sym, ◌∙◌, arith}
use Rattle.execlist.specs.{Lists.part_from, Order.first}
use Rattle.sigsem.specs.Semaphores.{waiters_of}
use Rattle.execheap.specs.Numbered.{Numbered}
use Rattle.execheap.proofs.Queues.{no_waiter}
use Rattle.execheap.proofs.objects.Objects.waiter_in.Goals as goal

pub returns-else-t-self : goal.returns-else-t-self
returns-else-t-self g c =
    let s = c.args.self.now in
    let tasks = ap (λ (x : Numbered). x.tasks) c.self.view_is in
    sym (ap (λ (o : Option ℕ). first (part_from o (waiters_of c.args.n s.sems))) c.in-Some.is
    ∙ no_waiter s.sems c.facts.ensures.sems c.args.n c.in-Some.t (omega (arith, c.facts.ensures.sound.kept.apt.each_task, tasks, c.if-t-self.false)))
