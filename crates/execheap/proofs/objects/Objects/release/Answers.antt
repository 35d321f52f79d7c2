-- The same semaphores live.
use Rattle.std.proofs.Common.{ap, ◌∙◌}
use Rattle.sigsem.specs.Semaphores.{is_sem}
use Rattle.execheap.specs.Numbered.{Numbered}
use Rattle.execheap.proofs.KeptSemaphores.{kept_let_go, kept_sems, kept_unless}
use Rattle.execheap.proofs.objects.Objects.release.Goals as goal

pub invariant_of-self : goal.invariant_of-self
invariant_of-self g c =
    kept_sems c.self.invariant _ (kept_unless _ _ _ _ c.release.ensures.next (kept_let_go c.args.n _
    (ap (λ (s : Numbered). is_sem c.args.n s.sems) c.self.view_is ∙ c.requires)))
