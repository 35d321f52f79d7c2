-- The same semaphores live.
use Rattle.std.proofs.Common.{ap, ◌∙◌}
use Rattle.sigsem.specs.Semaphores.{is_sem}
use Rattle.execheap.specs.Numbered.{Numbered}
use Rattle.execheap.proofs.KeptSemaphores.{kept_obtained, kept_sems, kept_unless}
use Rattle.execheap.proofs.objects.Objects.obtain.Goals as goal

pub invariant_of-self : goal.invariant_of-self
invariant_of-self g c =
    kept_sems c.self.invariant _ (kept_unless _ _ _ _ c.obtain.ensures.next (kept_obtained c.args.n c.args.t _
    (ap (λ (s : Numbered). is_sem c.args.n s.sems) c.self.view_is ∙ c.requires.live)))
