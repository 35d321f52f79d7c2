-- Nobody waits at a semaphore that becomes free.
use Rattle.std.proofs.Common.{◌∙◌, sym, subst, IsTrue, length-set}
use Rattle.sigsem.specs.Semaphores.{Semaphores, is_sem}
use Rattle.sigsem.proofs.Waiting.{nobody_at, free_held}
use Rattle.sigsem.proofs.sems.Sems.hand_on.Goals as goal

pub invariant_of-self-in-None : goal.invariant_of-self-in-None
invariant_of-self-in-None g c =
    let live = subst (λ (m : Semaphores). IsTrue (is_sem c.args.s m)) (sym c.self.view_is) c.requires in
    rw (c.set-in-None.ensures, c.in-None.ensures.homes, c.rem_head.ensures.taken)
    (free_held c.self.invariant c.args.s _ live (length-set _ c.args.s _)
    (λ t. nobody_at _ t c.args.s _ (g.met.S.ListSpace.stands c.self.inside.waiters c.args.s t) (sym c.rem_head.ensures.value ∙ c.in-None.is)))
