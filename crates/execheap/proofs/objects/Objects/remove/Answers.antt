-- A node that leaves its list has no home.
use Rattle.execheap.proofs.SoundLinks.{left_kept}
use Rattle.execheap.proofs.objects.Objects.remove.Goals as goal

pub invariant_of-self : goal.invariant_of-self
invariant_of-self g c = left_kept c.self.invariant _ _ _ c.args.n c.remove.ensures.headers c.remove.ensures.homes
