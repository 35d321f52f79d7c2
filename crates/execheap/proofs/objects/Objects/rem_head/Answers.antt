-- A node that leaves its list, if there is one, has no home.
use Rattle.execheap.proofs.SoundLinks.{taken_kept}
use Rattle.execheap.proofs.objects.Objects.rem_head.Goals as goal

pub invariant_of-self : goal.invariant_of-self
invariant_of-self g c = taken_kept c.self.invariant _ _ _ c.rem_head.result c.args.h _ c.rem_head.ensures.taken c.rem_head.ensures.homes
