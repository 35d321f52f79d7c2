-- A linked node and its list still live.
use Rattle.execheap.proofs.SoundLinks.{linked_kept}
use Rattle.execheap.proofs.objects.Objects.add_tail.Goals as goal

pub invariant_of-self : goal.invariant_of-self
invariant_of-self g c =
    let put = c.add_tail.ensures in
    linked_kept c.self.invariant _ _ _ c.args.h c.args.n _ c.self.view_is put.placed put.homes c.requires.list c.requires.node
