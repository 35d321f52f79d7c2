-- The proof of `FreeSpace::head`: where the first chunk begins, or 0 if there is none.
use Rattle.std.proofs.Common.{ap, ◌∙◌}
use Rattle.memlist.specs.Chain.{Space, first_or}
use Rattle.memlist.proofs.space.FreeSpace.head.Goals as goal

pub returns : goal.returns
returns c = c.self.invariant.0.first ∙ ap (λ (s : Space). first_or 0 s.gaps) c.self.view_is
