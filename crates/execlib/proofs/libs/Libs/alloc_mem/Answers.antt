-- The block is taken in the regions as they are after libraries were asked for memory.
use Rattle.std.proofs.Common.{ap, ◌∙◌}
use Rattle.memlist.specs.{Fit.fit, Memory.Memory}
use Rattle.execlib.specs.Libraries.{after_asking, lent}
use Rattle.execlib.proofs.Asking.{asking_regions}
use Rattle.execlib.proofs.libs.Libs.alloc_mem.Goals as goal

pub returns-clause-answer : goal.returns-clause-answer
returns-clause-answer g c =
    let before = lent c.args.self.now c.args.memory.now in
    c.alloc_mem.ensures.address
    ∙ ap (λ (m : Memory). fit m.regions m.blocks c.args.size c.args.reqs) c.ask.ensures.memory
    ∙ ap (λ rs. fit rs (after_asking c.args.size c.args.reqs before).memory.blocks c.args.size c.args.reqs) (asking_regions c.args.size c.args.reqs before)
