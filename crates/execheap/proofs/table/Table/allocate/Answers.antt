-- A plain block is not an object, and libraries that are asked for memory for it leave a table sound.
use Rattle.std.proofs.Common.{ap, ◌∙◌}
use Rattle.memlist.specs.Fit.{fit}
use Rattle.execheap.specs.Table.{after_asking}
use Rattle.execheap.proofs.Asking.{lie_in, place_asked, sound_taken}
use Rattle.execheap.proofs.table.Table.allocate.Goals as goal

pub alloc_mem-requires : goal.alloc_mem-requires
alloc_mem-requires g c = record { blocks = lie_in c.self.invariant }

pub invariant_of-self : goal.invariant_of-self
invariant_of-self g c =
    let put = c.alloc_mem.ensures in
    sound_taken c.self.invariant c.is_well_formed.ensures c.args.size c.args.reqs c.alloc_mem.result put.answer
    c.alloc_mem.new.memory c.alloc_mem.new.self put.libraries put.memory

pub returns-clause-answer : goal.returns-clause-answer
returns-clause-answer g c =
    place_asked c.self.invariant c.is_well_formed.ensures c.args.size c.args.reqs c.alloc_mem.result c.alloc_mem.ensures.answer
    ∙ ap (λ t. let ready = after_asking c.args.size c.args.reqs t in fit ready.memory.regions ready.memory.blocks c.args.size c.args.reqs) c.self.view_is
