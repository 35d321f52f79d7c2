-- The proof of `MemList::reset`: frees every block.
use Rattle.std.proofs.Common.{arith, ap, ◌∙◌}
use Rattle.memlist.specs.{Areas.greatest_total, Areas.regions_of, Memory.Memory, Memory.untouched}
use Rattle.memlist.proofs.Memories.{new_memory, new_shown}
use Rattle.memlist.proofs.memory.MemList.reset.Goals as goal

pub invariant_of-self : goal.invariant_of-self
invariant_of-self c =
    new_memory c.reset_all.new.headers.items (regions_of c.self.inside.headers.items) greatest_total (omega arith) c.reset_all.ensures c.self.invariant.sound

pub returns : goal.returns
returns c =
    new_shown c.reset_all.new.headers.items (regions_of c.self.inside.headers.items) c.reset_all.ensures
    ∙ ap (λ (m : Memory). untouched m.regions) c.self.view_is
