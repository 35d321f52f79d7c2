-- A block is named if it is shown to be named, and freed there.
use Rattle.std.proofs.Common.{ap, sym, ◌∙◌}
use Rattle.execmodel.specs.{State.Memory, Memory.block_at, Memory.freed, Memory.is_named}
use Rattle.execheap.specs.Numbered.{shown_memory}
use Rattle.execheap.proofs.Plain.{named_shown, plain_freed}
use Rattle.execheap.proofs.heap.Heap.free_mem.Goals as goal

pub returns-clause-answer : goal.returns-clause-answer
returns-clause-answer g c =
    c.free.ensures.answer ∙ sym (named_shown c.self.inside.objects c.facts.ensures.sound.table c.args.size c.args.address)
    ∙ ap (λ (m : Memory). is_named c.args.size (block_at c.args.address m.heap)) c.self.view_is

pub returns-clause-freed : goal.returns-clause-freed
returns-clause-freed g c = λ named.
    ap shown_memory (c.free.ensures.freed named) ∙ plain_freed c.self.inside.objects c.args.address ∙ ap (freed c.args.address) c.self.view_is
