-- The count of the library that is shown is answered.
use Rattle.std.proofs.Common.{ap, sym, ◌∙◌}
use Rattle.execmodel.specs.{State.Memory, Libraries.count_of}
use Rattle.execheap.proofs.Libraries.{count_there}
use Rattle.execheap.proofs.heap.Heap.library_count.Goals as goal

pub returns-clause-answer : goal.returns-clause-answer
returns-clause-answer g c =
    c.library_count.ensures ∙ sym (count_there c.self.inside.objects c.in_ok-i.ensures.known.sound.table c.in_ok-i.i c.args.base c.in_ok-i.ensures.found)
    ∙ ap (λ (m : Memory). count_of c.args.base m.heap) c.self.view_is
