-- A block fits if it is shown to fit, and is shown where it is put, after libraries were asked for memory.
use Rattle.std.proofs.Common.{ap, ◌∙◌}
use Rattle.execmodel.specs.{State.Plain, Memory.place_for, Memory.placed, LowMemory.after_asking}
use Rattle.execheap.specs.Numbered.{shown_memory}
use Rattle.execheap.proofs.Asked.{kept_taken, place_taken, shown_taken}
use Rattle.execheap.proofs.objects.Objects.allocate.Goals as goal

pub invariant_of-self : goal.invariant_of-self
invariant_of-self g c =
    let made = c.allocate.ensures in
    kept_taken c.self.invariant made.sound made.memory c.args.size c.args.reqs c.allocate.result c.allocate.new.self made.next

pub returns-clause-address : goal.returns-clause-address
returns-clause-address g c =
    let made = c.allocate.ensures in
    place_taken c.self.invariant made.sound made.memory c.args.size c.args.reqs c.allocate.result made.answer
    ∙ ap (λ s. place_for c.args.size c.args.reqs (after_asking c.args.size c.args.reqs (shown_memory s))) c.self.view_is

pub returns-clause-next : goal.returns-clause-next
returns-clause-next g c =
    let made = c.allocate.ensures in
    shown_taken c.self.invariant made.sound made.memory c.args.size c.args.reqs c.allocate.result c.allocate.new.self made.next
    ∙ ap (λ s. placed c.args.size Plain c.allocate.result (after_asking c.args.size c.args.reqs (shown_memory s))) c.self.view_is
