-- The last node of the list that is shown is answered.
use Rattle.std.proofs.Common.{ap, sym, ◌∙◌, option_map}
use Rattle.execmodel.specs.{State.Memory, Lists.last_of, Lists.or_none}
use Rattle.execheap.specs.declared.tag.Kind.TheVariants as variant
use Rattle.execheap.specs.Numbered.{address_in, places}
use Rattle.execheap.proofs.Linking.{last_shown}
use Rattle.execheap.proofs.heap.Heap.last.Goals as goal

pub returns-clause-answer : goal.returns-clause-answer
returns-clause-answer g c =
    let f = c.in_ok-h.ensures.known in
    let s = c.self.inside.objects in
    c.address_or_0.ensures ∙ ap (λ n. or_none (option_map (address_in (places variant.Node s)) n)) c.last.ensures.value
    ∙ sym (last_shown f.sound f.space c.in_ok-h.h c.args.list c.in_ok-h.ensures.found) ∙ ap (λ (m : Memory). last_of c.args.list m.heap) c.self.view_is
