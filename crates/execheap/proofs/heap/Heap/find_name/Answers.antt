-- The first node of the name among those that are searched is answered.
use Rattle.std.proofs.Common.{ap, sym, ◌∙◌, option_map}
use Rattle.execmodel.specs.{State.Memory, Lists.found_node, Lists.or_none}
use Rattle.execheap.specs.declared.tag.Kind.TheVariants as variant
use Rattle.execheap.specs.Numbered.{address_in, places}
use Rattle.execheap.proofs.Linking.{found_shown}
use Rattle.execheap.proofs.heap.Heap.find_name.Goals as goal

pub returns-clause-answer : goal.returns-clause-answer
returns-clause-answer g c =
    let f = c.in_ok-h.ensures.known in
    let s = c.self.inside.objects in
    c.address_or_0.ensures ∙ ap (λ n. or_none (option_map (address_in (places variant.Node s)) n)) c.find_name.ensures.value
    ∙ sym (found_shown f.sound f.space c.args.name.now c.args.start c.in_ok-h.h c.in_ok-h.after c.in_ok-h.ensures.searched)
    ∙ ap (λ (m : Memory). found_node c.args.start c.args.name.now m.heap) c.self.view_is
