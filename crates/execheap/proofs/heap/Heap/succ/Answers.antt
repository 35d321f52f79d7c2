-- The node after it in the list that is shown is answered.
use Rattle.std.proofs.Common.{ap, sym, ◌∙◌, option_map}
use Rattle.execmodel.specs.{State.Memory, Lists.succ_of, Lists.or_none}
use Rattle.execheap.specs.declared.tag.Kind.TheVariants as variant
use Rattle.execheap.specs.Numbered.{address_in, places}
use Rattle.execheap.proofs.Linking.{succ_shown}
use Rattle.execheap.proofs.heap.Heap.succ.Goals as goal

pub returns-clause-answer : goal.returns-clause-answer
returns-clause-answer g c =
    let f = c.in_ok-n.ensures.known in
    let e = c.in_ok-n.ensures in
    let s = c.self.inside.objects in
    c.address_or_0.ensures ∙ ap (λ n. or_none (option_map (address_in (places variant.Node s)) n)) (c.succ.ensures.value _ e.linked)
    ∙ sym (succ_shown f.sound f.space _ c.in_ok-n.n c.args.node e.found e.linked) ∙ ap (λ (m : Memory). succ_of c.args.node m.heap) c.self.view_is
