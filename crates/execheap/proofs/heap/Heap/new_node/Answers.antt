-- A node is made if it is shown to fit, and is shown where it is made.
use Rattle.std.proofs.Common.{rules, ap, ◌∙◌, option_map}
use Rattle.std.proofs.lemmas.Int.{to_z-of_z}
use Rattle.execmodel.specs.{State.Node, Memory.placed, LowMemory.after_asking_for_object, Objects.place_for_object, Lists.is_node}
use Rattle.execheap.specs.Changes.{key_with}
use Rattle.execheap.proofs.heap.Heap.new_node.Goals as goal
use mir.Syntax.{w8}
use mir.Val.{SFits}

pub returns-clause-address : goal.returns-clause-address
returns-clause-address g c = c.make_node.ensures.address ∙ ap (λ m. place_for_object is_node 14 (after_asking_for_object is_node 14 m)) c.self.view_is

pub returns-clause-next : goal.returns-clause-next
returns-clause-next g c =
    let key = key_with c.args.pri (option_map (λ text. text.bytes) c.args.name) in
    let fits : SFits w8 c.args.pri = search rules in
    c.make_node.ensures.next ∙ rw (to_z-of_z w8 c.args.pri fits) (ap (λ m. placed 14 (Node key) c.make_node.result (after_asking_for_object is_node 14 m)) c.self.view_is)
