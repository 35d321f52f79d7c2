-- A node is made if it is shown to fit, and is shown where it is made.
use Rattle.std.proofs.Common.{rules, None, Some, ◌∙◌, option_map}
use Rattle.std.proofs.lemmas.Int.{to_z-of_z}
use Rattle.execmodel.specs.State.{Node}
use Rattle.execheap.specs.Changes.{key_with}
use Rattle.execheap.specs.declared.tag.Kind.TheVariants as variant
use Rattle.execheap.proofs.{Nodes.node_known, Nodes.node_made_shown, Asked.kept_unmade, Asked.made_ready, Asked.place_made, Asked.placed_ready, Asked.shown_unmade}
use Rattle.execheap.proofs.objects.Objects.make_node.Goals as goal
use mir.Syntax.{w8}
use mir.Val.{SFits}

pub invariant_of-self : goal.invariant_of-self
invariant_of-self g c =
    let make = c.in_err-n.ensures in
    kept_unmade c.self.view_is c.self.invariant make.sound make.memory variant.Node make.stocked c.make.new.self make.next

pub returns-in_err-n-clause-address : goal.returns-in_err-n-clause-address
returns-in_err-n-clause-address g c =
    let make = c.in_err-n.ensures in
    c.from_residual.ensures ∙ place_made c.self.view_is c.self.invariant make.sound make.memory variant.Node make.stocked None make.answer

pub returns-in_err-n-clause-next : goal.returns-in_err-n-clause-next
returns-in_err-n-clause-next g c =
    let make = c.in_err-n.ensures in
    shown_unmade c.self.view_is c.self.invariant make.sound make.memory variant.Node make.stocked c.make.new.self make.next (Node (key_with c.args.pri (option_map (λ text. text.bytes) c.args.name))) _ c.from_residual.ensures

pub returns-clause-address : goal.returns-clause-address
returns-clause-address g c =
    let make = c.in_ok-n.ensures in
    place_made c.self.view_is c.self.invariant make.sound make.memory variant.Node make.stocked (Some (c.in_ok-n.n, c.in_ok-n.node)) make.answer

pub set_key-requires-clause-node : goal.set_key-requires-clause-node
set_key-requires-clause-node g c =
    let make = c.in_ok-n.ensures in
    let made = made_ready c.self.view_is c.self.invariant make.sound make.memory variant.Node make.stocked c.in_ok-n.n c.in_ok-n.node c.make.new.self make.answer make.next in
    node_known made

pub returns-clause-next : goal.returns-clause-next
returns-clause-next g c =
    let make = c.in_ok-n.ensures in
    let made = made_ready c.self.view_is c.self.invariant make.sound make.memory variant.Node make.stocked c.in_ok-n.n c.in_ok-n.node c.make.new.self make.answer make.next in
    let keyed = c.set_key.ensures in
    let key = key_with c.args.pri (option_map (λ text. text.bytes) c.args.name) in
    let fits : SFits w8 c.args.pri = search rules in
    rw (keyed.sequences, keyed.homes, keyed.keys, to_z-of_z w8 c.args.pri fits)
    (node_made_shown made (g.met.S.ListSpace.stands c.self.inside.space) key (g.met.S.ListSpace.keyed c.self.inside.space)
    ∙ placed_ready c.self.view_is c.self.invariant make.sound make.memory variant.Node make.stocked c.in_ok-n.node (Node key))
