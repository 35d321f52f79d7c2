-- A list is made if it is shown to fit, and is shown where it is made.
use Rattle.std.proofs.Common.{None, Some, [], ◌∙◌}
use Rattle.execmodel.specs.State.{ListHead}
use Rattle.execheap.specs.declared.tag.Kind.TheVariants as variant
use Rattle.execheap.proofs.{Lists.list_made_kept, Lists.list_made_shown, Asked.kept_unmade, Asked.made_ready, Asked.place_made, Asked.placed_ready, Asked.shown_unmade}
use Rattle.execheap.proofs.objects.Objects.make_list.Goals as goal

pub invariant_of-self : goal.invariant_of-self
invariant_of-self g c =
    let make = c.in_err-list.ensures in
    kept_unmade c.self.view_is c.self.invariant make.sound make.memory variant.List make.stocked c.make.new.self make.next

pub returns-in_err-list-clause-address : goal.returns-in_err-list-clause-address
returns-in_err-list-clause-address g c =
    let make = c.in_err-list.ensures in
    c.from_residual.ensures ∙ place_made c.self.view_is c.self.invariant make.sound make.memory variant.List make.stocked None make.answer

pub returns-in_err-list-clause-next : goal.returns-in_err-list-clause-next
returns-in_err-list-clause-next g c =
    let make = c.in_err-list.ensures in
    shown_unmade c.self.view_is c.self.invariant make.sound make.memory variant.List make.stocked c.make.new.self make.next (ListHead []) _ c.from_residual.ensures

pub returns-clause-address : goal.returns-clause-address
returns-clause-address g c =
    let make = c.in_ok-list.ensures in
    place_made c.self.view_is c.self.invariant make.sound make.memory variant.List make.stocked (Some (c.in_ok-list.field-0-0, c.in_ok-list.list)) make.answer

pub invariant_of-self-2 : goal.invariant_of-self-2
invariant_of-self-2 g c =
    let make = c.in_ok-list.ensures in
    let made = made_ready c.self.view_is c.self.invariant make.sound make.memory variant.List make.stocked c.in_ok-list.field-0-0 c.in_ok-list.list c.make.new.self make.answer make.next in
    list_made_kept made

pub returns-clause-next : goal.returns-clause-next
returns-clause-next g c =
    let make = c.in_ok-list.ensures in
    let made = made_ready c.self.view_is c.self.invariant make.sound make.memory variant.List make.stocked c.in_ok-list.field-0-0 c.in_ok-list.list c.make.new.self make.answer make.next in
    list_made_shown made (g.met.S.ListSpace.stands c.self.inside.space) ∙ placed_ready c.self.view_is c.self.invariant make.sound make.memory variant.List make.stocked c.in_ok-list.list (ListHead [])
