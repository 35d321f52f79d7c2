-- The object is made if it is shown to fit, and is shown where it is made.
use Rattle.std.proofs.Common.{None, Some, [], refl, ◌∙◌}
use Rattle.msgport.specs.Port.{new_port}
use Rattle.execmodel.specs.State.{MsgPort}
use Rattle.execheap.specs.declared.tag.Kind.TheVariants as variant
use Rattle.execheap.proofs.{Ports.port_made_kept, Ports.port_made_shown, Ports.port_next, Asked.kept_unmade, Asked.made_ready, Asked.place_made, Asked.placed_ready, Asked.shown_unmade}
use Rattle.execheap.proofs.objects.Objects.make_port.Goals as goal

pub invariant_of-self : goal.invariant_of-self
invariant_of-self g c =
    let make = c.in_err-port.ensures in
    kept_unmade c.self.view_is c.self.invariant make.sound make.memory variant.Port make.stocked c.make.new.self make.next

pub returns-in_err-port-clause-address : goal.returns-in_err-port-clause-address
returns-in_err-port-clause-address g c =
    let make = c.in_err-port.ensures in
    c.from_residual.ensures ∙ place_made c.self.view_is c.self.invariant make.sound make.memory variant.Port make.stocked None make.answer

pub returns-in_err-port-clause-next : goal.returns-in_err-port-clause-next
returns-in_err-port-clause-next g c =
    let make = c.in_err-port.ensures in
    shown_unmade c.self.view_is c.self.invariant make.sound make.memory variant.Port make.stocked c.make.new.self make.next (MsgPort (new_port c.args.task c.args.bit) []) _ c.from_residual.ensures

pub returns-clause-address : goal.returns-clause-address
returns-clause-address g c =
    let make = c.in_ok-port.ensures in
    place_made c.self.view_is c.self.invariant make.sound make.memory variant.Port make.stocked (Some (c.in_ok-port.field-0-0, c.in_ok-port.port)) make.answer

pub unwrap-requires : goal.unwrap-requires
unwrap-requires g c =
    let make = c.in_ok-port.ensures in
    let made = made_ready c.self.view_is c.self.invariant make.sound make.memory variant.Port make.stocked c.in_ok-port.field-0-0 c.in_ok-port.port c.make.new.self make.answer make.next in
    rw (c.create_port.ensures.answer, port_next c.create_port.new.self c.args.task c.args.bit made) refl

pub invariant_of-self-2 : goal.invariant_of-self-2
invariant_of-self-2 g c =
    let make = c.in_ok-port.ensures in
    let made = made_ready c.self.view_is c.self.invariant make.sound make.memory variant.Port make.stocked c.in_ok-port.field-0-0 c.in_ok-port.port c.make.new.self make.answer make.next in
    port_made_kept c.create_port.new.self c.args.task c.args.bit made c.create_port.ensures.next c.requires.own

pub returns-clause-next : goal.returns-clause-next
returns-clause-next g c =
    let make = c.in_ok-port.ensures in
    let made = made_ready c.self.view_is c.self.invariant make.sound make.memory variant.Port make.stocked c.in_ok-port.field-0-0 c.in_ok-port.port c.make.new.self make.answer make.next in
    port_made_shown c.create_port.new.self c.args.task c.args.bit made c.create_port.ensures.next c.facts.ensures.sound
    ∙ placed_ready c.self.view_is c.self.invariant make.sound make.memory variant.Port make.stocked c.in_ok-port.port (MsgPort (new_port c.args.task c.args.bit) [])
