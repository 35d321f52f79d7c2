-- The object is made if it is shown to fit, and is shown where it is made.
use Rattle.std.proofs.Common.{None, Some, refl, ◌∙◌}
use Rattle.msgport.specs.Ports.{new_message}
use Rattle.execmodel.specs.State.{Message}
use Rattle.execheap.specs.declared.tag.Kind.TheVariants as variant
use Rattle.execheap.proofs.{Messages.message_made_kept, Messages.message_made_shown, Messages.message_next, Asked.kept_unmade, Asked.made_ready, Asked.place_made, Asked.placed_ready, Asked.shown_unmade}
use Rattle.execheap.proofs.objects.Objects.make_message.Goals as goal

pub invariant_of-self : goal.invariant_of-self
invariant_of-self g c =
    let make = c.in_err-message.ensures in
    kept_unmade c.self.view_is c.self.invariant make.sound make.memory variant.Message make.stocked c.make.new.self make.next

pub returns-in_err-message-clause-address : goal.returns-in_err-message-clause-address
returns-in_err-message-clause-address g c =
    let make = c.in_err-message.ensures in
    c.from_residual.ensures ∙ place_made c.self.view_is c.self.invariant make.sound make.memory variant.Message make.stocked None make.answer

pub returns-in_err-message-clause-next : goal.returns-in_err-message-clause-next
returns-in_err-message-clause-next g c =
    let make = c.in_err-message.ensures in
    shown_unmade c.self.view_is c.self.invariant make.sound make.memory variant.Message make.stocked c.make.new.self make.next (Message (new_message c.args.reply c.args.word)) _ c.from_residual.ensures

pub returns-clause-address : goal.returns-clause-address
returns-clause-address g c =
    let make = c.in_ok-message.ensures in
    place_made c.self.view_is c.self.invariant make.sound make.memory variant.Message make.stocked (Some (c.in_ok-message.field-0-0, c.in_ok-message.message)) make.answer

pub unwrap-requires : goal.unwrap-requires
unwrap-requires g c =
    let make = c.in_ok-message.ensures in
    let made = made_ready c.self.view_is c.self.invariant make.sound make.memory variant.Message make.stocked c.in_ok-message.field-0-0 c.in_ok-message.message c.make.new.self make.answer make.next in
    rw (c.make_msg.ensures.answer, message_next c.make_msg.new.self c.args.reply c.args.word made) refl

pub invariant_of-self-2 : goal.invariant_of-self-2
invariant_of-self-2 g c =
    let make = c.in_ok-message.ensures in
    let made = made_ready c.self.view_is c.self.invariant make.sound make.memory variant.Message make.stocked c.in_ok-message.field-0-0 c.in_ok-message.message c.make.new.self make.answer make.next in
    message_made_kept c.make_msg.new.self c.args.reply c.args.word made c.make_msg.ensures.next

pub returns-clause-next : goal.returns-clause-next
returns-clause-next g c =
    let make = c.in_ok-message.ensures in
    let made = made_ready c.self.view_is c.self.invariant make.sound make.memory variant.Message make.stocked c.in_ok-message.field-0-0 c.in_ok-message.message c.make.new.self make.answer make.next in
    message_made_shown c.make_msg.new.self c.args.reply c.args.word made c.make_msg.ensures.next c.facts.ensures.sound
    ∙ placed_ready c.self.view_is c.self.invariant make.sound make.memory variant.Message make.stocked c.in_ok-message.message (Message (new_message c.args.reply c.args.word))
