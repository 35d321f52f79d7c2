-- The object is made if it is shown to fit, and is shown where it is made.
use Rattle.std.proofs.Common.{None, Some, refl, sym, subst, ◌∙◌}
use Rattle.iorequest.specs.Request.{idle_request}
use Rattle.execmodel.specs.State.{Request}
use Rattle.execheap.specs.Numbered.{IsKnown}
use Rattle.execheap.specs.declared.tag.Kind.TheVariants as variant
use Rattle.execheap.proofs.{RequestsMade.request_made_kept, RequestsMade.request_made_shown, RequestsMade.request_next, Asked.kept_unmade, Asked.made_ready, Asked.place_made, Asked.placed_ready, Asked.shown_unmade}
use Rattle.execheap.proofs.objects.Objects.make_request.Goals as goal

pub invariant_of-self : goal.invariant_of-self
invariant_of-self g c =
    let make = c.in_err-request.ensures in
    kept_unmade c.self.view_is c.self.invariant make.sound make.memory variant.Request make.stocked c.make.new.self make.next

pub returns-in_err-request-clause-address : goal.returns-in_err-request-clause-address
returns-in_err-request-clause-address g c =
    let make = c.in_err-request.ensures in
    c.from_residual.ensures ∙ place_made c.self.view_is c.self.invariant make.sound make.memory variant.Request make.stocked None make.answer

pub returns-in_err-request-clause-next : goal.returns-in_err-request-clause-next
returns-in_err-request-clause-next g c =
    let make = c.in_err-request.ensures in
    shown_unmade c.self.view_is c.self.invariant make.sound make.memory variant.Request make.stocked c.make.new.self make.next (Request (idle_request c.args.port)) _ c.from_residual.ensures

pub returns-clause-address : goal.returns-clause-address
returns-clause-address g c =
    let make = c.in_ok-request.ensures in
    place_made c.self.view_is c.self.invariant make.sound make.memory variant.Request make.stocked (Some (c.in_ok-request.field-0-0, c.in_ok-request.request)) make.answer

pub unwrap-requires : goal.unwrap-requires
unwrap-requires g c =
    let make = c.in_ok-request.ensures in
    let made = made_ready c.self.view_is c.self.invariant make.sound make.memory variant.Request make.stocked c.in_ok-request.field-0-0 c.in_ok-request.request c.make.new.self make.answer make.next in
    rw (c.create.ensures.answer, request_next c.create.new.self c.args.port made) refl

pub invariant_of-self-2 : goal.invariant_of-self-2
invariant_of-self-2 g c =
    let make = c.in_ok-request.ensures in
    let made = made_ready c.self.view_is c.self.invariant make.sound make.memory variant.Request make.stocked c.in_ok-request.field-0-0 c.in_ok-request.request c.make.new.self make.answer make.next in
    request_made_kept c.create.new.self c.args.port made c.create.ensures.next

pub returns-clause-next : goal.returns-clause-next
returns-clause-next g c =
    let make = c.in_ok-request.ensures in
    let made = made_ready c.self.view_is c.self.invariant make.sound make.memory variant.Request make.stocked c.in_ok-request.field-0-0 c.in_ok-request.request c.make.new.self make.answer make.next in
    request_made_shown c.create.new.self c.args.port made c.create.ensures.next (subst IsKnown (sym c.self.view_is) c.facts.ensures).ports
    ∙ placed_ready c.self.view_is c.self.invariant make.sound make.memory variant.Request make.stocked c.in_ok-request.request (Request (idle_request c.args.port))
