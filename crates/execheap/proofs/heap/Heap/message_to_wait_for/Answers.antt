-- The first message of the port that is shown is answered, and the port's signal.
use Rattle.std.proofs.Common.{Some, ap, sym, ◌∙◌, option_map, unwrap_or}
use Rattle.execlist.specs.Order.{first}
use Rattle.execmodel.specs.{State.Memory, Ports.messages_of, Ports.port_of}
use Rattle.msgport.specs.Port.{Port}
use Rattle.msgport.specs.Ports as ports
use Rattle.execheap.specs.Numbered.{address_in, message_places}
use Rattle.execheap.proofs.{MessagePlaces.first_placed, Posted.first_message_shown, Posted.port_of_shown}
use Rattle.execheap.proofs.heap.Heap.message_to_wait_for.Goals as goal

pub address_of_message-requires : goal.address_of_message-requires
address_of_message-requires g c =
    let f = c.in_ok-p.ensures.known in
    first_placed f.sound f.ports c.in_ok-p.p c.in-Some.m
    (ap (λ (q : ports.MessagePorts). first (ports.messages_of c.in_ok-p.p q)) (sym c.ports.ensures) ∙ sym c.in-Some.ensures.value)

pub returns-in-Some-clause-message : goal.returns-in-Some-clause-message
returns-in-Some-clause-message g c =
    let s = c.self.inside.objects in
    ap (λ o. Some (unwrap_or o 0)) (sym c.address_of_message.ensures)
    ∙ ap (option_map (address_in (message_places s))) (c.in-Some.ensures.value ∙ ap (λ (q : ports.MessagePorts). first (ports.messages_of c.in_ok-p.p q)) c.ports.ensures)
    ∙ sym (first_message_shown c.in_ok-p.ensures.known.sound c.in_ok-p.p c.args.port c.in_ok-p.ensures.found)
    ∙ ap (λ (m : Memory). first (messages_of c.args.port m.heap)) c.self.view_is

pub returns-in-Some-clause-bit : goal.returns-in-Some-clause-bit
returns-in-Some-clause-bit g c =
    c.in_ok-p.ensures.bit ∙ ap (λ (port : Port). port.bit) (sym (port_of_shown c.in_ok-p.ensures.known.sound c.in_ok-p.p c.args.port c.in_ok-p.ensures.found))
    ∙ ap (λ (m : Memory). (port_of c.args.port m.heap).bit) c.self.view_is

pub returns-in-None-clause-message : goal.returns-in-None-clause-message
returns-in-None-clause-message g c =
    let s = c.self.inside.objects in
    ap (option_map (address_in (message_places s))) (c.in-None.ensures.value ∙ ap (λ (q : ports.MessagePorts). first (ports.messages_of c.in_ok-p.p q)) c.ports.ensures)
    ∙ sym (first_message_shown c.in_ok-p.ensures.known.sound c.in_ok-p.p c.args.port c.in_ok-p.ensures.found)
    ∙ ap (λ (m : Memory). first (messages_of c.args.port m.heap)) c.self.view_is

pub returns-in-None-clause-bit : goal.returns-in-None-clause-bit
returns-in-None-clause-bit g c =
    c.in_ok-p.ensures.bit ∙ ap (λ (port : Port). port.bit) (sym (port_of_shown c.in_ok-p.ensures.known.sound c.in_ok-p.p c.args.port c.in_ok-p.ensures.found))
    ∙ ap (λ (m : Memory). (port_of c.args.port m.heap).bit) c.self.view_is
