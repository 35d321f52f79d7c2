-- The messages of a port by number are those that are shown by address.
use Rattle.std.proofs.Common.{◌≡◌, ℕ, Option, Some, map, ap, sym, subst, ◌∙◌, IfSome, option_map}
use Rattle.execlist.specs.{Lists.home, Lists.part_from, Order.first}
use Rattle.msgport.specs.Ports.{messages_of}
use Rattle.execheap.specs.Numbered.{Numbered, address_in, message_places}
use Rattle.execheap.proofs.Queues.{next_message, no_message, placed_if}
use Rattle.execheap.proofs.objects.Objects.message_in.Goals as goal

pub message_if-requires : goal.message_if-requires
message_if-requires g c =
    placed_if c.facts.ensures.sound c.facts.ensures.ports c.args.p c.message_after.result
    (subst (λ (x : Numbered). IfSome c.message_after.result (λ m. home x.ports.places m ≡ Some c.args.p)) c.self.view_is c.message_after.ensures.place)

pub message_if-requires-in-Some-message_number : goal.message_if-requires-in-Some-message_number
message_if-requires-in-Some-message_number g c =
    let next = c.message_after-in-Some-message_number.result in
    placed_if c.facts.ensures.sound c.facts.ensures.ports c.args.p next
    (subst (λ (x : Numbered). IfSome next (λ m. home x.ports.places m ≡ Some c.args.p)) c.self.view_is
    c.message_after-in-Some-message_number.ensures.place)

pub returns-in-None-message_number : goal.returns-in-None-message_number
returns-in-None-message_number g c =
    let s = c.args.self.now in
    sym (ap (λ (o : Option ℕ). first (part_from o (map (address_in (message_places s)) (messages_of c.args.p s.ports)))) c.in-Some.is
    ∙ no_message c.facts.ensures.sound c.facts.ensures.ports c.in-Some.message c.in-None-message_number.ensures.number c.args.p)

pub returns-in-Some-message_number : goal.returns-in-Some-message_number
returns-in-Some-message_number g c =
    let s = c.args.self.now in
    let m = c.in-Some-message_number.m in
    c.message_if-in-Some-message_number.ensures
    ∙ ap (option_map (address_in (message_places s))) (c.message_after-in-Some-message_number.ensures.value
    ∙ ap (λ (x : Numbered). first (part_from (Some m) (messages_of c.args.p x.ports))) c.self.view_is)
    ∙ sym (ap (λ (o : Option ℕ). first (part_from o (map (address_in (message_places s)) (messages_of c.args.p s.ports)))) c.in-Some.is
    ∙ next_message c.facts.ensures.sound c.facts.ensures.ports c.args.p m c.in-Some.message c.in-Some-message_number.ensures.number)
