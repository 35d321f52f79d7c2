-- The first message of the port that is shown is answered, and leaves it.
use Rattle.std.proofs.Common.{◌≡◌, Option, None, Some, refl, ap, sym, ◌∙◌, option_map}
use Rattle.std.proofs.lemmas.Option.{none-some}
use Rattle.execlist.specs.Order.{first}
use Rattle.execmodel.specs.{State.Memory, State.on_heap, Lists.or_none, Ports.messages_of, Ports.taken_off}
use Rattle.msgport.specs.Ports as ports
use Rattle.execheap.specs.{Changes.on_ports, Numbered.Numbered, Numbered.address_in, Numbered.message_places, Numbered.shown_memory}
use Rattle.execheap.proofs.Posted.{first_message_shown, taken_off_shown}
use Rattle.execheap.proofs.heap.Heap.take_message.Goals as goal

pub returns-clause-answer : goal.returns-clause-answer
returns-clause-answer g c =
    let f = c.in_ok-p.ensures.known in
    let s = c.self.inside.objects in
    c.message_or_0.ensures
    ∙ ap (λ (x : Numbered). or_none (option_map (address_in (message_places x)) c.take_message-m.result)) c.take_message-m.ensures.next
    ∙ ap (λ m. or_none (option_map (address_in (message_places s)) m)) c.take_message-m.ensures.value
    ∙ sym (ap or_none (first_message_shown f.sound c.in_ok-p.p c.args.port c.in_ok-p.ensures.found))
    ∙ ap (λ (m : Memory). or_none (first (messages_of c.args.port m.heap))) c.self.view_is

pub returns-clause-next : goal.returns-clause-next
returns-clause-next g c =
    let f = c.in_ok-p.ensures.known in
    ap shown_memory c.take_message-m.ensures.next
    ∙ taken_off_shown f.sound f.ports f.memory c.in_ok-p.p c.args.port c.in_ok-p.ensures.found c.in_ok-p.ensures.live
    ∙ ap (on_heap (taken_off c.args.port)) c.self.view_is

-- if no message is shown there is none, and nothing is taken
from_none : {A B : Type 0} (f : A → B) (o : Option A) → option_map f o ≡ None → o ≡ None
from_none f None e = refl
from_none f (Some a) e = absurd (none-some (f a) (sym e))

pub returns-clause-none : goal.returns-clause-none
returns-clause-none g c empty =
    let f = c.in_ok-p.ensures.known in
    let s = c.self.inside.objects in
    let none : first (ports.messages_of c.in_ok-p.p s.ports) ≡ None =
    from_none (address_in (message_places s)) (first (ports.messages_of c.in_ok-p.p s.ports))
    (sym (first_message_shown f.sound c.in_ok-p.p c.args.port c.in_ok-p.ensures.found)
    ∙ ap (λ (m : Memory). first (messages_of c.args.port m.heap)) c.self.view_is ∙ empty) in
    ap shown_memory c.take_message-m.ensures.next
    ∙ ap (λ o. shown_memory (on_ports (ports.taken_off c.in_ok-p.p o) s)) none
    ∙ c.self.view_is
