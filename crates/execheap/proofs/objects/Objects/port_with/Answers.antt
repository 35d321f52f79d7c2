-- The port by number is the one that has the address among its messages.
use Rattle.std.proofs.Common.{ap, sym, ◌∙◌, option_map}
use Rattle.execlist.specs.Lists.{home}
use Rattle.execheap.specs.declared.tag.Kind.TheVariants as variant
use Rattle.execheap.specs.Numbered.{Numbered, address_in, places}
use Rattle.execheap.proofs.Queues.{port_with_none, port_with_shown}
use Rattle.execheap.proofs.objects.Objects.port_with.Goals as goal

pub returns-in-None : goal.returns-in-None
returns-in-None g c =
    let known = c.in-None.ensures.known in
    sym (port_with_none known.sound known.ports c.args.message c.in-None.ensures.number)

pub returns-in-Some : goal.returns-in-Some
returns-in-Some g c =
    let known = c.in-Some.ensures.known in
    c.port_if.ensures
    ∙ ap (option_map (address_in (places variant.Port c.args.self.now)))
    (c.place.ensures.value ∙ ap (λ (x : Numbered). home x.ports.places c.in-Some.m) c.self.view_is)
    ∙ sym (port_with_shown known.sound known.ports known.memory c.in-Some.m c.args.message c.in-Some.ensures.number)
