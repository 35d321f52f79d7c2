-- The public port of the name that is shown is answered.
use Rattle.std.proofs.Common.{find, ap, sym, ◌∙◌, option_map}
use Rattle.execlist.specs.Lists.{is_named}
use Rattle.msgport.specs.Ports.{MessagePorts}
use Rattle.execmodel.specs.{State.Memory, Lists.or_none, Ports.is_called, Ports.port_or_none}
use Rattle.execheap.specs.declared.tag.Kind.TheVariants as variant
use Rattle.execheap.specs.Numbered.{address_in, places}
use Rattle.execheap.proofs.Public.{found_public}
use Rattle.execheap.proofs.heap.Heap.find_port.Goals as goal

pub returns : goal.returns
returns g c =
    let s = c.self.inside.objects in
    c.port_or_0.ensures ∙ ap (λ p. or_none (option_map (address_in (places variant.Port s)) p)) (c.find_port.ensures.value ∙ ap (λ (q : MessagePorts). find (is_named q.keys c.args.name.now) q.public) c.ports.ensures)
    ∙ sym (found_public s c.args.name.now)
    ∙ ap (λ (m : Memory). port_or_none (find (is_called c.args.name.now) m.public)) c.self.view_is
