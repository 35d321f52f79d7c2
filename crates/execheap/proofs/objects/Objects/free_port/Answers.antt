-- The object is freed if it is shown.
use Rattle.std.proofs.Common.{ap, refl, ◌∙◌, not}
use Rattle.msgport.specs.Ports.{has_messages, is_public}
use Rattle.execmodel.specs.Memory.{freed}
use Rattle.execheap.specs.declared.tag.Kind.TheVariants as variant
use Rattle.execheap.specs.Numbered.{Numbered, shown_memory}
use Rattle.execheap.proofs.{KeptPorts.not_refused, Made.freed_at, Ports.port_freed_kept, Ports.port_freed_shown, Ports.port_unused}
use Rattle.execheap.proofs.objects.Objects.free_port.Goals as goal

pub unwrap-requires : goal.unwrap-requires
unwrap-requires g c =
    let free = c.free.ensures in
    let gone = freed_at c.self.view_is c.self.invariant free.sound free.memory variant.Port c.args.p c.args.address c.free.new.self c.requires.live free.next in
    rw (
      c.delete_port.ensures.answer,
      port_unused c.delete_port.new.self gone (ap (λ (s : Numbered). not (has_messages c.args.p s.ports)) c.self.view_is ∙ c.requires.empty) (ap (λ (s : Numbered). not (is_public c.args.p s.ports)) c.self.view_is ∙ c.requires.private),
    ) refl

pub invariant_of-self : goal.invariant_of-self
invariant_of-self g c =
    let free = c.free.ensures in
    let gone = freed_at c.self.view_is c.self.invariant free.sound free.memory variant.Port c.args.p c.args.address c.free.new.self c.requires.live free.next in
    port_freed_kept c.delete_port.new.self gone (not_refused _ _ _ _ _ _ _ c.delete_port.ensures.answer c.unwrap.ensures c.delete_port.ensures.next) c.facts.ensures.sound (ap (λ (s : Numbered). not (has_messages c.args.p s.ports)) c.self.view_is ∙ c.requires.empty)

pub returns-clause-next : goal.returns-clause-next
returns-clause-next g c =
    let free = c.free.ensures in
    let gone = freed_at c.self.view_is c.self.invariant free.sound free.memory variant.Port c.args.p c.args.address c.free.new.self c.requires.live free.next in
    port_freed_shown c.delete_port.new.self gone (not_refused _ _ _ _ _ _ _ c.delete_port.ensures.answer c.unwrap.ensures c.delete_port.ensures.next) c.facts.ensures.sound (ap (λ (s : Numbered). not (is_public c.args.p s.ports)) c.self.view_is ∙ c.requires.private)
    ∙ ap (λ s. freed c.args.address (shown_memory s)) c.self.view_is
