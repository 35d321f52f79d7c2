-- The message that is replied is one of the table, and is in the port.
use Rattle.std.proofs.Common.{ap, refl, ◌∙◌, is_some}
use Rattle.execlist.specs.{Lists.home, Pool.slot}
use Rattle.msgport.specs.Ports.{is_port}
use Rattle.execheap.specs.declared.tag.Kind.TheVariants as variant
use Rattle.execheap.specs.Numbered.{Numbered, places}
use Rattle.execheap.proofs.{KeptPorts.kept_unless, KeptPorts.not_refused, Loose.held_as_before, Loose.none_replied, Loose.put_kept, Loose.replied_ports}
use Rattle.execheap.proofs.objects.Objects.reply.Goals as goal

pub invariant_of-self : goal.invariant_of-self
invariant_of-self g c =
    let has =
    ap (λ (s : Numbered). is_some (slot (places variant.Message s) c.args.m)) c.self.view_is ∙ c.requires.message in
    kept_unless c.self.invariant _ _ _ c.reply.ensures.next
    (put_kept c.self.invariant c.facts.ensures.sound c.args.m has _ c.args.p _ refl refl
    (held_as_before c.self.invariant c.facts.ensures.sound c.args.m has) refl)

pub unwrap-requires : goal.unwrap-requires
unwrap-requires g c =
    rw (
      c.reply.ensures.answer,
      none_replied c.self.invariant c.facts.ensures.sound c.args.m
          (ap (λ (s : Numbered). is_some (slot (places variant.Message s) c.args.m)) c.self.view_is ∙ c.requires.message) c.args.p
          (ap (λ (s : Numbered). is_port c.args.p s.ports) c.self.view_is ∙ c.requires.port)
          (ap (λ (s : Numbered). home s.ports.places c.args.m) c.self.view_is ∙ c.requires.loose),
    ) refl

pub returns-clause-next : goal.returns-clause-next
returns-clause-next g c =
    replied_ports c.self.invariant c.facts.ensures.sound c.args.m
    (ap (λ (s : Numbered). is_some (slot (places variant.Message s) c.args.m)) c.self.view_is ∙ c.requires.message)
    c.self.view_is c.args.p _
    (not_refused _ _ _ _ _ _ _ c.reply.ensures.answer c.unwrap.ensures c.reply.ensures.next)
