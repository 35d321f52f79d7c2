-- The message that is put is one of the table, and is in the port.
use Rattle.std.proofs.Common.{ap, refl, ◌∙◌, is_some}
use Rattle.execlist.specs.{Lists.home, Pool.slot}
use Rattle.msgport.specs.Ports.{is_port}
use Rattle.execheap.specs.declared.tag.Kind.TheVariants as variant
use Rattle.execheap.specs.Numbered.{Numbered, places}
use Rattle.execheap.proofs.{KeptPorts.kept_unless, Loose.none_posted, Loose.put_kept}
use Rattle.execheap.proofs.objects.Objects.put.Goals as goal

pub invariant_of-self : goal.invariant_of-self
invariant_of-self g c =
    kept_unless c.self.invariant _ _ _ c.put.ensures.next
    (put_kept c.self.invariant c.facts.ensures.sound c.args.m
    (ap (λ (s : Numbered). is_some (slot (places variant.Message s) c.args.m)) c.self.view_is ∙ c.requires.message)
    _ c.args.p _ refl refl refl refl)

pub unwrap-requires : goal.unwrap-requires
unwrap-requires g c =
    rw (
      c.put.ensures.answer,
      none_posted c.self.invariant c.facts.ensures.sound c.args.m
          (ap (λ (s : Numbered). is_some (slot (places variant.Message s) c.args.m)) c.self.view_is ∙ c.requires.message) c.args.p
          (ap (λ (s : Numbered). is_port c.args.p s.ports) c.self.view_is ∙ c.requires.port)
          (ap (λ (s : Numbered). home s.ports.places c.args.m) c.self.view_is ∙ c.requires.loose),
    ) refl
