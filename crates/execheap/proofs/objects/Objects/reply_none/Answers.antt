-- The message is one of the table, another one, and in no port.
use Rattle.std.proofs.Common.{ap, refl, ◌∙◌, is_some}
use Rattle.execlist.specs.{Lists.home, Pool.slot}
use Rattle.execheap.specs.declared.tag.Kind.TheVariants as variant
use Rattle.execheap.specs.Numbered.{Numbered, places}
use Rattle.execheap.proofs.{KeptPorts.kept_unless, Loose.none_loose, Loose.typed_kept}
use Rattle.execheap.proofs.objects.Objects.reply_none.Goals as goal

pub invariant_of-self : goal.invariant_of-self
invariant_of-self g c =
    kept_unless c.self.invariant _ _ _ c.reply_none.ensures.next
    (typed_kept c.self.invariant c.facts.ensures.sound c.args.m
    (ap (λ (s : Numbered). is_some (slot (places variant.Message s) c.args.m)) c.self.view_is ∙ c.requires.message)
    _ _ refl refl refl refl)

pub unwrap-requires : goal.unwrap-requires
unwrap-requires g c =
    rw (
      c.reply_none.ensures.answer,
      none_loose c.self.invariant c.facts.ensures.sound c.args.m
          (ap (λ (s : Numbered). is_some (slot (places variant.Message s) c.args.m)) c.self.view_is ∙ c.requires.message)
          (ap (λ (s : Numbered). home s.ports.places c.args.m) c.self.view_is ∙ c.requires.loose),
    ) refl
