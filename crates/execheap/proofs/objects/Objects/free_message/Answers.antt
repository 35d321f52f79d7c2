-- The object is freed if it is shown.
use Rattle.std.proofs.Common.{ap, refl, ◌∙◌}
use Rattle.execlist.specs.Lists.{home}
use Rattle.execmodel.specs.Memory.{freed}
use Rattle.execheap.specs.declared.tag.Kind.TheVariants as variant
use Rattle.execheap.specs.Numbered.{Numbered, shown_memory}
use Rattle.execheap.proofs.{KeptPorts.not_refused, Made.freed_at, Messages.message_freed_kept, Messages.message_freed_shown, Messages.message_loose}
use Rattle.execheap.proofs.objects.Objects.free_message.Goals as goal

pub unwrap-requires : goal.unwrap-requires
unwrap-requires g c =
    let free = c.free.ensures in
    let gone = freed_at c.self.view_is c.self.invariant free.sound free.memory variant.Message c.args.m c.args.address c.free.new.self c.requires.live free.next in
    rw (c.free_msg.ensures.answer, message_loose c.free_msg.new.self gone (ap (λ (s : Numbered). home s.ports.places c.args.m) c.self.view_is ∙ c.requires.loose)) refl

pub invariant_of-self : goal.invariant_of-self
invariant_of-self g c =
    let free = c.free.ensures in
    let gone = freed_at c.self.view_is c.self.invariant free.sound free.memory variant.Message c.args.m c.args.address c.free.new.self c.requires.live free.next in
    message_freed_kept c.free_msg.new.self gone (not_refused _ _ _ _ _ _ _ c.free_msg.ensures.answer c.unwrap.ensures c.free_msg.ensures.next)

pub returns : goal.returns
returns g c =
    let free = c.free.ensures in
    let gone = freed_at c.self.view_is c.self.invariant free.sound free.memory variant.Message c.args.m c.args.address c.free.new.self c.requires.live free.next in
    message_freed_shown c.free_msg.new.self gone (not_refused _ _ _ _ _ _ _ c.free_msg.ensures.answer c.unwrap.ensures c.free_msg.ensures.next) c.facts.ensures.sound
    (ap (λ (s : Numbered). home s.ports.places c.args.m) c.self.view_is ∙ c.requires.loose)
    ∙ ap (λ s. freed c.args.address (shown_memory s)) c.self.view_is
