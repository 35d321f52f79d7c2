-- The messages of the port that begins at an address; none if none does.
use Rattle.std.proofs.Common.{List, ℕ, ap, is_some, sym, ◌∙◌}
use Rattle.execlist.specs.{Lists.part_from, Order.first}
use Rattle.execheap.specs.declared.tag.Kind.TheVariants as variant
use Rattle.execheap.specs.Table.{pool_of}
use Rattle.execheap.proofs.{Queues.no_port_there, Shown.messages_shown, Stepping.shape_lives}
use Rattle.execheap.proofs.objects.Objects.message_after.Goals as goal

pub message_in-requires : goal.message_in-requires
message_in-requires g c =
    let s = c.args.self.now in
    sym (shape_lives (pool_of variant.Port s.table) s.ports.ports (c.in-Some.ensures.known.sound.kept.in_step variant.Port) c.in-Some.p)
    ∙ ap is_some c.in-Some.ensures.live

pub returns-in-None : goal.returns-in-None
returns-in-None g c = sym (no_port_there c.args.self.now c.args.port c.args.after (sym c.in-None.ensures.value))

pub returns-in-Some : goal.returns-in-Some
returns-in-Some g c =
    c.message_in.ensures
    ∙ ap (λ (all : List ℕ). first (part_from c.args.after all)) (sym (messages_shown c.args.self.now c.args.port c.in-Some.p (sym c.in-Some.ensures.value)))
