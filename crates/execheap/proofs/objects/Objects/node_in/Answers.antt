-- The nodes of a list by number are those that are shown by address.
use Rattle.std.proofs.Common.{ℕ, Option, Some, map, ap, sym, ◌∙◌, option_map}
use Rattle.execlist.specs.{Lists.part_from, Lists.sequence, Order.first}
use Rattle.execheap.specs.declared.tag.Kind.TheVariants as variant
use Rattle.execheap.specs.Numbered.{Numbered, address_in, places}
use Rattle.execheap.proofs.Queues.{next_node, no_node}
use Rattle.execheap.proofs.objects.Objects.node_in.Goals as goal

pub returns-in-None-number_at : goal.returns-in-None-number_at
returns-in-None-number_at g c =
    let s = c.args.self.now in
    sym (ap (λ (o : Option ℕ). first (part_from o (map (address_in (places variant.Node s)) (sequence s.sequences c.args.h)))) c.in-Some.is
    ∙ no_node c.facts.ensures.sound c.facts.ensures.space c.args.h c.in-Some.node (sym c.in-None-number_at.ensures.value))

pub returns-in-Some-number_at : goal.returns-in-Some-number_at
returns-in-Some-number_at g c =
    let s = c.args.self.now in
    let n = c.in-Some-number_at.n in
    c.address_if-in-Some-number_at.ensures
    ∙ ap (option_map (address_in (places variant.Node s))) (c.next_node-in-Some-number_at.ensures.value
    ∙ ap (λ (x : Numbered). first (part_from (Some n) (sequence x.sequences c.args.h))) c.self.view_is)
    ∙ sym (ap (λ (o : Option ℕ). first (part_from o (map (address_in (places variant.Node s)) (sequence s.sequences c.args.h)))) c.in-Some.is
    ∙ next_node c.facts.ensures.sound c.facts.ensures.space c.args.h n c.in-Some.node c.in-Some-number_at.ensures.live)
