-- The nodes of the list that begins at an address; none if none does.
use Rattle.std.proofs.Common.{List, ℕ, ap, sym, ◌∙◌}
use Rattle.execlist.specs.{Lists.part_from, Order.first}
use Rattle.execheap.proofs.{Queues.no_list, Shown.nodes_shown}
use Rattle.execheap.proofs.objects.Objects.node_after.Goals as goal

pub returns-in-None : goal.returns-in-None
returns-in-None g c = sym (no_list c.args.self.now c.args.list c.args.after (sym c.in-None.ensures.value))

pub returns-in-Some : goal.returns-in-Some
returns-in-Some g c =
    c.node_in.ensures
    ∙ ap (λ (all : List ℕ). first (part_from c.args.after all)) (sym (nodes_shown c.args.self.now c.args.list c.in-Some.h (sym c.in-Some.ensures.value)))
