-- A cell that is put between two neighbours is in their list.
use Rattle.std.proofs.Common.{◌+◌, ◌<◌, length, ap, sym, subst, ◌∙◌, arith}
use Rattle.execlist.specs.Links.{link_at}
use Rattle.execlist.proofs.LinkLemmas.{known-header, homes_length, pred-in, pred-next-in, new-lists, new-holds, new-homes, stands-linked, AreFresh, linked-fresh}
use Rattle.execlist.proofs.link.LinkSpaceListSpace.insert.Goals as goal

pub cell_before-before-requires : goal.cell_before-before-requires
cell_before-before-requires c = let s = c.args.self.now in known-header s.nodes s.headers s.block.links s.linked c.args.h c.requires.header

pub next_id-after-requires : goal.next_id-after-requires
next_id-after-requires c =
    let s = c.args.self.now in let ls = s.block.links in
    let lt = known-header s.nodes s.headers ls s.linked c.args.h c.requires.header in
    let small : c.args.n < s.nodes = omega (arith, c.requires.node, homes_length ls s.nodes) in
    subst (λ t. (t < length ls) × ((link_at ls t).next < length ls)) (sym c.cell_before-before.ensures)
    (pred-in s.nodes s.headers ls s.linked c.args.h c.args.n lt small c.requires.unlinked c.args.pred c.requires.pred_in c.args.pred c.requires.pred_in, pred-next-in s.nodes s.headers ls s.linked c.args.h c.args.n lt small c.requires.unlinked c.args.pred c.requires.pred_in c.args.pred c.requires.pred_in)

pub link_between-requires : goal.link_between-requires
link_between-requires c =
    let s = c.args.self.now in let ls = s.block.links in
    let lt = known-header s.nodes s.headers ls s.linked c.args.h c.requires.header in
    let small : c.args.n < s.nodes = omega (arith, c.requires.node, homes_length ls s.nodes) in
    let e = c.cell_before-before.ensures in (
      subst (λ t. t < length ls) (sym e) (pred-in s.nodes s.headers ls s.linked c.args.h c.args.n lt small c.requires.unlinked c.args.pred c.requires.pred_in c.args.pred c.requires.pred_in),
      omega (arith, small, s.linked.cells),
      subst (λ t. t < length ls) (sym (c.next_id-after.ensures ∙ ap (λ t. (link_at ls t).next) e)) (pred-next-in s.nodes s.headers ls s.linked c.args.h c.args.n lt small c.requires.unlinked c.args.pred c.requires.pred_in c.args.pred c.requires.pred_in),
    )

pub invariant_of-self : goal.invariant_of-self
invariant_of-self c =
    let s = c.args.self.now in let new = c.link_between.new.self.links in
    let still = new-holds s.nodes s.headers s.block.links s.linked c.args.h c.args.n c.requires.header c.requires.node c.requires.unlinked c.args.pred c.requires.pred_in c.link_between.new.self.links c.cell_before-before.result c.next_id-after.result c.cell_before-before.ensures c.next_id-after.ensures c.link_between.ensures.links in
    record {
      linked = still;
      stands = stands-linked s.nodes s.headers new still;
      low_inside = let less = c.lesser-self.ensures.0 in omega (arith, less, s.low_inside);
      fresh = subst (AreFresh c.lesser-self.result) (sym c.link_between.ensures.links) (linked-fresh s.low c.lesser-self.result c.cell_before-before.result c.args.n c.next_id-after.result (c.args.h + 1) s.block.links c.lesser-self.ensures.0 c.lesser-self.ensures.1 s.fresh);
      stored = s.stored;
      keyed = s.keyed ∙ homes_length s.block.links s.nodes ∙ sym (homes_length new s.nodes);
      key_room = s.key_room;
      few = s.few;
      lease_alloc = s.lease_alloc;
      lease_base = s.lease_base ∙ sym c.link_between.ensures.block.0;
      lease_cap = s.lease_cap ∙ sym c.link_between.ensures.block.1;
      whole = c.link_between.ensures.block.1 ∙ s.whole;
    }

pub returns-clause-placed : goal.returns-clause-placed
returns-clause-placed c = let s = c.args.self.now in new-lists s.nodes s.headers s.block.links s.linked c.args.h c.args.n c.requires.header c.requires.node c.requires.unlinked c.args.pred c.requires.pred_in c.link_between.new.self.links c.cell_before-before.result c.next_id-after.result c.cell_before-before.ensures c.next_id-after.ensures c.link_between.ensures.links

pub returns-clause-homes : goal.returns-clause-homes
returns-clause-homes c = let s = c.args.self.now in new-homes s.nodes s.headers s.block.links s.linked c.args.h c.args.n c.requires.header c.requires.node c.requires.unlinked c.args.pred c.requires.pred_in c.link_between.new.self.links c.cell_before-before.result c.next_id-after.result c.cell_before-before.ensures c.next_id-after.ensures c.link_between.ensures.links
