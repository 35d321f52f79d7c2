-- A cell that is taken from between its neighbours is in no list.
use Rattle.std.proofs.Common.{ap, sym, subst, ◌∙◌}
use Rattle.execlist.specs.{Lists.home, Chains.IsLinked, Chains.lists_of, Chains.homes_of}
use Rattle.execlist.proofs.LinkLemmas.{is-some, node-in, node-next-in, node-prev-in, out-lists, out-holds, out-homes, stands-linked, homes_length, AreFresh, unlinked-fresh}
use Rattle.execlist.proofs.PlainLemmas.{if_some_from}
use Rattle.execlist.proofs.link.LinkSpaceListSpace.remove.Goals as goal

pub unlink-requires : goal.unlink-requires
unlink-requires c =
    let s = c.args.self.now in let ls = s.block.links in
    let at = is-some (home (homes_of ls s.nodes) c.args.n) c.requires in
    (node-in s.nodes s.headers ls s.linked c.args.n at.0 at.1, node-next-in s.nodes s.headers ls s.linked c.args.n at.0 at.1, node-prev-in s.nodes s.headers ls s.linked c.args.n at.0 at.1)

module _ (c : goal.After-unlink) where
  still-linked : IsLinked c.args.self.now.nodes c.args.self.now.headers c.unlink.new.self.links (lists_of c.unlink.new.self.links c.args.self.now.nodes c.args.self.now.headers)
  still-linked =
      let s = c.args.self.now in let ls = s.block.links in
      let at = is-some (home (homes_of ls s.nodes) c.args.n) c.requires in
      subst (λ m. IsLinked s.nodes s.headers m (lists_of m s.nodes s.headers)) (sym c.unlink.ensures.links) (out-holds s.nodes s.headers ls s.linked c.args.n at.0 at.1)

pub invariant_of-self : goal.invariant_of-self
invariant_of-self c =
    let s = c.args.self.now in
    record {
      linked = still-linked c;
      stands = stands-linked s.nodes s.headers c.unlink.new.self.links (still-linked c);
      low_inside = s.low_inside;
      fresh = subst (AreFresh s.low) (sym c.unlink.ensures.links) (unlinked-fresh s.low c.args.n s.block.links (let at = is-some (home (homes_of s.block.links s.nodes) c.args.n) c.requires in node-in s.nodes s.headers s.block.links s.linked c.args.n at.0 at.1) s.fresh);
      stored = s.stored;
      keyed = s.keyed ∙ homes_length s.block.links s.nodes ∙ sym (homes_length c.unlink.new.self.links s.nodes);
      key_room = s.key_room;
      few = s.few;
      lease_alloc = s.lease_alloc;
      lease_base = s.lease_base ∙ sym c.unlink.ensures.block.0;
      lease_cap = s.lease_cap ∙ sym c.unlink.ensures.block.1;
      whole = c.unlink.ensures.block.1 ∙ s.whole;
    }

pub returns-clause-taken : goal.returns-clause-taken
returns-clause-taken c =
    let s = c.args.self.now in let ls = s.block.links in
    if_some_from (home (homes_of ls s.nodes) c.args.n) (λ h own. ap (λ m. lists_of m s.nodes s.headers) c.unlink.ensures.links ∙ out-lists s.nodes s.headers ls s.linked c.args.n h own)

pub returns-clause-homes : goal.returns-clause-homes
returns-clause-homes c =
    let s = c.args.self.now in let ls = s.block.links in
    let at = is-some (home (homes_of ls s.nodes) c.args.n) c.requires in
    ap (λ m. homes_of m s.nodes) c.unlink.ensures.links ∙ out-homes s.nodes s.headers ls s.linked c.args.n at.0 at.1
