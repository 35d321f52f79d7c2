-- A cell that has a header is taken from between its neighbours; one that has none is in no list already.
use Rattle.std.proofs.Common.{◌≡◌, ◌-◌, Some, ap, sym, subst, ◌∙◌}
use Rattle.execlist.specs.{Lists.home, Chains.IsLinked, Chains.lists_of, Chains.homes_of}
use Rattle.execlist.proofs.LinkLemmas.{header-less, home-read, homes_length, node-in, node-next-in, node-prev-in, out-holds, out-homes, stands-linked, AreFresh, same-homes, unlinked-fresh}
use Rattle.execlist.proofs.link.LinkSpace.take_out.Goals as goal

pub unlink-requires : goal.unlink-requires
unlink-requires c =
    let s = c.args.self.now in let ls = s.block.links in let n = c.args.n in
    let h = c.home_id.result - 1 in
    let own : home (homes_of ls s.nodes) n ≡ Some h = sym (header-less c.home_id.result c.if-home_id-ne0.true ∙ home-read ls s.nodes n c.home_id.result c.requires c.home_id.ensures) in
    (node-in s.nodes s.headers ls s.linked n h own, node-next-in s.nodes s.headers ls s.linked n h own, node-prev-in s.nodes s.headers ls s.linked n h own)

pub invariant_of-self : goal.invariant_of-self
invariant_of-self c =
    let s = c.args.self.now in let ls = s.block.links in let n = c.args.n in let new = c.unlink.new.self.links in
    let h = c.home_id.result - 1 in
    let own : home (homes_of ls s.nodes) n ≡ Some h = sym (header-less c.home_id.result c.if-home_id-ne0.true ∙ home-read ls s.nodes n c.home_id.result c.requires c.home_id.ensures) in
    let still : IsLinked s.nodes s.headers new (lists_of new s.nodes s.headers) =
    subst (λ m. IsLinked s.nodes s.headers m (lists_of m s.nodes s.headers)) (sym c.unlink.ensures.links) (out-holds s.nodes s.headers ls s.linked n h own) in
    record {
      linked = still;
      stands = stands-linked s.nodes s.headers new still;
      low_inside = s.low_inside;
      fresh = subst (AreFresh s.low) (sym c.unlink.ensures.links) (unlinked-fresh s.low n ls (node-in s.nodes s.headers ls s.linked n h own) s.fresh);
      stored = s.stored;
      keyed = s.keyed ∙ homes_length ls s.nodes ∙ sym (homes_length new s.nodes);
      key_room = s.key_room;
      few = s.few;
      lease_alloc = s.lease_alloc;
      lease_base = s.lease_base ∙ sym c.unlink.ensures.block.0;
      lease_cap = s.lease_cap ∙ sym c.unlink.ensures.block.1;
      whole = c.unlink.ensures.block.1 ∙ s.whole;
    }

pub returns-then-home_id-ne0-clause-homes : goal.returns-then-home_id-ne0-clause-homes
returns-then-home_id-ne0-clause-homes c =
    let s = c.args.self.now in let ls = s.block.links in let n = c.args.n in
    let h = c.home_id.result - 1 in
    let own : home (homes_of ls s.nodes) n ≡ Some h = sym (header-less c.home_id.result c.if-home_id-ne0.true ∙ home-read ls s.nodes n c.home_id.result c.requires c.home_id.ensures) in
    ap (λ m. homes_of m s.nodes) c.unlink.ensures.links ∙ out-homes s.nodes s.headers ls s.linked n h own

pub returns-else-home_id-ne0-clause-homes : goal.returns-else-home_id-ne0-clause-homes
returns-else-home_id-ne0-clause-homes c =
    let s = c.args.self.now in
    same-homes s.nodes c.args.n s.block.links c.requires (sym c.home_id.ensures ∙ c.if-home_id-ne0.false)
