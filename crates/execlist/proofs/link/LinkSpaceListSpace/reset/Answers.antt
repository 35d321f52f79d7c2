-- Once each node is in no list, each list is empty.
use Rattle.std.proofs.Common.{◌≡◌, ℕ, ◌<◌, None, replicate, [], length, refl, ap, sym, ◌∙◌, arith}
use Rattle.execlist.specs.{Lists.blank, Lists.home, Chains.homes_of, Chains.header_of, DigestKeys.keys_in}
use lib.ListN.{length-replicate}
use Rattle.execlist.proofs.{LinkLemmas.all-empty, LinkLemmas.all-fresh, LinkLemmas.all-unlinked, LinkLemmas.home-at, LinkLemmas.homes_length, KeyLemmas.no-keys}
use Rattle.execlist.proofs.link.LinkSpaceListSpace.reset.Goals as goal

pub loop-n-init : goal.loop-n-init
loop-n-init c =
    let s = c.args.self.now in
    record {
      nodes = refl;
      headers = refl;
      inside = s.low_inside;
      out = λ m lt. home-at s.block.links s.nodes m (omega (arith, lt, s.low_inside)) ∙ ap header_of (s.fresh m lt);
    }

pub invariant_of-self : goal.invariant_of-self
invariant_of-self c =
    let s = c.loop-n.self in
    let done : (m : ℕ) → m < s.nodes → home (homes_of s.block.links s.nodes) m ≡ None =
    (λ m lt. c.loop-n.invariant.out m (omega (arith, lt, c.loop-n.invariant.nodes, c.loop-n-test.false))) in
    record {
      linked = s.linked;
      stands = s.stands;
      low_inside = omega arith;
      fresh = all-fresh s.nodes s.headers s.block.links s.linked done;
      stored = omega (arith, ap length c.clear.ensures.items, c.clear.new.self.ok.0);
      keyed =
          ap (λ ks. length (keys_in s.nodes ks)) c.clear.ensures.items ∙ ap length (no-keys s.nodes) ∙ length-replicate s.nodes blank
          ∙ sym (homes_length s.block.links s.nodes);
      key_room = omega (arith, s.key_room, c.clear.ensures.capacity);
      few = s.few;
      lease_alloc = s.lease_alloc;
      lease_base = s.lease_base;
      lease_cap = s.lease_cap;
      whole = s.whole;
    }

pub returns-clause-empty : goal.returns-clause-empty
returns-clause-empty c =
    let s = c.loop-n.self in
    let done : (m : ℕ) → m < s.nodes → home (homes_of s.block.links s.nodes) m ≡ None =
    (λ m lt. c.loop-n.invariant.out m (omega (arith, lt, c.loop-n.invariant.nodes, c.loop-n-test.false))) in
    all-empty s.nodes s.headers s.block.links s.linked done
    ∙ ap (λ k. replicate k []) (c.loop-n.invariant.headers ∙ sym c.args.self.now.linked.lists)

pub returns-clause-unlinked : goal.returns-clause-unlinked
returns-clause-unlinked c =
    let s = c.loop-n.self in
    let done : (m : ℕ) → m < s.nodes → home (homes_of s.block.links s.nodes) m ≡ None =
    (λ m lt. c.loop-n.invariant.out m (omega (arith, lt, c.loop-n.invariant.nodes, c.loop-n-test.false))) in
    all-unlinked s.nodes s.headers s.block.links s.linked done
    ∙ ap (λ k. replicate k None) (c.loop-n.invariant.nodes ∙ sym (homes_length c.args.self.now.block.links c.args.self.now.nodes))

pub returns-clause-blank : goal.returns-clause-blank
returns-clause-blank c =
    let s = c.loop-n.self in
    ap (keys_in s.nodes) c.clear.ensures.items ∙ no-keys s.nodes
    ∙ ap (λ k. replicate k blank) (c.loop-n.invariant.nodes ∙ sym (homes_length c.args.self.now.block.links c.args.self.now.nodes))
