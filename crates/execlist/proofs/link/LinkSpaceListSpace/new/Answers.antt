-- The cells are those of empty lists and of nodes that are in none.
use Rattle.std.proofs.Common.{◌≡◌, suc, ◌*◌, ◌<◌, List, [], ◌∷◌, ◌++◌, ◌+◌, length, refl, sym, ap, subst, ◌∙◌, arith}
use lib.ListN.{length-append, length-replicate}
use Rattle.execlist.specs.{Lists.blank, DigestKeys.keys_in, Links.Link, Links.link, Links.link_at, Chains.IsLinked, Chains.lists_of, Chains.head_cell, Chains.tail_cell, Chains.free_links, Chains.empty_links, Chains.homes_of}
use Rattle.execlist.proofs.{KeyLemmas.no-keys, Empty.free-length, Empty.empty-length, Empty.empty-lists, Empty.empty-holds, Empty.free-more, Empty.empty-more, Empty.empty-none, Empty.free-none, Empty.empty-at, LinkLemmas.stands-linked, LinkLemmas.homes_length, LinkLemmas.empty-homes}
use Rattle.execlist.proofs.link.LinkSpaceListSpace.new.Goals as goal

pub loop-i-init : goal.loop-i-init
loop-i-init c = (c.in-Some.ensures.1 ∙ sym free-none, refl, refl)

pub push-requires : goal.push-requires
push-requires c =
    let lt : c.loop-i.i < c.args.nodes = c.loop-i-test.true in let capacity = c.loop-i.invariant.2 ∙ c.in-Some.ensures.0 in
    let small : c.loop-i.i < c.loop-i.block.capacity = omega (arith, lt, capacity) in
    let place = sym (free-length c.loop-i.i) ∙ ap length (sym c.loop-i.invariant.0) in
    (place, place, small, small, small)

pub loop-i-preserved : goal.loop-i-preserved
loop-i-preserved c =
    let i = c.loop-i.i in let o = c.loop-i.invariant in let e = c.push.ensures in
    (e.links ∙ ap (λ (l : List Link). l ++ link i i 0 ∷ []) o.0 ∙ free-more i, e.block.0 ∙ o.1, e.block.1 ∙ o.2)

pub loop-h-init : goal.loop-h-init
loop-h-init c = let done : c.loop-i.i ≡ c.args.nodes = omega (arith, c.loop-i-test.false, c.loop-i.auto.i-end) in (c.loop-i.invariant.0 ∙ ap free_links done ∙ empty-none c.args.nodes, refl, refl)

pub push-requires-in-loop-h : goal.push-requires-in-loop-h
push-requires-in-loop-h c =
    let lt : c.loop-h.h < c.args.headers = c.loop-h-test.true in let capacity = c.loop-h.invariant.2 ∙ c.loop-i.invariant.2 ∙ c.in-Some.ensures.0 in
    let long : length c.loop-h.block.links ≡ c.args.nodes + c.loop-h.h * 2 = ap length c.loop-h.invariant.0 ∙ empty-length c.args.nodes c.loop-h.h in
    (omega (arith, long), omega (arith, long), omega (arith, lt, capacity), omega (arith, lt, capacity), omega (arith, lt, capacity))

pub push-requires-in-loop-h-2 : goal.push-requires-in-loop-h-2
push-requires-in-loop-h-2 c =
    let lt : c.loop-h.h < c.args.headers = c.loop-h-test.true in let capacity = c.push-in-loop-h.ensures.block.1 ∙ c.loop-h.invariant.2 ∙ c.loop-i.invariant.2 ∙ c.in-Some.ensures.0 in
    let long : length c.loop-h.block.links ≡ c.args.nodes + c.loop-h.h * 2 = ap length c.loop-h.invariant.0 ∙ empty-length c.args.nodes c.loop-h.h in
    let more = ap length c.push-in-loop-h.ensures.links ∙ length-append c.loop-h.block.links _ in
    (omega (arith, long, more), omega (arith, long, more), omega (arith, lt, capacity), omega (arith, lt, capacity), omega (arith, lt, capacity))

pub loop-h-preserved : goal.loop-h-preserved
loop-h-preserved c =
    let n = c.args.nodes in let h = c.loop-h.h in let o = c.loop-h.invariant in let e = c.push-in-loop-h.ensures in let e' = c.push-in-loop-h-2.ensures in
    let head : n + h * 2 ≡ head_cell n h = omega arith in let tail : n + h * 2 + 1 ≡ tail_cell n h = omega arith in let up : h + 1 ≡ suc h = omega arith in
    let the = λ (l : List Link). l ++ link (tail_cell n h) (head_cell n h) (suc h) ∷ [] in
    let one : c.push-in-loop-h.new.self.links ≡ the c.loop-h.block.links = e.links ∙ (λ j. c.loop-h.block.links ++ link (tail j) (head j) (up j) ∷ []) in
    let two : c.push-in-loop-h-2.new.self.links ≡ the c.push-in-loop-h.new.self.links = e'.links ∙ (λ j. c.push-in-loop-h.new.self.links ++ link (tail j) (head j) (up j) ∷ []) in
    (two ∙ ap the one ∙ ap (λ l. the (the l)) o.0 ∙ empty-more n h, e'.block.0 ∙ e.block.0 ∙ o.1, e'.block.1 ∙ e.block.1 ∙ o.2)

module _ (c : goal.After-loop-h) where
  links-are : c.loop-h.block.links ≡ empty_links c.args.nodes c.args.headers
  links-are = let done : c.loop-h.h ≡ c.args.headers = omega (arith, c.loop-h-test.false, c.loop-h.auto.h-end) in c.loop-h.invariant.0 ∙ ap (empty_links c.args.nodes) done

pub invariant_of-result : goal.invariant_of-result
invariant_of-result c =
    let n = c.args.nodes in let k = c.args.headers in let e = c.in-Some.ensures in
    let holds : IsLinked n k c.loop-h.block.links (lists_of c.loop-h.block.links n k) = subst (λ l. IsLinked n k l (lists_of l n k)) (sym (links-are c)) (empty-holds n k) in
    record {
      linked = holds;
      stands = stands-linked n k c.loop-h.block.links holds;
      low_inside = omega arith;
      fresh = λ m lt. ap (λ (ls : List Link). (link_at ls m).home) (links-are c) ∙ ap (λ (l : Link). l.home) (empty-at n k m lt);
      stored = omega (arith, c.in_ok-keys.keys.ok.0, ap length c.in_ok-keys.ensures.items);
      keyed = ap (λ ks. length (keys_in n ks)) c.in_ok-keys.ensures.items ∙ ap length (no-keys n) ∙ length-replicate n blank ∙ sym (homes_length c.loop-h.block.links n);
      key_room = c.in_ok-keys.ensures.capacity;
      few = omega (arith, c.requires.few_headers, c.requires.few_nodes);
      lease_alloc = e.2;
      lease_base = e.3 ∙ sym c.loop-i.invariant.1 ∙ sym c.loop-h.invariant.1;
      lease_cap = e.4 ∙ sym (c.loop-h.invariant.2 ∙ c.loop-i.invariant.2 ∙ e.0);
      whole = c.loop-h.invariant.2 ∙ c.loop-i.invariant.2 ∙ e.0;
    }

pub returns-after-loop-h : goal.returns-after-loop-h
returns-after-loop-h c =
    let n = c.args.nodes in let k = c.args.headers in
    let done : c.loop-h.h ≡ k = omega (arith, c.loop-h-test.false, c.loop-h.auto.h-end) in let links = c.loop-h.invariant.0 ∙ ap (empty_links n) done in
    record {
      empty = ap (λ l. lists_of l n k) links ∙ empty-lists n k;
      unlinked = ap (λ l. homes_of l n) links ∙ empty-homes n k;
      blank = ap (keys_in n) c.in_ok-keys.ensures.items ∙ no-keys n;
    }
