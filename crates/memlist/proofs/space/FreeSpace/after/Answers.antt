-- The proof of `FreeSpace::after`: the gap after the chunk at an address, or the first if that is 0.
use Rattle.std.proofs.Common.{arith, ap, ◌∙◌, get_or, ◌+◌}
use Rattle.memlist.specs.Chain.{Space}
use Rattle.memlist.proofs.Chains.{after_some, first_within, next_above, next_reach, next_sum, seen}
use Rattle.memlist.proofs.space.FreeSpace.after.Goals as goal

pub word_place-requires : goal.word_place-requires
word_place-requires c =
    let walk = seen (ap (λ (s : Space). s.gaps) c.self.view_is) c.requires in
    let at = c.next-address.ensures.is c.requires in
    (first_within c.self.inside.base c.self.inside.words.items c.self.inside.head _ c.self.invariant.0 c.args.before c.next-address.result walk at c.if-address-eq0.false).begins

pub read-chunk-requires : goal.read-chunk-requires
read-chunk-requires c =
    let walk = seen (ap (λ (s : Space). s.gaps) c.self.view_is) c.requires in
    let at = c.next-address.ensures.is c.requires in
    let w = first_within c.self.inside.base c.self.inside.words.items c.self.inside.head _ c.self.invariant.0 c.args.before c.next-address.result walk at c.if-address-eq0.false in
    omega (arith, w.begins, w.ends, c.word_place.ensures)

pub returns-then-address-eq0-clause-is : goal.returns-then-address-eq0-clause-is
returns-then-address-eq0-clause-is c walk = c.next-address.ensures.none walk c.if-address-eq0.true

pub returns-clause-is : goal.returns-clause-is
returns-clause-is c walk =
    after_some c.self.inside.base c.self.inside.words.items c.self.inside.head _ c.self.invariant.0 c.args.before c.next-address.result c.read-chunk.result.size (seen (ap (λ (s : Space). s.gaps) c.self.view_is) walk) (c.next-address.ensures.is walk) c.if-address-eq0.false
    (c.read-chunk.ensures.size ∙ ap (λ ws. get_or ws (c.word_place.result + 1) 0) c.deref.ensures.value ∙ ap (λ k. get_or c.self.inside.words.items (k + 1) 0) c.word_place.ensures)

pub returns-clause-order : goal.returns-clause-order
returns-clause-order c =
    let walk = seen (ap (λ (s : Space). s.gaps) c.self.view_is) c.requires in
    let at = c.next-address.ensures.is c.requires in
    next_above c.self.inside.base c.self.inside.words.items c.self.inside.head _ c.self.invariant.0 c.args.before c.next-address.result walk at c.if-address-eq0.false

pub returns-clause-reach : goal.returns-clause-reach
returns-clause-reach c =
    let walk = seen (ap (λ (s : Space). s.gaps) c.self.view_is) c.requires in
    let at = c.next-address.ensures.is c.requires in
    next_reach c.self.inside.base c.self.inside.words.items c.self.inside.head _ c.self.invariant.0 c.args.before c.next-address.result c.read-chunk.result.size walk at c.if-address-eq0.false
    (c.read-chunk.ensures.size ∙ ap (λ ws. get_or ws (c.word_place.result + 1) 0) c.deref.ensures.value ∙ ap (λ k. get_or c.self.inside.words.items (k + 1) 0) c.word_place.ensures)

pub returns-clause-sum : goal.returns-clause-sum
returns-clause-sum c walk =
    next_sum c.self.inside.base c.self.inside.words.items c.self.inside.head _ c.self.invariant.0 c.args.before c.next-address.result c.read-chunk.result.size (seen (ap (λ (s : Space). s.gaps) c.self.view_is) walk) (c.next-address.ensures.is walk) c.if-address-eq0.false
    (c.read-chunk.ensures.size ∙ ap (λ ws. get_or ws (c.word_place.result + 1) 0) c.deref.ensures.value ∙ ap (λ k. get_or c.self.inside.words.items (k + 1) 0) c.word_place.ensures)
