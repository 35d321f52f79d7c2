-- The proof of `FreeSpace::ends_at`: whether the chunk at an address, if that is not 0, ends at another.
use Rattle.std.proofs.Common.{arith, ap, ◌∙◌, get_or, ◌+◌, ◌<◌, nat_eq}
use Rattle.memlist.specs.Chain.{Space}
use Rattle.memlist.proofs.Chains.{before_within, end_read, ends_none, seen}
use Rattle.memlist.proofs.space.FreeSpace.ends_at.Goals as goal

pub word_place-requires : goal.word_place-requires
word_place-requires c =
    let walk = seen (ap (λ (s : Space). s.gaps) c.self.view_is) c.requires in
    (before_within c.self.inside.base c.self.inside.words.items c.self.inside.head _ c.self.invariant.0 c.args.before (omega (arith, c.if-before-eq0.false)) walk).begins

pub read-chunk-requires : goal.read-chunk-requires
read-chunk-requires c =
    let walk = seen (ap (λ (s : Space). s.gaps) c.self.view_is) c.requires in
    let w = before_within c.self.inside.base c.self.inside.words.items c.self.inside.head _ c.self.invariant.0 c.args.before (omega (arith, c.if-before-eq0.false)) walk in
    omega (arith, w.begins, w.ends, c.word_place.ensures)

pub returns-then-before-eq0 : goal.returns-then-before-eq0
returns-then-before-eq0 c walk = ends_none c.self.inside.base c.self.inside.words.items c.self.inside.head _ c.self.invariant.0 c.args.before c.args.address c.if-before-eq0.true (seen (ap (λ (s : Space). s.gaps) c.self.view_is) walk)

pub returns : goal.returns
returns c walk =
    let some : 0 < c.args.before = omega (arith, c.if-before-eq0.false) in
    ap (λ a. nat_eq (a + c.from-2.result) c.from-3.result) c.from.ensures ∙ ap (λ b. nat_eq (c.args.before + b) c.from-3.result) c.from-2.ensures
    ∙ ap (λ d. nat_eq (c.args.before + c.read-chunk.result.size) d) c.from-3.ensures
    ∙ ap (λ n. nat_eq (c.args.before + n) c.args.address) (c.read-chunk.ensures.size ∙ ap (λ ws. get_or ws (c.word_place.result + 1) 0) c.deref.ensures.value ∙ ap (λ k. get_or c.self.inside.words.items (k + 1) 0) c.word_place.ensures) ∙ end_read c.self.inside.base c.self.inside.words.items c.self.inside.head _ c.self.invariant.0 c.args.before c.args.address some (seen (ap (λ (s : Space). s.gaps) c.self.view_is) walk)
