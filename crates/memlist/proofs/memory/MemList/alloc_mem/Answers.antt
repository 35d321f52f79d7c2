-- The proof of `MemList::alloc_mem`: allocates a block of a size in bytes, which is rounded up to a multiple of 8, and
-- answers its address.
use Rattle.std.proofs.Common.{◌≡◌, List, arith, sym, ap, subst, ◌∙◌, Some, None}
use Rattle.memlist.specs.{Areas.Area, Areas.area_gaps, Blocks.is_in, Blocks.with_block, Choice.IsLowest, Choice.IsOffer, Choice.chosen_of, Fit.fit, Fit.lowest_gap, Memory.Memory}
use Rattle.memlist.proofs.Memories.{fit_none, fit_nothing, fit_some, gap_inside, kept_memory, memory_put, offer_within, offered_gap, read_at}
use Rattle.memlist.proofs.memory.MemList.alloc_mem.Goals as goal

pub returns-then-size-eq0-clause-address : goal.returns-then-size-eq0-clause-address
returns-then-size-eq0-clause-address c = sym (fit_nothing c.args.self.now.regions c.args.self.now.blocks c.args.size c.args.reqs c.if-size-eq0.true)

pub index_mut-requires : goal.index_mut-requires
index_mut-requires c =
    let offer = subst (λ (areas : List Area). IsOffer areas c.round-size.result c.args.reqs areas (Some c.in-Some.offer)) c.deref.ensures.value c.in-Some.ensures in
    omega (arith, offer_within c.self.inside.headers.items c.round-size.result c.args.reqs c.self.inside.headers.items c.in-Some.offer offer)

pub take-requires-clause-fits : goal.take-requires-clause-fits
take-requires-clause-fits c =
    let offer = subst (λ (areas : List Area). IsOffer areas c.round-size.result c.args.reqs areas (Some c.in-Some.offer)) c.deref.ensures.value c.in-Some.ensures in
    let read = read_at (λ (area : Area). (chosen_of c.round-size.result c.args.reqs c.self.inside.headers.items ≡ Some area.region) × IsLowest c.round-size.result (area_gaps area) (Some c.in-Some.offer.before))
    c.self.inside.headers.items c.in-Some.offer.header c.index_mut.result.now offer c.index_mut.ensures.value in
    read.1.1

pub invariant_of-self : goal.invariant_of-self
invariant_of-self c =
    let offer = subst (λ (areas : List Area). IsOffer areas c.round-size.result c.args.reqs areas (Some c.in-Some.offer)) c.deref.ensures.value c.in-Some.ensures in
    let read = read_at (λ (area : Area). (chosen_of c.round-size.result c.args.reqs c.self.inside.headers.items ≡ Some area.region) × IsLowest c.round-size.result (area_gaps area) (Some c.in-Some.offer.before))
    c.self.inside.headers.items c.in-Some.offer.header c.index_mut.result.now offer c.index_mut.ensures.value in
    kept_memory c.self.inside.headers.items c.in-Some.offer.header c.index_mut.result.now c.take.new.self c.self.invariant read.0 (ap (λ (area : Area). area.region) c.take.ensures.taken) c.take.ensures.laid

pub returns-in-Some-clause-address : goal.returns-in-Some-clause-address
returns-in-Some-clause-address c =
    let offer = subst (λ (areas : List Area). IsOffer areas c.round-size.result c.args.reqs areas (Some c.in-Some.offer)) c.deref.ensures.value c.in-Some.ensures in
    let read = read_at (λ (area : Area). (chosen_of c.round-size.result c.args.reqs c.self.inside.headers.items ≡ Some area.region) × IsLowest c.round-size.result (area_gaps area) (Some c.in-Some.offer.before))
    c.self.inside.headers.items c.in-Some.offer.header c.index_mut.result.now offer c.index_mut.ensures.value in
    let found = offered_gap c.round-size.result (area_gaps c.index_mut.result.now) c.in-Some.offer.before c.take.result read.1.1 c.take.ensures.front in
    let choice = ap (λ n. chosen_of n c.args.reqs c.self.inside.headers.items) (sym c.round-size.ensures) ∙ read.1.0 in
    let lowest = ap (λ n. lowest_gap n (area_gaps c.index_mut.result.now)) (sym c.round-size.ensures) ∙ found.lowest in
    ap (λ n. Some n) found.address
    ∙ sym (fit_some c.self.inside.headers.items c.args.size c.args.reqs c.in-Some.offer.header c.index_mut.result.now found.gap c.self.invariant c.if-size-eq0.false read.0 choice lowest)
    ∙ ap (λ (m : Memory). fit m.regions m.blocks c.args.size c.args.reqs) c.self.view_is

pub returns-in-Some-clause-allocated : goal.returns-in-Some-clause-allocated
returns-in-Some-clause-allocated c =
    let offer = subst (λ (areas : List Area). IsOffer areas c.round-size.result c.args.reqs areas (Some c.in-Some.offer)) c.deref.ensures.value c.in-Some.ensures in
    let read = read_at (λ (area : Area). (chosen_of c.round-size.result c.args.reqs c.self.inside.headers.items ≡ Some area.region) × IsLowest c.round-size.result (area_gaps area) (Some c.in-Some.offer.before))
    c.self.inside.headers.items c.in-Some.offer.header c.index_mut.result.now offer c.index_mut.ensures.value in
    let found = offered_gap c.round-size.result (area_gaps c.index_mut.result.now) c.in-Some.offer.before c.take.result read.1.1 c.take.ensures.front in
    let inside = gap_inside c.self.inside.headers.items c.in-Some.offer.header c.index_mut.result.now found.below found.gap found.above c.self.invariant read.0 found.is in
    memory_put c.self.inside.headers.items c.in-Some.offer.header c.index_mut.result.now c.take.new.self c.take.result (c.round-size.result, c.args.tag) c.self.invariant read.0
    (ap (is_in c.index_mut.result.now.region) found.address ∙ inside) c.take.ensures.taken
    ∙ ap (λ (m : Memory). let n : Memory = record { regions = m.regions; blocks = with_block c.take.result c.round-size.result c.args.tag m.blocks } in n) c.self.view_is
    ∙ ap (λ size. let n : Memory = record { regions = c.args.self.now.regions; blocks = with_block c.take.result size c.args.tag c.args.self.now.blocks } in n) c.round-size.ensures

pub returns-in-None-clause-address : goal.returns-in-None-clause-address
returns-in-None-clause-address c =
    let offer = subst (λ (areas : List Area). IsOffer areas c.round-size.result c.args.reqs areas None) c.deref.ensures.value c.in-None.ensures in
    sym (fit_none c.self.inside.headers.items c.args.size c.args.reqs c.self.invariant c.if-size-eq0.false (ap (λ n. chosen_of n c.args.reqs c.self.inside.headers.items) (sym c.round-size.ensures) ∙ offer))
    ∙ ap (λ (m : Memory). fit m.regions m.blocks c.args.size c.args.reqs) c.self.view_is
