-- The proof of `reset_all`: one header more is without blocks.
use Rattle.std.proofs.Common.{◌<◌, List, length, set, get_or, ap, ◌∙◌, arith}
use Rattle.memlist.specs.Areas.{Area}
use Rattle.memlist.proofs.Resets.{header_reset, length-reset_first}
use Rattle.memlist.proofs.memory.reset_all.Goals as goal

pub loop-place-preserved : goal.loop-place-preserved
loop-place-preserved c =
    let was = c.args.headers.now.items in
    let place = c.loop-place.place in
    let there : place < length was = omega (arith, c.loop-place-test.true, ap length c.loop-place.invariant, length-reset_first place was) in
    ap (λ (headers : List Area). set headers place c.reset.new.self) c.loop-place.invariant
    ∙ header_reset place was c.index_mut.result.now c.reset.new.self there
    (c.index_mut.ensures.value ∙ ap (λ (headers : List Area). get_or headers place c.index_mut.result.now) c.loop-place.invariant) c.reset.ensures.value
