-- The proof of `chunk_below`: the chunk before a block that has that many units below it, or 0 if there is none.
use Rattle.std.proofs.Common.{arith, ◌-◌, ◌<◌, ◌≤◌, length, take, ap, ◌∙◌}
use Rattle.memlist.specs.Descent.{last_left}
use Rattle.memlist.proofs.Descending.{one-up, unit-at}
use Rattle.memlist.proofs.descent.chunk_below.Goals as goal

pub returns-in-Chunk : goal.returns-in-Chunk
returns-in-Chunk c below above is low high =
    let place = c.loop-place.place in
    let slots = c.args.slots.now in
    let some : 0 < place = omega (arith, c.loop-place-test.true) in
    let within : place ≤ length slots = omega (arith, c.loop-place.auto.place, c.requires.units) in
    c.in-Chunk.ensures c.args.base (take (place - 1) slots) (unit-at c.args.base place slots some within)
    ∙ ap (λ xs. last_left c.args.base xs c.loop-place.top) (one-up slots place _ some within)
    ∙ c.loop-place.invariant.0 below above is low high

pub loop-place-preserved : goal.loop-place-preserved
loop-place-preserved c =
    let place = c.loop-place.place in
    let slots = c.args.slots.now in
    let some : 0 < place = omega (arith, c.loop-place-test.true) in
    let within : place ≤ length slots = omega (arith, c.loop-place.auto.place, c.requires.units) in
    let unit = unit-at c.args.base place slots some within in
    let said = c.in-Below.ensures c.args.base (take (place - 1) slots) unit in (
      λ below above is low high.
          said.0 ∙ ap (λ xs. last_left c.args.base xs c.loop-place.top) (one-up slots place _ some within) ∙ c.loop-place.invariant.0 below above is low high,
      c.in-Some.ensures,
      omega (arith, said.1, unit),
    )
