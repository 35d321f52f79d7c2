-- The proof of `largest_of`: the size of the greatest gap of the suitable regions, or 0 if there is none.
use Rattle.std.proofs.Common.{arith, sym, ◌∙◌, true, false}
use Rattle.memlist.proofs.{Choices.largest_more, memory.largest_of.Goals.then-is_suitable, memory.largest_of.Goals.else-is_suitable}
use Rattle.memlist.proofs.memory.largest_of.Goals as goal

pub loop-header-preserved : goal.loop-header-preserved
loop-header-preserved c =
    elim c.if-is_suitable.branch [
      | then-is_suitable w ↦
          let more = largest_more c.args.reqs c.args.headers.now c.loop-header.header-index c.header-item.result true (omega arith) c.header-item.is (sym c.is_suitable.ensures ∙ w.if-is_suitable.true) in
          omega (arith, more, c.loop-header.invariant, w.largest-is, w.largest_gap.ensures, w.max-largest.ensures)
      | else-is_suitable w ↦
          let more = largest_more c.args.reqs c.args.headers.now c.loop-header.header-index c.header-item.result false (omega arith) c.header-item.is (sym c.is_suitable.ensures ∙ w.if-is_suitable.false) in
          omega (arith, more, c.loop-header.invariant, w.largest-is)
    ]
