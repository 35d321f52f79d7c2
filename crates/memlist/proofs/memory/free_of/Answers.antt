-- The proof of `free_of`: the bytes that are free in the suitable regions.
use Rattle.std.proofs.Common.{arith, sym, ◌∙◌, true, false}
use Rattle.memlist.proofs.{Choices.free_more, memory.free_of.Goals.then-is_suitable, memory.free_of.Goals.else-is_suitable}
use Rattle.memlist.proofs.memory.free_of.Goals as goal

pub overflow_add-total : goal.overflow_add-total
overflow_add-total c =
    let more = free_more c.args.reqs c.args.headers.now c.loop-header.header-index c.header-item.result true (omega arith) c.header-item.is (sym c.is_suitable.ensures ∙ c.if-is_suitable.true) in
    omega (arith, more, c.loop-header.invariant, c.free_size-total.ensures.value)

pub loop-header-preserved : goal.loop-header-preserved
loop-header-preserved c =
    elim c.if-is_suitable.branch [
      | then-is_suitable w ↦
          let more = free_more c.args.reqs c.args.headers.now c.loop-header.header-index c.header-item.result true (omega arith) c.header-item.is (sym c.is_suitable.ensures ∙ w.if-is_suitable.true) in
          omega (arith, more, c.loop-header.invariant, w.free_size-total.ensures.value, w.total-is)
      | else-is_suitable w ↦
          let more = free_more c.args.reqs c.args.headers.now c.loop-header.header-index c.header-item.result false (omega arith) c.header-item.is (sym c.is_suitable.ensures ∙ w.if-is_suitable.false) in
          omega (arith, more, c.loop-header.invariant, w.total-is)
    ]
