-- The proof of `next_row`: the row below this one, or none if a number is beyond 64 bits.
use Rattle.std.proofs.Common.{◌∙◌, suc, get_or, sym, subst, arith}
use Rattle.std.proofs.lemmas.Grind.{common_steps}
use Rattle.ways.specs.Rows.{IsRow}
use Rattle.ways.proofs.Rows.{row_more, number_right, before_is}
use Rattle.ways.proofs.sizes.next_row.Goals as goal

pub loop-i-preserved : goal.loop-i-preserved
loop-i-preserved c =
    let before = c.loop-i.invariant in
    let last = before_is c.args.kinds c.args.extras c.loop-i.i c.loop-i.row.items c.as_slice.result.now c.last_of-before.result c.as_slice.ensures.value before.long before.right c.last_of-before.ensures.none c.last_of-before.ensures.some in
    record {
      long = grind (arith, common_steps);
      right = subst (IsRow c.args.kinds (suc c.args.extras)) (sym c.in_ok-push-in-Some.ensures.items)
          (row_more c.args.kinds (suc c.args.extras) c.loop-i.row.items c.loop-i.i c.in-Some.number before.long before.right
          (c.in-Some.ensures ∙ number_right c.args.kinds c.args.extras c.loop-i.i (get_or c.args.above.now c.loop-i.i 0) (c.requires c.loop-i.i c.loop-i-test.true) c.last_of-before.result last.0 last.1));
    }
