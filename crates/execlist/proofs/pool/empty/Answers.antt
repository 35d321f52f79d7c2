-- One number more is free.
use Rattle.std.proofs.Common.{None, ap, ◌∙◌, arith, slice_set}
use Rattle.execlist.proofs.Pools.{emptied}
use Rattle.execlist.proofs.pool.empty.Goals as goal

pub loop-n-preserved : goal.loop-n-preserved
loop-n-preserved g c = record {
  slots =
      ap (λ xs. slice_set xs c.loop-n.n None) c.loop-n.invariant.slots
      ∙ emptied c.loop-n.n c.args.slots.now.items (omega (arith, c.loop-n-test.true, c.requires.known));
  within = omega (arith, c.loop-n-test.true);
}
