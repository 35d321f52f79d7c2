-- The proof of `empty`: one slot more is empty.
use Rattle.std.proofs.Common.{List, set, ap, ◌∙◌, arith}
use Rattle.memlist.specs.{declared.slot.Slot.Slot, Areas.empty_slot}
use Rattle.memlist.proofs.Resets.{slot_emptied}
use Rattle.memlist.proofs.header.empty.Goals as goal

pub loop-place-preserved : goal.loop-place-preserved
loop-place-preserved c = record {
  slots =
      ap (λ (slots : List Slot). set slots c.loop-place.place empty_slot) c.loop-place.invariant.slots
      ∙ slot_emptied c.loop-place.place c.args.slots.now.items (omega (arith, c.loop-place-test.true, c.requires));
  within = omega (arith, c.loop-place-test.true);
}
