-- What holds in the loops of `regions_of`.
use Rattle.std.proofs.Common.{◌≡◌, drop, ◌++◌}
use Rattle.toml.specs.View.{items_view}
use Rattle.execlist.specs.Order.{first}
use Rattle.taskscript.specs.{File.region_item_faults, File.regions_of, Tree.items_faults}
use Rattle.taskscript.proofs.regions.regions_of.Given as goal

abbrev pub invariant-loop-i : goal.invariant-loop-i
invariant-loop-i l = record {
  judged : first (items_faults region_item_faults l.i (items_view (drop l.i l.items))) ≡ first (items_faults region_item_faults 0 (items_view l.items));
  found : l.regions.items ++ regions_of (items_view (drop l.i l.items)) ≡ regions_of (items_view l.items);
}
