-- What holds in the loops of `are_strings`: whether the items are strings.
use Rattle.std.proofs.Common.{◌≡◌, drop}
use Rattle.toml.specs.View.{items_view}
use Rattle.taskscript.specs.Tree.{are_strings}
use Rattle.taskscript.proofs.tree.are_strings.Given as goal

abbrev pub invariant-loop-item : goal.invariant-loop-item
invariant-loop-item l = are_strings (items_view (drop l.item-index l.items)) ≡ are_strings (items_view l.items)
