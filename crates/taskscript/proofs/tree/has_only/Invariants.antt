-- What holds in the loops of `has_only`: whether each key of the table is one of those listed.
use Rattle.std.proofs.Common.{◌≡◌, map}
use Rattle.toml.specs.View.{members_view}
use Rattle.taskscript.specs.Tree.{keys_are_among}
use Rattle.taskscript.proofs.tree.has_only.Given as goal

abbrev pub invariant-loop-key : goal.invariant-loop-key
invariant-loop-key l =
    keys_are_among (map (λ k. k.now) l.listed) (members_view l.key-iterator) ≡ keys_are_among (map (λ k. k.now) l.listed) (members_view l.table.entries)
