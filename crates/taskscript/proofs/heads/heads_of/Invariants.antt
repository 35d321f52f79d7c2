-- What holds in the loops of `heads_of`.
use Rattle.std.proofs.Common.{◌≡◌, drop, map, ◌++◌}
use Rattle.toml.specs.View.{items_view}
use Rattle.execlist.specs.Order.{first}
use Rattle.script.specs.Names.{texts}
use Rattle.taskscript.specs.{File.named_faults, File.item_names, Tree.of_items}
use Rattle.taskscript.proofs.heads.heads_of.Given as goal

abbrev pub invariant-loop-i : goal.invariant-loop-i
invariant-loop-i g l =
    let left = items_view (drop l.i l.items) in
    let all = items_view l.items in
    record {
      judged : first (named_faults g.H.Named.faults l.of l.i (texts l.names.items) left) ≡ first (named_faults g.H.Named.faults l.of 0 (texts l.fn.names.items) all);
      found : map g.H.Named.head_view l.heads.items ++ of_items g.H.Named.head_of left ≡ of_items g.H.Named.head_of all;
      names : texts l.names.items ++ item_names left ≡ texts l.fn.names.items ++ item_names all;
    }
