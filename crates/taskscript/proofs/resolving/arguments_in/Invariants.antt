-- What holds in the loops of `arguments_in`.
use Rattle.std.proofs.Common.{◌≡◌, ◌++◌, ℕ, List, All, drop, take, map, length}
use Rattle.script.specs.{Commands.argument_view, Commands.IsNamed}
use Rattle.taskscript.specs.{Labels.are_marked, Labels.marks_view, Labels.place_at, Lines.named_argument_view, Numbering.names_view, Numbering.argument_in, Numbering.labels_of_arguments}
use Rattle.taskscript.proofs.resolving.arguments_in.Given as goal

abbrev pub invariant-loop-i : goal.invariant-loop-i
invariant-loop-i l =
    let marks = marks_view l.labels.entries in
    let numbered = argument_in (names_view l.private.keys l.shared.keys) (place_at marks) in
    let all = map named_argument_view l.named in
    let left = map named_argument_view (drop l.i l.named) in
    record {
      four : length l.arguments ≡ 4;
      known : are_marked marks (labels_of_arguments left) ≡ are_marked marks (labels_of_arguments all);
      found : (name : List ℕ) → All (IsNamed name) (map numbered all) → map (argument_view name) (take l.i l.arguments) ++ map numbered left ≡ map numbered all;
    }
