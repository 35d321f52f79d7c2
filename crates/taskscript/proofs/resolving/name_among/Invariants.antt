-- What holds in the loops of `name_among`.
use Rattle.std.proofs.Common.{◌≡◌, ℕ, List, drop, map}
use Rattle.script.specs.Commands.{first_name}
use Rattle.taskscript.specs.{Lines.named_argument_view, Numbering.Names, Numbering.argument_in}
use Rattle.taskscript.proofs.resolving.name_among.Given as goal

abbrev pub invariant-loop-argument : goal.invariant-loop-argument
invariant-loop-argument l =
    let all = map named_argument_view l.named in
    let left = map named_argument_view (drop l.argument-index l.named) in
    record {
      first : (names : Names) (places : List ℕ → ℕ) → first_name (map (argument_in names places) left) ≡ first_name (map (argument_in names places) all);
    }
