-- What holds in the loops of `see_arguments`.
use Rattle.std.proofs.Common.{◌≡◌, drop, map}
use Rattle.taskscript.specs.{Lines.named_argument_view, Numbering.names_view, Numbering.names_after, Numbering.variables_of_arguments, Numbering.have_room}
use Rattle.taskscript.proofs.numbering.see_arguments.Given as goal

abbrev pub invariant-loop-argument : goal.invariant-loop-argument
invariant-loop-argument l =
    let before = names_view l.initial.private.keys l.initial.shared.keys in
    let now = names_view l.private.keys l.shared.keys in
    let all = map named_argument_view l.arguments in
    let left = map named_argument_view (drop l.argument-index l.arguments) in
    record {
      room : have_room now (variables_of_arguments left) ≡ have_room before (variables_of_arguments all);
      seen : names_after now (variables_of_arguments left) ≡ names_after before (variables_of_arguments all);
    }
