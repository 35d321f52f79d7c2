-- What holds in the loops of `commands_in`: the commands with numbers and places for their names, or BadLabel if one
-- jumps to a label that is not among these.
use Rattle.std.proofs.Common.{◌≡◌, ◌++◌, drop, map}
use Rattle.script.specs.Commands.{command_view}
use Rattle.taskscript.specs.{Labels.jumps_faults_in, Labels.marks_view, Labels.place_at, Lines.named_command_view, Numbering.names_view, Numbering.command_in}
use Rattle.execlist.specs.Order.{first}
use Rattle.taskscript.proofs.resolving.commands_in.Given as goal

abbrev pub invariant-loop-i : goal.invariant-loop-i
invariant-loop-i l =
    let marks = marks_view l.labels.entries in
    let numbered = command_in (names_view l.private.keys l.shared.keys) (place_at marks) in
    let all = map named_command_view l.commands in
    let left = map named_command_view (drop l.i l.commands) in
    record {
      judged : first (jumps_faults_in l.owner l.number marks (drop l.i l.lines) left) ≡ first (jumps_faults_in l.owner l.number marks l.lines all);
      found : map command_view l.code.items ++ map numbered left ≡ map numbered all;
    }
