-- What holds in the loops of `body_of`.
use Rattle.std.proofs.Common.{◌≡◌, ◌++◌, ◌≤◌, drop, length}
use Rattle.toml.specs.View.{items_view}
use Rattle.script.specs.Names.{texts}
use Rattle.taskscript.specs.{Bodies.nothing_read, Bodies.reading_view, Bodies.reading_after, Bodies.faults_after, Code.lines_in, Listings.command_lines, Listings.command_lines_from, Records.setting_view}
use Rattle.execlist.specs.Order.{first}
use Rattle.taskscript.proofs.code.body_of.Given as goal

abbrev pub invariant-loop-i : goal.invariant-loop-i
invariant-loop-i l =
    let setting = setting_view l.setting in
    let start = nothing_read (texts l.initial.shared.keys) in
    let now = reading_view l.body l.shared.keys in
    let all = lines_in (items_view l.lines) in
    let left = lines_in (items_view (drop l.i l.lines)) in
    record {
      few : length l.body.commands.items ≤ l.i;
      judged : first (faults_after l.owner l.number l.i setting now left) ≡ first (faults_after l.owner l.number 0 setting start all);
      numbers : l.body.lines.items ++ command_lines_from l.i left ≡ command_lines all;
      read : reading_after now left ≡ reading_after start all;
    }
