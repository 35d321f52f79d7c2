-- The proof of `commands_in`: the commands with numbers and places for their names, or BadLabel if one jumps to a label
-- that is not among these.
use Rattle.std.proofs.Common.{◌≡◌, ◌∙◌, ◌+◌, ◌∷◌, drop, get_or, map, arith}
use Rattle.std.proofs.lemmas.List.{drop_more, map_push}
use Rattle.script.specs.{Commands.CommandFits, Commands.command_view, Machines.QuotesOnce}
use Rattle.taskscript.specs.{Labels.marks_view, Labels.place_at, Lines.named_command_view, Numbering.names_view, Numbering.command_in}
use Rattle.taskscript.proofs.{Naming.holds_at, Resolved.next_command, Resolved.made_more, Resolved.jump_goes_on, Resolved.jump_stops}
use Rattle.taskscript.proofs.resolving.commands_in.Goals as goal

pub command_in-requires-clause-fits : goal.command_in-requires-clause-fits
command_in-requires-clause-fits c =
    holds_at CommandFits (command_in (names_view c.args.private.now.keys c.args.shared.now.keys) (place_at (marks_view c.args.labels.now.entries))) named_command_view
    c.args.commands.now c.loop-i.i c.index-commands-i.result c.loop-i-test.true c.index-commands-i.is c.requires.fit

pub command_in-requires-clause-once : goal.command_in-requires-clause-once
command_in-requires-clause-once c =
    holds_at QuotesOnce (command_in (names_view c.args.private.now.keys c.args.shared.now.keys) (place_at (marks_view c.args.labels.now.entries))) named_command_view
    c.args.commands.now c.loop-i.i c.index-commands-i.result c.loop-i-test.true c.index-commands-i.is c.requires.once

pub returns-in-Err : goal.returns-in-Err
returns-in-Err c =
    let marks = marks_view c.args.labels.now.entries in
    let named = named_command_view c.index-commands-i.result in
    let left = map named_command_view (drop c.loop-i.i c.args.commands.now) in
    let others = map named_command_view (drop (c.loop-i.i + 1) c.args.commands.now) in
    let is : left ≡ named ∷ others = next_command c.args.commands.now c.loop-i.i c.index-commands-i.result c.loop-i-test.true c.index-commands-i.is in
    let has = drop_more c.args.lines.now c.loop-i.i 0 (omega (arith, c.requires.lines, c.loop-i-test.true)) in
    rw c.at_line.ensures (λ ne. jump_stops c.args.owner c.args.number marks (get_or c.args.lines.now c.loop-i.i 0) named _ _ left others c.in-Err.fault _ has is c.in-Err.ensures c.loop-i.invariant.judged)

pub loop-i-preserved : goal.loop-i-preserved
loop-i-preserved c =
    let marks = marks_view c.args.labels.now.entries in
    let numbered = command_in (names_view c.args.private.now.keys c.args.shared.now.keys) (place_at marks) in
    let named = named_command_view c.index-commands-i.result in
    let left = map named_command_view (drop c.loop-i.i c.args.commands.now) in
    let others = map named_command_view (drop (c.loop-i.i + 1) c.args.commands.now) in
    let is : left ≡ named ∷ others = next_command c.args.commands.now c.loop-i.i c.index-commands-i.result c.loop-i-test.true c.index-commands-i.is in
    let has = drop_more c.args.lines.now c.loop-i.i 0 (omega (arith, c.requires.lines, c.loop-i-test.true)) in
    let found = c.in-Ok.ensures in
    rw c.in_ok-push-in-Ok.ensures.items (record {
      judged = jump_goes_on c.args.owner c.args.number marks (get_or c.args.lines.now c.loop-i.i 0) named _ _ left others has is found.0 ∙ c.loop-i.invariant.judged;
      found = made_more numbered (map command_view c.loop-i.code.items) _ _ named left others is found.1 (map_push command_view c.loop-i.code.items _) ∙ c.loop-i.invariant.found;
    })
