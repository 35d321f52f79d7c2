-- The proof of `read_code`: the commands of a body, whose lines are these items, and its listing.
use Rattle.std.proofs.Common.{◌≤◌, ◌∙◌, length, Ok, Err}
use Rattle.std.proofs.lemmas.{List.length-map, Result.err_from_is_err_and}
use Rattle.toml.specs.View.{items_view}
use Rattle.script.specs.Names.{texts}
use Rattle.taskscript.specs.{Bodies.reading_view, Code.lines_in, Lines.named_command_view, Records.setting_view}
use Rattle.taskscript.proofs.BodyReading.{lines_counted, too_long, line_decides, code_decided, lines_fill, shared_read}
use Rattle.taskscript.proofs.{Listings.body_listed, Fitting.commands_within, Fitting.commands_once}
use Rattle.taskscript.proofs.code.read_code.Goals as goal

pub returns-then-lines-gt-LINE_LIMIT-clause-judged :
    goal.returns-then-lines-gt-LINE_LIMIT-clause-judged
returns-then-lines-gt-LINE_LIMIT-clause-judged c =
    rw c.at_line.ensures (λ _. too_long c.args.owner c.args.number (setting_view c.args.setting) (texts c.args.shared.now.keys) (lines_in (items_view c.args.lines.now)) (rw (lines_counted c.args.lines.now) c.if-lines-gt-LINE_LIMIT.true))

pub returns-in_err-body-clause-judged : goal.returns-in_err-body-clause-judged
returns-in_err-body-clause-judged c =
    let p = err_from_is_err_and c.from_residual.result c.from_residual.ensures.1 in
    let few : length (lines_in (items_view c.args.lines.now)) ≤ 1024 = rw (lines_counted c.args.lines.now) c.if-lines-gt-LINE_LIMIT.false in
    rw (p.1, p.2) (λ ne. line_decides c.args.owner c.args.number (setting_view c.args.setting) (texts c.args.shared.now.keys) (lines_in (items_view c.args.lines.now)) c.in_err-body.field-0.0 few (c.in_err-body.ensures.judged ne))

pub commands_in-requires-clause-lines : goal.commands_in-requires-clause-lines
commands_in-requires-clause-lines c =
    rw (c.deref.ensures.value, c.deref-2.ensures.value) (lines_fill (texts c.args.shared.now.keys) (lines_in (items_view c.args.lines.now)) (reading_view c.in_ok-body.body c.body_of.new.shared.keys)
    c.in_ok-body.body.lines.items c.in_ok-body.ensures.judged.1 c.in_ok-body.ensures.lines ∙ length-map c.in_ok-body.body.commands.items named_command_view)

pub commands_in-requires-clause-fit : goal.commands_in-requires-clause-fit
commands_in-requires-clause-fit c =
    rw c.deref-2.ensures.value (commands_within c.args.owner c.args.number (setting_view c.args.setting) (texts c.args.shared.now.keys) (lines_in (items_view c.args.lines.now)) (reading_view c.in_ok-body.body c.body_of.new.shared.keys)
    c.in_ok-body.ensures.judged.0 c.in_ok-body.ensures.judged.1)

pub commands_in-requires-clause-once : goal.commands_in-requires-clause-once
commands_in-requires-clause-once c =
    rw c.deref-2.ensures.value (commands_once (texts c.args.shared.now.keys) (lines_in (items_view c.args.lines.now)) (reading_view c.in_ok-body.body c.body_of.new.shared.keys) c.in_ok-body.ensures.judged.1)

pub returns-in_err-commands-clause-judged : goal.returns-in_err-commands-clause-judged
returns-in_err-commands-clause-judged c =
    let p = err_from_is_err_and c.from_residual-in_err-commands.result c.from_residual-in_err-commands.ensures.1 in
    let few : length (lines_in (items_view c.args.lines.now)) ≤ 1024 = rw (lines_counted c.args.lines.now) c.if-lines-gt-LINE_LIMIT.false in
    let found = rw (c.deref.ensures.value, c.deref-2.ensures.value) at c.in_err-commands.ensures in
    rw (p.1, p.2) (code_decided c.args.owner c.args.number (setting_view c.args.setting) (texts c.args.shared.now.keys) (lines_in (items_view c.args.lines.now)) (reading_view c.in_ok-body.body c.body_of.new.shared.keys) c.in_ok-body.body.lines.items (Err c.in_err-commands.field-0.0) few c.in_ok-body.ensures.judged.0 c.in_ok-body.ensures.judged.1 c.in_ok-body.ensures.lines found)

pub returns-clause-judged : goal.returns-clause-judged
returns-clause-judged c =
    let few : length (lines_in (items_view c.args.lines.now)) ≤ 1024 = rw (lines_counted c.args.lines.now) c.if-lines-gt-LINE_LIMIT.false in
    let found = rw (c.deref.ensures.value, c.deref-2.ensures.value) at c.in_ok-commands.ensures in
    code_decided c.args.owner c.args.number (setting_view c.args.setting) (texts c.args.shared.now.keys) (lines_in (items_view c.args.lines.now)) (reading_view c.in_ok-body.body c.body_of.new.shared.keys) c.in_ok-body.body.lines.items (Ok c.in_ok-commands.commands) few c.in_ok-body.ensures.judged.0 c.in_ok-body.ensures.judged.1 c.in_ok-body.ensures.lines found

pub returns-clause-shared : goal.returns-clause-shared
returns-clause-shared c =
    shared_read (texts c.args.shared.now.keys) (lines_in (items_view c.args.lines.now)) (reading_view c.in_ok-body.body c.body_of.new.shared.keys) c.in_ok-body.ensures.judged.1

pub returns-clause-listing : goal.returns-clause-listing
returns-clause-listing c =
    body_listed (texts c.args.shared.now.keys) (lines_in (items_view c.args.lines.now)) (reading_view c.in_ok-body.body c.body_of.new.shared.keys) c.in_ok-body.body.lines.items c.in_ok-body.ensures.judged.1 c.in_ok-body.ensures.lines
