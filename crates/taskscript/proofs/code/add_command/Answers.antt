-- The proof of `add_command`.
use Rattle.std.proofs.Common.{◌∙◌, Bool, Some, sym, ap}
use Rattle.std.proofs.lemmas.Result.{err_from_is_err_and}
use Rattle.taskscript.specs.declared.fault.FileFault.TheVariants.{BadCommand, NotInInterrupt, TooMany}
use Rattle.taskscript.specs.{Bodies.reading_view, Faults.check, Interrupting.may_have, Interrupting.names_softints, Lines.named_command_view, Numbering.have_room, Numbering.variables_of, Records.setting_view}
use Rattle.execlist.specs.Order.{first}
use Rattle.taskscript.proofs.Firsts.{before_third, third}
use Rattle.taskscript.proofs.code.add_command.Goals as goal

pub returns-in_err-judge_command-clause-judged : goal.returns-in_err-judge_command-clause-judged
returns-in_err-judge_command-clause-judged c =
    let p = err_from_is_err_and c.from_residual.result c.from_residual.ensures.1 in
    let s = setting_view c.args.setting in
    let said = named_command_view c.args.command in
    let room = have_room (reading_view c.args.body.now c.args.shared.now.keys).names (variables_of said) in
    rw (p.1, p.2) (before_third (check (names_softints s said) BadCommand) (check (may_have s said) NotInInterrupt) (check room TooMany) c.in_err-judge_command.field-0.0 c.in_err-judge_command.ensures)

pub returns-in_err-see_command-clause-judged : goal.returns-in_err-see_command-clause-judged
returns-in_err-see_command-clause-judged c =
    let p = err_from_is_err_and c.from_residual-in_err-see_command.result c.from_residual-in_err-see_command.ensures.1 in
    let s = setting_view c.args.setting in
    let said = named_command_view c.args.command in
    let room = have_room (reading_view c.args.body.now c.args.shared.now.keys).names (variables_of said) in
    rw (p.1, p.2) (third (check (names_softints s said) BadCommand) (check (may_have s said) NotInInterrupt) (check room TooMany) c.in_err-see_command.field-0.0 c.in_ok-judge_command.ensures.0
    (λ ne. ap (λ (b : Bool). first (check b TooMany)) (c.in_err-see_command.ensures ne).1 ∙ ap Some (sym (c.in_err-see_command.ensures ne).0)))
