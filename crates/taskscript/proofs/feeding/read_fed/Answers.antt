-- The proof of `read_fed`: a command that may be fed is the same in each body.
use Rattle.std.proofs.Common.{◌∙◌, Some, ap, sym}
use Rattle.taskscript.specs.{declared.named.Line.Line, Lines.line_view, Lines.named_command_view}
use Rattle.taskscript.proofs.Fed.{command_read, said_once}
use Rattle.taskscript.proofs.feeding.read_fed.Goals as goal

pub fixed_command-requires-clause-once : goal.fixed_command-requires-clause-once
fixed_command-requires-clause-once c = λ names places.
    said_once c.args.line.now (named_command_view c.in-Command.named) names places (c.in_ok-read_line.ensures ∙ ap (λ (l : Line). Some (line_view l)) c.in-Command.is)

pub returns-then-may_be_fed : goal.returns-then-may_be_fed
returns-then-may_be_fed c =
    command_read c.args.line.now (named_command_view c.in-Command.named) c.fixed_command.result
    (c.in_ok-read_line.ensures ∙ ap (λ (l : Line). Some (line_view l)) c.in-Command.is) (sym c.may_be_fed.ensures ∙ c.if-may_be_fed.true) c.fixed_command.ensures
