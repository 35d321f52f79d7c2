-- The proof of `has_name_alone`: whether a command has one argument, and that is a name.
use Rattle.std.proofs.Common.{sym}
use Rattle.execsim.proofs.BodyCalls.{named_alone}
use Rattle.execsim.proofs.body_calls.has_name_alone.Goals as goal

pub returns-in-Some-Quoted : goal.returns-in-Some-Quoted
returns-in-Some-Quoted c = λ _. named_alone c.args.command.now c.if-command-ne1.false
    (sym (rw (c.in-Some-Quoted.is, c.in-Some-Quoted.field-0-is) at c.argument_at.ensures))
