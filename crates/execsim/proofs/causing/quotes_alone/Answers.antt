-- The proof of `quotes_alone`: whether a call has one argument, and that is a name.
use Rattle.std.proofs.Common.{sym}
use Rattle.execsim.proofs.Caused.{quoted_alone}
use Rattle.execsim.proofs.causing.quotes_alone.Goals as goal

pub returns-in-Some-Quoted : goal.returns-in-Some-Quoted
returns-in-Some-Quoted c = λ _. quoted_alone c.args.call.now c.if-call-ne1.false
    (sym (rw (c.in-Some-Quoted.is, c.in-Some-Quoted.field-0-is) at c.first_argument.ensures))
