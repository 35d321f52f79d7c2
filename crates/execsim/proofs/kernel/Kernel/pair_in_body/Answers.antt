-- The proof of `Kernel::pair_in_body`: the two numbers that are the arguments of a command in a body.
use Rattle.std.proofs.Common.{sym}
use Rattle.execsim.proofs.BodyCalls.{pair_alone}
use Rattle.execsim.proofs.kernel.Kernel.pair_in_body.Goals as goal

pub returns-in-Some-argument_at : goal.returns-in-Some-argument_at
returns-in-Some-argument_at g c = pair_alone c.args.command.now _ _ _ _ _ c.args.self.now.scripts c.if-command-ne2.false
    (sym (rw c.in-Some.is at c.argument_at.ensures)) (sym (rw c.in-Some-argument_at.is at c.argument_at-in-Some.ensures))
    c.evaluate_in_body-one.ensures c.evaluate_in_body-two.ensures c.both.ensures.first c.both.ensures.second
