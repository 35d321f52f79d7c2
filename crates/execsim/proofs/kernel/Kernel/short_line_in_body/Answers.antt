-- The proof of `Kernel::short_line_in_body`: prints the line of a call that mostly has one argument.
use Rattle.script.specs.Words.{word_text}
use Rattle.std.proofs.Common.{◌∷◌, [], subst, sym}
use Rattle.exectrace.specs.Trace as trace
use Rattle.execsim.proofs.BodyCalls.{argument_alone}
use Rattle.execsim.proofs.kernel.Kernel.short_line_in_body.Goals as goal

pub returns-in-Some : goal.returns-in-Some
returns-in-Some g c =
    let alone = argument_alone c.args.command.now _ _ c.args.self.now.scripts c.if-command-ne1.false
    (sym (rw c.in-Some.is at c.argument_at.ensures)) c.evaluate_in_body-value.ensures in
    subst (λ arguments. g.W.Witness.hearing.hears (g.W.Witness.told c.args.out.now) (g.W.Witness.told c.hear.new.self) (trace.Call c.args.name.now.bytes (word_text c.args.word) arguments trace.Done ∷ [])) (sym alone) c.hear.ensures
