-- The line of a Print with one argument.
use Rattle.std.proofs.Common.{subst, sym, ◌∷◌, []}
use Rattle.exectrace.specs.Trace as trace
use Rattle.execsim.proofs.Changing.{print_line, value_alone}
use Rattle.execsim.proofs.kernel.Kernel.say_short_print.Goals as goal

pub returns-in-Some : goal.returns-in-Some
returns-in-Some g c = λ next.
    let alone = value_alone c.args.t c.args.command.now _ _ c.args.self.now.scripts c.if-command-ne1.false
    (sym (rw c.in-Some.is at c.argument_at.ensures)) c.evaluate-value.ensures in
    subst (λ (line : trace.TraceLine). g.W.Witness.hearing.hears (g.W.Witness.told c.args.out.now) (g.W.Witness.told c.hear.new.self) (line ∷ []))
    (print_line c.args.t next c.args.command.now c.args.self.now c.name-by.ensures c.requires.prints alone)
    c.hear.ensures
