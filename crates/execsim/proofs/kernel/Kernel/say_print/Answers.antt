-- The proof of `Kernel::say_print`: the line of a Print of task t.
use Rattle.std.proofs.Common.{subst, ◌∷◌, []}
use Rattle.exectrace.specs.Trace as trace
use Rattle.execsim.proofs.Changing.{print_line}
use Rattle.execsim.proofs.kernel.Kernel.say_print.Goals as goal

pub returns : goal.returns
returns g c = λ next.
    subst (λ (line : trace.TraceLine). g.W.Witness.hearing.hears (g.W.Witness.told c.args.out.now) (g.W.Witness.told c.hear.new.self) (line ∷ []))
    (print_line c.args.t next c.args.command.now c.args.self.now c.name-by.ensures c.requires.prints (c.evaluate_all.ensures c.args.command.now.name.bytes))
    c.hear.ensures
