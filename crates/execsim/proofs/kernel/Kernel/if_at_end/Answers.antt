-- The proof of `Kernel::if_at_end`: task t, if it has no call to make.
use Rattle.std.proofs.Common.{Option, refl, ap, sym, is_some, option_map, option_copied, ◌∙◌}
use Rattle.script.specs.Commands.{command_view}
use Rattle.execmodel.specs.{State.Call, State.Program, Feeding.if_no_call}
use Rattle.execsim.specs.Views.{call_view}
use Rattle.execsim.proofs.{Calling.next-none, Fed.end_kept, Fed.end_command}
use Rattle.execsim.proofs.kernel.Kernel.if_at_end.Goals as goal

pub returns-in-Some : goal.returns-in-Some
returns-in-Some g c =
    end_kept c.args.t c.args.self.now.scripts (option_map call_view (option_copied c.kept.result)) (c.kept.ensures ∙ ap (λ (p : Program). p.kept) c.program-program.ensures)
    (ap (λ r. is_some (option_map call_view (option_copied r))) c.in-Some.is)

pub returns-in-Some-command : goal.returns-in-Some-command
returns-in-Some-command g c =
    end_command c.args.t c.args.self.now.scripts (option_map command_view (option_copied c.command.result))
    (rw (← c.program-program.ensures, ← c.kept.ensures, c.in-None.is) refl)
    (rw (← c.program-program.ensures) c.command.ensures)
    (ap (λ r. is_some (option_map command_view (option_copied r))) c.in-Some-command.is)

pub returns-in-None-command : goal.returns-in-None-command
returns-in-None-command g c =
    ap (λ (o : Option Call). if_no_call o c.args.t)
    (sym (next-none _ _ (rw (← c.program-program.ensures, ← c.kept.ensures, c.in-None.is) refl)
    (rw (← c.program-program.ensures, ← c.command.ensures, c.in-None-command.is) refl)))
