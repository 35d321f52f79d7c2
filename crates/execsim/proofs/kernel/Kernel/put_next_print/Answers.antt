-- What is put is the line of the next call.
use Rattle.std.proofs.Common.{◌≡◌, rules, refl, ap, ◌∙◌, ◌+◌}
use Rattle.script.specs.{declared.word.Word.TheVariants.Plain, declared.word.plain.PlainWord.TheVariants.Print, Commands.command_view}
use Rattle.execmodel.specs.State.{Program}
use Rattle.execsim.proofs.Changing.{puts_next}
use Rattle.execsim.proofs.kernel.Kernel.put_next_print.Goals as goal

pub returns-then-is_good-clause-puts : goal.returns-then-is_good-clause-puts
returns-then-is_good-clause-puts g c =
    let prints : c.in-Some-command.command.now.word ≡ Plain Print = search rules in
    puts_next c.args.t c.next.result (command_view c.in-Some-command.command.now)
    (rw (← c.program-program.ensures, ← c.kept.ensures, c.in-None.is) refl)
    (rw (← c.program-program.ensures, ← c.command.ensures, c.in-Some-command.is) refl)
    (c.next.ensures ∙ ap (λ (p : Program). p.place + 1) c.program-program.ensures) prints
    c.say_short_print.ensures
