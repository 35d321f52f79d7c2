-- The proof of `command`: the command, whose words are given without its own name.
use Rattle.std.proofs.Common.{refl, rules, codes, true}
use Rattle.std.proofs.lemmas.Result.{IfOk-weaker}
use Rattle.execrun.proofs.CommandLemmas.{takes_both}
use Rattle.execrun.proofs.command_line.command.Goals as goal

pub returns : goal.returns
returns c = IfOk-weaker c.arg-2.result _ _ (λ cmd second.
    let both =
    takes_both (codes "execsim") true c.no_binary_name.result c.in_ok-arg.field-0 cmd c.path-machine.result c.path-events.result
    (record { app = search rules; args = search rules; groups = search rules; globals = search rules; negates = search rules })
    (record { id = search rules; rule = search rules; plain = c.path-machine.ensures.plain; value = λ given. c.path-machine.ensures.value })
    (record { id = search rules; rule = search rules; plain = c.path-events.ensures.plain; value = λ given. c.path-events.ensures.value })
    c.in_ok-arg.ensures second in
    record { app = both.app; machine = both.machine; events = both.events refl }) c.arg-2.ensures
