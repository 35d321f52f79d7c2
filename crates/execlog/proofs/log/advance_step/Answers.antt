-- The entry of the step is added; the steps after it have none.
use Rattle.std.proofs.Common.{ap, arith}
use Rattle.execsim.specs.declared.machine.readers.MachineView.{MachineView}
use Rattle.execlog.proofs.Logging.{advanced}
use Rattle.execlog.proofs.log.advance_step.Goals as goal

pub returns-in_ok-enter-in-Ok-clause-logs : goal.returns-in_ok-enter-in-Ok-clause-logs
returns-in_ok-enter-in-Ok-clause-logs g c =
    advanced (g.F.Form.shows c.args.log.now.form.now) c.args.log.now.number c.view-clock.result.clock c.in-Ok.silent c.actor_of-actor.result
    c.in-Ok.ensures.advances (λ some. c.most_silent-most.ensures.hidden (omega (arith, some, c.in-Ok.ensures.advances.within)))
    c.clear.ensures.bytes c.actor_of-actor.ensures (ap (λ (v : MachineView). v.clock) c.view-clock.ensures) c.in_ok-enter-in-Ok.ensures.shows
