-- The rows of the event are added.
use Rattle.std.proofs.Common.{ap}
use Rattle.execsim.specs.declared.machine.readers.MachineView.{MachineView}
use Rattle.execlog.proofs.Logging.{entered, whole_then}
use Rattle.execlog.proofs.log.advance.Goals as goal

pub returns-in-Ok-clause-logs : goal.returns-in-Ok-clause-logs
returns-in-Ok-clause-logs g c = whole_then c.enter.result
    (λ puts. entered (g.F.Form.shows c.args.log.now.form.now) c.args.log.now.number c.view-clock.result.clock c.args.one c.actor_of-actor.result (c.in-Ok.ensures.acts c.requires.going)
    c.clear.ensures.bytes c.actor_of-actor.ensures (ap (λ (v : MachineView). v.clock) c.view-clock.ensures) puts)
    c.enter.ensures.shows
