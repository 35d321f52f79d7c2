-- The rows of the start are put.
use Rattle.std.proofs.Common.{ap, refl}
use Rattle.execmodel.specs.State.{booted}
use Rattle.execsim.specs.declared.machine.readers.MachineView.{MachineView}
use Rattle.execlog.proofs.Logging.{began, whole_then}
use Rattle.execlog.proofs.log.begin.Goals as goal

pub returns-in-Ok-clause-rows : goal.returns-in-Ok-clause-rows
returns-in-Ok-clause-rows g c = whole_then c.enter.result
    (λ puts m h. began (g.F.Form.shows c.args.log.now.form.now) c.args.log.now.number c.view-clock.result.clock (c.in-Ok.ensures.acts c.requires.going)
    c.requires.number c.requires.blank (ap (λ (v : MachineView). v.clock) c.view-clock.ensures) puts m h)
    c.enter.ensures.shows

pub returns-in-Ok-clause-agrees : goal.returns-in-Ok-clause-agrees
returns-in-Ok-clause-agrees g c = whole_then c.enter.result (λ _ m h. (c.in-Ok.ensures.acts c.requires.going).agrees (booted m) h refl) c.enter.ensures.shows
