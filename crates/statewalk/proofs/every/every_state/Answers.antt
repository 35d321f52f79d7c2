-- The report of a walk over the machine of the file is that of the machine.
use Rattle.std.proofs.Common.{◌≡◌, List, ℕ, subst}
use Rattle.script.specs.{File.MachineData, declared.event.Event.Event}
use Rattle.statereport.specs.Reports.{Reports}
use Rattle.statekeys.specs.{Stands.IsWhere, Views.key_seen}
use Rattle.statewalk.specs.Walking.{Walking}
use Rattle.statewalk.proofs.Among.{says_every}
use Rattle.statewalk.proofs.every.every_state.Goals as goal

pub returns : goal.returns
returns g c =
    let r = c.in_ok-report.report in
    says_every c.args.file.now c.args.name.now c.args.kinds.now r.is_closed r.alerts r.text.items
    (subst (λ (m : MachineData). Reports (λ (w : Walking). w.file) (λ (w : Walking) (list : List Event). IsWhere w.file w.shown list) (λ (w : Walking). key_seen w.shown.seen)
    m c.args.name.now c.args.kinds.now r.is_closed r.alerts r.text.items) c.in_ok-walk.ensures c.in_ok-report.ensures)
