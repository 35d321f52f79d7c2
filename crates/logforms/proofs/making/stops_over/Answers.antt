-- The proof of `stops_over`: the machine is as the run of the events leaves it.
use Rattle.std.proofs.Common.{◌∙◌, ap, refl}
use Rattle.execmodel.specs.{State.booted, Step.run}
use Rattle.execsim.specs.declared.machine.readers.MachineView.{MachineView}
use Rattle.logforms.proofs.making.stops_over.Goals as goal

pub returns : goal.returns
unfolding run
returns c =
    let there = c.play-flow.ensures.follows.agrees (booted c.args._file.now) c.requires.agrees refl in
    ap (λ (v : MachineView). v.stopped) c.view.ensures ∙ there.stopped
