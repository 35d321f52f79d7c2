-- Where a machine is, whatever its clock shows.
use Rattle.std.specs.Prelude.{◌≡◌, Bool, true, false, List}
use Rattle.script.specs.{File.MachineData, declared.event.Event.Event}
use Rattle.execmodel.specs.{State.Memory, Step.run}
use Rattle.execsim.specs.{Agreement.Agrees, Headline.Shown, declared.machine.Flow.Flow}
use Rattle.execsim.specs.declared.machine.Flow.TheVariants.{Going, Alerted}
use Rattle.statekeys.specs.{Fits.placed, Runs.IsBareMachine}

-- The machine shows the state to which some events come, but for the memory; and no alert has stopped it.
pub record IsWhere (machine : MachineData) (shown : Shown) (list : List Event) : Type 0 where
  pub bare : IsBareMachine machine
  pub whole : shown.failed ≡ false
  pub going : (run machine list).state.stopped ≡ false
  pub memory : Memory
  pub agrees : Agrees shown.seen (placed memory (run machine list).state)

-- whether an alert has stopped a machine, as it reports it
abbrev pub is_ended : Flow → Bool
is_ended Going = false
is_ended Alerted = true
