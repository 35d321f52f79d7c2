-- Which runs an alert ends.
use Rattle.std.specs.Prelude.{Bool, false, List, Result, Ok, Err}
use Rattle.script.specs.{File.MachineData, declared.event.Event.Event}
use Rattle.taskscript.specs.{declared.fault.EventFault.EventFault, declared.fault.FileFault.FileFault}
use Rattle.execmodel.specs.Step.{run}

-- whether both texts are accepted, and an alert ends their run
abbrev pub ends_by_alert : Result MachineData FileFault → Result (List Event) EventFault → Bool
ends_by_alert (Ok m) (Ok list) = (run m list).state.stopped
ends_by_alert (Ok m) (Err fault) = false
ends_by_alert (Err fault) script = false
