-- What is seen of a way: the lines of its run that are seen, and then how it ends. A run that an alert ends has the
-- alert's line at the end; any other has who runs, and the line of the call of each task that waits.
use Rattle.std.specs.Prelude.{ℕ, Bool, true, false, List, [], ◌++◌}
use Rattle.script.specs.{File.MachineData, declared.event.Event.Event}
use Rattle.scheduler.specs.Schedule.{Schedule}
use Rattle.execmodel.specs.{State.Outcome, State.Scripts, Step.run}
use Rattle.execsim.specs.WaitingLines.{standing_text}
use Rattle.execsim.specs.declared.machine.Flow.TheVariants.{Going, Alerted}
use Rattle.execsim.specs.declared.machine.Flow.{Flow}
use Rattle.wayrun.specs.{Look.shown_of, declared.see.See.See}

-- how a run ends: by an alert, whose line was seen, or with its tasks so
abbrev pub ending : Bool → Schedule → Scripts → List ℕ
ending true schedule scripts = []
ending false schedule scripts = standing_text schedule scripts

-- what is seen of a run
abbrev pub seen_in : See → Outcome → List ℕ
seen_in see o = shown_of see o.lines ++ ending o.state.stopped o.state.schedule o.state.scripts

-- what is seen of a way
abbrev pub seen_of : See → MachineData → List Event → List ℕ
seen_of see machine way = seen_in see (run machine way)

-- whether an alert ends a way
abbrev pub is_alerted : MachineData → List Event → Bool
is_alerted machine way = (run machine way).state.stopped

-- whether a machine was stopped by an alert, as it reports it
abbrev pub stops : Flow → Bool
stops Going = false
stops Alerted = true
