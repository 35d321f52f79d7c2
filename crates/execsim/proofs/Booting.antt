-- The machine of a file agrees with the first state.
use Rattle.std.proofs.Common.{◌≡◌, List, [], false, length, map, refl, ap, sym, ◌∙◌, subst, nat_eq}
use Rattle.std.proofs.lemmas.List.{length-map}
use Rattle.execlist.specs.Order.{order}
use Rattle.script.specs.{File.TaskData, File.MachineData, Records.task_view, declared.file.TaskRecord.TaskRecord}
use Rattle.scheduler.specs.Schedule.{unstarted}
use Rattle.execmodel.specs.State.{booted}
use Rattle.softint.specs.Sources.{no_latches}
use Rattle.timerdev.specs.Timing.{new_timer}
use Rattle.execsim.specs.Agreement.{Seen, Agrees, caused_in_order, in_order, queues_in_order}
use Rattle.execsim.proofs.Calling.{map-map_as}

booted-in_order : (machine : MachineData) → in_order (booted machine).schedule ≡ (booted machine).schedule
unfolding booted order
booted-in_order machine = refl

booted-schedule : (machine : MachineData) (tasks : List TaskRecord)
    → (booted (record machine { tasks = map task_view tasks })).schedule ≡ unstarted (length tasks) (map (λ (t : TaskRecord). t.pri) tasks) (map (λ (t : TaskRecord). t.name.bytes) tasks) machine.quantum
unfolding booted
booted-schedule machine tasks =
    rw (length-map, ← map-map_as (λ (t : TaskData). t.pri) task_view tasks, ← map-map_as (λ (t : TaskData). t.name) task_view tasks) refl

booted-going : (machine : MachineData) → false ≡ (booted machine).stopped
unfolding booted
booted-going machine = refl

booted-bodies : (machine : MachineData) → record { softints = machine.softints; servers = machine.servers } ≡ (booted machine).bodies
unfolding booted
booted-bodies machine = refl

booted-pending : (machine : MachineData) → record { caused = []; latches = no_latches } ≡ caused_in_order (booted machine).bodies.softints (booted machine).pending
unfolding booted order
booted-pending machine = refl

booted-memory : (machine : MachineData)
    → record { regions = machine.regions; libraries = machine.libraries; asks = nat_eq machine.version 2; pool = machine.pool; tasks = length machine.tasks; heap = []; public = []; timer = new_timer machine.tick_micros } ≡ queues_in_order (booted machine).memory
unfolding booted order
booted-memory machine = refl

-- the parts that were made for the tasks of a file are those of the first state
pub boots : {seen : Seen} (machine : MachineData) (tasks : List TaskRecord) → map task_view tasks ≡ machine.tasks
    → seen.schedule ≡ unstarted (length tasks) (map (λ (t : TaskRecord). t.pri) tasks) (map (λ (t : TaskRecord). t.name.bytes) tasks) machine.quantum
    → seen.scripts ≡ (booted (record machine { tasks = map task_view tasks })).scripts
    → seen.memory ≡ record { regions = machine.regions; libraries = machine.libraries; asks = nat_eq machine.version 2; pool = machine.pool; tasks = length machine.tasks; heap = []; public = []; timer = new_timer machine.tick_micros }
    → seen.bodies ≡ record { softints = machine.softints; servers = machine.servers } → seen.pending ≡ record { caused = []; latches = no_latches }
    → seen.stopped ≡ false → Agrees seen (booted machine)
boots {seen} machine tasks states schedule scripts memory bodies pending going =
    subst (λ (ts : List TaskData). Agrees seen (booted (record machine { tasks = ts }))) states (record {
      schedule = schedule ∙ sym (booted-schedule machine tasks) ∙ sym (booted-in_order (record machine { tasks = map task_view tasks }));
      scripts = scripts;
      memory = memory ∙ ap (λ (ts : List TaskData). record { regions = machine.regions; libraries = machine.libraries; asks = nat_eq machine.version 2; pool = machine.pool; tasks = length ts; heap = []; public = []; timer = new_timer machine.tick_micros }) (sym states)
          ∙ booted-memory (record machine { tasks = map task_view tasks });
      bodies = bodies ∙ booted-bodies (record machine { tasks = map task_view tasks });
      pending = pending ∙ booted-pending (record machine { tasks = map task_view tasks });
      stopped = going ∙ booted-going (record machine { tasks = map task_view tasks });
    })
