-- What is seen of one task of a schedule.
use Rattle.std.specs.Prelude.{ℕ}
use Rattle.scheduler.specs.{Schedule.Schedule, Schedule.nesting_of, Schedule.priority_of, Schedule.signals_of, Schedule.status_of, declared.status.TaskStatus.TaskStatus}

-- the state, the priority, the signals and the nesting of task t
abbrev pub status_seen : Schedule → ℕ → TaskStatus
status_seen s t = record {
  state = status_of s t;
  pri = priority_of s t;
  received = (signals_of s t).received;
  allocated = (signals_of s t).allocated;
  forbids = (nesting_of s t).forbids;
  disables = (nesting_of s t).disables;
}
