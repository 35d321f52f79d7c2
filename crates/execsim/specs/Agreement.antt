-- How the machine agrees with the abstract machine, and how a part of it follows an action. The abstract state keeps
-- its ready tasks, its public ports and its caused software interrupts in order of arrival; the machine keeps each in
-- order of priority. All else is equal.
use Rattle.std.specs.Prelude.{◌≡◌, ℕ, Bool, true, false, List, []}
use Rattle.exectrace.specs.Hearing.{Hearing}
use Rattle.exectrace.specs.Trace as trace
use Rattle.script.specs.{Words.word_text, File.SoftintData}
use Rattle.execlist.specs.{Order.order, Disciplines.pri_at}
use Rattle.scheduler.specs.Schedule.{Schedule, task_name}
use Rattle.execmodel.specs.{State.Bodies, State.Call, State.Memory, State.Pending, State.State, State.Scripts, State.Outcome, Pending.softint_pri, Ports.priority_of_public}

-- what the layers of the machine show, a field for each
pub record Seen : Type 0 where
  pub schedule : Schedule
  pub scripts : Scripts
  pub memory : Memory
  pub bodies : Bodies
  pub pending : Pending
  pub stopped : Bool

-- the schedule with its ready tasks in the order in which they are to run
abbrev pub in_order : Schedule → Schedule
in_order s = record s { queue = record s.queue { ready = order (pri_at s.queue.pris) s.queue.ready } }

-- the memory with its public ports in the order in which they are searched
abbrev pub queues_in_order : Memory → Memory
queues_in_order memory = record memory { public = order priority_of_public memory.public }

-- the pending interrupts with the caused ones in the order in which they are to run
abbrev pub caused_in_order : List SoftintData → Pending → Pending
caused_in_order softints pending = record pending { caused = order (softint_pri softints) pending.caused }

-- the machine shows this state
pub record Agrees (seen : Seen) (s : State) : Type 0 where
  pub schedule : seen.schedule ≡ in_order s.schedule
  pub scripts : seen.scripts ≡ s.scripts
  pub memory : seen.memory ≡ queues_in_order s.memory
  pub bodies : seen.bodies ≡ s.bodies
  pub pending : seen.pending ≡ caused_in_order s.bodies.softints s.pending
  pub stopped : seen.stopped ≡ s.stopped

-- the line of a call of task t, by what the machine shows
abbrev pub line_seen : ℕ → Call → trace.CallEnd → Seen → trace.TraceLine
line_seen t call outcome seen = trace.Call (task_name seen.schedule t) (word_text call.word) call.arguments outcome

-- From any state that it agrees with, the machine goes on as the action says, and who listens hears what happens.
pub record Follows (H : Hearing) (next : State → Outcome) (old new : Seen) (before after : H.Told) : Type 0 where
  pub agrees : (s : State) → Agrees old s → Agrees new (next s).state
  pub prints : (s : State) → Agrees old s → H.hears before after (next s).lines

-- The same as long as one listens. Once it does not, nothing is said and the machine stays after the action.
pub record FollowsWhileGood (H : Hearing) (next : State → Outcome) (old new : Seen) (before after : H.Told) : Type 0 where
  pub agrees : (s : State) → Agrees old s → H.good after ≡ true → Agrees new (next s).state
  pub prints : (s : State) → Agrees old s → H.hears before after (next s).lines
  pub afterwards : H.good before ≡ false → after ≡ before

-- From any state that it agrees with, the machine goes on as the action says, which says nothing.
pub record Quietly (next : State → Outcome) (old new : Seen) : Type 0 where
  pub agrees : (s : State) → Agrees old s → Agrees new (next s).state
  pub quiet : (s : State) → Agrees old s → (next s).lines ≡ []

-- The same of a change of the state alone.
pub record Moves (next : State → State) (old new : Seen) : Type 0 where
  pub agrees : (s : State) → Agrees old s → Agrees new (next s)
