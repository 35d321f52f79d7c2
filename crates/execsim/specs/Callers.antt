-- Who may make a call: a task of the machine, or a body.
use Rattle.std.specs.Prelude.{◌≡◌, ◌<◌, ℕ, Some, length}
use Rattle.execsim.specs.{declared.call.Caller.Caller, Agreement.Seen, Views.IsCaller}

-- the machine has a task of that number, counted from 0
abbrev pub HasTask : ℕ → Seen → Type 0
HasTask t seen = t < length seen.scripts.programs

-- that task runs
abbrev pub Runs : ℕ → Seen → Type 0
Runs t seen = seen.schedule.running ≡ Some t

-- the caller is a task that the machine has, or a body
abbrev pub HasCaller : Caller → Seen → Type 0
HasCaller caller seen = IsCaller (length seen.scripts.programs) caller
