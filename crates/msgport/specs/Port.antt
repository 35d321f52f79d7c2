-- One port without its messages, and what it does when a message arrives (RKM Libraries, Exec Messages and Ports).
use Rattle.std.specs.Prelude.{ℕ, ◌^◌, ◌==◌, if◌then◌else◌, Option, Some, None}
use Rattle.msgport.specs.declared.action.PortAction.TheVariants.{Signal, Cause, Ignore}
use Rattle.msgport.specs.{declared.action.Action.Action, declared.action.PortAction.PortAction}
use Rattle.msgport.specs.declared.action.Action.TheVariants as action

-- the task of a port, the number of its signal, and its action
pub record Port : Type 0 where
  pub task : ℕ
  pub bit : ℕ
  pub action : PortAction

-- a port that signals its task
abbrev pub new_port : ℕ → ℕ → Port
new_port task bit = record { task = task; bit = bit; action = Signal }

-- what is to be done for a message that arrives at a port with this action
abbrev pub acting_by : PortAction → Port → Action
acting_by Signal port = action.Signal port.task (2 ^ port.bit)
acting_by (Cause i) port = action.Cause i
acting_by Ignore port = action.Nothing

-- what a port does when a message arrives: it signals its task, causes its software interrupt, or does nothing (RKM
-- Libraries, Exec Messages and Ports: mp_Flags)
abbrev pub arrival_action : Port → Action
arrival_action port = acting_by port.action port

-- the signal of a port with this action, if the action is to signal, and the task is that of the port
abbrev pub wait_bit_by : PortAction → ℕ → Port → Option ℕ
wait_bit_by Signal task port = if port.task == task then Some port.bit else None
wait_bit_by (Cause i) task port = None
wait_bit_by Ignore task port = None

-- the number of the signal that a task waits for at a port, if the port signals that task (autodoc WaitPort)
abbrev pub wait_bit : ℕ → Port → Option ℕ
wait_bit task port = wait_bit_by port.action task port
