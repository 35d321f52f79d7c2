-- What the calls and the bodies of the machine show.
use Rattle.std.specs.Prelude.{◌≡◌, ◌<◌, ℕ, List, map, take}
use Rattle.exectrace.specs.Short.{short_argument}
use Rattle.script.specs.{Commands.CommandData, Commands.command_view, File.SoftintData, File.ServerData}
use Rattle.softint.specs.{declared.interrupt.Server.Server as Interrupting, Interrupts.Interrupts}
use Rattle.execmodel.specs.State as model
use Rattle.execmodel.specs.{Calls.ByTask, Calls.ByBody, Interrupts.softint_at, Interrupts.server_at}
use Rattle.execmodel.specs.Calls as calls
use Rattle.execsim.specs.{declared.bodies.Softint.Softint, declared.bodies.Server.Server, declared.bodies.Body.Body, declared.call.Call.Call, declared.call.Caller.Caller}
use Rattle.execsim.specs.declared.bodies.Body.TheVariants as body
use Rattle.execsim.specs.declared.call.Caller.TheVariants as caller

-- ---- calls

-- as many arguments as its count says
abbrev pub call_view : Call → model.Call
call_view c = record {
  word = c.word;
  target = c.target;
  arguments = map (short_argument c.quoted.bytes) (take c.count c.arguments);
  next = c.next;
  awaited = c.awaited;
}

-- ---- callers

abbrev pub caller_view : Caller → calls.Caller
caller_view (caller.Task t) = ByTask t
caller_view (caller.Body name) = ByBody name.bytes

-- a body, or one of that many tasks
abbrev pub IsCaller : ℕ → Caller → Type 0
IsCaller tasks (caller.Task t) = t < tasks
IsCaller tasks (caller.Body name) = Unit {0}

-- ---- bodies of interrupts

abbrev pub softint_view : Softint → SoftintData
softint_view s = record { name = s.name.bytes; pri = s.pri; code = map command_view s.code.items }

abbrev pub server_view : Server → ServerData
server_view s = record { name = s.name.bytes; source = s.source; pri = s.pri; claim = s.claim; code = map command_view s.code.items }

-- a server as calls on interrupts see it: by its source and its priority
abbrev pub interrupting : ServerData → Interrupting
interrupting s = record { source = s.source; pri = s.pri }

-- the interrupts are those of the bodies
pub record IsFor (bodies : model.Bodies) (ints : Interrupts) : Type 0 where
  pub priorities : ints.priorities ≡ map (λ (s : SoftintData). s.pri) bodies.softints
  pub servers : ints.servers ≡ map interrupting bodies.servers

-- the name of a body, and its commands
abbrev pub name_of_body : Body → model.Bodies → List ℕ
name_of_body (body.Softint i) bodies = (softint_at i bodies).name
name_of_body (body.Server k) bodies = (server_at k bodies).name

abbrev pub code_of_body : Body → model.Bodies → List CommandData
code_of_body (body.Softint i) bodies = (softint_at i bodies).code
code_of_body (body.Server k) bodies = (server_at k bodies).code
