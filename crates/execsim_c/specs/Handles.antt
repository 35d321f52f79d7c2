-- What the calls of a machine that C keeps come to.
use Rattle.std.specs.Prelude.{◌≡◌, ℕ, Bool, List, [], ◌++◌, drop, length, Some, Result, Ok}
use Rattle.script.specs.{File.MachineData, declared.event.Event.Event}
use Rattle.taskscript.specs.{declared.fault.FileFault.FileFault, declared.fault.EventFault.EventFault}
use Rattle.execmodel.specs.Step.{events}
use Rattle.execsim.specs.Headline.{Shown}
use Rattle.execsim_c.specs.{Held.Kept, Stepping.IsStarted, Stepping.Does, declared.session.Session.Session}

-- the machine file is read, and the handle has its machine, which has started
pub record Opens (file : Result MachineData FileFault) (now : Kept) (stopped : Bool) : Type 0 where
  pub session : Session
  pub holds : now ≡ Some session
  pub starts : IsStarted file session.machine.seen session.lines.items
  pub stops : session.machine.seen.stopped ≡ stopped

-- the event text is read, and the machine of the handle has done its events
pub record Goes (script : Result (List Event) EventFault) (before now : Kept) (stopped : Bool) : Type 0 where
  pub list : List Event
  pub old : Session
  pub new : Session
  pub reads : script ≡ Ok list
  pub held : before ≡ Some old
  pub holds : now ≡ Some new
  pub does : Does (events list) old.machine.seen new.machine.seen (Some old.lines.items) (Some new.lines.items)
  pub stops : new.machine.seen.stopped ≡ stopped

-- the handle has a machine of which that is seen, and it is as it was
pub record Sees (before now : Kept) (shows : Shown → Type 0) : Type 0 where
  pub session : Session
  pub held : before ≡ Some session
  pub same : now ≡ before
  pub shown : shows session.machine

-- the lines were moved to the front of the buffer
pub record Takes (before now : Kept) (room out : List ℕ) (len : ℕ) : Type 0 where
  pub old : Session
  pub new : Session
  pub held : before ≡ Some old
  pub holds : now ≡ Some new
  pub same : new.machine ≡ old.machine
  pub none_left : new.lines.items ≡ []
  pub long : len ≡ length old.lines.items
  pub moved : out ≡ old.lines.items ++ drop len room
