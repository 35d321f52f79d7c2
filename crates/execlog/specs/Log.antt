-- The log of a run: an entry for the start, and one for each step, tick and request of an interrupt, with when it was,
-- which command it was, and the lines that it printed.
use Rattle.std.specs.Prelude.{◌≡◌, ℕ, suc, ◌||◌, if◌then◌else◌, nat_lt, is_some, List, [], ◌∷◌, ◌++◌, length, replicate, Option, None, Some, flat_map}
use Rattle.exectrace.specs.Trace.{printed}
use Rattle.script.specs.declared.event.Event.TheVariants.{Run, Tick, Irq}
use Rattle.script.specs.{File.MachineData, declared.event.Event.Event}
use Rattle.execmodel.specs.{State.Scripts, State.State, State.Outcome, State.booted, State.program_of, Pending.next_softint, Step.event, Step.run, Step.starts}
use Rattle.execlog.specs.{declared.moment.Actor.Actor, declared.moment.Moment.Moment}

-- ---- one step and one tick at a time

abbrev pub unit_of : Event → List Event
unit_of (Run n) = replicate n (Run 1)
unit_of (Tick n) = replicate n (Tick 1)
unit_of (Irq source) = replicate 1 (Irq source)

abbrev pub units : List Event → List Event
units list = flat_map unit_of list

-- how many steps, ticks and requests an event is
abbrev pub turns : Event → ℕ
turns e = length (unit_of e)

-- ---- whose command a step is

-- the task, if there is one, at its next command
abbrev pub actor_at : Option ℕ → Scripts → Option Actor
actor_at None scripts = None
actor_at (Some t) scripts =
    if nat_lt t (length scripts.programs) then Some (record { task = t; place = (program_of scripts t).place }) else None

-- the task whose command or end the next step is
abbrev pub acts_next : State → Option ℕ
acts_next s = if s.stopped || is_some (next_softint s) then None else s.schedule.running

abbrev pub actor_of : Event → State → Option Actor
actor_of (Run n) s = actor_at (acts_next s) s.scripts
actor_of (Tick n) s = None
actor_of (Irq source) s = None

-- ---- entries

-- what is known of a step, a tick or a request, and the bytes that it printed
pub record Entry : Type 0 where
  pub moment : Moment
  pub text : List ℕ

-- what came of an action, which is that of this number
abbrev pub entry_after : ℕ → Option Actor → Outcome → Entry
entry_after number actor o = record {
  moment = record { number = number; clock = o.state.memory.timer.clock; actor = actor };
  text = printed o.lines;
}

-- the entries of some events, before which there were that many entries
abbrev pub entries_after : ℕ → List Event → State → List Entry
entries_after n [] s = []
entries_after n (e ∷ rest) s = entry_after n (actor_of e s) (event e s) ∷ entries_after (suc n) rest (event e s).state

-- the log of the run of a machine over a list of events, one step and one tick at a time
abbrev pub log_of : MachineData → List Event → List Entry
log_of machine list =
    let started = starts (booted machine) in
    entry_after 0 None started ∷ entries_after 1 (units list) started.state

-- ---- bytes that show entries

-- Bytes that show one thing, and after them bytes that show another.
pub record Both (First Rest : List ℕ → Type 0) (bytes : List ℕ) : Type 0 where
  pub first : List ℕ
  pub rest : List ℕ
  pub whole : bytes ≡ first ++ rest
  pub shows : First first
  pub rests : Rest rest

-- the bytes show some entries, one after another
abbrev pub ShowsLog : (Entry → List ℕ → Type 0) → List Entry → List ℕ → Type 0
ShowsLog shows [] bytes = bytes ≡ []
ShowsLog shows (e ∷ rest) bytes = Both (shows e) (ShowsLog shows rest) bytes

-- Bytes that show something were added to a page.
pub record Gains (Shows : List ℕ → Type 0) (before after : List ℕ) : Type 0 where
  pub bytes : List ℕ
  pub shows : Shows bytes
  pub added : after ≡ before ++ bytes

-- ---- laws

-- the texts of a log, one after another, are the trace of the run
abbrev pub LogsTellTheTrace : Type 0
LogsTellTheTrace = (machine : MachineData) (list : List Event) → flat_map (λ (e : Entry). e.text) (log_of machine list) ≡ printed (run machine list).lines
