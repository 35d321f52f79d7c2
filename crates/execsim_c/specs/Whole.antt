-- What calls that do events, feed lines and add tasks come to, one after another: the run of a machine file.
use Rattle.std.specs.Prelude.{◌≡◌, ℕ, List, [], ◌∷◌, ◌++◌, map, Option, Some}
use Rattle.exectrace.specs.Trace.{printed}
use Rattle.script.specs.{File.MachineData, Machines.IsMachine, declared.event.Event.Event}
use Rattle.execmodel.specs.{State.booted, Step.starts, Step.events, Step.run}
use Rattle.execmodel.specs.Feeding.{Comes, ComeInTime, Input, does_input, events_among, inputs, whole}
use Rattle.execsim.specs.Agreement.{Agrees, Seen}
use Rattle.execsim_c.specs.Stepping.{Does, Starts}

-- What one call does is the list of what it does: a line is fed, a task is added, or events are done.
pub record CallsDoInputs : Type 0 where
  pub one : (input : Input) (old new : Seen) (before after : Option (List ℕ)) → Does (does_input input) old new before after
      → Does (inputs (input ∷ [])) old new before after
  pub events : (list : List Event) (old new : Seen) (before after : Option (List ℕ)) → Does (events list) old new before after
      → Does (inputs (map Comes list)) old new before after

-- what calls do one after another is one list after another
abbrev pub CallsFollow : Type 0
CallsFollow =
    (some more : List Input) (old mid new : Seen) (before between after : Option (List ℕ)) → Does (inputs some) old mid before between
    → Does (inputs more) mid new between after → Does (inputs (some ++ more)) old new before after

-- the machine shows the end of a run of a file over events, and its lines are those of the run
pub record IsRunOf (machine : MachineData) (list : List Event) (seen : Seen) (lines : List ℕ) : Type 0 where
  pub agrees : Agrees seen (run machine list).state
  pub prints : lines ≡ printed (run machine list).lines

-- A machine that has started, and with which then all that came in time, is that of the whole file over the events that
-- came; its lines, if none were taken, are those of that run.
abbrev pub GrownMachinesAreWhole : Type 0
GrownMachinesAreWhole =
    (machine : MachineData) (list : List Input) → IsMachine machine → ComeInTime list (starts (booted machine)).state
    → (old new : Seen) (before after : List ℕ) → Starts machine old before → Does (inputs list) old new (Some before) (Some after)
    → IsRunOf (whole list machine) (events_among list) new after
