-- Laws of every run of a machine whose words do not touch its memory.
use Rattle.std.specs.Prelude.{◌≡◌, ℕ, false, List}
use Rattle.script.specs.{File.MachineData, declared.event.Event.Event}
use Rattle.execmodel.specs.{State.Memory, State.State, Step.event, Step.run}
use Rattle.statekeys.specs.{Fits.placed, Keys.key_bytes, Numbers.numbers, Runs.IsBareMachine}

-- from a state with another memory an event prints the same lines and comes to the same state, but for the memory
pub record GoesAlike (e : Event) (m : Memory) (s : State) : Type 0 where
  pub memory : Memory
  pub state : (event e (placed m s)).state ≡ placed memory (event e s).state
  pub lines : (event e (placed m s)).lines ≡ (event e s).lines

-- Nothing that a run does depends on what the clock shows: in any state of any run, with any other cleared memory in
-- its place, its clock and system time among it, an event does the same.
abbrev pub TheClockIsUnseen : Type 0
TheClockIsUnseen =
    (machine : MachineData) (list : List Event) (e : Event) (m : Memory) → IsBareMachine machine → GoesAlike e m (run machine list).state

-- the key of a state
abbrev pub key_of : State → List ℕ
key_of s = key_bytes (numbers s.schedule s.scripts s.pending)

-- Two states of runs of one machine that no alert has stopped, and that have one key, are the same but for the memory.
abbrev pub KeysTellStates : Type 0
KeysTellStates =
    (machine : MachineData) (list other : List Event) → IsBareMachine machine
    → (run machine list).state.stopped ≡ false → (run machine other).state.stopped ≡ false
    → key_of (run machine list).state ≡ key_of (run machine other).state
    → (run machine list).state ≡ record (run machine other).state { memory = (run machine list).state.memory }
