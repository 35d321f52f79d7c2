-- What a report of all states of a machine ensures, of each run of that machine.
use Rattle.std.specs.Prelude.{◌≡◌, ◌⊎◌, ℕ, Bool, true, false, All, List, length}
use Rattle.script.specs.{File.MachineData, declared.event.Event.Event}
use Rattle.execmodel.specs.{State.State, Step.run}
use Rattle.execsim.specs.Agreement.{in_order, caused_in_order}
use Rattle.closure.specs.{Closed.AreOf, Closed.EndsBy, Closed.IsOneOf, Closed.IsShown, Closed.lines_of, declared.found.Alert.Alert}
use Rattle.statereport.specs.Reports.{report_text}
use Rattle.statekeys.specs.{Keys.key_bytes, Numbers.numbers}

-- the key of a state, with its ready tasks and its caused software interrupts in the order in which they are to run
abbrev pub key_in_order : State → List ℕ
key_in_order s = key_bytes (numbers (in_order s.schedule) s.scripts (caused_in_order s.bodies.softints s.pending))

-- no alert has stopped the run of some events, and the key of its state is one of these
pub record IsAmong (machine : MachineData) (keys : List (List ℕ)) (list : List Event) : Type 0 where
  pub going : (run machine list).state.stopped ≡ false
  pub found : IsOneOf keys (key_in_order (run machine list).state)

-- The text says how many states and alerts there are. If the set is closed, each list of events of these kinds, in
-- whatever order and however long, leads from the start to a state of one of that many keys, or one of the listed
-- alerts has ended its run. Each alert is that of the events that are listed with it.
pub record SaysEvery (machine : MachineData) (name : List ℕ) (kinds : List Event) (is_closed : Bool) (number : ℕ) (text : List ℕ) : Type 0 where
  pub keys : List (List ℕ)
  pub alerts : List Alert
  pub says : text ≡ report_text name kinds is_closed (length keys) alerts
  pub counts : number ≡ length alerts
  pub every : is_closed ≡ true → (list : List Event) → AreOf kinds list → IsAmong machine keys list ⊎ EndsBy machine (lines_of alerts) list
  pub shown : All (IsShown machine) alerts

-- if a closed set has no alert, no list of events of these kinds ends in one
abbrev pub NoAlertComes : Type 0
NoAlertComes =
    (machine : MachineData) (name : List ℕ) (kinds : List Event) (text : List ℕ) → SaysEvery machine name kinds true 0 text
    → (list : List Event) → AreOf kinds list → (run machine list).state.stopped ≡ false
