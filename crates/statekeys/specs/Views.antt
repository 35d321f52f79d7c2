-- The key of what a machine shows.
use Rattle.std.specs.Prelude.{ℕ, List, [], ◌∷◌}
use Rattle.execsim.specs.{Agreement.Seen, declared.machine.readers.MachineView.MachineView, declared.machine.readers.TaskView.TaskView}
use Rattle.statekeys.specs.{Keys.key_bytes, Numbers.bool_number, Numbers.int_number, Numbers.mask_number, Numbers.numbers, Numbers.option_number, Numbers.state_number}

-- who runs and for how long, and which sources ask to be served
abbrev pub head_numbers : MachineView → List ℕ
head_numbers view =
    option_number view.running ∷ view.quantum_left ∷ bool_number view.latches.ports ∷ bool_number view.latches.vertb
    ∷ bool_number view.latches.exter ∷ []

-- the state, the priority, the signals, the nesting and the place of a task
abbrev pub view_numbers : TaskView → List ℕ
view_numbers view =
    state_number view.state ∷ mask_number view.state ∷ int_number view.pri ∷ view.received ∷ view.allocated ∷ int_number view.forbids
    ∷ int_number view.disables ∷ view.place ∷ []

-- the key of the state that a machine shows
abbrev pub key_seen : Seen → List ℕ
key_seen seen = key_bytes (numbers seen.schedule seen.scripts seen.pending)
