-- What the marks of a run say of one port, and of one semaphore.
use Rattle.std.specs.Prelude.{ℕ, if◌then◌else◌, nat_eq, List, [], ◌∷◌, flat_map}
use Rattle.execmodel.specs.{State.Mark, State.put, State.got, State.out, State.asked, State.passed, State.left, Queues.Turn, Queues.Came, Queues.Served, Queues.Left}

-- a turn, if it is at that address
abbrev pub turn_at : ℕ → ℕ → Turn → List Turn
turn_at address other turn = if nat_eq address other then turn ∷ [] else []

-- what a mark says of the port at an address: a message comes when it is put there, is served by GetMsg, and leaves
-- when WaitIO or DoIO takes it out
abbrev pub port_turn : ℕ → Mark → List Turn
port_turn address (put port message) = turn_at address port (Came message)
port_turn address (got port message) = turn_at address port (Served message)
port_turn address (out port message) = turn_at address port (Left message)
port_turn address _ = []

-- what a mark says of the semaphore at an address: a task comes when it has to wait, is served when a release makes it
-- the owner, and leaves when it is removed
abbrev pub semaphore_turn : ℕ → Mark → List Turn
semaphore_turn address (asked semaphore task) = turn_at address semaphore (Came task)
semaphore_turn address (passed semaphore task) = turn_at address semaphore (Served task)
semaphore_turn address (left semaphore task) = turn_at address semaphore (Left task)
semaphore_turn address _ = []

-- what the marks say of the port at an address, in order
abbrev pub turns_at_port : ℕ → List Mark → List Turn
turns_at_port port marks = flat_map (port_turn port) marks

-- what the marks say of the semaphore at an address, in order
abbrev pub turns_at_semaphore : ℕ → List Mark → List Turn
turns_at_semaphore semaphore marks = flat_map (semaphore_turn semaphore) marks
