-- What the readers of queues and of free memory answer.
use Rattle.std.specs.Prelude.{ℕ, find, slice_get, List, Option, option_map}
use Rattle.memlist.specs.{declared.gap.Gap.Gap, Readers.gap_from as first_from, Readers.gaps_in}
use Rattle.execmodel.specs.{State.Block, State.Heap, State.Memory, State.PublicPort, Memory.extents, Ports.has_message, Ports.is_called}

-- the port that has a message, or the reply of a request
unfoldable pub port_with : ℕ → Heap → Option ℕ
port_with message heap = option_map (λ (entry : ℕ × Block). entry.0) (find (has_message message) heap)

-- the first public port of a name, as they are kept
abbrev pub port_named : List ℕ → List PublicPort → Option ℕ
port_named name public = option_map (λ (port : PublicPort). port.port) (find (is_called name) public)

-- the lowest gap of a region that begins at an address or above it
abbrev pub gap_from : (k address : ℕ) → Memory → Option Gap
gap_from k address memory = first_from address (gaps_in (slice_get memory.regions k) (extents memory.heap))
