-- Objects: what begins at an address, and where a new object is placed. An object takes a block of its own, with
-- MEMF_PUBLIC (project rule).
use Rattle.std.specs.Prelude.{ℕ, Bool, false, if◌then◌else◌, nat_eq, nat_lt, filter, length, Option, None, Some, option_map}
use Rattle.execlib.specs.Libraries.{public_memory}
use Rattle.execmodel.specs.{Blocks.Object, Blocks.Block, Blocks.Heap, Blocks.Memory, Places.block_at, Places.place_for}

-- the object that begins at an address, if there is a block
abbrev pub object_at : ℕ → Heap → Option Object
object_at address heap = option_map (λ block. block.object) (block_at address heap)

-- there is an object, and it is of a kind
abbrev pub is_kind : (Object → Bool) → Option Object → Bool
is_kind kind None = false
is_kind kind (Some object) = kind object

-- an entry of the heap, which gets that object if it is the one at that address
abbrev pub replaced : ℕ → Object → ℕ × Block → ℕ × Block
replaced address object entry = (entry.0, if nat_eq entry.0 address then record entry.1 { object = object } else entry.1)

-- how many objects of a kind there are
abbrev pub live : (Object → Bool) → Heap → ℕ
live kind heap = length (filter (λ (entry : ℕ × Block). kind entry.1.object) heap)

-- the pool allows one more object of a kind (project rule)
abbrev pub is_allowed : (Object → Bool) → Memory → Bool
is_allowed kind memory = nat_lt (live kind memory.heap) memory.pool

-- The address where a new object of a kind is placed, which takes that many bytes. There is none if the pool does not
-- allow one more, or if no gap is large enough (project rule).
unfoldable pub place_for_object : (Object → Bool) → ℕ → Memory → Option ℕ
place_for_object kind size memory = if is_allowed kind memory then place_for size public_memory memory else None
