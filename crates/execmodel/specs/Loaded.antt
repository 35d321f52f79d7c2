-- Libraries that are loaded (RKM Libraries, Exec Libraries): each begins at an address, its base, by which it is
-- removed.
use Rattle.std.specs.Prelude.{ℕ, Bool, true, false, if◌then◌else◌, nat_eq, find, map, Option, option_map}
use Rattle.std.specs.Option.{option_map_or}
use Rattle.execmodel.specs.{Blocks.Object, Blocks.Library, Blocks.Block, Blocks.Heap, Blocks.Memory, Blocks.on_heap, Places.freed, Objects.object_at, Objects.is_kind, Objects.replaced}

-- the object is a loaded library
abbrev pub is_library : Object → Bool
is_library (Library number count delayed) = true
is_library _ = false

-- a loaded library begins at an address (RKM Libraries, Exec Libraries)
unfoldable pub is_library_at : ℕ → Heap → Bool
is_library_at base heap = is_kind is_library (object_at base heap)

-- the number of a library in the order of the file, 0 for another object
abbrev pub library_number : Object → ℕ
library_number (Library number count delayed) = number
library_number _ = 0

-- how often a library is open, 0 for another object
abbrev pub count_in : Object → ℕ
count_in (Library number count delayed) = count
count_in _ = 0

-- a library is to be expunged when it is closed for the last time; another object is not
abbrev pub delayed_in : Object → Bool
delayed_in (Library number count delayed) = delayed
delayed_in _ = false

-- the number of the library that begins at an address
unfoldable pub library_number_at : ℕ → Heap → ℕ
library_number_at base heap = option_map_or library_number (object_at base heap) 0

-- how often the library that begins at an address is open (RKM Libraries, Exec Libraries: lib_OpenCnt)
unfoldable pub count_of : ℕ → Heap → ℕ
count_of base heap = option_map_or count_in (object_at base heap) 0

-- the library that begins at an address is to be expunged when it is closed for the last time (LIBF_DELEXP)
unfoldable pub is_delayed : ℕ → Heap → Bool
is_delayed base heap = option_map_or delayed_in (object_at base heap) false

-- the library at a base is open that many times, and is to be expunged or not
unfoldable pub with_library : ℕ → ℕ → Bool → Heap → Heap
with_library base count delayed heap = map (replaced base (Library (library_number_at base heap) count delayed)) heap

-- an object is library i
abbrev pub is_numbered : ℕ → Object → Bool
is_numbered i (Library number count delayed) = nat_eq number i
is_numbered i _ = false

-- the base of library i, if it is loaded (RKM Libraries, Exec Libraries)
unfoldable pub base_of : ℕ → Heap → Option ℕ
base_of i heap =
    option_map (λ (entry : ℕ × Block). entry.0) (find (λ (entry : ℕ × Block). is_numbered i entry.1.object) heap)

-- a library that is not open is freed; an open one is to be expunged when it is closed for the last time
unfoldable pub after_expunge : ℕ → Memory → Memory
after_expunge base memory =
    if nat_eq (count_of base memory.heap) 0 then freed base memory
    else on_heap (with_library base (count_of base memory.heap) true) memory
