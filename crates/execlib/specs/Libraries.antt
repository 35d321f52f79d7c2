-- What calls on libraries see: which libraries there are; and of each loaded one, where it lies, how often it is open,
-- and whether it is to be expunged when it is closed for the last time (RKM Libraries, Exec Libraries).
use Rattle.std.specs.Prelude.{◌≡◌, ℕ, ◌+◌, ◌-◌, ◌≤◌, pos, nat_le, nat_eq, bytes_eq, Bool, true, false, not, ◌&&◌, is_some, if◌then◌else◌, List, [], ◌∷◌, length, map, replicate, slice_set, slice_index_or, Option, Some, None, option_and_then, option_map}
use Rattle.std.specs.{List.position_from, List.range_with_len, Option.option_map_or}
use Rattle.execlist.specs.Lists.{KeyData}
use Rattle.memlist.specs.{Blocks.Blocks, Blocks.block_at, Fit.fit, Memory.Memory, Memory.allocated, Memory.without_block}
use Rattle.execlib.specs.{declared.fault.LibFault.LibFault, declared.fault.LibFault.TheVariants.NotOpen, declared.library.LibInit.LibInit, declared.library.Loaded.Loaded}

-- a library that may be opened: its name, its version, and the bytes of memory that it takes while it is loaded
pub record Description : Type 0 where
  pub name : List ℕ
  pub version : ℕ
  pub size : ℕ

pub record Libraries : Type 0 where
  -- the libraries in the order of the file
  pub known : List Description
  -- where each is loaded, how often it is open and whether it is to be expunged; none for one that is absent
  pub loaded : List (Option Loaded)
  -- whether they are asked for memory if a block fits nowhere
  pub asks : Bool

-- libraries, and the memory that is lent to them: their blocks lie there
pub record Lent : Type 0 where
  pub libraries : Libraries
  pub memory : Memory

abbrev pub lent : Libraries → Memory → Lent
lent libraries memory = record { libraries = libraries; memory = memory }

-- ---- parts

abbrev pub no_library : Description
no_library = record { name = []; version = 0; size = 0 }

-- library i
abbrev pub library_at : ℕ → Libraries → Description
library_at i m = slice_index_or m.known i no_library

-- what is kept of library i, if it is loaded
abbrev pub loaded_at : ℕ → Libraries → Option Loaded
loaded_at i m = slice_index_or m.loaded i None

-- library i is loaded
abbrev pub is_loaded : ℕ → Libraries → Bool
is_loaded i m = is_some (loaded_at i m)

-- the address of a loaded library's block
abbrev pub base_of : ℕ → Libraries → ℕ
base_of i m = option_map_or (λ (l : Loaded). l.base) (loaded_at i m) 0

-- the address of a library's block, if it is loaded
abbrev pub base_at : ℕ → Libraries → Option ℕ
base_at i m = option_map (λ (l : Loaded). l.base) (loaded_at i m)

-- how often library i is open
abbrev pub count_of : ℕ → Libraries → ℕ
count_of i m = option_map_or (λ (l : Loaded). l.count) (loaded_at i m) 0

-- library i is to be expunged when it is closed for the last time (LIBF_DELEXP)
abbrev pub is_delayed : ℕ → Libraries → Bool
is_delayed i m = option_map_or (λ (l : Loaded). l.delayed_expunge) (loaded_at i m) false

-- the first library of a name
abbrev pub number_of : List ℕ → Libraries → Option ℕ
number_of name m = position_from (λ (library : Description). bytes_eq library.name name) 0 m.known

-- the tag of the block of library i (project rule)
abbrev pub library_tag : ℕ → ℕ
library_tag i = 0x80000000 + i

-- MEMF_PUBLIC, 1: libraries lie in memory of that attribute (project rule)
abbrev pub public_memory : ℕ
public_memory = 1

-- the numbers from 0 up to n
abbrev pub numbers : ℕ → List ℕ
numbers n = range_with_len 0 n

-- ---- single changes

-- what is kept of library i becomes another
abbrev pub with_loaded : ℕ → Option Loaded → Libraries → Libraries
with_loaded i loaded m = record m { loaded = slice_set m.loaded i loaded }

-- ---- expunging

-- library i is absent
abbrev pub expunged : ℕ → Libraries → Libraries
expunged i m = with_loaded i None m

-- the memory without the block of library i
abbrev pub memory_without : ℕ → Libraries → Memory → Memory
memory_without i m memory = without_block (base_of i m) memory

-- ---- closing

-- a library is to be open to be closed (project rule)
abbrev pub close_fault : ℕ → Libraries → Option LibFault
close_fault i m = if nat_eq (count_of i m) 0 then Some NotOpen else None

-- library i is open once, and is to be expunged when it is closed
abbrev pub leaves_by_close : ℕ → Libraries → Bool
leaves_by_close i m = nat_eq (count_of i m) 1 && is_delayed i m

-- library i is open once less
abbrev pub once_less : ℕ → Libraries → Libraries
once_less i m =
    with_loaded i (Some (record { base = base_of i m; count = count_of i m - 1; delayed_expunge = is_delayed i m })) m

abbrev pub closed : ℕ → Libraries → Libraries
closed i m = if leaves_by_close i m then expunged i m else once_less i m

abbrev pub memory_after_close : ℕ → Libraries → Memory → Memory
memory_after_close i m memory = if leaves_by_close i m then memory_without i m memory else memory

-- ---- removing

-- library i is not open
abbrev pub leaves_by_removal : ℕ → Libraries → Bool
leaves_by_removal i m = nat_eq (count_of i m) 0

-- library i is to be expunged when it is closed for the last time
abbrev pub marked : ℕ → Libraries → Libraries
marked i m = with_loaded i (Some (record { base = base_of i m; count = count_of i m; delayed_expunge = true })) m

abbrev pub removed : ℕ → Libraries → Libraries
removed i m = if leaves_by_removal i m then expunged i m else marked i m

abbrev pub memory_after_removal : ℕ → Libraries → Memory → Memory
memory_after_removal i m memory = if leaves_by_removal i m then memory_without i m memory else memory

-- ---- asking

-- a block of that many bytes fits
abbrev pub fits : (size reqs : ℕ) → Memory → Bool
fits size reqs memory = is_some (fit memory.regions memory.blocks size reqs)

-- library i is asked for memory: if it is loaded, it does as if it were removed: it is expunged if it is not open, and
-- else is marked, to be expunged when it is closed for the last time
abbrev pub gives_way : ℕ → Lent → Lent
gives_way i l =
    if is_loaded i l.libraries then record { libraries = removed i l.libraries; memory = memory_after_removal i l.libraries l.memory } else l

-- library i is asked for memory, unless a block of that many bytes fits already
abbrev pub asked_one : (size reqs i : ℕ) → Lent → Lent
asked_one size reqs i l = if fits size reqs l.memory then l else gives_way i l

-- libraries are asked one after another, as long as the block fits nowhere
abbrev pub asked_each : (size reqs : ℕ) → List ℕ → Lent → Lent
asked_each size reqs [] l = l
asked_each size reqs (i ∷ others) l = asked_each size reqs others (asked_one size reqs i l)

-- Before a block of that many bytes is taken, if it fits nowhere, all libraries are asked in the order of the file. A
-- block of no bytes is never taken, and nothing is asked for it (project rule).
unfoldable pub after_asking : (size reqs : ℕ) → Lent → Lent
after_asking size reqs l =
    if l.libraries.asks && not (nat_eq size 0) then asked_each size reqs (numbers (length l.libraries.known)) l else l

-- ---- opening

-- 65535: how often a library may be open at one time (project rule: lib_OpenCnt is a word of 16 bits)
abbrev pub most_openings : ℕ
most_openings = 65535

-- library i has at least that version, and may be opened once more
abbrev pub can_open : (version i : ℕ) → Libraries → Bool
can_open version i m = nat_le version (library_at i m).version && not (nat_eq (count_of i m) most_openings)

-- a number, if it passes a test; else none
abbrev pub only_if : (ℕ → Bool) → ℕ → Option ℕ
only_if test i = if test i then Some i else None

-- the library that an opening is of, if there is one of the name and it can be opened
abbrev pub library_to_open : List ℕ → ℕ → Libraries → Option ℕ
library_to_open name version m = option_and_then (only_if (λ i. can_open version i m)) (number_of name m)

-- where a library lies, or where it is going to be loaded, if a gap is large enough
abbrev pub base_or_fit : Option Loaded → ℕ → Memory → Option ℕ
base_or_fit None size memory = fit memory.regions memory.blocks size public_memory
base_or_fit (Some l) size memory = Some l.base

abbrev pub base_for : ℕ → Libraries → Memory → Option ℕ
base_for i m memory = base_or_fit (loaded_at i m) (library_at i m).size memory

-- libraries and memory before library i is opened: if it is to be loaded, the others are asked for memory
abbrev pub ready_to_load : ℕ → Lent → Lent
ready_to_load i l = if is_loaded i l.libraries then l else after_asking (library_at i l.libraries).size public_memory l

-- libraries and memory before an opening of a library, or of none
unfoldable pub ready_to_open : Option ℕ → Lent → Lent
ready_to_open None l = l
ready_to_open (Some i) l = ready_to_load i l

-- the answer of an opening of that library
abbrev pub opened_base : Option ℕ → Libraries → Memory → Option ℕ
opened_base library m memory = option_and_then (λ i. base_for i m memory) library

-- a library at that address is open once more, and is not to be expunged any more
abbrev pub entered : ℕ → Option Loaded → Loaded
entered base before =
    record { base = base; count = option_map_or (λ (l : Loaded). l.count) before 0 + 1; delayed_expunge = false }

-- the libraries after an opening of one that gave a base, or gave none
abbrev pub opened : (library base : Option ℕ) → Libraries → Libraries
opened (Some i) (Some base) m = with_loaded i (Some (entered base (loaded_at i m))) m
opened _ _ m = m

-- the memory in which library i was loaded at a base, if it was not loaded before
abbrev pub loads : ℕ → Option ℕ → Libraries → Memory → Memory
loads i base m memory = if is_loaded i m then memory else allocated (library_at i m).size (library_tag i) base memory

-- the memory after an opening of a library that gave a base, or gave none
abbrev pub memory_for : (library base : Option ℕ) → Libraries → Memory → Memory
memory_for None base m memory = memory
memory_for (Some i) base m memory = loads i base m memory

-- ---- what the code keeps

abbrev pub description_of : LibInit → Description
description_of library = record { name = library.name.bytes; version = library.version; size = library.size }

-- all libraries, none of which is loaded, and whether they are asked for memory
abbrev pub no_library_loaded : List Description → Bool → Libraries
no_library_loaded known asks = record { known = known; loaded = replicate (length known) None; asks = asks }

-- the tag of the block that begins at an address, if one does
abbrev pub tag_at : ℕ → Blocks → Option ℕ
tag_at address blocks = option_map (λ (block : ℕ × ℕ). block.1) (block_at address blocks)

-- each loaded library lies in the memory, in a block with its tag
pub record LieIn (m : Libraries) (memory : Memory) : Type 0 where
  pub each : (i base : ℕ) → base_at i m ≡ Some base → tag_at base memory.blocks ≡ Some (library_tag i)

-- the key of the node that has a library's name
abbrev pub key_of : Description → KeyData
key_of library = record { pri = pos 0; name = Some library.name }

-- the nodes of all libraries are in one header, in the order of the libraries and with their names
pub record IsKept (sequences : List (List ℕ)) (keys : List KeyData) (m : Libraries) : Type 0 where
  pub listed : sequences ≡ numbers (length m.known) ∷ []
  pub named : keys ≡ map key_of m.known
  pub few : length m.known ≤ 32
  pub each : length m.loaded ≡ length m.known
