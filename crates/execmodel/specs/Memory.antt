-- Memory (RKM Libraries, Exec Memory Allocation): blocks that AllocMem allocates and FreeMem frees.
use Rattle.std.specs.Prelude.{ℕ, Bool, true, false, not, ◌&&◌, if◌then◌else◌, nat_eq, nat_lt, bit_and, codes, List, Option, None, Some, unwrap_or}
use Rattle.memlist.specs.Fit.{avail, asks, round}
use Rattle.script.specs.declared.word.memory.MemoryWord.{MemoryWord}
use Rattle.script.specs.declared.word.memory.MemoryWord.TheVariants as word
use Rattle.execmodel.specs.{State.Call, State.Object, State.Plain, State.Block, State.Heap, State.State, State.Outcome, State.on_memory, Calls.argument, Calls.answered, Deeds.Deed, Deeds.performs, Deeds.allots, Deeds.frees_block, Objects.place_for_object, LowMemory.after_asking}
pub use Rattle.execmodel.specs.Places.{block_at, extents, place_for, placed, freed}
use Rattle.script.specs.declared.alert.Alert.TheVariants as an_alert
use Rattle.script.specs.declared.alert.Alert.{Alert}

-- ---- AllocMem

-- requirements have no bits other than these
abbrev pub has_only : ℕ → ℕ → Bool
has_only bits reqs = nat_eq (bit_and reqs bits) reqs

-- the bits that AllocMem knows: MEMF_PUBLIC, MEMF_CHIP, MEMF_FAST and MEMF_CLEAR
abbrev pub alloc_bits : ℕ
alloc_bits = 0x10007

-- a call that allocates a block returns its address, or 0 if there is no place for it
abbrev pub allocates_block : ℕ → Call → ℕ → Object → Option ℕ → State → Outcome
allocates_block t call size object place s = answered t call (unwrap_or place 0) (on_memory (placed size object place) s)

-- a call makes an object of a kind, which takes that many bytes, and returns its address, or 0 if the pool does not
-- allow one more or there is no place for it
abbrev pub makes_object : ℕ → Call → (Object → Bool) → ℕ → Object → State → Outcome
makes_object t call kind size object s = allocates_block t call size object (place_for_object kind size s.memory) s

-- the alert of AllocMem: VALUE if the requirements have a bit that it does not know
abbrev pub alloc_alert : ℕ → Option Alert
alloc_alert reqs = if not (has_only alloc_bits reqs) then Some an_alert.Value else None

-- ---- FreeMem

-- the object is a plain block, as AllocMem gives it
abbrev pub is_plain : Object → Bool
is_plain Plain = true
is_plain _ = false

-- there is a plain block, and the size fits it: it is not 0, and rounded up it is the block's size
abbrev pub is_named : ℕ → Option Block → Bool
is_named size None = false
is_named size (Some block) = is_plain block.object && nat_lt 0 size && nat_eq (round size) block.size

-- the alert of FreeMem: MEM if no plain block begins at the address, or the size does not fit it
abbrev pub free_alert : ℕ → ℕ → Heap → Option Alert
free_alert address size heap = if not (is_named size (block_at address heap)) then Some an_alert.Mem else None

-- ---- AvailMem

-- the bits that AvailMem knows: those of AllocMem, MEMF_LARGEST and MEMF_TOTAL
abbrev pub avail_bits : ℕ
avail_bits = 0xb0007

-- AvailMem may be called with these requirements: it knows all their bits, and MEMF_LARGEST and MEMF_TOTAL are not both
-- set
abbrev pub can_be_asked : ℕ → Bool
can_be_asked reqs = has_only avail_bits reqs && not (asks 17 reqs && asks 19 reqs)

-- the alert of AvailMem: VALUE if it may not be called with these requirements
abbrev pub avail_alert : ℕ → Option Alert
avail_alert reqs = if not (can_be_asked reqs) then Some an_alert.Value else None

-- ---- the words of this group

-- what a call on memory does: the alert that refuses it, how it changes the blocks, and what it returns
unfoldable pub memory_deed : MemoryWord → Call → Deed
-- AllocMem size reqs: returns the address of a new plain block, or 0 if there is no place for it or the size is 0. It
-- is placed in a suitable region with room for it, the earliest of highest priority, at the front of the lowest gap
-- that is large enough. If no region has room, libraries are first asked for memory, in version 2 of the rules (autodoc
-- exec.library/AllocMem; size 0, the order of asking, and the alert: project rule).
memory_deed word.AllocMem call =
    let size = argument 0 call in
    let reqs = argument 1 call in
    allots (alloc_alert reqs) (after_asking size reqs) (place_for size reqs) size Plain
-- FreeMem addr size: the plain block is freed that begins at the address, and is of that size rounded up (autodoc
-- exec.library/FreeMem; the alert: project rule)
memory_deed word.FreeMem call = frees_block (free_alert (argument 0 call) (argument 1 call)) (argument 0 call)
-- AvailMem reqs: returns how many bytes are free in the suitable regions, or with MEMF_LARGEST the size of their
-- largest gap, or with MEMF_TOTAL their whole size (autodoc exec.library/AvailMem; the alert: project rule)
memory_deed word.AvailMem call = record {
  alert = λ memory. avail_alert (argument 0 call);
  heap = λ memory. memory.heap;
  answer = λ memory. Some (avail memory.regions (extents memory.heap) (argument 0 call));
}

-- a call of task t on memory, by its word
abbrev pub does_memory : MemoryWord → ℕ → Call → State → Outcome
does_memory word t call s = performs (memory_deed word call) t call s
