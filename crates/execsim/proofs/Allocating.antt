-- How the machine follows the words of memory.
use Rattle.std.proofs.Common.{◌≡◌, ℕ, true, false, Option, None, Some, refl, sym, ◌∙◌, codes, unwrap_or}
use Rattle.memlist.specs.Fit.{avail}
use Rattle.script.specs.declared.word.memory.MemoryWord.TheVariants as words
use Rattle.execmodel.specs.Memory.{has_only, alloc_bits, can_be_asked, allocates_block, block_at, extents, is_named, place_for, placed, freed, alloc_alert, does_memory, memory_deed}
use Rattle.execmodel.specs.{State.Call, State.Memory, State.Object, State.Plain, State.State, State.Outcome, State.on_memory, Calls.argument, Calls.done, Calls.answered, Calls.alerted, Deeds.performs, LowMemory.after_asking}
use Rattle.execmodel.proofs.{Deeds.allotting, LowMemory.asking_keeps}
use Rattle.execsim.specs.Agreement.{Seen, Follows, queues_in_order}
use Rattle.execsim.proofs.{LowMemory.asking-in_order, Following.reads_memory, Following.moves_memory, Following.follows_as, Following.follows_change}
use Rattle.exectrace.specs.Hearing.{Hearing}
use Rattle.script.specs.declared.alert.Alert.TheVariants as an_alert

pub placed-in_order : (size : ℕ) (object : Object) (place : Option ℕ) (y : Memory)
    → placed size object place (queues_in_order y) ≡ queues_in_order (placed size object place y)
placed-in_order size object None y = refl
placed-in_order size object (Some address) y = refl

-- a plain block is taken where it fits
abbrev takes_block : ℕ → Call → (size reqs : ℕ) → State → Outcome
takes_block t call size reqs s = allocates_block t call size Plain (place_for size reqs s.memory) s

module _ {H : Hearing} {m n : Seen} {a b : H.Told} (t : ℕ) (call : Call) where
  pub alloc_refused : has_only alloc_bits (argument 1 call) ≡ false → Follows H (alerted an_alert.Value t call) m n a b → Follows H (does_memory words.AllocMem t call) m n a b
  unfolding performs memory_deed
  alloc_refused refused follows = follows_as (λ s e. rw refused refl) follows

  -- a plain block is taken if it fits
  block_taken : {o : Seen} (size reqs : ℕ) (place : Option ℕ) → place ≡ place_for size reqs m.memory
      → n ≡ record m { memory = placed size Plain place m.memory }
      → Follows H (answered t call (unwrap_or place 0)) n o a b → Follows H (takes_block t call size reqs) m o a b
  block_taken size reqs place fits is follows = follows_as
      {g = allocates_block t call size Plain place}
      (λ s e.
      let same : place_for size reqs s.memory ≡ place = reads_memory (place_for size reqs) (λ y. refl) (sym fits) s e in
      rw same refl)
      (follows_change (moves_memory (placed size Plain place) (placed size Plain place) (placed-in_order size Plain place) is) follows)

module _ {H : Hearing} {m n o : Seen} {a b : H.Told} (t : ℕ) (call : Call) where
  -- libraries are asked for memory, and then the block is taken
  pub alloc_tried : (place : Option ℕ) → has_only alloc_bits (argument 1 call) ≡ true
      → place ≡ place_for (argument 0 call) (argument 1 call) (after_asking (argument 0 call) (argument 1 call) m.memory)
      → n ≡ record m { memory = placed (argument 0 call) Plain place (after_asking (argument 0 call) (argument 1 call) m.memory) }
      → Follows H (answered t call (unwrap_or place 0)) n o a b → Follows H (does_memory words.AllocMem t call) m o a b
  unfolding memory_deed
  alloc_tried place allowed fits is follows =
      let size = argument 0 call in
      let reqs = argument 1 call in
      follows_as {g = λ s. takes_block t call size reqs (on_memory (after_asking size reqs) s)}
      (λ s e.
      allotting (alloc_alert reqs) (after_asking size reqs) (place_for size reqs) size Plain t call s (asking_keeps size reqs s.memory)
      ∙ rw allowed refl)
      (follows_change (moves_memory {m = m} (after_asking size reqs) (after_asking size reqs) (asking-in_order size reqs) refl)
      (block_taken t call size reqs place fits is follows))

module _ {H : Hearing} {m n : Seen} {a b : H.Told} (t : ℕ) (call : Call) where
  pub free_refused : is_named (argument 1 call) (block_at (argument 0 call) m.memory.heap) ≡ false
      → Follows H (alerted an_alert.Mem t call) m n a b → Follows H (does_memory words.FreeMem t call) m n a b
  unfolding performs memory_deed
  free_refused refused follows = follows_as
      (λ s e.
      let same : is_named (argument 1 call) (block_at (argument 0 call) s.memory.heap) ≡ false =
      reads_memory (λ memory. is_named (argument 1 call) (block_at (argument 0 call) memory.heap)) (λ y. refl) refused s e in
      rw same refl) follows

  pub free_done : {o : Seen} → is_named (argument 1 call) (block_at (argument 0 call) m.memory.heap) ≡ true
      → n ≡ record m { memory = freed (argument 0 call) m.memory }
      → Follows H (done t call) n o a b → Follows H (does_memory words.FreeMem t call) m o a b
  unfolding performs memory_deed
  free_done named is follows = follows_as
      {g = λ s. done t call (on_memory (freed (argument 0 call)) s)}
      (λ s e.
      let same : is_named (argument 1 call) (block_at (argument 0 call) s.memory.heap) ≡ true =
      reads_memory (λ memory. is_named (argument 1 call) (block_at (argument 0 call) memory.heap)) (λ y. refl) named s e in
      rw same refl)
      (follows_change (moves_memory (freed (argument 0 call)) (freed (argument 0 call)) (λ y. refl) is) follows)

  pub avail_refused : can_be_asked (argument 0 call) ≡ false
      → Follows H (alerted an_alert.Value t call) m n a b → Follows H (does_memory words.AvailMem t call) m n a b
  unfolding performs memory_deed
  avail_refused refused follows = follows_as (λ s e. rw refused refl) follows

  pub avail_answered : (answer : ℕ) → can_be_asked (argument 0 call) ≡ true
      → answer ≡ avail m.memory.regions (extents m.memory.heap) (argument 0 call)
      → Follows H (answered t call answer) m n a b → Follows H (does_memory words.AvailMem t call) m n a b
  unfolding performs memory_deed
  avail_answered answer allowed is follows = follows_as
      {g = answered t call answer}
      (λ s e.
      let same : avail s.memory.regions (extents s.memory.heap) (argument 0 call) ≡ answer =
      reads_memory (λ memory. avail memory.regions (extents memory.heap) (argument 0 call)) (λ y. refl) (sym is) s e in
      rw (allowed, same) refl) follows
