-- A call as a value: the alert that refuses it, how it changes the blocks of memory, and what it returns. It changes
-- nothing else, except that its caller goes on. Each call on lists is such a value, and each call on memory.
use Rattle.std.specs.Prelude.{ℕ, Bool, List, Option, None, Some, unwrap_or}
use Rattle.execmodel.specs.{State.Call, State.Object, State.Heap, State.Memory, State.State, State.Outcome, State.on_memory, Calls.done, Calls.answered, Calls.unless, Places.placed, Places.freed, Objects.place_for_object, LowMemory.after_asking_for_object}
use Rattle.script.specs.declared.alert.Alert.{Alert}

-- what a call does, as functions of the memory before it: the alert that refuses it, if one does; the blocks after it;
-- and the value that it returns, if it returns one
pub record Deed : Type 0 where
  pub alert : Memory → Option Alert
  pub heap : Memory → Heap
  pub answer : Memory → Option ℕ

-- a call is done, and returns a value or nothing
abbrev pub concluded : Option ℕ → ℕ → Call → State → Outcome
concluded None t call s = done t call s
concluded (Some value) t call s = answered t call value s

-- A call of task t is what its deed says: it is refused by the alert, or else it changes the blocks, and returns the
-- value. All three are made from the memory before the call.
unfoldable pub performs : Deed → ℕ → Call → State → Outcome
performs deed t call s =
    unless (deed.alert s.memory) t call
    (λ s. concluded (deed.answer s.memory) t call (on_memory (λ memory. record memory { heap = deed.heap memory }) s)) s

-- ---- the forms that most words have

-- the blocks change, and nothing is returned
abbrev pub changes : (Heap → Option Alert) → (Heap → Heap) → Deed
changes alert next = record { alert = λ memory. alert memory.heap; heap = λ memory. next memory.heap; answer = λ memory. None }

-- a value of the blocks before the call is returned, and the blocks change
abbrev pub answers_and_changes : (Heap → Option Alert) → (Heap → ℕ) → (Heap → Heap) → Deed
answers_and_changes alert value next =
    record { alert = λ memory. alert memory.heap; heap = λ memory. next memory.heap; answer = λ memory. Some (value memory.heap) }

-- a value of the blocks is returned, and they stay as they are
abbrev pub reads : (Heap → Option Alert) → (Heap → ℕ) → Deed
reads alert value = answers_and_changes alert value (λ heap. heap)

-- the block that begins at an address is freed, and nothing is returned
abbrev pub frees_block : (Heap → Option Alert) → ℕ → Deed
frees_block alert address =
    record { alert = λ memory. alert memory.heap; heap = λ memory. (freed address memory).heap; answer = λ memory. None }

-- Libraries are asked for memory, and then an object gets a block of that many bytes, if there is a place for it. The
-- block's address is returned, or 0 if there is no place.
abbrev pub allots : Option Alert → (asked : Memory → Memory) → (place : Memory → Option ℕ) → ℕ → Object → Deed
allots alert asked place size object = record {
  alert = λ memory. alert;
  heap = λ memory. (placed size object (place (asked memory)) (asked memory)).heap;
  answer = λ memory. Some (unwrap_or (place (asked memory)) 0);
}

-- an object of a kind is made, which takes that many bytes, and its address is returned, or 0 if the pool does not
-- allow one more or there is no place for it
abbrev pub makes : Option Alert → (Object → Bool) → ℕ → Object → Deed
makes alert kind size object = allots alert (after_asking_for_object kind size) (place_for_object kind size) size object
