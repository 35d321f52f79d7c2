-- Facts about every call that is a value of what refuses it, what it makes of the blocks, and what it answers.
use Rattle.std.proofs.Common.{◌≡◌, ℕ, Bool, Option, None, Some, refl, sym, ap, ◌∙◌, List, unwrap_or}
use Rattle.execmodel.specs.{State.Call, State.Object, State.Memory, State.State, State.Outcome, State.on_memory, Calls.answered, Calls.unless, Deeds.allots, Deeds.makes, Deeds.performs, LowMemory.after_asking_for_object, Keeping.without_blocks, Memory.allocates_block, Memory.makes_object, Objects.place_for_object, Places.placed}
use Rattle.execmodel.proofs.LowMemory.{asking_for_object_keeps}
use Rattle.script.specs.declared.alert.Alert.{Alert}

-- a memory that differs in its blocks alone
all_but_blocks : (m n : Memory) → without_blocks n ≡ without_blocks m → n ≡ record m { heap = n.heap }
all_but_blocks m n same = ap (λ (x : Memory). record x { heap = n.heap }) same

pub placed_same : (size : ℕ) (object : Object) (place : Option ℕ) (m : Memory) → without_blocks (placed size object place m) ≡ without_blocks m
placed_same size object None m = refl
placed_same size object (Some address) m = refl

unless_same : (alert : Option Alert) (t : ℕ) (call : Call) (f g : State → Outcome) (s : State) → f s ≡ g s
    → unless alert t call f s ≡ unless alert t call g s
unless_same None t call f g s e = e
unless_same (Some code) t call f g s e = refl

-- to take memory for an object is such a value: it is taken after libraries were asked for memory, which changes the
-- blocks alone
pub allotting : (alert : Option Alert) (asked : Memory → Memory) (place : Memory → Option ℕ) (size : ℕ) (object : Object) (t : ℕ) (call : Call) (s : State)
    → without_blocks (asked s.memory) ≡ without_blocks s.memory
    → performs (allots alert asked place size object) t call s
    ≡ unless alert t call (λ s. allocates_block t call size object (place (asked s.memory)) (on_memory asked s)) s
unfolding performs
allotting alert asked place size object t call s keeps =
    let found = place (asked s.memory) in
    unless_same alert t call _ _ s
    (sym (ap (λ (m : Memory). answered t call (unwrap_or found 0) (record s { memory = m }))
    (all_but_blocks s.memory (placed size object found (asked s.memory)) (placed_same size object found (asked s.memory) ∙ keeps))))

pub making : (alert : Option Alert) (kind : Object → Bool) (size : ℕ) (object : Object) (t : ℕ) (call : Call) (s : State)
    → performs (makes alert kind size object) t call s
    ≡ unless alert t call (λ s. makes_object t call kind size object (on_memory (after_asking_for_object kind size) s)) s
making alert kind size object t call s =
    allotting alert (after_asking_for_object kind size) (place_for_object kind size) size object t call s (asking_for_object_keeps kind size s.memory)
