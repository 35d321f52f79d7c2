-- Asking libraries for memory changes the blocks alone.
use Rattle.std.proofs.Common.{◌≡◌, ℕ, Bool, true, false, List, [], ◌∷◌, Option, None, Some, refl, ◌∙◌, not, ◌&&◌, if◌then◌else◌, nat_eq, is_some, length}
use Rattle.std.specs.List.{range_with_len}
use Rattle.execmodel.specs.{Blocks.Object, Blocks.Memory, Places.place_for, Objects.is_allowed, Loaded.base_of, Loaded.count_of, Loaded.after_expunge, LowMemory.gives_way_at, LowMemory.gives_way, LowMemory.asked_one, LowMemory.asked_each, LowMemory.after_asking, LowMemory.after_asking_for_object, Ports.is_port, Ports.port_size, Ports.after_asking_for_port, Libraries.library_at, Libraries.ready_to_load, Libraries.ready_to_open, Keeping.without_blocks}
use Rattle.execlib.specs.Libraries.{public_memory}

-- the blocks change alone, whichever of two things is done
pub either_memory : (test : Bool) (m n memory : Memory) → without_blocks m ≡ without_blocks memory → without_blocks n ≡ without_blocks memory
    → without_blocks (if test then m else n) ≡ without_blocks memory
either_memory true m n memory first second = first
either_memory false m n memory first second = second

pub removed_keeps : (base : ℕ) (memory : Memory) → without_blocks (after_expunge base memory) ≡ without_blocks memory
unfolding after_expunge
removed_keeps base memory = either_memory (nat_eq (count_of base memory.heap) 0) _ _ memory refl refl

given_way_keeps : (found : Option ℕ) (memory : Memory) → without_blocks (gives_way_at found memory) ≡ without_blocks memory
given_way_keeps None memory = refl
given_way_keeps (Some base) memory = removed_keeps base memory

gives_way_keeps : (i : ℕ) (memory : Memory) → without_blocks (gives_way i memory) ≡ without_blocks memory
unfolding gives_way
gives_way_keeps i memory = given_way_keeps (base_of i memory.heap) memory

one_keeps : (size reqs i : ℕ) (memory : Memory) → without_blocks (asked_one size reqs i memory) ≡ without_blocks memory
one_keeps size reqs i memory = either_memory (is_some (place_for size reqs memory)) _ _ memory refl (gives_way_keeps i memory)

each_keeps : (size reqs : ℕ) (list : List ℕ) (memory : Memory) → without_blocks (asked_each size reqs list memory) ≡ without_blocks memory
each_keeps size reqs [] memory = refl
each_keeps size reqs (i ∷ others) memory =
    each_keeps size reqs others (asked_one size reqs i memory) ∙ one_keeps size reqs i memory

pub asking_keeps : (size reqs : ℕ) (memory : Memory) → without_blocks (after_asking size reqs memory) ≡ without_blocks memory
unfolding after_asking
asking_keeps size reqs memory =
    either_memory (memory.asks && not (nat_eq size 0)) _ _ memory
    (each_keeps size reqs (range_with_len 0 (length memory.libraries)) memory) refl

pub asking_for_object_keeps : (kind : Object → Bool) (size : ℕ) (memory : Memory)
    → without_blocks (after_asking_for_object kind size memory) ≡ without_blocks memory
unfolding after_asking_for_object
asking_for_object_keeps kind size memory =
    either_memory (is_allowed kind memory) _ _ memory (asking_keeps size public_memory memory) refl

pub asking_for_port_keeps : (bit : Option ℕ) (memory : Memory) → without_blocks (after_asking_for_port bit memory) ≡ without_blocks memory
asking_for_port_keeps None memory = refl
asking_for_port_keeps (Some bit) memory = asking_for_object_keeps is_port port_size memory

ready_to_load_keeps : (found : Option ℕ) (i : ℕ) (memory : Memory) → without_blocks (ready_to_load found i memory) ≡ without_blocks memory
ready_to_load_keeps None i memory = asking_keeps (library_at i memory).size public_memory memory
ready_to_load_keeps (Some base) i memory = refl

pub ready_keeps : (found : Option ℕ) (memory : Memory) → without_blocks (ready_to_open found memory) ≡ without_blocks memory
unfolding ready_to_open
ready_keeps None memory = refl
ready_keeps (Some i) memory = ready_to_load_keeps (base_of i memory.heap) i memory
