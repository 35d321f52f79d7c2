-- Libraries are asked in version 2 of the rules alone; where they are not, what asks them changes nothing.
use Rattle.std.proofs.Common.{◌≡◌, ℕ, Bool, true, false, List, [], ◌∷◌, Option, None, Some, refl, sym, ap, ◌∙◌, not, ◌&&◌, if◌then◌else◌, nat_eq, is_some, length}
use Rattle.std.specs.List.{range_with_len}
use Rattle.execlist.specs.Disciplines.{by_arrival}
use Rattle.script.specs.{declared.word.Word.Word, File.MachineData}
use Rattle.execmodel.specs.{State.Call, State.Object, State.Memory, State.State, State.andthen, State.on_schedule, State.booted, Objects.is_allowed, Loaded.base_of, LowMemory.asked_each, LowMemory.after_asking, LowMemory.after_asking_for_object, Memory.place_for, Ports.is_port, Ports.port_size, Ports.after_asking_for_port, Libraries.library_at, Libraries.ready_to_load, Libraries.ready_to_open, Step.ends, Step.switches, Step.starts, Step.run, Laws.LibrariesAreAskedInVersionTwo, Laws.UnaskedMemoryStays, Laws.AskingChangesTheBlocks}
use Rattle.scheduler.specs.Dispatch.{rescheduled}
use Rattle.execlib.specs.Libraries.{public_memory}
use Rattle.execmodel.proofs.{Heaps.true_is_not_false, WithoutFinishing.word_itself, WithoutFinishing.word_keeps, Stretches.Relation, Stretches.HoldsOfEach, Stretches.of_events, Stretches.of_starts, Commands.settings_of, LinesOf.body_alters, Asking.finishing, LowMemory.asking_keeps, LowMemory.asking_for_object_keeps, LowMemory.ready_keeps, NoStraysLaw.quietly, NoStraysLaw.switches_quiet}

-- ---- nothing is asked

-- if libraries are not asked, or if a test fails, the memory is as it was
unasked_if : (asks other : Bool) (m memory : Memory) → asks ≡ false → (if asks && other then m else memory) ≡ memory
unasked_if false other m memory e = refl
unasked_if true other m memory e = true_is_not_false e

same_if : (test : Bool) (m memory : Memory) → m ≡ memory → (if test then m else memory) ≡ memory
same_if true m memory e = e
same_if false m memory e = refl

pub not_asked : (size reqs : ℕ) (memory : Memory) → memory.asks ≡ false → after_asking size reqs memory ≡ memory
unfolding after_asking
not_asked size reqs memory e = unasked_if memory.asks (not (nat_eq size 0)) _ memory e

pub not_asked_for_object : (kind : Object → Bool) (size : ℕ) (memory : Memory) → memory.asks ≡ false
    → after_asking_for_object kind size memory ≡ memory
unfolding after_asking_for_object
not_asked_for_object kind size memory e = same_if (is_allowed kind memory) _ memory (not_asked size public_memory memory e)

pub not_asked_for_port : (bit : Option ℕ) (memory : Memory) → memory.asks ≡ false → after_asking_for_port bit memory ≡ memory
not_asked_for_port None memory e = refl
not_asked_for_port (Some bit) memory e = not_asked_for_object is_port port_size memory e

not_asked_to_load : (found : Option ℕ) (i : ℕ) (memory : Memory) → memory.asks ≡ false → ready_to_load found i memory ≡ memory
not_asked_to_load None i memory e = not_asked (library_at i memory).size public_memory memory e
not_asked_to_load (Some base) i memory e = refl

pub not_asked_to_open : (found : Option ℕ) (memory : Memory) → memory.asks ≡ false → ready_to_open found memory ≡ memory
unfolding ready_to_open
not_asked_to_open None memory e = refl
not_asked_to_open (Some i) memory e = not_asked_to_load (base_of i memory.heap) i memory e

-- if a block has a place, no library is asked
one_fits : (test : Bool) (m memory : Memory) → test ≡ true → (if test then memory else m) ≡ memory
one_fits true m memory e = refl
one_fits false m memory e = true_is_not_false (sym e)

each_fits : (size reqs : ℕ) (list : List ℕ) (memory : Memory) → is_some (place_for size reqs memory) ≡ true
    → asked_each size reqs list memory ≡ memory
each_fits size reqs [] memory e = refl
each_fits size reqs (i ∷ others) memory e =
    ap (asked_each size reqs others) (one_fits (is_some (place_for size reqs memory)) _ memory e) ∙ each_fits size reqs others memory e

fits_unasked : (size reqs : ℕ) (memory : Memory) → is_some (place_for size reqs memory) ≡ true → after_asking size reqs memory ≡ memory
unfolding after_asking
fits_unasked size reqs memory e =
    same_if (memory.asks && not (nat_eq size 0)) _ memory (each_fits size reqs (range_with_len 0 (length memory.libraries)) memory e)

pub asking_changes_the_blocks : AskingChangesTheBlocks
asking_changes_the_blocks = record {
  for_a_block = asking_keeps;
  for_an_object = asking_for_object_keeps;
  for_a_library = ready_keeps;
  where_it_fits = fits_unasked;
}

pub unasked_memory_stays : UnaskedMemoryStays
unasked_memory_stays =
    record { for_a_block = not_asked; for_an_object = not_asked_for_object; for_a_port = not_asked_for_port; for_a_library = not_asked_to_open }

-- ---- whole runs

-- whether libraries are asked, and how many tasks there are, stays
abbrev Version : Relation
Version old marks new = settings_of new.memory ≡ settings_of old.memory

-- the first of the two
abbrev asked : Bool × ℕ → Bool
asked p = p.0

pub word_settings : (word : Word) (t : ℕ) (call : Call) (s : State) → settings_of (word_itself word t call s).state.memory ≡ settings_of s.memory
word_settings word t call s = ap (λ (x : State). settings_of x.memory) (word_keeps word t call s)

versions : HoldsOfEach Version
unfolding ends
versions = record {
  interrupting = record {
    nothing = λ s. refl;
    joined = λ s some r more q first next. next ∙ first;
    commanding = λ name command s. (body_alters name command s).settings;
    pending = λ f s. refl;
    finishing = λ request s waits. (finishing request s waits).settings;
    looking = λ s. refl;
    ticking = λ s. refl;
    switching = λ s. quietly Version s (switches s) (on_schedule (rescheduled by_arrival) s) (switches_quiet s) refl;
  };
  adding = λ t s less. refl;
  calling = λ t call s runs is. word_settings call.word t call s;
  ending = λ t s runs. refl;
}

booted_asks : (machine : MachineData) → (booted machine).memory.asks ≡ nat_eq machine.version 2
unfolding booted
booted_asks machine = refl

started_asks : (machine : MachineData) → (starts (booted machine)).state.memory.asks ≡ nat_eq machine.version 2
started_asks machine = ap asked (of_starts Version versions (booted machine)) ∙ booted_asks machine

pub libraries_are_asked_in_version_two : LibrariesAreAskedInVersionTwo
unfolding run andthen
libraries_are_asked_in_version_two machine list is =
    ap asked (of_events Version versions (λ s. refl) list (starts (booted machine)).state) ∙ started_asks machine
