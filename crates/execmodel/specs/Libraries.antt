-- Libraries (RKM Libraries, Exec Libraries). A library is absent, or it is loaded and begins at an address, its base. A
-- base at which no loaded library begins is the alert HANDLE; a library that is closed more often than it was opened is
-- the alert LIB (project rule).
use Rattle.std.specs.Prelude.{ℕ, ◌+◌, ◌-◌, Bool, false, not, ◌&&◌, if◌then◌else◌, nat_eq, nat_le, bytes_eq, unwrap_or, slice_index_or, codes, List, [], Option, None, Some, ⊤, option_and_then}
use Rattle.std.specs.{List.position_from, Option.option_map_or}
use Rattle.script.specs.{File.LibraryData, declared.word.libraries.LibraryWord.LibraryWord}
use Rattle.script.specs.declared.word.libraries.LibraryWord.TheVariants as word
use Rattle.execmodel.specs.{State.Call, State.Library, State.Heap, State.Memory, State.State, State.Outcome, State.on_memory, State.on_heap, Calls.argument, Calls.name_argument, Calls.done, Calls.answered, Calls.unless, Places.freed, Places.place_for, Places.placed, LowMemory.after_asking}
use Rattle.execlib.specs.Libraries.{public_memory, most_openings, only_if}
use Rattle.script.specs.declared.alert.Alert.TheVariants as an_alert
use Rattle.script.specs.declared.alert.Alert.{Alert}
unfoldable pub use Rattle.execmodel.specs.Loaded.{is_library, is_library_at, library_number, count_in, delayed_in, library_number_at, count_of, is_delayed, with_library, is_numbered, base_of, after_expunge}

-- ---- refusals

-- the alert of a call on a library: HANDLE if none begins there
unfoldable pub library_alert : ℕ → Heap → Option Alert
library_alert base heap = if not (is_library_at base heap) then Some an_alert.Handle else None

-- ---- opening

-- what is read as a library at a number that the file does not have
abbrev pub no_library : LibraryData
no_library = record { name = []; version = 0; size = 0 }

-- library i of the file, counted from 0
abbrev pub library_at : ℕ → Memory → LibraryData
library_at i memory = slice_index_or memory.libraries i no_library

-- the number of the library of a name, if the file has one (autodoc OpenLibrary)
abbrev pub library_named : List ℕ → Memory → Option ℕ
library_named name memory = position_from (λ (library : LibraryData). bytes_eq library.name name) 0 memory.libraries

-- how often library i is open, 0 if it is absent (autodoc OpenLibrary)
abbrev pub openings : ℕ → Memory → ℕ
openings i memory = option_map_or (λ base. count_of base memory.heap) (base_of i memory.heap) 0

-- library i has at least that version, and may be opened once more
abbrev pub can_open : ℕ → Memory → ℕ → Bool
can_open version memory i = nat_le version (library_at i memory).version && not (nat_eq (openings i memory) most_openings)

-- the library that OpenLibrary opens: that of the name, if its version is not too low and it may be opened once more
abbrev pub library_to_open : List ℕ → ℕ → Memory → Option ℕ
library_to_open name version memory = option_and_then (only_if (can_open version memory)) (library_named name memory)

-- the memory before library i is opened: if it has to be loaded, the others are asked for memory
abbrev pub ready_to_load : Option ℕ → ℕ → Memory → Memory
ready_to_load (Some base) i memory = memory
ready_to_load None i memory = after_asking (library_at i memory).size public_memory memory

-- the memory before a library is opened: the others were asked for memory if it has to be loaded; unchanged if there is
-- none to open
unfoldable pub ready_to_open : Option ℕ → Memory → Memory
ready_to_open None memory = memory
ready_to_open (Some i) memory = ready_to_load (base_of i memory.heap) i memory

-- the base of library i if it is loaded, and else the address where it is loaded, in a block with MEMF_PUBLIC, if there
-- is one
abbrev pub base_or_place : Option ℕ → ℕ → Memory → Option ℕ
base_or_place (Some base) i memory = Some base
base_or_place None i memory = place_for (library_at i memory).size public_memory memory

-- the base of a library that is opened, where it is loaded if it is absent; none if there is none to open or no place
-- for it
abbrev pub base_opened : Option ℕ → Memory → Option ℕ
base_opened None memory = None
base_opened (Some i) memory = base_or_place (base_of i memory.heap) i memory

-- the base that OpenLibrary returns, or none (autodoc OpenLibrary)
unfoldable pub opening : List ℕ → ℕ → Memory → Option ℕ
opening name version memory =
    let found = library_to_open name version memory in
    base_opened found (ready_to_open found memory)

-- a loaded library is open once more, and is no longer to be expunged; an absent one is loaded and open once, if there
-- is a place for it
abbrev pub entered_or_loaded : Option ℕ → ℕ → Memory → Memory
entered_or_loaded (Some base) i memory = on_heap (λ heap. with_library base (count_of base heap + 1) false heap) memory
entered_or_loaded None i memory =
    placed (library_at i memory).size (Library i 1 false) (place_for (library_at i memory).size public_memory memory) memory

-- the memory after the library to open, if there is one, is open once more
abbrev pub library_opened : Option ℕ → Memory → Memory
library_opened None memory = memory
library_opened (Some i) memory = entered_or_loaded (base_of i memory.heap) i memory

-- The memory after OpenLibrary: the other libraries were asked for memory if the library had to be loaded, and it is
-- open once more. Nothing else changes if there is none to open or no place for it (autodoc OpenLibrary).
unfoldable pub opened : List ℕ → ℕ → Memory → Memory
opened name version memory =
    let found = library_to_open name version memory in
    library_opened found (ready_to_open found memory)

-- OpenLibrary name version: returns the base of the library of that name, which is loaded first if it is absent, and is
-- open once more. Returns 0 if there is none of that name, its version is lower, it is open 65,535 times, or there is
-- no place for it (autodoc exec.library/OpenLibrary; the count, and that a library takes memory with MEMF_PUBLIC:
-- project rule).
unfoldable pub does_open_library : ℕ → Call → State → Outcome
does_open_library t call s =
    let name = unwrap_or (name_argument 0 call) [] in
    let version = argument 1 call in
    answered t call (unwrap_or (opening name version s.memory) 0) (on_memory (opened name version) s)

-- ---- closing and removing

-- the alert of CloseLibrary: HANDLE if no library begins there, LIB if it is not open
unfoldable pub close_alert : ℕ → Heap → Option Alert
close_alert base heap =
    if not (is_library_at base heap) then Some an_alert.Handle
    else (if nat_eq (count_of base heap) 0 then Some an_alert.Lib else None)

-- a library is open one time less; if it is to be expunged, and is no longer open, it is freed (autodoc CloseLibrary)
unfoldable pub closed : ℕ → Memory → Memory
closed base memory =
    if nat_eq (count_of base memory.heap) 1 && is_delayed base memory.heap then freed base memory
    else on_heap (with_library base (count_of base memory.heap - 1) (is_delayed base memory.heap)) memory

-- CloseLibrary base: the library is open one time less; 0 does nothing (autodoc exec.library/CloseLibrary; the alerts:
-- project rule)
unfoldable pub does_close_library : ℕ → Call → State → Outcome
does_close_library t call s =
    let base = argument 0 call in
    if nat_eq base 0 then done t call s
    else unless (close_alert base s.memory.heap) t call (λ s. done t call (on_memory (closed base) s)) s

-- RemLibrary base: the library is expunged, now or when it is closed for the last time (autodoc
-- exec.library/RemLibrary; the alert: project rule)
unfoldable pub does_rem_library : ℕ → Call → State → Outcome
does_rem_library t call s =
    let base = argument 0 call in
    unless (library_alert base s.memory.heap) t call (λ s. done t call (on_memory (after_expunge base) s)) s

-- LibOpenCnt base: returns how often the library is open (RKM Libraries, Exec Libraries: lib_OpenCnt; that there is a
-- call for it: project rule)
unfoldable pub does_lib_open_cnt : ℕ → Call → State → Outcome
does_lib_open_cnt t call s =
    let base = argument 0 call in
    unless (library_alert base s.memory.heap) t call (λ s. answered t call (count_of base s.memory.heap) s) s

-- ---- the words of this group

-- a call of task t on libraries, by its word
abbrev pub does_libraries : LibraryWord → ℕ → Call → State → Outcome
does_libraries word.OpenLibrary t call s = does_open_library t call s
does_libraries word.CloseLibrary t call s = does_close_library t call s
does_libraries word.RemLibrary t call s = does_rem_library t call s
does_libraries word.LibOpenCnt t call s = does_lib_open_cnt t call s

-- the rules of this group, where all of them are to unfold
unfoldable pub library_rules : ⊤
unfolding base_of close_alert closed count_of does_close_library does_lib_open_cnt does_open_library does_rem_library is_delayed is_library_at library_alert library_number_at opened opening ready_to_open after_expunge with_library
library_rules = tt
