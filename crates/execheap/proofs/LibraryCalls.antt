-- The calls on libraries by address, reported by number.
use Rattle.std.proofs.Common.{◌≡◌, ◌≢◌, ℕ, zero, suc, ◌+◌, ◌-◌, ◌<◌, List, [], ◌∷◌, Bool, true, false, cond, length, map, refl, ap, sym, ◌∙◌, arith, Some, None, Option, IfSome, is_some, nat_eq, nat_le, bytes_eq, not, ◌&&◌, slice_index_or, if◌then◌else◌, codes, option_map, option_and_then}
use Rattle.std.specs.{Option.option_map_or, List.position_from}
use Rattle.memlist.specs.Memory.{IsWellFormed, without_block}
use Rattle.execlib.specs.Libraries.{Description, Libraries, base_or_fit, count_of, entered, expunged, is_delayed, leaves_by_close, leaves_by_removal, library_to_open, loaded_at, loads, memory_without, most_openings, number_of, opened_base, with_loaded}
use Rattle.execlib.specs.declared.library.Loaded.{Loaded}
use Rattle.execlib.specs.Libraries as library
use Rattle.execmodel.specs.{State.Library, State.on_heap, Memory.freed, Memory.place_for, Memory.placed, Libraries.base_opened, Libraries.base_or_place, Libraries.entered_or_loaded, Libraries.library_named, Libraries.with_library}
use Rattle.execmodel.specs.Libraries as model
use Rattle.script.specs.File.{LibraryData}
use Rattle.execheap.specs.{Table.Tabled, Table.IsSoundTable, Table.base_at, Table.library_at, Table.library_closed, Table.library_opened, Table.library_removed, Numbered.Numbered, Numbered.IsKept, Numbered.shown_heap, Numbered.shown_library, Numbered.shown_memory}
use Rattle.execheap.proofs.Libraries.{base_shown, count_there, delayed_there, library_at_shown, library_changed, library_freed, library_placed, library_there, openings_shown}
use Rattle.execheap.proofs.{Blocks.fit_shown, LibraryTables.loads_absent, LibraryTables.loads_loaded, LibraryTables.loads_nowhere, Loaded.lies_at}
use Rattle.memlist.proofs.Answered.{nat_eq-other}
use Rattle.script.specs.declared.alert.Alert.TheVariants as an_alert

-- ---- the libraries of the file

position_map : (test : LibraryData → Bool) (n : ℕ) (known : List Description)
    → position_from test n (map shown_library known) ≡ position_from (λ d. test (shown_library d)) n known
position_map test n [] = refl
position_map test n (d ∷ known) = ap (λ o. cond (test (shown_library d)) (Some n) o) (position_map test (n + 1) known)

at_shown : (known : List Description) (i : ℕ) → slice_index_or (map shown_library known) i model.no_library ≡ shown_library (slice_index_or known i library.no_library)
at_shown [] i = refl
at_shown (d ∷ known) zero = refl
at_shown (d ∷ known) (suc i) = at_shown known i

module _ {s : Numbered} (kept : IsKept s) (sound : IsSoundTable s.table) (formed : IsWellFormed s.table.memory.regions s.table.memory.blocks) where
  pub size_shown : (i : ℕ) → (model.library_at i (shown_memory s)).size ≡ (library.library_at i s.table.libs).size
  size_shown i = ap (λ (l : LibraryData). l.size) (at_shown s.table.libs.known i)

  -- ---- opening

  can_open_shown : (version i : ℕ) → model.can_open version (shown_memory s) i ≡ library.can_open version i s.table.libs
  can_open_shown version i = λ k. nat_le version (at_shown s.table.libs.known i k).version && not (nat_eq (openings_shown s sound i formed k) most_openings)

  pub to_open_shown : (name : List ℕ) (version : ℕ) → model.library_to_open name version (shown_memory s) ≡ library_to_open name version s.table.libs
  to_open_shown name version =
      ap (option_and_then (library.only_if (model.can_open version (shown_memory s)))) (position_map (λ (l : LibraryData). bytes_eq l.name name) 0 s.table.libs.known)
      ∙ by_number (number_of name s.table.libs)
    where
      by_number : (o : Option ℕ) → option_and_then (library.only_if (model.can_open version (shown_memory s))) o
          ≡ option_and_then (library.only_if (λ i. library.can_open version i s.table.libs)) o
      by_number None = refl
      by_number (Some i) = ap (λ b. cond b (Some i) None) (can_open_shown version i)

  place_shown : (i : ℕ) (o : Option Loaded) → base_or_place (option_map (λ (l : Loaded). l.base) o) i (shown_memory s)
      ≡ base_or_fit o (library.library_at i s.table.libs).size s.table.memory
  place_shown i None = ap (λ n. place_for n 1 (shown_memory s)) (size_shown i) ∙ fit_shown s (library.library_at i s.table.libs).size 1
  place_shown i (Some l) = refl

  -- the base that an opening of a library, or of none, gives
  pub base_opened_shown : (found : Option ℕ) → base_opened found (shown_memory s) ≡ opened_base found s.table.libs s.table.memory
  base_opened_shown None = refl
  base_opened_shown (Some i) = ap (λ b. base_or_place b i (shown_memory s)) (base_shown s sound i formed) ∙ place_shown i (loaded_at i s.table.libs)

  -- what an opening of a library makes
  module _ (i : ℕ) (known : i < length s.table.libs.loaded) where
    abbrev after : Option ℕ → Numbered
    after base = record s { table = library_opened (Some i) base s.table }

    entered_shown : (l : Loaded) → loaded_at i s.table.libs ≡ Some l → shown_memory (after (Some l.base)) ≡ entered_or_loaded (Some l.base) i (shown_memory s)
    entered_shown l is =
        ap (λ memory. shown_memory (record s { table = record s.table { memory = memory; libs = with_loaded i (Some (entered l.base (loaded_at i s.table.libs))) s.table.libs } }))
        (loads_loaded i (Some l.base) s.table.libs s.table.memory l is)
        ∙ library_changed s sound formed i l.base (entered l.base (loaded_at i s.table.libs)) lies
        ∙ ap (λ n. on_heap (with_library l.base (n + 1) false) (shown_memory s)) (sym (count_there s sound i l.base lies))
      where
        lies : base_at i s.table.libs ≡ Some l.base
        lies = ap (option_map (λ (l : Loaded). l.base)) is

    placed_shown : loaded_at i s.table.libs ≡ None → (base : Option ℕ)
        → shown_memory (after base) ≡ placed (library.library_at i s.table.libs).size (Library i 1 false) base (shown_memory s)
    placed_shown absent None = ap (λ memory. shown_memory (record s { table = record s.table { memory = memory } })) (loads_nowhere i s.table.libs s.table.memory)
    placed_shown absent (Some a) =
        ap (λ memory. shown_memory (record s { table = record s.table { memory = memory; libs = with_loaded i (Some (entered a (loaded_at i s.table.libs))) s.table.libs } }))
        (loads_absent i (Some a) s.table.libs s.table.memory absent)
        ∙ library_placed s sound formed i a (entered a (loaded_at i s.table.libs)) (library.library_at i s.table.libs).size absent known
        ∙ ap (λ o. placed (library.library_at i s.table.libs).size (Library i (option_map_or (λ (l : Loaded). l.count) o 0 + 1) false) (Some a) (shown_memory s)) absent

    loaded_shown : (base : Option ℕ) (o : Option Loaded) → loaded_at i s.table.libs ≡ o → base ≡ base_or_fit o (library.library_at i s.table.libs).size s.table.memory
        → shown_memory (after base) ≡ entered_or_loaded (option_map (λ (l : Loaded). l.base) o) i (shown_memory s)
    loaded_shown base (Some l) is at = ap (λ b. shown_memory (after b)) at ∙ entered_shown l is
    loaded_shown base None absent at =
        placed_shown absent base
        ∙ ap (λ b. placed (library.library_at i s.table.libs).size (Library i 1 false) b (shown_memory s)) (at ∙ sym (fit_shown s (library.library_at i s.table.libs).size 1))
        ∙ ap (λ n. placed n (Library i 1 false) (place_for n 1 (shown_memory s)) (shown_memory s)) (sym (size_shown i))

  pub library_opened_shown : (found base : Option ℕ) → IfSome found (λ i. i < length s.table.libs.known) → base ≡ opened_base found s.table.libs s.table.memory
      → shown_memory (record s { table = library_opened found base s.table }) ≡ model.library_opened found (shown_memory s)
  library_opened_shown None base known at = refl
  library_opened_shown (Some i) base known at =
      loaded_shown i (omega (arith, known, sound.each_library)) base (loaded_at i s.table.libs) refl at
      ∙ ap (λ b. entered_or_loaded b i (shown_memory s)) (sym (base_shown s sound i formed))

  -- ---- closing and removing

  module _ (i a : ℕ) (lies : base_at i s.table.libs ≡ Some a) where
    -- a library is expunged, or changes where it lies
    settled_shown : (leaves : Bool) (l : Loaded)
        → shown_memory (record s {
          table = record s.table {
            memory = (if leaves then memory_without i s.table.libs s.table.memory else s.table.memory);
            libs = (if leaves then expunged i s.table.libs else with_loaded i (Some l) s.table.libs);
          };
        }) ≡ (if leaves then freed a (shown_memory s) else on_heap (with_library a l.count l.delayed_expunge) (shown_memory s))
    settled_shown true l =
        ap (λ b. shown_memory (record s { table = record s.table { memory = without_block b s.table.memory; libs = expunged i s.table.libs } }))
        (lies_at i s.table.libs a lies) ∙ library_freed s sound formed i a lies
    settled_shown false l = library_changed s sound formed i a l lies

    pub closed_shown : (t : Tabled) → t ≡ library_closed i s.table → shown_memory (record s { table = t }) ≡ model.closed a (shown_memory s)
    unfolding model.closed
    closed_shown t next =
        ap (λ u. shown_memory (record s { table = u })) next
        ∙ settled_shown (leaves_by_close i s.table.libs)
        (record { base = library.base_of i s.table.libs; count = count_of i s.table.libs - 1; delayed_expunge = is_delayed i s.table.libs })
        ∙ (λ k. let count = sym (count_there s sound i a lies) k in
        let delayed = sym (delayed_there s sound i a lies) k in
        if nat_eq count 1 && delayed then freed a (shown_memory s) else on_heap (with_library a (count - 1) delayed) (shown_memory s))

    pub removed_shown : (t : Tabled) → t ≡ library_removed i s.table → shown_memory (record s { table = t }) ≡ model.after_expunge a (shown_memory s)
    unfolding model.after_expunge
    removed_shown t next =
        ap (λ u. shown_memory (record s { table = u })) next
        ∙ settled_shown (leaves_by_removal i s.table.libs)
        (record { base = library.base_of i s.table.libs; count = count_of i s.table.libs; delayed_expunge = true })
        ∙ (λ k. let count = sym (count_there s sound i a lies) k in
        if nat_eq count 0 then freed a (shown_memory s) else on_heap (with_library a count true) (shown_memory s))

    -- ---- the alerts of a library that is loaded

    pub library_found : model.library_alert a (shown_heap s) ≡ None
    unfolding model.library_alert
    library_found = ap (λ b. if not b then Some an_alert.Handle else None) (library_there s sound i a lies)

    close_told : model.close_alert a (shown_heap s) ≡ (if nat_eq (count_of i s.table.libs) 0 then Some an_alert.Lib else None)
    unfolding model.close_alert
    close_told =
        ap (λ b. if not b then Some an_alert.Handle else (if nat_eq (model.count_of a (shown_heap s)) 0 then Some an_alert.Lib else None)) (library_there s sound i a lies)
        ∙ ap (λ n. if nat_eq n 0 then Some an_alert.Lib else None) (count_there s sound i a lies)

    pub close_refused_closed : count_of i s.table.libs ≡ 0 → model.close_alert a (shown_heap s) ≡ Some an_alert.Lib
    close_refused_closed is = close_told ∙ ap (λ n. if nat_eq n 0 then Some an_alert.Lib else None) is

    pub close_found : count_of i s.table.libs ≢ 0 → model.close_alert a (shown_heap s) ≡ None
    close_found some = close_told ∙ ap (λ b. if b then Some an_alert.Lib else None) (nat_eq-other (count_of i s.table.libs) 0 some)

-- ---- the alerts if no library is loaded

module _ (s : Numbered) (a : ℕ) (none : library_at a s.table ≡ None) where
  pub library_refused : model.library_alert a (shown_heap s) ≡ Some an_alert.Handle
  unfolding model.library_alert
  library_refused = ap (λ b. if not b then Some an_alert.Handle else None) (library_at_shown s a ∙ ap is_some none)

  pub close_refused : model.close_alert a (shown_heap s) ≡ Some an_alert.Handle
  unfolding model.close_alert
  close_refused =
      ap (λ b. if not b then Some an_alert.Handle else (if nat_eq (model.count_of a (shown_heap s)) 0 then Some an_alert.Lib else None)) (library_at_shown s a ∙ ap is_some none)
