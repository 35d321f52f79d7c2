-- Libraries are opened by number as they are by address, after others were asked for memory.
use Rattle.std.proofs.Common.{◌≡◌, ℕ, List, refl, ap, sym, ◌∙◌, Some, None, Option, is_some, if◌then◌else◌, option_map}
use Rattle.memlist.specs.Memory.{IsWellFormed}
use Rattle.execlib.specs.{declared.library.Loaded.Loaded, Libraries.Lent, Libraries.lent, Libraries.library_to_open, Libraries.loaded_at, Libraries.opened_base}
use Rattle.execlib.specs.Libraries as library
use Rattle.execmodel.specs.LowMemory as asking
use Rattle.execmodel.specs.Libraries as model
use Rattle.execmodel.specs.Libraries.{base_opened}
use Rattle.execheap.specs.{Table.Tabled, Table.IsSoundTable, Table.library_opened, Table.ready_to_open, Numbered.Numbered, Numbered.IsKept, Numbered.shown_heap, Numbered.shown_memory}
use Rattle.execheap.proofs.{Asked.after_shown, Asked.kept_lent, Asked.lending, Asking.IsSettled, Asking.known_for, Asking.settled_for, Asking.settled_now, Libraries.base_shown, LibraryCalls.base_opened_shown, LibraryCalls.library_opened_shown, LibraryCalls.size_shown, LibraryCalls.to_open_shown, Loaded.to_open_known}

module _ {s : Numbered} (kept : IsKept s) (sound : IsSoundTable s.table) (formed : IsWellFormed s.table.memory.regions s.table.memory.blocks) where
  abbrev before : Lent
  before = lent s.table.libs s.table.memory

  loading_shown : (i : ℕ) → shown_memory (lending s (library.ready_to_load i before)) ≡ model.ready_to_load (model.base_of i (shown_heap s)) i (shown_memory s)
  loading_shown i =
      by_loaded (loaded_at i s.table.libs)
      ∙ ap (λ base. model.ready_to_load base i (shown_memory s)) (sym (base_shown s sound i formed))
    where
      by_loaded : (o : Option Loaded)
          → shown_memory (lending s (if is_some o then before else library.after_asking (library.library_at i s.table.libs).size library.public_memory before))
          ≡ model.ready_to_load (option_map (λ (l : Loaded). l.base) o) i (shown_memory s)
      by_loaded None =
          after_shown kept (library.library_at i s.table.libs).size library.public_memory before (settled_now sound formed)
          ∙ ap (λ n. asking.after_asking n library.public_memory (shown_memory s)) (sym (size_shown kept sound formed i))
      by_loaded (Some l) = refl

  ready_shown : (found : Option ℕ) → shown_memory (lending s (library.ready_to_open found before)) ≡ model.ready_to_open found (shown_memory s)
  unfolding library.ready_to_open model.ready_to_open
  ready_shown None = refl
  ready_shown (Some i) = loading_shown i

  module _ (name : List ℕ) (version : ℕ) where
    abbrev found : Option ℕ
    found = library_to_open name version s.table.libs

    abbrev ready : Numbered
    ready = record s { table = ready_to_open found s.table }

    ready_kept : IsKept ready
    ready_kept = kept_lent kept (library.ready_to_open found before)

    settled : IsSettled s.table (library.ready_to_open found before)
    settled = settled_for sound formed found (to_open_known version s.table.libs name)

    pub opening_shown : opened_base found ready.table.libs ready.table.memory ≡ model.opening name version (shown_memory s)
    unfolding model.opening
    opening_shown =
        sym (base_opened_shown ready_kept settled.sound settled.formed found)
        ∙ ap (base_opened found) (ready_shown found)
        ∙ ap (λ o. base_opened o (model.ready_to_open o (shown_memory s))) (sym (to_open_shown kept sound formed name version))

    pub opened_shown : (base : Option ℕ) (t : Tabled) → base ≡ opened_base found ready.table.libs ready.table.memory
        → t ≡ library_opened found base ready.table → shown_memory (record s { table = t }) ≡ model.opened name version (shown_memory s)
    unfolding model.opened
    opened_shown base t is next =
        ap (λ u. shown_memory (record s { table = u })) next
        ∙ library_opened_shown ready_kept settled.sound settled.formed found base
        (known_for sound formed found (to_open_known version s.table.libs name)) is
        ∙ ap (model.library_opened found) (ready_shown found)
        ∙ ap (λ o. model.library_opened o (model.ready_to_open o (shown_memory s))) (sym (to_open_shown kept sound formed name version))
