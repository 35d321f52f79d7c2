-- A table stays sound if libraries are asked for memory: what becomes of the libraries and of the memory that is lent
-- to them.
use Rattle.std.proofs.Common.{◌≡◌, ℕ, ◌<◌, Bool, true, false, length, refl, ap, sym, ◌∙◌, subst, Some, None, Option, IfSome, if◌then◌else◌, slice_index_or, slice_set, option_map}
use Rattle.memlist.specs.{Fit.fit, Memory.IsWellFormed, Memory.Memory, Memory.allocated}
use Rattle.memlist.proofs.Keeping.{freed_well_formed}
use Rattle.execlist.specs.Pool.{IsStocked, Pooled, given, next_number}
use Rattle.execlib.specs.Libraries as library
use Rattle.execlib.specs.Libraries.{Lent, Libraries, LieIn, asked_one, base_of, expunged, fits, gives_way, is_loaded, leaves_by_removal, lent, marked, memory_without, opened_base}
use Rattle.execlib.proofs.Asking.{asking_keeps, ready_keeps, ways}
use Rattle.execheap.specs.{declared.tag.Kind.Kind, Tags.kind_code, Tags.size_of, Tags.tag_of, Table.Tabled, Table.IsSoundTable, Table.after_asking, Table.library_opened, Table.next_object, Table.object_at_next, Table.pool_of, Table.ready_for, Table.ready_for_number, Table.with_lent}
use Rattle.execheap.proofs.{Keeping.kept_made, Keeping.pool_is, LibraryTables.sound_after, LibraryTables.sound_opened, LibraryTables.sound_removed, Plain.sound_allocated}

-- loaded libraries lie in the memory
pub lie_in : {t : Tabled} → IsSoundTable t → LieIn t.libs t.memory
lie_in sound = record { each = sound.matched.loaded }

-- what was lent came back such that the table stays sound, and the libraries are those of the file
pub record IsSettled (t : Tabled) (l : Lent) : Type 0 where
  pub sound : IsSoundTable (with_lent l t)
  pub formed : IsWellFormed l.memory.regions l.memory.blocks
  pub known : l.libraries.known ≡ t.libs.known
  pub regions : l.memory.regions ≡ t.memory.regions

pub settled_now : {t : Tabled} → IsSoundTable t → IsWellFormed t.memory.regions t.memory.blocks → IsSettled t (lent t.libs t.memory)
settled_now sound formed = record { sound = sound; formed = formed; known = refl; regions = refl }

module _ {t : Tabled} where
  pub settled_given : (i : ℕ) (l : Lent) → IsSettled t l → IsSettled t (gives_way i l)
  settled_given i l is = ways (IsSettled t) i l is
      (λ loaded leaves. record {
        sound = removed true loaded leaves;
        formed = freed_well_formed l.memory.regions l.memory.blocks (base_of i l.libraries) is.formed;
        known = is.known;
        regions = is.regions;
      })
      (λ loaded stays. record { sound = removed false loaded stays; formed = is.formed; known = is.known; regions = is.regions })
    where
      removed : (b : Bool) → is_loaded i l.libraries ≡ true → leaves_by_removal i l.libraries ≡ b
          → IsSoundTable (with_lent (lent (if b then expunged i l.libraries else marked i l.libraries) (if b then memory_without i l.libraries l.memory else l.memory)) t)
      removed b loaded is_leaving =
          subst (λ b. IsSoundTable (with_lent (lent (if b then expunged i l.libraries else marked i l.libraries) (if b then memory_without i l.libraries l.memory else l.memory)) t))
          is_leaving (sound_removed is.sound is.formed i loaded)

  pub settled_one : (size reqs i : ℕ) (l : Lent) → IsSettled t l → IsSettled t (asked_one size reqs i l)
  settled_one size reqs i l is = either (fits size reqs l.memory) where
    either : (b : Bool) → IsSettled t (if b then l else gives_way i l)
    either true = is
    either false = settled_given i l is

  pub settled_after : (size reqs : ℕ) (l : Lent) → IsSettled t l → IsSettled t (library.after_asking size reqs l)
  settled_after size reqs l is = asking_keeps (IsSettled t) settled_given size reqs l is

  pub settled_opening : (found : Option ℕ) (l : Lent) → IsSettled t l → IsSettled t (library.ready_to_open found l)
  unfolding library.ready_to_open
  settled_opening None l is = is
  settled_opening (Some i) l is = ready_keeps (IsSettled t) settled_given i l is

-- ---- what the calls of a table make of it

module _ {t : Tabled} (sound : IsSoundTable t) (formed : IsWellFormed t.memory.regions t.memory.blocks) where
  module _ (size reqs : ℕ) where
    abbrev asked : Lent
    asked = library.after_asking size reqs (lent t.libs t.memory)

    pub settled_asked : IsSettled t asked
    settled_asked = settled_after size reqs (lent t.libs t.memory) (settled_now sound formed)

    module _ (place : Option ℕ) (is : place ≡ fit t.memory.regions asked.memory.blocks size reqs) where
      -- a block is placed where it fits after libraries were asked for memory
      pub place_asked : place ≡ fit asked.memory.regions asked.memory.blocks size reqs
      place_asked = is ∙ ap (λ regions. fit regions asked.memory.blocks size reqs) (sym settled_asked.regions)

      pub sound_taken : (memory : Memory) (libs : Libraries) → libs ≡ asked.libraries → memory ≡ allocated size 0 place asked.memory
          → IsSoundTable (record t { memory = memory; libs = libs })
      sound_taken memory libs is_libs is_memory =
          sound_after sound (record t { memory = allocated size 0 place asked.memory; libs = asked.libraries })
          (sound_allocated settled_asked.sound settled_asked.formed size reqs place place_asked) memory libs refl refl is_memory is_libs

  -- a new object: its number, and the size of its block
  module _ (kind : Kind) (code : ℕ) (is_code : code ≡ kind_code kind) (number : ℕ) (d : Pooled ℕ) (next : Some number ≡ next_number (slice_index_or t.pools code d))
      (size : ℕ) (is_size : size ≡ size_of kind) where
    next_is : Some number ≡ next_number (pool_of kind t)
    next_is = next ∙ ap next_number (pool_is sound kind code is_code d)

    pub object_made : (place : Option ℕ) → place ≡ fit t.memory.regions (asked size 1).memory.blocks size 1
        → option_map (λ (a : ℕ). (number, a)) place ≡ next_object kind (ready_for kind t)
    object_made place is =
        ap (option_map (λ (a : ℕ). (number, a)))
        (place_asked size 1 place is ∙ ap (λ n. fit (asked n 1).memory.regions (asked n 1).memory.blocks n 1) is_size)
        ∙ ap (λ o. object_at_next kind o (after_asking (size_of kind) 1 t)) next_is
        ∙ ap (λ o. next_object kind (ready_for_number kind o t)) next_is

    -- if its block fits nowhere, libraries were asked for memory all the same
    pub sound_unmade : (memory : Memory) (libs : Libraries) → libs ≡ (asked size 1).libraries → memory ≡ (asked size 1).memory
        → IsSoundTable (record t { memory = memory; libs = libs })
    sound_unmade memory libs is_libs is_memory =
        sound_after sound (with_lent (asked size 1) t) (settled_asked size 1).sound memory libs refl refl is_memory is_libs

    pub sound_made : (address tag : ℕ) (stock e : Pooled ℕ) → IsStocked (slice_index_or t.pools code stock) → tag ≡ tag_of kind number
        → Some address ≡ fit t.memory.regions (asked size 1).memory.blocks size 1 → (memory : Memory) (libs : Libraries) (pool : Pooled ℕ) → libs ≡ (asked size 1).libraries
        → memory ≡ allocated size tag (Some address) (asked size 1).memory → pool ≡ given address (slice_index_or t.pools code e)
        → IsSoundTable (record t { memory = memory; pools = slice_set t.pools code pool; libs = libs })
    sound_made address tag stock e stocked is_tag is memory libs pool is_libs is_memory is_pool =
        subst (λ l. IsSoundTable (record t { memory = memory; pools = slice_set t.pools code pool; libs = l })) (sym is_libs)
        (kept_made (settled_asked size 1).sound kind code is_code (settled_asked size 1).formed number address memory e pool size tag d stock stocked next is_size is_tag
        (place_asked size 1 (Some address) is) is_memory is_pool)

  -- a library that is opened, or none
  module _ (found : Option ℕ) (known : IfSome found (λ i. i < length t.libs.known)) where
    abbrev opening : Lent
    opening = library.ready_to_open found (lent t.libs t.memory)

    pub settled_for : IsSettled t opening
    settled_for = settled_opening found (lent t.libs t.memory) (settled_now sound formed)

    pub known_for : IfSome found (λ i. i < length opening.libraries.known)
    known_for = subst (λ ds. IfSome found (λ i. i < length ds)) (sym settled_for.known) known

    pub sound_open : (base : Option ℕ) → base ≡ opened_base found opening.libraries opening.memory → (memory : Memory) (libs : Libraries)
        → libs ≡ library.opened found base opening.libraries → memory ≡ library.memory_for found base opening.libraries opening.memory
        → IsSoundTable (record t { memory = memory; libs = libs })
    sound_open base is memory libs is_libs is_memory =
        sound_after sound (library_opened found base (with_lent opening t))
        (sound_opened settled_for.sound settled_for.formed found base known_for is) memory libs refl refl is_memory is_libs
