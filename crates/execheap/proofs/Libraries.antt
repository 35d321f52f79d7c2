-- What libraries by number show by address, and what the calls on them make of it.
use Rattle.std.proofs.Common.{◌≡◌, ◌≢◌, ℕ, ◌<◌, [], ◌∷◌, Bool, true, false, cond, length, map, refl, ap, sym, ◌∙◌, Some, None, Option, is_some, nat_eq, not, find, if◌then◌else◌, option_map, option_and_then, nat_cmp}
use Rattle.std.specs.{Option.option_map_or, List.AllByRecursion, FinMap.put, FinMap.Entries.where_key}
use Rattle.memlist.specs.{Blocks.Blocks, Blocks.block_at, Fit.round, Memory.IsWellFormed, Memory.allocated, Memory.without_block}
use Rattle.memlist.proofs.Answered.{cases_eq, found_later, nat_eq-other, nat_eq-same}
use Rattle.execlib.specs.{declared.library.Loaded.Loaded, Libraries.count_of, Libraries.expunged, Libraries.is_delayed, Libraries.library_tag, Libraries.loaded_at, Libraries.with_loaded}
use Rattle.execmodel.specs.{State.Library, State.Block, State.on_heap, Memory.freed, Memory.placed, Objects.is_kind, Objects.object_at, Objects.replaced, Libraries.is_library, Libraries.is_library_at, Libraries.is_numbered, Libraries.with_library}
use Rattle.execmodel.specs.Libraries as model
use Rattle.execheap.specs.{declared.tag.Kind.Kind, declared.tag.Tagged.Tagged, Tags.library_in, Tags.tagged, Table.IsSoundTable, Table.IsTagged, Table.base_at, Table.library_at, Table.place_of, Numbered.Numbered, Numbered.object_of, Numbered.shown_block, Numbered.shown_entry, Numbered.shown_heap, Numbered.shown_memory, Numbered.shown_tagged}
use Rattle.execheap.specs.declared.tag.Kind.TheVariants as variant
use Rattle.execheap.specs.declared.tag.Tagged.TheVariants as tag
use Rattle.execheap.proofs.{Counting.all_freed, Entries.IsFound, Entries.all_found, Entries.all_then, Entries.all_with, Entries.map_same, Entries.put_shown, Entries.some_same, Entries.where_key_shown, Beside.objects_kept, Loaded.lies_known, Loaded.loaded_beside, Loaded.loaded_here, Loaded.read_library, Matching.tag_in, Relisted.tagged_replaced, Showing.object_at_shown, Tagging.either_number}

-- a tag says that it is library i
abbrev pub is_the_library : ℕ → Tagged → Bool
is_the_library i (tag.Library j) = nat_eq j i
is_the_library i _ = false

numbered_shown : (s : Numbered) (i : ℕ) (x : Tagged) → is_numbered i (shown_tagged s x) ≡ is_the_library i x
numbered_shown s i tag.Plain = refl
numbered_shown s i (tag.Library j) = refl
numbered_shown s i (tag.Object variant.List n) = refl
numbered_shown s i (tag.Object variant.Node n) = refl
numbered_shown s i (tag.Object variant.Port n) = refl
numbered_shown s i (tag.Object variant.Message n) = refl
numbered_shown s i (tag.Object variant.Semaphore n) = refl
numbered_shown s i (tag.Object variant.Request n) = refl

library_shown : (s : Numbered) (x : Tagged) → is_library (shown_tagged s x) ≡ is_some (library_in x)
library_shown s tag.Plain = refl
library_shown s (tag.Library j) = refl
library_shown s (tag.Object variant.List n) = refl
library_shown s (tag.Object variant.Node n) = refl
library_shown s (tag.Object variant.Port n) = refl
library_shown s (tag.Object variant.Message n) = refl
library_shown s (tag.Object variant.Semaphore n) = refl
library_shown s (tag.Object variant.Request n) = refl

-- ---- what begins at an address

pub library_at_shown : (s : Numbered) (a : ℕ) → is_library_at a (shown_heap s) ≡ is_some (library_at a s.table)
unfolding is_library_at
library_at_shown s a = ap (is_kind is_library) (object_at_shown s a) ∙ by_block (block_at a s.table.memory.blocks) where
  by_block : (found : Option (ℕ × ℕ)) → is_kind is_library (option_map (λ (block : ℕ × ℕ). shown_tagged s (tagged block.1)) found)
      ≡ is_some (option_and_then (λ (block : ℕ × ℕ). library_in (tagged block.1)) found)
  by_block None = refl
  by_block (Some block) = library_shown s (tagged block.1)

module _ (s : Numbered) (sound : IsSoundTable s.table) (i : ℕ) where
  module _ (a : ℕ) (lies : base_at i s.table.libs ≡ Some a) where
    pub library_begins : object_at a (shown_heap s) ≡ Some (Library i (count_of i s.table.libs) (is_delayed i s.table.libs))
    library_begins = object_at_shown s a ∙ by_block (block_at a s.table.memory.blocks) (sound.matched.loaded i a lies) where
      by_block : (found : Option (ℕ × ℕ)) → tag_in found ≡ Some (library_tag i)
          → option_map (λ (block : ℕ × ℕ). shown_tagged s (tagged block.1)) found ≡ Some (Library i (count_of i s.table.libs) (is_delayed i s.table.libs))
      by_block None e = let bad : false ≡ true = ap is_some e in cc
      by_block (Some block) e = ap (λ tag. Some (shown_tagged s (tagged tag))) (some_same e) ∙ ap (λ x. Some (shown_tagged s x)) (read_library i)

    pub library_there : is_library_at a (shown_heap s) ≡ true
    unfolding is_library_at
    library_there = ap (is_kind is_library) library_begins

    pub number_there : model.library_number_at a (shown_heap s) ≡ i
    unfolding model.library_number_at
    number_there = ap (λ o. option_map_or model.library_number o 0) library_begins

    pub count_there : model.count_of a (shown_heap s) ≡ count_of i s.table.libs
    unfolding model.count_of
    count_there = ap (λ o. option_map_or model.count_in o 0) library_begins

    pub delayed_there : model.is_delayed a (shown_heap s) ≡ is_delayed i s.table.libs
    unfolding model.is_delayed
    delayed_there = ap (λ o. option_map_or model.delayed_in o false) library_begins

    -- exactly the block at its base is the library
    elsewhere : (x : Tagged) (b : ℕ) → b ≢ a → place_of x b s.table ≡ Some b → false ≡ is_the_library i x
    elsewhere tag.Plain b other there = refl
    elsewhere (tag.Object k n) b other there = refl
    elsewhere (tag.Library j) b other there =
        sym (nat_eq-other j i (λ same. other (some_same (sym there ∙ ap (λ k. base_at k s.table.libs) same ∙ lies))))

    told : (entry : ℕ × (ℕ × ℕ)) → IsFound s.table.memory.blocks entry → IsTagged s.table entry → nat_eq entry.0 a ≡ is_the_library i (tagged entry.1.1)
    told entry found there = either_number entry.0 a (λ b. b ≡ is_the_library i (tagged entry.1.1))
        (λ same. let is_tag : entry.1.1 ≡ library_tag i = some_same (ap tag_in
        (sym (ap (λ b. block_at b s.table.memory.blocks) (sym same) ∙ found)) ∙ sound.matched.loaded i a lies) in
        sym (ap (λ x. is_the_library i (tagged x)) is_tag ∙ ap (is_the_library i) (read_library i) ∙ nat_eq-same i))
        (λ other. elsewhere (tagged entry.1.1) entry.0 other there.0)

    pub library_tells : IsWellFormed s.table.memory.regions s.table.memory.blocks
        → AllByRecursion (λ (entry : ℕ × (ℕ × ℕ)). nat_eq entry.0 a ≡ is_the_library i (tagged entry.1.1)) s.table.memory.blocks
    library_tells formed = all_with (λ entry found there. told entry found there) s.table.memory.blocks (all_found s.table.memory.blocks formed.in_order) sound.matched.tagged

    found_at : (es : Blocks) (block : ℕ × ℕ) → AllByRecursion (λ (entry : ℕ × (ℕ × ℕ)). nat_eq entry.0 a ≡ is_the_library i (tagged entry.1.1)) es
        → block_at a es ≡ Some block
        → option_map (λ (entry : ℕ × Block). entry.0) (find (λ (entry : ℕ × Block). is_numbered i entry.1.object) (map (shown_entry s) es)) ≡ Some a
    found_at [] block all there = let bad : false ≡ true = ap is_some there in cc
    found_at (e ∷ es) block all there = cases_eq e.0 a
        (λ same. ap (λ b. option_map (λ (entry : ℕ × Block). entry.0)
        (cond b (Some (shown_entry s e)) (find (λ (entry : ℕ × Block). is_numbered i entry.1.object) (map (shown_entry s) es))))
        (numbered_shown s i (tagged e.1.1) ∙ sym all.0 ∙ ap (λ k. nat_eq k a) same ∙ nat_eq-same a)
        ∙ ap Some same)
        (λ other. ap (λ b. option_map (λ (entry : ℕ × Block). entry.0)
        (cond b (Some (shown_entry s e)) (find (λ (entry : ℕ × Block). is_numbered i entry.1.object) (map (shown_entry s) es))))
        (numbered_shown s i (tagged e.1.1) ∙ sym all.0 ∙ nat_eq-other e.0 a other)
        ∙ found_at es block all.1 (found_later a e (Some block) es other there))

    base_there : IsWellFormed s.table.memory.regions s.table.memory.blocks → model.base_of i (shown_heap s) ≡ Some a
    unfolding model.base_of shown_heap
    base_there formed = by_block (block_at a s.table.memory.blocks) refl (sound.matched.loaded i a lies) where
      by_block : (found : Option (ℕ × ℕ)) → block_at a s.table.memory.blocks ≡ found → tag_in found ≡ Some (library_tag i)
          → option_map (λ (entry : ℕ × Block). entry.0) (find (λ (entry : ℕ × Block). is_numbered i entry.1.object) (map (shown_entry s) s.table.memory.blocks)) ≡ Some a
      by_block None found e = let bad : false ≡ true = ap is_some e in cc
      by_block (Some block) found e = found_at s.table.memory.blocks block (library_tells formed) found

  -- a library that is absent begins nowhere
  module _ (absent : base_at i s.table.libs ≡ None) where
    no_tag : (x : Tagged) (b : ℕ) → place_of x b s.table ≡ Some b → is_the_library i x ≡ false
    no_tag tag.Plain b there = refl
    no_tag (tag.Object k n) b there = refl
    no_tag (tag.Library j) b there = nat_eq-other j i
        (λ same. let bad : true ≡ false = sym (ap is_some there) ∙ ap (λ k. is_some (base_at k s.table.libs)) same ∙ ap is_some absent in cc)

    found_nowhere : (es : Blocks) → AllByRecursion (IsTagged s.table) es
        → option_map (λ (entry : ℕ × Block). entry.0) (find (λ (entry : ℕ × Block). is_numbered i entry.1.object) (map (shown_entry s) es)) ≡ None
    found_nowhere [] all = refl
    found_nowhere (e ∷ es) all = ap (λ b. option_map (λ (entry : ℕ × Block). entry.0)
        (cond b (Some (shown_entry s e)) (find (λ (entry : ℕ × Block). is_numbered i entry.1.object) (map (shown_entry s) es))))
        (numbered_shown s i (tagged e.1.1) ∙ no_tag (tagged e.1.1) e.0 all.0.0)
        ∙ found_nowhere es all.1

    base_nowhere : model.base_of i (shown_heap s) ≡ None
    unfolding model.base_of shown_heap
    base_nowhere = found_nowhere s.table.memory.blocks sound.matched.tagged

  -- ---- the base of a library

  pub base_shown : IsWellFormed s.table.memory.regions s.table.memory.blocks → model.base_of i (shown_heap s) ≡ base_at i s.table.libs
  base_shown formed = by_base (base_at i s.table.libs) refl where
    by_base : (o : Option ℕ) → base_at i s.table.libs ≡ o → model.base_of i (shown_heap s) ≡ o
    by_base None is = base_nowhere is
    by_base (Some a) is = base_there a is formed

  -- how often it is open
  pub openings_shown : IsWellFormed s.table.memory.regions s.table.memory.blocks → model.openings i (shown_memory s) ≡ count_of i s.table.libs
  openings_shown formed =
      ap (λ o. option_map_or (λ base. model.count_of base (shown_heap s)) o 0) (base_shown formed) ∙ by_loaded (loaded_at i s.table.libs) refl
    where
      by_loaded : (o : Option Loaded) → loaded_at i s.table.libs ≡ o
          → option_map_or (λ base. model.count_of base (shown_heap s)) (option_map (λ (l : Loaded). l.base) o) 0 ≡ option_map_or (λ (l : Loaded). l.count) o 0
      by_loaded None is = refl
      by_loaded (Some l) is =
          count_there l.base (ap (option_map (λ (l : Loaded). l.base)) is) ∙ ap (λ o. option_map_or (λ (l : Loaded). l.count) o 0) is

-- ---- what changes

module _ (s : Numbered) (sound : IsSoundTable s.table) (formed : IsWellFormed s.table.memory.regions s.table.memory.blocks) (i a : ℕ) where
  abbrev changed : Option Loaded → Numbered
  changed o = record s { table = record s.table { libs = with_loaded i o s.table.libs } }

  -- another library shows what it showed
  beside : (o : Option Loaded) (j : ℕ) → j ≢ i → shown_tagged (changed o) (tag.Library j) ≡ shown_tagged s (tag.Library j)
  beside o j other = ap (λ kept. Library j (option_map_or (λ (l : Loaded). l.count) kept 0) (option_map_or (λ (l : Loaded). l.delayed_expunge) kept false))
      (loaded_beside i s.table.libs o j other)

  here : (l : Loaded) → i < length s.table.libs.loaded → shown_tagged (changed (Some l)) (tag.Library i) ≡ Library i l.count l.delayed_expunge
  here l known = ap (λ kept. Library i (option_map_or (λ (l : Loaded). l.count) kept 0) (option_map_or (λ (l : Loaded). l.delayed_expunge) kept false))
      (loaded_here i s.table.libs (Some l) known)

  same_object : (o : Option Loaded) (k : Kind) (n : ℕ) → object_of k n (changed o) ≡ object_of k n s
  same_object o k n = objects_kept s (changed o).table refl refl refl k n

  -- a library that is loaded is open more or less often
  pub library_changed : (l : Loaded) → base_at i s.table.libs ≡ Some a
      → shown_memory (changed (Some l)) ≡ on_heap (with_library a l.count l.delayed_expunge) (shown_memory s)
  unfolding with_library
  library_changed l lies = λ k. record (shown_memory s) { heap = heap_is k } where
    known : i < length s.table.libs.loaded
    known = lies_known i s.table.libs a lies

    shows : (x : Tagged) → shown_tagged (changed (Some l)) x ≡ (if is_the_library i x then Library i l.count l.delayed_expunge else shown_tagged s x)
    shows tag.Plain = refl
    shows (tag.Object k n) = same_object (Some l) k n
    shows (tag.Library j) = either_number j i
        (λ b. shown_tagged (changed (Some l)) (tag.Library j) ≡ cond b (Library i l.count l.delayed_expunge) (shown_tagged s (tag.Library j)))
        (λ same. ap (λ n. shown_tagged (changed (Some l)) (tag.Library n)) same ∙ here l known)
        (λ other. beside (Some l) j other)

    heap_is : shown_heap (changed (Some l)) ≡ map (replaced a (Library (model.library_number_at a (shown_heap s)) l.count l.delayed_expunge)) (shown_heap s)
    heap_is = tagged_replaced s (changed (Some l)) a (Library i l.count l.delayed_expunge) (is_the_library i) shows (library_tells s sound i a lies formed) refl
        ∙ ap (λ n. map (replaced a (Library n l.count l.delayed_expunge)) (shown_heap s)) (sym (number_there s sound i a lies))

  -- a library is loaded at a fresh place
  pub library_placed : (l : Loaded) (size : ℕ) → loaded_at i s.table.libs ≡ None → i < length s.table.libs.loaded
      → shown_memory (record s { table = record s.table { memory = allocated size (library_tag i) (Some a) s.table.memory; libs = with_loaded i (Some l) s.table.libs } })
      ≡ placed size (Library i l.count l.delayed_expunge) (Some a) (shown_memory s)
  unfolding shown_heap
  library_placed l size absent known = λ k. record (shown_memory s) {
    heap = (
        sym (put_shown (shown_block new) a (round size, library_tag i) s.table.memory.blocks)
        ∙ ap (λ o. put nat_cmp a (record { size = round size; object = o }) (map (shown_entry new) s.table.memory.blocks))
        (ap (shown_tagged new) (read_library i) ∙ here l known)
        ∙ ap (put nat_cmp a (record { size = round size; object = Library i l.count l.delayed_expunge }))
        (map_same (shown_entry new) (shown_entry s) s.table.memory.blocks
        (all_then (λ (entry : ℕ × (ℕ × ℕ)) told. ap (λ o. (entry.0, record { size = entry.1.0; object = o })) (same (tagged entry.1.1) entry.0 told.0)) s.table.memory.blocks sound.matched.tagged))) k;
  } where
    new : Numbered
    new = record s { table = record s.table { memory = allocated size (library_tag i) (Some a) s.table.memory; libs = with_loaded i (Some l) s.table.libs } }

    same : (x : Tagged) (b : ℕ) → place_of x b s.table ≡ Some b → shown_tagged new x ≡ shown_tagged s x
    same tag.Plain b there = refl
    same (tag.Object k n) b there = objects_kept s new.table refl refl refl k n
    same (tag.Library j) b there = beside (Some l) j
        (λ e. let bad : true ≡ false = sym (ap is_some there) ∙ ap (λ k. is_some (base_at k s.table.libs)) e
        ∙ ap (λ o. is_some (option_map (λ (l : Loaded). l.base) o)) absent in cc)

  -- a library is expunged
  pub library_freed : base_at i s.table.libs ≡ Some a
      → shown_memory (record s { table = record s.table { memory = without_block a s.table.memory; libs = expunged i s.table.libs } }) ≡ freed a (shown_memory s)
  unfolding shown_heap
  library_freed lies = λ k. record (shown_memory s) {
    heap = (
        map_same (shown_entry new) (shown_entry s) (without_block a s.table.memory).blocks (all_but s.table.memory.blocks sound.matched.tagged)
        ∙ sym (where_key_shown (shown_block s) (λ other. not (nat_eq other a)) s.table.memory.blocks)) k;
  } where
    new : Numbered
    new = record s { table = record s.table { memory = without_block a s.table.memory; libs = expunged i s.table.libs } }

    same : (x : Tagged) (b : ℕ) → b ≢ a → place_of x b s.table ≡ Some b → shown_tagged new x ≡ shown_tagged s x
    same tag.Plain b other there = refl
    same (tag.Object k n) b other there = objects_kept s new.table refl refl refl k n
    same (tag.Library j) b other there = beside None j (λ e. other (some_same (sym there ∙ ap (λ k. base_at k s.table.libs) e ∙ lies)))

    all_but : (es : Blocks) → AllByRecursion (IsTagged s.table) es
        → AllByRecursion (λ (entry : ℕ × (ℕ × ℕ)). shown_entry new entry ≡ shown_entry s entry) (where_key nat_cmp (λ other. not (nat_eq other a)) es)
    all_but es all = all_freed {P = IsTagged s.table} a es
        (λ e other there. ap (λ o. (e.0, record { size = e.1.0; object = o })) (same (tagged e.1.1) e.0 other there.0)) all
