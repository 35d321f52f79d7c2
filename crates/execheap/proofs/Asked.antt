-- Libraries by number that are asked for memory do as those by address do.
use Rattle.std.proofs.Common.{◌≡◌, ℕ, List, [], ◌∷◌, Bool, true, false, length, map, refl, ap, sym, ◌∙◌, subst, Some, None, Option, is_some, ◌&&◌, not, nat_eq, if◌then◌else◌, option_map}
use Rattle.std.specs.List.{range_with_len}
use Rattle.std.proofs.lemmas.List.{length-map}
use Rattle.memlist.specs.{Fit.fit, Memory.IsWellFormed, Memory.allocated}
use Rattle.execlist.specs.Pool.{IsStocked, next_number}
use Rattle.execlib.specs.Libraries.{Lent, asked_each, asked_one, fits, gives_way, lent, loaded_at, memory_after_removal, numbers, removed}
use Rattle.execlib.specs.declared.library.Loaded.{Loaded}
use Rattle.execlib.specs.Libraries as library
use Rattle.execmodel.specs.LowMemory as model
use Rattle.execmodel.specs.{LowMemory.after_asking_for_object, LowMemory.gives_way_at, Memory.place_for, Memory.placed, State.Object, State.Plain, Objects.is_allowed, Objects.place_for_object}
use Rattle.execheap.specs.{declared.tag.Kind.Kind, Tags.size_of, Table.Tabled, Table.IsSoundTable, Table.after_asking, Table.library_removed, Table.next_object, Table.pool_of, Table.ready_for, Table.ready_for_number, Table.with_lent, Table.with_object, Numbered.Numbered, Numbered.Fits, Numbered.IsKept, Numbered.own_shape, Numbered.shown_library, Numbered.shown_memory, Numbered.test_of}
use Rattle.execheap.specs.declared.tag.Kind.TheVariants as variant
use Rattle.execheap.proofs.{Asking.IsSettled, Asking.settled_after, Asking.settled_now, Asking.settled_one, Blocks.fit_shown, Libraries.base_shown, LibraryCalls.removed_shown, Made.IsMade, Made.made_at, Plain.plain_placed, Showing.address_of, Showing.allowed_shown, Showing.place_shown}

-- objects by number, whose libraries and memory are others
abbrev pub lending : Numbered → Lent → Numbered
lending s l = record s { table = with_lent l s.table }

module _ {s : Numbered} (kept : IsKept s) where
  -- what objects hold fits the table as before
  pub kept_lent : (l : Lent) → IsKept (lending s l)
  kept_lent l = record {
    live_nodes = kept.live_nodes;
    live_lists = kept.live_lists;
    each_list = kept.each_list;
    each_node = kept.each_node;
    in_step = in_step;
    apt = kept.apt;
    in_time = record {
      each_message = kept.in_time.each_message;
      each_time = kept.in_time.each_time;
      made = kept.in_time.made;
      held = kept.in_time.held;
      none_held = kept.in_time.none_held;
      waits = kept.in_time.waits;
      live = kept.in_time.live;
      at_reply_port = kept.in_time.at_reply_port;
      early = kept.in_time.early;
      near = kept.in_time.near;
    };
  } where
    in_step : (k : Kind) → Fits (own_shape k (lending s l)) (pool_of k (lending s l).table)
    in_step variant.List = kept.in_step variant.List
    in_step variant.Node = kept.in_step variant.Node
    in_step variant.Port = kept.in_step variant.Port
    in_step variant.Message = kept.in_step variant.Message
    in_step variant.Semaphore = kept.in_step variant.Semaphore
    in_step variant.Request = kept.in_step variant.Request

  given_shown : (i : ℕ) (l : Lent) → IsSettled s.table l → shown_memory (lending s (gives_way i l)) ≡ model.gives_way i (shown_memory (lending s l))
  unfolding model.gives_way
  given_shown i l is =
      by_loaded (loaded_at i l.libraries) refl
      ∙ ap (λ base. gives_way_at base (shown_memory (lending s l))) (sym (base_shown (lending s l) is.sound i is.formed))
    where
      by_loaded : (o : Option Loaded) → loaded_at i l.libraries ≡ o
          → shown_memory (lending s (if is_some o then record { libraries = removed i l.libraries; memory = memory_after_removal i l.libraries l.memory } else l))
          ≡ gives_way_at (option_map (λ (l : Loaded). l.base) o) (shown_memory (lending s l))
      by_loaded None absent = refl
      by_loaded (Some loaded) lies = removed_shown (kept_lent l) is.sound is.formed i loaded.base (ap (option_map (λ (l : Loaded). l.base)) lies)
          (library_removed i (with_lent l s.table)) refl

  one_shown : (size reqs i : ℕ) (l : Lent) → IsSettled s.table l
      → shown_memory (lending s (asked_one size reqs i l)) ≡ model.asked_one size reqs i (shown_memory (lending s l))
  one_shown size reqs i l is =
      either (fits size reqs l.memory)
      ∙ ap (λ place. if is_some place then shown_memory (lending s l) else model.gives_way i (shown_memory (lending s l))) (sym (fit_shown (lending s l) size reqs))
    where
      either : (b : Bool) → shown_memory (lending s (if b then l else gives_way i l))
          ≡ (if b then shown_memory (lending s l) else model.gives_way i (shown_memory (lending s l)))
      either true = refl
      either false = given_shown i l is

  each_shown : (size reqs : ℕ) (asked : List ℕ) (l : Lent) → IsSettled s.table l
      → shown_memory (lending s (asked_each size reqs asked l)) ≡ model.asked_each size reqs asked (shown_memory (lending s l))
  each_shown size reqs [] l is = refl
  each_shown size reqs (i ∷ others) l is =
      each_shown size reqs others (asked_one size reqs i l) (settled_one size reqs i l is)
      ∙ ap (model.asked_each size reqs others) (one_shown size reqs i l is)

  pub after_shown : (size reqs : ℕ) (l : Lent) → IsSettled s.table l
      → shown_memory (lending s (library.after_asking size reqs l)) ≡ model.after_asking size reqs (shown_memory (lending s l))
  unfolding library.after_asking model.after_asking
  after_shown size reqs l is = either (l.libraries.asks && not (nat_eq size 0)) where
    either : (b : Bool) → shown_memory (lending s (if b then asked_each size reqs (numbers (length l.libraries.known)) l else l))
        ≡ (if b then model.asked_each size reqs (range_with_len 0 (length (map shown_library l.libraries.known))) (shown_memory (lending s l)) else shown_memory (lending s l))
    either true =
        each_shown size reqs (numbers (length l.libraries.known)) l is
        ∙ ap (λ n. model.asked_each size reqs (range_with_len 0 n) (shown_memory (lending s l))) (sym (length-map l.libraries.known shown_library))
    either false = refl

-- ---- a plain block

module _ {s : Numbered} (kept : IsKept s) (sound : IsSoundTable s.table) (formed : IsWellFormed s.table.memory.regions s.table.memory.blocks)
    (size reqs : ℕ) where
  asked_shown : shown_memory (record s { table = after_asking size reqs s.table }) ≡ model.after_asking size reqs (shown_memory s)
  asked_shown = after_shown kept size reqs (lent s.table.libs s.table.memory) (settled_now sound formed)

  pub place_taken : (place : Option ℕ) → (let ready = after_asking size reqs s.table in place ≡ fit ready.memory.regions ready.memory.blocks size reqs)
      → place ≡ place_for size reqs (model.after_asking size reqs (shown_memory s))
  place_taken place is =
      is ∙ sym (fit_shown (record s { table = after_asking size reqs s.table }) size reqs) ∙ ap (place_for size reqs) asked_shown

  module _ (place : Option ℕ) (t : Tabled)
      (is : let ready = after_asking size reqs s.table in t ≡ record ready { memory = allocated size 0 place ready.memory }) where
    pub kept_taken : IsKept (record s { table = t })
    kept_taken = let ready = library.after_asking size reqs (lent s.table.libs s.table.memory) in
        subst IsKept (λ i. record s { table = sym is i })
        (kept_lent kept (record { libraries = ready.libraries; memory = allocated size 0 place ready.memory }))

    pub shown_taken : shown_memory (record s { table = t }) ≡ placed size Plain place (model.after_asking size reqs (shown_memory s))
    shown_taken =
        ap (λ u. shown_memory (record s { table = u })) is
        ∙ plain_placed (record s { table = after_asking size reqs s.table }) size place
        ∙ ap (placed size Plain place) asked_shown

-- ---- before an object is made

-- objects by number after libraries were asked for memory for an object of a kind
abbrev pub readied : Kind → Numbered → Numbered
readied kind s = record s { table = ready_for kind s.table }

-- they are as objects are, and are shown as the model has them then
pub record IsReady (kind : Kind) (s u : Numbered) : Type 0 where
  pub kept : IsKept u
  pub sound : IsSoundTable u.table
  pub formed : IsWellFormed u.table.memory.regions u.table.memory.blocks
  pub stocked : IsStocked (pool_of kind u.table)
  pub shown : shown_memory u ≡ after_asking_for_object (test_of kind) (size_of kind) (shown_memory s)

module _ {s seen : Numbered} (view : s ≡ seen) (kept : IsKept s) (sound : IsSoundTable s.table) (formed : IsWellFormed s.table.memory.regions s.table.memory.blocks)
    (kind : Kind) (stocked : IsStocked (pool_of kind s.table)) where
  ready : IsReady kind s (readied kind s)
  unfolding after_asking_for_object
  ready = by_next (next_number (pool_of kind s.table)) refl where
    allowed : (o : Option ℕ) → next_number (pool_of kind s.table) ≡ o → (if is_some o then model.after_asking (size_of kind) 1 (shown_memory s) else shown_memory s)
        ≡ (if is_allowed (test_of kind) (shown_memory s) then model.after_asking (size_of kind) 1 (shown_memory s) else shown_memory s)
    allowed o is = ap (λ b. if b then model.after_asking (size_of kind) 1 (shown_memory s) else shown_memory s)
        (ap is_some (sym is) ∙ sym (allowed_shown s sound kind stocked))

    by_next : (o : Option ℕ) → next_number (pool_of kind s.table) ≡ o → IsReady kind s (record s { table = ready_for_number kind o s.table })
    by_next None full = record { kept = kept; sound = sound; formed = formed; stocked = stocked; shown = allowed None full }
    by_next (Some n) next =
        let now = settled_now sound formed in
        let settled = settled_after (size_of kind) 1 (lent s.table.libs s.table.memory) now in
        record {
          kept = kept_lent kept (library.after_asking (size_of kind) 1 (lent s.table.libs s.table.memory));
          sound = settled.sound;
          formed = settled.formed;
          stocked = stocked;
          shown = after_shown kept (size_of kind) 1 (lent s.table.libs s.table.memory) now ∙ allowed (Some n) next;
        }

  shown_ready : shown_memory (readied kind s) ≡ after_asking_for_object (test_of kind) (size_of kind) (shown_memory seen)
  shown_ready = ready.shown ∙ ap (λ u. after_asking_for_object (test_of kind) (size_of kind) (shown_memory u)) view

  -- if an object is made, the model has it made
  pub place_made : (made : Option (ℕ × ℕ)) → made ≡ next_object kind (ready_for kind s.table)
      → address_of made ≡ place_for_object (test_of kind) (size_of kind) (after_asking_for_object (test_of kind) (size_of kind) (shown_memory seen))
  place_made made is =
      ap address_of is ∙ sym (place_shown (readied kind s) ready.sound kind ready.stocked) ∙ ap (place_for_object (test_of kind) (size_of kind)) shown_ready

  -- if none is made, libraries may have been asked for memory all the same
  module _ (t : Tabled) (is : t ≡ with_object kind None (ready_for kind s.table)) where
    pub kept_unmade : IsKept (record s { table = t })
    kept_unmade = subst IsKept (λ i. record s { table = sym is i }) ready.kept

    pub shown_unmade : (object : Object) (place : Option ℕ) → place ≡ None
        → shown_memory (record s { table = t }) ≡ placed (size_of kind) object place (after_asking_for_object (test_of kind) (size_of kind) (shown_memory seen))
    shown_unmade object place none =
        ap (λ u. shown_memory (record s { table = u })) is ∙ shown_ready
        ∙ ap (λ o. placed (size_of kind) object o (after_asking_for_object (test_of kind) (size_of kind) (shown_memory seen))) (sym none)

  module _ (n a : ℕ) (t : Tabled) (answer : Some (n, a) ≡ next_object kind (ready_for kind s.table)) (is : t ≡ with_object kind (Some (n, a)) (ready_for kind s.table)) where
    pub made_ready : IsMade kind (readied kind s) n a t
    made_ready = made_at {s = readied kind s} ready.kept ready.sound ready.formed kind ready.stocked n a t is answer

  pub placed_ready : (a : ℕ) (object : Object) → placed (size_of kind) object (Some a) (shown_memory (readied kind s))
      ≡ placed (size_of kind) object (Some a) (after_asking_for_object (test_of kind) (size_of kind) (shown_memory seen))
  placed_ready a object = ap (placed (size_of kind) object (Some a)) shown_ready
