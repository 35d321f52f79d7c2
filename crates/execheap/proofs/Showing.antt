-- What objects by number show by address, for every kind alike.
use Rattle.std.proofs.Common.{◌≡◌, ◌≢◌, ℕ, suc, ◌<◌, List, [], ◌∷◌, Bool, true, false, cond, map, length, refl, ap, sym, ◌∙◌, subst, arith, Option, None, Some, is_some, not, nat_eq, if◌then◌else◌, filter, IfSome, option_map, option_and_then, nat_cmp, le-ltb, lt-ltb}
use Rattle.std.specs.{List.AllByRecursion, FinMap.put, FinMap.Entries.where_key}
use Rattle.memlist.specs.{Blocks.Blocks, Blocks.block_at, Fit.fit, Fit.round, Memory.IsWellFormed, Memory.without_block}
use Rattle.execlist.specs.Pool.{IsStocked, next_number, slot}
use Rattle.execlist.proofs.Pools.{taken_below}
use Rattle.execlib.specs.Libraries.{count_of, is_delayed}
use Rattle.execmodel.specs.{State.Object, State.Plain, State.Library, State.Block, Memory.freed, Memory.place_for, Memory.placed, Objects.is_allowed, Objects.object_at, Objects.is_kind, Objects.live, Objects.place_for_object}
use Rattle.execmodel.specs.Memory as model
use Rattle.execheap.proofs.{Entries.all_then, Entries.find_shown, Entries.map_same, Entries.put_shown, Entries.some_same, Entries.where_key_shown, Counting.all_freed, Matching.other_object, Tagging.cases_kind, Tagging.read_tag, Tagging.same_other, Tagging.same_self, Blocks.fit_shown}
use Rattle.execheap.specs.Numbered.{Numbered, object_of, shown_block, shown_entry, shown_heap, shown_library, shown_memory, shown_public, shown_tagged, shown_timer, test_of}
use Rattle.execheap.specs.{declared.tag.Kind.Kind, declared.tag.Tagged.Tagged, Tags.is_of, Tags.is_same, Tags.number_in, Tags.size_of, Tags.tag_of, Tags.tagged, Table.Tabled, Table.IsSoundTable, Table.IsTagged, Table.counted, Table.next_object, Table.number_at, Table.object_at_next, Table.place_of, Table.pool_of, Table.slots_of, Table.with_object, Table.without_object}
use Rattle.execheap.specs.declared.tag.Kind.TheVariants as kind
use Rattle.execheap.specs.declared.tag.Tagged.TheVariants as tag

-- ---- of which kind an object is: one row for each kind, and one for the rest

test_told : (k j : Kind) (n : ℕ) (s : Numbered) → test_of k (object_of j n s) ≡ is_same j k
test_told kind.List kind.List n s = refl
test_told kind.Node kind.Node n s = refl
test_told kind.Port kind.Port n s = refl
test_told kind.Message kind.Message n s = refl
test_told kind.Semaphore kind.Semaphore n s = refl
test_told kind.Request kind.Request n s = refl
test_told _ _ n s = refl

test_plain : (k : Kind) → test_of k Plain ≡ false
test_plain kind.List = refl
test_plain kind.Node = refl
test_plain kind.Port = refl
test_plain kind.Message = refl
test_plain kind.Semaphore = refl
test_plain kind.Request = refl

-- ---- what begins at an address

test_library : (k : Kind) (i count : ℕ) (delayed : Bool) → test_of k (Library i count delayed) ≡ false
test_library kind.List i count delayed = refl
test_library kind.Node i count delayed = refl
test_library kind.Port i count delayed = refl
test_library kind.Message i count delayed = refl
test_library kind.Semaphore i count delayed = refl
test_library kind.Request i count delayed = refl

pub test_shown : (s : Numbered) (k : Kind) (x : Tagged) → test_of k (shown_tagged s x) ≡ is_of k x
test_shown s k (tag.Object j n) = test_told k j n s
test_shown s k tag.Plain = test_plain k
test_shown s k (tag.Library i) = test_library k i (count_of i s.table.libs) (is_delayed i s.table.libs)

pub block_shown : (s : Numbered) (a : ℕ) → model.block_at a (shown_heap s) ≡ option_map (shown_block s) (block_at a s.table.memory.blocks)
unfolding shown_heap
block_shown s a = find_shown (shown_block s) a s.table.memory.blocks

pub object_at_shown : (s : Numbered) (a : ℕ)
    → object_at a (shown_heap s) ≡ option_map (λ (block : ℕ × ℕ). shown_tagged s (tagged block.1)) (block_at a s.table.memory.blocks)
object_at_shown s a = ap (option_map (λ (block : Block). block.object)) (block_shown s a) ∙ both (block_at a s.table.memory.blocks)
  where
    both : (found : Option (ℕ × ℕ)) → option_map (λ (block : Block). block.object) (option_map (shown_block s) found)
        ≡ option_map (λ (block : ℕ × ℕ). shown_tagged s (tagged block.1)) found
    both None = refl
    both (Some block) = refl

-- an object of a kind begins at an address if a number of that kind does
pub kind_shown : (s : Numbered) (kind : Kind) (a : ℕ) → is_kind (test_of kind) (object_at a (shown_heap s)) ≡ is_some (number_at kind a s.table)
kind_shown s kind a = ap (is_kind (test_of kind)) (object_at_shown s a) ∙ by_block (block_at a s.table.memory.blocks) where
  by_tag : (x : Tagged) → is_of kind x ≡ is_some (number_in kind x)
  by_tag tag.Plain = refl
  by_tag (tag.Library i) = refl
  by_tag (tag.Object j n) = elim (is_same j kind) as (λ b. b ≡ is_some (cond b (Some n) None)) [ true ↦ refl | false ↦ refl ]

  by_block : (found : Option (ℕ × ℕ)) → is_kind (test_of kind) (option_map (λ (block : ℕ × ℕ). shown_tagged s (tagged block.1)) found)
      ≡ is_some (option_and_then (λ (block : ℕ × ℕ). number_in kind (tagged block.1)) found)
  by_block None = refl
  by_block (Some block) = test_shown s kind (tagged block.1) ∙ by_tag (tagged block.1)

-- the object of a number is what begins if that number does
pub object_numbered : (s : Numbered) (kind : Kind) (a number : ℕ) → number_at kind a s.table ≡ Some number
    → object_at a (shown_heap s) ≡ Some (object_of kind number s)
object_numbered s kind a number is = object_at_shown s a ∙ by_block (block_at a s.table.memory.blocks) is where
  by_tag : (x : Tagged) → number_in kind x ≡ Some number → shown_tagged s x ≡ object_of kind number s
  by_tag tag.Plain e = let bad : false ≡ true = ap is_some e in cc
  by_tag (tag.Library i) e = let bad : false ≡ true = ap is_some e in cc
  by_tag (tag.Object j n) e = cases_kind j kind
      (λ same. (λ i. object_of (same i) n s)
      ∙ ap (λ m. object_of kind m s) (some_same (sym (ap (λ b. cond b (Some n) None) (ap (λ k. is_same k kind) same ∙ same_self kind)) ∙ e)))
      (λ other. let bad : false ≡ true = ap is_some (sym (ap (λ b. cond b (Some n) None) (same_other j kind other)) ∙ e) in cc)

  by_block : (found : Option (ℕ × ℕ)) → option_and_then (λ (block : ℕ × ℕ). number_in kind (tagged block.1)) found ≡ Some number
      → option_map (λ (block : ℕ × ℕ). shown_tagged s (tagged block.1)) found ≡ Some (object_of kind number s)
  by_block None e = let bad : false ≡ true = ap is_some e in cc
  by_block (Some block) e = ap Some (by_tag (tagged block.1) e)

-- ---- where an object is placed

count_step : {A B : Type 0} (b : Bool) (x : A) (y : B) (xs : List A) (ys : List B) → length ys ≡ length xs → length (cond b (y ∷ ys) ys) ≡ length (cond b (x ∷ xs) xs)
count_step true x y xs ys e = ap suc e
count_step false x y xs ys e = e

count_map : {A B : Type 0} (f : A → B) (p : B → Bool) (q : A → Bool) → ((x : A) → p (f x) ≡ q x) → (xs : List A) → length (filter p (map f xs)) ≡ length (filter q xs)
count_map f p q same [] = refl
count_map f p q same (x ∷ xs) =
    ap (λ b. length (cond b (f x ∷ filter p (map f xs)) (filter p (map f xs)))) (same x)
    ∙ count_step (q x) x (f x) (filter q xs) (filter p (map f xs)) (count_map f p q same xs)

live_shown : (s : Numbered) (kind : Kind) → live (test_of kind) (shown_heap s) ≡ counted kind s.table.memory.blocks
unfolding shown_heap
live_shown s kind = count_map (shown_entry s) (λ (entry : ℕ × Block). test_of kind entry.1.object) (λ (entry : ℕ × (ℕ × ℕ)). is_of kind (tagged entry.1.1))
    (λ entry. test_shown s kind (tagged entry.1.1)) s.table.memory.blocks

-- the address of a new object, if there is one
abbrev pub address_of : Option (ℕ × ℕ) → Option ℕ
address_of made = option_map (λ (m : ℕ × ℕ). m.1) made

-- the model allows one more object of a kind if a number of that kind is left
pub allowed_shown : (s : Numbered) → IsSoundTable s.table → (kind : Kind) → IsStocked (pool_of kind s.table)
    → is_allowed (test_of kind) (shown_memory s) ≡ is_some (next_number (pool_of kind s.table))
allowed_shown s sound kind stocked = by_next (next_number (pool_of kind s.table)) refl where
  vacant : (n : ℕ) → next_number (pool_of kind s.table) ≡ Some n → slot (slots_of kind s.table) n ≡ None
  vacant n next = subst (λ o. IfSome o (λ m. slot (slots_of kind s.table) m ≡ None)) next stocked.free

  known : (n : ℕ) → next_number (pool_of kind s.table) ≡ Some n → n < length (slots_of kind s.table)
  known n next = subst (λ o. IfSome o (λ m. m < length (slots_of kind s.table))) next stocked.known

  by_next : (o : Option ℕ) → next_number (pool_of kind s.table) ≡ o → is_allowed (test_of kind) (shown_memory s) ≡ is_some o
  by_next None none = le-ltb (live (test_of kind) (shown_heap s)) s.table.pool
      (omega (arith, live_shown s kind, sound.matched.count kind, stocked.full none, sound.each kind))
  by_next (Some n) next = lt-ltb (live (test_of kind) (shown_heap s)) s.table.pool (omega (
    arith,
    live_shown s kind,
    sound.matched.count kind,
    sound.each kind,
    taken_below (slots_of kind s.table) n (vacant n next) (known n next),
  ))

-- a new object is placed where the model places it
pub place_shown : (s : Numbered) → IsSoundTable s.table → (kind : Kind) → IsStocked (pool_of kind s.table)
    → place_for_object (test_of kind) (size_of kind) (shown_memory s) ≡ address_of (next_object kind s.table)
unfolding place_for_object
place_shown s sound kind stocked =
    ap (λ b. if b then place_for (size_of kind) 1 (shown_memory s) else None) (allowed_shown s sound kind stocked)
    ∙ by_next (next_number (pool_of kind s.table))
  where
    at : (fits : Option ℕ) (n : ℕ) → fits ≡ address_of (option_map (λ (address : ℕ). (n, address)) fits)
    at None n = refl
    at (Some a) n = refl

    by_next : (o : Option ℕ) → (if is_some o then place_for (size_of kind) 1 (shown_memory s) else None) ≡ address_of (object_at_next kind o s.table)
    by_next None = refl
    by_next (Some n) = fit_shown s (size_of kind) 1 ∙ at (fit s.table.memory.regions s.table.memory.blocks (size_of kind) 1) n

-- ---- an object of any kind made or freed, if the others keep what they hold

module _ {s u : Numbered} (sound : IsSoundTable s.table) (kind : Kind) (number a : ℕ) where
  pub made_shown : (object : Object) → u.table ≡ with_object kind (Some (number, a)) s.table → u.tasks ≡ s.tasks
      → ((k : Kind) (m b : ℕ) → slot (slots_of k s.table) m ≡ Some b → object_of k m u ≡ object_of k m s)
      → number < 1024 → object_of kind number u ≡ object → map (shown_public u) u.ports.public ≡ map (shown_public s) s.ports.public
      → shown_timer u ≡ shown_timer s
      → shown_memory u ≡ placed (size_of kind) object (Some a) (shown_memory s)
  unfolding shown_heap
  made_shown object is tasks beside small here public timer = λ i. record {
    regions = (is i).memory.regions;
    libraries = map shown_library (is i).libs.known;
    asks = (is i).libs.asks;
    pool = (is i).pool;
    tasks = tasks i;
    heap = (
        ap (λ (t : Tabled). map (shown_entry u) t.memory.blocks) is
        ∙ sym (put_shown (shown_block u) a (round (size_of kind), tag_of kind number) s.table.memory.blocks)
        ∙ ap (λ o. put nat_cmp a (record { size = round (size_of kind); object = o }) (map (shown_entry u) s.table.memory.blocks))
        (ap (shown_tagged u) (read_tag kind number small) ∙ here)
        ∙ ap (put nat_cmp a (record { size = round (size_of kind); object = object }))
        (map_same (shown_entry u) (shown_entry s) s.table.memory.blocks
        (all_then (λ (entry : ℕ × (ℕ × ℕ)) told. ap (λ o. (entry.0, record { size = entry.1.0; object = o })) (same (tagged entry.1.1) entry.0 told.0)) s.table.memory.blocks sound.matched.tagged))) i;
    public = public i;
    timer = timer i;
  } where
    same : (x : Tagged) (b : ℕ) → place_of x b s.table ≡ Some b → shown_tagged u x ≡ shown_tagged s x
    same tag.Plain b told = refl
    same (tag.Library i) b told = ap (λ (t : Tabled). Library i (count_of i t.libs) (is_delayed i t.libs)) is
    same (tag.Object k m) b told = beside k m b told

  pub freed_shown : IsWellFormed s.table.memory.regions s.table.memory.blocks → slot (slots_of kind s.table) number ≡ Some a
      → u.table ≡ without_object kind number a s.table → u.tasks ≡ s.tasks
      → ((k : Kind) (m b : ℕ) → (k ≡ kind → m ≢ number) → slot (slots_of k s.table) m ≡ Some b → object_of k m u ≡ object_of k m s)
      → map (shown_public u) u.ports.public ≡ map (shown_public s) s.ports.public → shown_timer u ≡ shown_timer s
      → shown_memory u ≡ freed a (shown_memory s)
  unfolding shown_heap
  freed_shown formed live is tasks beside public timer = λ i. record {
    regions = (is i).memory.regions;
    libraries = map shown_library (is i).libs.known;
    asks = (is i).libs.asks;
    pool = (is i).pool;
    tasks = tasks i;
    heap = (
        ap (λ (t : Tabled). map (shown_entry u) t.memory.blocks) is
        ∙ map_same (shown_entry u) (shown_entry s) (without_block a s.table.memory).blocks (all_but s.table.memory.blocks sound.matched.tagged)
        ∙ sym (where_key_shown (shown_block s) (λ other. not (nat_eq other a)) s.table.memory.blocks)) i;
    public = public i;
    timer = timer i;
  } where
    same : (x : Tagged) (b : ℕ) → b ≢ a → place_of x b s.table ≡ Some b → shown_tagged u x ≡ shown_tagged s x
    same tag.Plain b other told = refl
    same (tag.Library i) b other told = ap (λ (t : Tabled). Library i (count_of i t.libs) (is_delayed i t.libs)) is
    same (tag.Object k m) b other told = beside k m b (other_object sound formed kind number a live k m b other told) told

    all_but : (es : Blocks) → AllByRecursion (IsTagged s.table) es
        → AllByRecursion (λ (entry : ℕ × (ℕ × ℕ)). shown_entry u entry ≡ shown_entry s entry) (where_key nat_cmp (λ other. not (nat_eq other a)) es)
    all_but es all = all_freed {P = IsTagged s.table} a es
        (λ e other told. ap (λ o. (e.0, record { size = e.1.0; object = o })) (same (tagged e.1.1) e.0 other told.0)) all
