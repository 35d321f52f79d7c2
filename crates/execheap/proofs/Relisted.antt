-- An object that changes: by number what it holds is another, by address one block is another.
use Rattle.std.proofs.Common.{◌≡◌, ℕ, ◌<◌, List, [], Bool, true, false, cond, map, length, slice_set, refl, ap, sym, ◌∙◌, Option, nat_eq, slice_index_or, ◌&&◌, if◌then◌else◌, get_or-set_other}
use Rattle.std.specs.List.{AllByRecursion}
use Rattle.std.proofs.lemmas.{Simd.map-map, Grind.get_or-set_at}
use Rattle.execlist.specs.Lists.{sequence}
use Rattle.execlib.specs.Libraries.{count_of, is_delayed}
use Rattle.execmodel.specs.{State.Object, State.ListHead, State.Library, State.Block, Lists.with_nodes, Objects.replaced}
use Rattle.execheap.specs.{declared.tag.Kind.Kind, declared.tag.Tagged.Tagged, Tags.is_same, Tags.tagged, Table.Tabled, Numbered.Numbered, Numbered.address_in, Numbered.object_of, Numbered.places, Numbered.shown_entry, Numbered.shown_heap, Numbered.shown_tagged}
use Rattle.execheap.specs.declared.tag.Kind.TheVariants as variant
use Rattle.execheap.specs.declared.tag.Tagged.TheVariants as tag
use Rattle.execheap.proofs.{Entries.all_then, Entries.map_same, Tagging.either_number, Tagging.is_object}

-- exactly the block at an address is the object of a kind and a number
abbrev pub Tells : Numbered → ℕ → Kind → ℕ → Type 0
Tells s address kind number =
    AllByRecursion (λ (entry : ℕ × (ℕ × ℕ)). nat_eq entry.0 address ≡ is_object kind number (tagged entry.1.1)) s.table.memory.blocks

-- what a tag says is another if it passes a test, and all else is the same
module _ (old new : Numbered) (address : ℕ) (object : Object) (test : Tagged → Bool)
    (shows : (x : Tagged) → shown_tagged new x ≡ (if test x then object else shown_tagged old x)) where
  replaced_entry : (entry : ℕ × (ℕ × ℕ)) → nat_eq entry.0 address ≡ test (tagged entry.1.1)
      → shown_entry new entry ≡ replaced address object (shown_entry old entry)
  replaced_entry entry told =
      ap (λ (o : Object). (entry.0, record { size = entry.1.0; object = o })) (shows (tagged entry.1.1))
      ∙ either (test (tagged entry.1.1))
      ∙ ap (λ b. (entry.0, if b then record { size = entry.1.0; object = object } else record { size = entry.1.0; object = shown_tagged old (tagged entry.1.1) })) (sym told)
    where
      either : (b : Bool) → ◌≡◌ {A = ℕ × Block} (entry.0, record { size = entry.1.0; object = (if b then object else shown_tagged old (tagged entry.1.1)) })
          (entry.0, if b then record { size = entry.1.0; object = object } else record { size = entry.1.0; object = shown_tagged old (tagged entry.1.1) })
      either true = refl
      either false = refl

  pub tagged_replaced : AllByRecursion (λ (entry : ℕ × (ℕ × ℕ)). nat_eq entry.0 address ≡ test (tagged entry.1.1)) old.table.memory.blocks
      → new.table.memory ≡ old.table.memory → shown_heap new ≡ map (replaced address object) (shown_heap old)
  unfolding shown_heap
  tagged_replaced told is =
      ap (λ memory. map (shown_entry new) memory.blocks) is
      ∙ map_same (shown_entry new) (λ entry. replaced address object (shown_entry old entry)) old.table.memory.blocks
      (all_then (λ entry here. replaced_entry entry here) old.table.memory.blocks told)
      ∙ sym (map-map (replaced address object) (shown_entry old) old.table.memory.blocks)

-- an object of a kind and a number is another, and all else is the same
module _ (old new : Numbered) (address : ℕ) (object : Object) (kind : Kind) (number : ℕ)
    (same : (k : Kind) (m : ℕ) → object_of k m new ≡ (if is_same k kind && nat_eq m number then object else object_of k m old)) where
  pub object_replaced : Tells old address kind number → new.table ≡ old.table → shown_heap new ≡ map (replaced address object) (shown_heap old)
  object_replaced told is =
      tagged_replaced old new address object (is_object kind number) shows told (ap (λ (t : Tabled). t.memory) is)
    where
      shows : (x : Tagged) → shown_tagged new x ≡ (if is_object kind number x then object else shown_tagged old x)
      shows tag.Plain = refl
      shows (tag.Library i) = ap (λ (t : Tabled). Library i (count_of i t.libs) (is_delayed i t.libs)) is
      shows (tag.Object k m) = same k m

-- ---- an item that is set

pub item_set : {A : Type 0} (all : List A) (n : ℕ) (item other : A) (k : ℕ) → n < length all
    → slice_index_or (slice_set all n item) k other ≡ (if nat_eq k n then item else slice_index_or all k other)
item_set all n item other k known = either_number k n (λ b. slice_index_or (slice_set all n item) k other ≡ cond b item (slice_index_or all k other))
    (λ same. get_or-set_at all n k item other same known)
    (λ apart. get_or-set_other all n k item other apart)

pub sequence_set : (all : List (List ℕ)) (h : ℕ) (nodes : List ℕ) (k : ℕ) → h < length all
    → sequence (slice_set all h nodes) k ≡ (if nat_eq k h then nodes else sequence all k)
sequence_set all h nodes k known = item_set all h nodes [] k known

either_object : (b : Bool) (f : List ℕ → List ℕ) (nodes rest : List ℕ) → ListHead (f (if b then nodes else rest)) ≡ (if b then ListHead (f nodes) else ListHead (f rest))
either_object true f nodes rest = refl
either_object false f nodes rest = refl

-- the objects if the nodes of list h are set
module _ (s : Numbered) (homes : List (Option ℕ)) (h list : ℕ) (nodes : List ℕ) (known : h < length s.sequences) where
  abbrev relinked : Numbered
  relinked = record s { sequences = slice_set s.sequences h nodes; homes = homes }

  abbrev relinked_list : Object
  relinked_list = ListHead (map (address_in (places variant.Node s)) nodes)

  object_set : (k : Kind) (m : ℕ) → object_of k m relinked ≡ (if is_same k variant.List && nat_eq m h then relinked_list else object_of k m s)
  object_set variant.List m =
      ap (λ seq. ListHead (map (address_in (places variant.Node s)) seq)) (sequence_set s.sequences h nodes m known)
      ∙ either_object (nat_eq m h) (map (address_in (places variant.Node s))) nodes (sequence s.sequences m)
  object_set _ m = refl

  pub with_nodes_shown : Tells s list variant.List h → shown_heap relinked ≡ with_nodes list (map (address_in (places variant.Node s)) nodes) (shown_heap s)
  unfolding with_nodes
  with_nodes_shown told = object_replaced s relinked list relinked_list variant.List h object_set told refl
