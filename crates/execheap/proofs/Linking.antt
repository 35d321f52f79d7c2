-- Nodes linked and unlinked: what it makes of numbered objects is what it makes of those that are shown.
use Rattle.std.proofs.Common.{◌≡◌, ℕ, ◌-◌, ◌<◌, List, [], ◌∷◌, ◌++◌, map, length, take, drop, slice_set, refl, ap, sym, ◌∙◌, arith, ℤ, Some, None, Option, is_some, if◌then◌else◌, unwrap_or, option_map, IsSome, find}
use Rattle.std.specs.{Option.ForSome, List.AllByRecursion}
use Rattle.std.proofs.lemmas.{Simd.map-map, List.map-append}
use Rattle.execlist.specs.Lists.{KeyData, home, is_at, is_named, last, name_is, part_after, part_before, part_from, pri_of, put_after, sequence, key_at}
use Rattle.execlist.specs.{Order.enqueue, Order.first, Order.without_item, Pool.slot}
use Rattle.memlist.specs.Memory.{IsWellFormed}
use Rattle.execmodel.specs.Lists.{added_head, added_tail, enqueued, found_node, first_of, has_name, inserted, key_of, last_of, left_by, nodes_of, or_none, pred_of, predecessor, removed_head, removed_tail, searched, succ_of, unlinked, with_nodes}
use Rattle.execmodel.specs.State.{Object, ListHead, Block, Heap, on_heap}
use Rattle.execheap.specs.Numbered.{IsSoundHeap, IsSpace, Numbered, address_in, object_of, places, shown_entry, shown_heap, shown_memory, shown_tagged}
use Rattle.execheap.specs.{declared.tag.Kind.Kind, declared.tag.Tagged.Tagged, Tags.tagged}
use Rattle.execheap.specs.declared.tag.Kind.TheVariants as variant
use Rattle.execheap.specs.declared.tag.Tagged.TheVariants as tag
use Rattle.execheap.specs.Changes as numbered
use Rattle.execheap.proofs.Mapped.{all_of_part_after, enqueue-map, find-map, first-map, last-map, members, part_after-map, part_before-map, put_after-map, without-map, without_absent, without_first-map, without_last-map}
use Rattle.execheap.proofs.{Entries.all_then, Linked.sequence_shown, Linked.some_is, Linked.stands_at, Linked.standing_lives, Linked.told_apart, Relisted.sequence_set, Relisted.with_nodes_shown, Tagging.either_number, Matching.number_live, Shown.key_shown, Shown.nodes_shown, Shown.tells}
use Rattle.execlist.proofs.Pools.{slot_known}
use Rattle.memlist.proofs.Answered.{nat_eq-other}
use Rattle.std.proofs.Math.Path.{fun_ext}

heap_set : (s : Numbered) (sequences : List (List ℕ)) (homes : List (Option ℕ)) (heap : Heap)
    → shown_heap (record s { sequences = sequences; homes = homes }) ≡ heap
    → shown_memory (record s { sequences = sequences; homes = homes }) ≡ on_heap (λ old. heap) (shown_memory s)
heap_set s sequences homes heap is = λ i. record (shown_memory s) { heap = is i }

module _ {s : Numbered} (sound : IsSoundHeap s) (space : IsSpace s) where
  -- ---- nodes of a live list

  pub nodes_at : (h list : ℕ) → slot (places variant.List s) h ≡ Some list → nodes_of list (shown_heap s) ≡ map (address_in (places variant.Node s)) (sequence s.sequences h)
  nodes_at h list live = nodes_shown s list h (number_live sound.table variant.List h list live)

  address_is : (n node : ℕ) → slot (places variant.Node s) n ≡ Some node → address_in (places variant.Node s) n ≡ node
  address_is n node live = ap (λ o. unwrap_or o 0) live

  key_at_address : (n : ℕ) → IsSome (slot (places variant.Node s) n) → key_of (address_in (places variant.Node s) n) (shown_heap s) ≡ key_at s.keys n
  key_at_address n live =
      let a = some_is (slot (places variant.Node s) n) live in
      ap (λ x. key_of x (shown_heap s)) (address_is n a.0 a.1) ∙ key_shown s a.0 n (number_live sound.table variant.Node n a.0 a.1)

  all_live : (h : ℕ) → AllByRecursion (λ n. IsSome (slot (places variant.Node s) n)) (sequence s.sequences h)
  all_live h = members (λ n. IsSome (slot (places variant.Node s) n)) (sequence s.sequences h) (λ n stands. standing_lives sound space h n stands)

  list_known : (h list : ℕ) → slot (places variant.List s) h ≡ Some list → h < length s.sequences
  list_known h list live = omega (arith, slot_known (places variant.List s) h list live, sound.table.each variant.List, sound.kept.each_list)

  -- ---- what is looked at

  pub first_shown : (h list : ℕ) → slot (places variant.List s) h ≡ Some list → first_of list (shown_heap s) ≡ or_none (option_map (address_in (places variant.Node s)) (first (sequence s.sequences h)))
  unfolding first_of
  first_shown h list live = ap (λ nodes. or_none (first nodes)) (nodes_at h list live) ∙ ap or_none (first-map (address_in (places variant.Node s)) (sequence s.sequences h))

  pub last_shown : (h list : ℕ) → slot (places variant.List s) h ≡ Some list → last_of list (shown_heap s) ≡ or_none (option_map (address_in (places variant.Node s)) (last (sequence s.sequences h)))
  unfolding last_of
  last_shown h list live = ap (λ nodes. or_none (last nodes)) (nodes_at h list live) ∙ ap or_none (last-map (address_in (places variant.Node s)) (sequence s.sequences h))

  pub succ_shown : (h n node : ℕ) → slot (places variant.Node s) n ≡ Some node → home s.homes n ≡ Some h
      → succ_of node (shown_heap s) ≡ or_none (option_map (address_in (places variant.Node s)) (first (part_after n (sequence s.sequences h))))
  unfolding succ_of
  succ_shown h n node live there =
      ap (λ nodes. or_none (first (part_after node nodes))) (sequence_shown sound space n node h live there)
      ∙ ap (λ a. or_none (first (part_after a (map (address_in (places variant.Node s)) (sequence s.sequences h))))) (sym (address_is n node live))
      ∙ ap (λ nodes. or_none (first nodes)) (part_after-map (address_in (places variant.Node s)) n (sequence s.sequences h) (told_apart sound space h n node live))
      ∙ ap or_none (first-map (address_in (places variant.Node s)) (part_after n (sequence s.sequences h)))

  pub pred_shown : (h n node : ℕ) → slot (places variant.Node s) n ≡ Some node → home s.homes n ≡ Some h
      → pred_of node (shown_heap s) ≡ or_none (option_map (address_in (places variant.Node s)) (last (part_before n (sequence s.sequences h))))
  unfolding pred_of
  pred_shown h n node live there =
      ap (λ nodes. or_none (last (part_before node nodes))) (sequence_shown sound space n node h live there)
      ∙ ap (λ a. or_none (last (part_before a (map (address_in (places variant.Node s)) (sequence s.sequences h))))) (sym (address_is n node live))
      ∙ ap (λ nodes. or_none (last nodes)) (part_before-map (address_in (places variant.Node s)) n (sequence s.sequences h) (told_apart sound space h n node live))
      ∙ ap or_none (last-map (address_in (places variant.Node s)) (part_before n (sequence s.sequences h)))

  all_named : (name : List ℕ) (h : ℕ) → AllByRecursion (λ n. has_name name (shown_heap s) (address_in (places variant.Node s) n) ≡ is_named s.keys name n) (sequence s.sequences h)
  all_named name h = all_then (λ n live. ap (λ (key : KeyData). name_is key.name name) (key_at_address n live)) (sequence s.sequences h) (all_live h)

  all_from : (P : ℕ → Type 0) (after : Option ℕ) (xs : List ℕ) → AllByRecursion P xs → AllByRecursion P (part_from after xs)
  all_from P None xs all = all
  all_from P (Some n) xs all = all_of_part_after P n xs all

  pub found_shown : (name : List ℕ) (start h : ℕ) (after : Option ℕ)
      → searched start (shown_heap s) ≡ map (address_in (places variant.Node s)) (part_from after (sequence s.sequences h))
      → found_node start name (shown_heap s) ≡ or_none (option_map (address_in (places variant.Node s)) (find (is_named s.keys name) (part_from after (sequence s.sequences h))))
  unfolding found_node
  found_shown name start h after is =
      ap (λ nodes. or_none (find (has_name name (shown_heap s)) nodes)) is
      ∙ ap or_none (find-map (address_in (places variant.Node s)) (has_name name (shown_heap s)) (is_named s.keys name) (part_from after (sequence s.sequences h))
      (all_from (λ n. has_name name (shown_heap s) (address_in (places variant.Node s) n) ≡ is_named s.keys name n) after (sequence s.sequences h) (all_named name h)))

  module _ (formed : IsWellFormed s.table.memory.regions s.table.memory.blocks) where
    -- ---- a list whose nodes change

    relinked : (homes : List (Option ℕ)) (h list : ℕ) (nodes : List ℕ) → slot (places variant.List s) h ≡ Some list
        → shown_memory (record s { sequences = slice_set s.sequences h nodes; homes = homes })
        ≡ on_heap (with_nodes list (map (address_in (places variant.Node s)) nodes)) (shown_memory s)
    relinked homes h list nodes live =
        heap_set s (slice_set s.sequences h nodes) homes (with_nodes list (map (address_in (places variant.Node s)) nodes) (shown_heap s))
        (with_nodes_shown s homes h list nodes (list_known h list live) (tells sound.table formed variant.List h list live))

    -- the same nodes by address, whatever was said of them
    pub linked_shown : (h n list : ℕ) (nodes : List ℕ) (shown : Heap → List ℕ) → slot (places variant.List s) h ≡ Some list → shown (shown_heap s) ≡ map (address_in (places variant.Node s)) nodes
        → shown_memory (numbered.linked h n nodes s) ≡ on_heap (λ heap. with_nodes list (shown heap) heap) (shown_memory s)
    linked_shown h n list nodes shown live is =
        relinked (slice_set s.homes n (Some h)) h list nodes live
        ∙ ap (λ nodes. on_heap (with_nodes list nodes) (shown_memory s)) (sym is)

    pub at_head_shown : (h n list node : ℕ) → slot (places variant.List s) h ≡ Some list → slot (places variant.Node s) n ≡ Some node
        → shown_memory (numbered.at_head h n s) ≡ on_heap (added_head list node) (shown_memory s)
    unfolding added_head
    at_head_shown h n list node live here = linked_shown h n list (n ∷ sequence s.sequences h) (λ heap. node ∷ nodes_of list heap) live
        (ap (λ nodes. node ∷ nodes) (nodes_at h list live) ∙ ap (λ a. a ∷ map (address_in (places variant.Node s)) (sequence s.sequences h)) (sym (address_is n node here)))

    pub at_tail_shown : (h n list node : ℕ) → slot (places variant.List s) h ≡ Some list → slot (places variant.Node s) n ≡ Some node
        → shown_memory (numbered.at_tail h n s) ≡ on_heap (added_tail list node) (shown_memory s)
    unfolding added_tail
    at_tail_shown h n list node live here = linked_shown h n list (sequence s.sequences h ++ n ∷ []) (λ heap. nodes_of list heap ++ node ∷ []) live
        (ap (λ nodes. nodes ++ node ∷ []) (nodes_at h list live)
        ∙ ap (λ a. map (address_in (places variant.Node s)) (sequence s.sequences h) ++ a ∷ []) (sym (address_is n node here))
        ∙ sym (map-append (address_in (places variant.Node s)) (sequence s.sequences h) (n ∷ [])))

    pub queued_shown : (h n list node : ℕ) → slot (places variant.List s) h ≡ Some list → slot (places variant.Node s) n ≡ Some node
        → shown_memory (numbered.queued h n s) ≡ on_heap (enqueued list node) (shown_memory s)
    unfolding enqueued
    queued_shown h n list node live here =
        let pri : ℕ → ℤ = λ other. (key_of other (shown_heap s)).pri in
        linked_shown h n list (enqueue (pri_of s.keys) (sequence s.sequences h) n) (λ heap. enqueue (λ other. (key_of other heap).pri) (nodes_of list heap) node) live
        (ap (λ nodes. enqueue pri nodes node) (nodes_at h list live)
        ∙ ap (λ a. enqueue pri (map (address_in (places variant.Node s)) (sequence s.sequences h)) a) (sym (address_is n node here))
        ∙ enqueue-map (address_in (places variant.Node s)) pri (pri_of s.keys) (sequence s.sequences h) n
        (all_then (λ m there. ap (λ (key : KeyData). key.pri) (key_at_address m there)) (sequence s.sequences h) (all_live h))
        (ap (λ (key : KeyData). key.pri) (key_at_address n (ap is_some here))))

    pub put_shown : (h n list node pred : ℕ) (p : Option ℕ) → slot (places variant.List s) h ≡ Some list → slot (places variant.Node s) n ≡ Some node
        → option_map (address_in (places variant.Node s)) p ≡ predecessor pred → ForSome p (λ m. IsSome (slot (places variant.Node s) m))
        → shown_memory (numbered.put h n p s) ≡ on_heap (inserted list node pred) (shown_memory s)
    unfolding inserted
    put_shown h n list node pred p live here is there = linked_shown h n list (put_after p n (sequence s.sequences h)) (λ heap. put_after (predecessor pred) node (nodes_of list heap)) live
        (ap (λ nodes. put_after (predecessor pred) node nodes) (nodes_at h list live)
        ∙ ap (λ a. put_after (predecessor pred) a (map (address_in (places variant.Node s)) (sequence s.sequences h))) (sym (address_is n node here))
        ∙ ap (λ q. put_after q (address_in (places variant.Node s) n) (map (address_in (places variant.Node s)) (sequence s.sequences h))) (sym is)
        ∙ put_after-map (address_in (places variant.Node s)) p n (sequence s.sequences h)
        (λ m e. let a = some_is (slot (places variant.Node s) m) (there m e) in told_apart sound space h m a.0 a.1))

    -- ---- a node leaves a list

    taken : (h list : ℕ) (n : Option ℕ) (nodes : List ℕ) → slot (places variant.List s) h ≡ Some list
        → shown_memory (numbered.unlinked h n nodes s) ≡ on_heap (with_nodes list (map (address_in (places variant.Node s)) nodes)) (shown_memory s)
    taken h list None nodes live = relinked s.homes h list nodes live
    taken h list (Some n) nodes live = relinked (slice_set s.homes n None) h list nodes live

    pub head_taken_shown : (h list : ℕ) → slot (places variant.List s) h ≡ Some list → shown_memory (numbered.head_taken h s) ≡ on_heap (removed_head list) (shown_memory s)
    unfolding removed_head
    head_taken_shown h list live = taken h list (first (sequence s.sequences h)) (drop 1 (sequence s.sequences h)) live
        ∙ ap (λ nodes. on_heap (with_nodes list nodes) (shown_memory s))
        (sym (ap (drop 1) (nodes_at h list live) ∙ without_first-map (address_in (places variant.Node s)) (sequence s.sequences h)))

    pub tail_taken_shown : (h list : ℕ) → slot (places variant.List s) h ≡ Some list → shown_memory (numbered.tail_taken h s) ≡ on_heap (removed_tail list) (shown_memory s)
    unfolding removed_tail
    tail_taken_shown h list live = taken h list (last (sequence s.sequences h)) (take (length (sequence s.sequences h) - 1) (sequence s.sequences h)) live
        ∙ ap (λ nodes. on_heap (with_nodes list nodes) (shown_memory s))
        (sym (ap (λ nodes. take (length nodes - 1) nodes) (nodes_at h list live) ∙ without_last-map (address_in (places variant.Node s)) (sequence s.sequences h)))

    -- ---- a node leaves the list that has it

    -- leaving a node out of every list takes it from the one that has it
    sequence_without : (n h : ℕ) → home s.homes n ≡ Some h → (m : ℕ) → sequence (slice_set s.sequences h (without_item n (sequence s.sequences h))) m ≡ without_item n (sequence s.sequences m)
    sequence_without n h there m =
        sequence_set s.sequences h (without_item n (sequence s.sequences h)) m (let list = some_is (slot (places variant.List s) h) (sound.kept.live_lists n h there) in list_known h list.0 list.1)
        ∙ either_number m h (λ b. (if b then without_item n (sequence s.sequences h) else sequence s.sequences m) ≡ without_item n (sequence s.sequences m))
        (λ same. ap (λ k. without_item n (sequence s.sequences k)) (sym same))
        (λ other. sym (without_absent n (sequence s.sequences m) (stands_at sound space m n ∙ ap (λ o. is_at o m) there ∙ nat_eq-other h m (λ same. other (sym same)))))

    -- the objects once a node has left its list
    abbrev emptied : ℕ → ℕ → Numbered
    emptied n h = numbered.unlinked h (Some n) (without_item n (sequence s.sequences h)) s

    object_without : (n node h : ℕ) → slot (places variant.Node s) n ≡ Some node → home s.homes n ≡ Some h → (k : Kind) (m : ℕ)
        → object_of k m (emptied n h) ≡ left_by node (object_of k m s)
    object_without n node h live there variant.List m =
        ap (λ nodes. ListHead (map (address_in (places variant.Node s)) nodes)) (sequence_without n h there m)
        ∙ ap ListHead (sym (without-map (address_in (places variant.Node s)) n (sequence s.sequences m) (told_apart sound space m n node live)))
        ∙ ap (λ a. ListHead (without_item a (map (address_in (places variant.Node s)) (sequence s.sequences m)))) (address_is n node live)
    object_without n node h live there _ m = refl

    shown_without : (n node h : ℕ) → slot (places variant.Node s) n ≡ Some node → home s.homes n ≡ Some h → (x : Tagged)
        → shown_tagged (emptied n h) x ≡ left_by node (shown_tagged s x)
    shown_without n node h live there (tag.Object k m) = object_without n node h live there k m
    shown_without n node h live there _ = refl

    emptied_shown : (n node h : ℕ) → slot (places variant.Node s) n ≡ Some node → home s.homes n ≡ Some h → shown_heap (emptied n h) ≡ unlinked node (shown_heap s)
    unfolding shown_heap unlinked
    emptied_shown n node h live there =
        ap (λ (f : ℕ × (ℕ × ℕ) → ℕ × Block). map f s.table.memory.blocks)
        (fun_ext (λ (entry : ℕ × (ℕ × ℕ)). ap (λ (object : Object). (entry.0, record { size = entry.1.0; object = object })) (shown_without n node h live there (tagged entry.1.1))))
        ∙ sym (map-map (λ (entry : ℕ × Block). (entry.0, record entry.1 { object = left_by node entry.1.object })) (shown_entry s) s.table.memory.blocks)

    pub taken_out_shown : (n node h : ℕ) → slot (places variant.Node s) n ≡ Some node → home s.homes n ≡ Some h
        → shown_memory (numbered.taken_out n s) ≡ on_heap (unlinked node) (shown_memory s)
    taken_out_shown n node h live there =
        ap (λ o. shown_memory (numbered.left_out n o s)) there
        ∙ heap_set s (slice_set s.sequences h (without_item n (sequence s.sequences h))) (slice_set s.homes n None) (unlinked node (shown_heap s))
        (emptied_shown n node h live there)

-- a node that leaves a list keeps its address
pub unlinked_table : (h : ℕ) (n : Option ℕ) (nodes : List ℕ) (s : Numbered) → (numbered.unlinked h n nodes s).table ≡ s.table
unlinked_table h None nodes s = refl
unlinked_table h (Some n) nodes s = refl
