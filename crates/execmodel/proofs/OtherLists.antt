-- Words on lists leave the blocks of all other objects as they are.
use Rattle.std.proofs.Common.{inl, ◌≡◌, ℕ, true, false, ◌≢◌, List, [], Option, None, Some, refl, sym, ap, ◌∙◌, option_map}
use Rattle.std.specs.Int.{cast_signed, w32}
use Rattle.script.specs.declared.word.lists.ListWord.{ListWord}
use Rattle.script.specs.declared.word.lists.ListWord.TheVariants as lists
use Rattle.execmodel.specs.State.{Call, Object, ListHead, Node, Block, State}
use Rattle.execmodel.specs.{Calls.argument, Calls.name_argument, Calls.answered, Calls.done, Deeds.performs, Libraries.is_library_at, Lists.is_list, Lists.is_node, Lists.is_list_at, Lists.is_node_at, Lists.list_size, Lists.node_size, Lists.left_by, Lists.with_nodes, Lists.new_node_alert, Lists.free_list_alert, Lists.free_node_alert, Lists.link_alert, Lists.linked_alert, Lists.list_alert, Lists.insert_alert, Lists.find_alert, Lists.does_lists, Lists.list_rules, Objects.object_at, Objects.is_kind, Places.block_at, Step.run, OtherBlocks.is_of_lists, OtherBlocks.ListWordsLeaveOtherBlocks}
use Rattle.execmodel.proofs.Libraries.{block_elsewhere, block_rid_there}
use Rattle.execmodel.proofs.OtherBlocks.{apart_by, Becomes, BecomesIn, refused_leaves, made_leaves}
use Rattle.execmodel.proofs.{Heaps.block_remade, Heaps.true_is_not_false, Commands.passed_first, Posts.IsTidy, NoStraysLaw.tidy_in_every_state}

list_is : (found : Option Object) → is_kind is_list found ≡ true → is_kind is_of_lists found ≡ true
list_is None is = is
list_is (Some (ListHead nodes)) is = refl
list_is (Some _) is = true_is_not_false (sym is)

node_is : (found : Option Object) → is_kind is_node found ≡ true → is_kind is_of_lists found ≡ true
node_is None is = is
node_is (Some (Node key)) is = refl
node_is (Some _) is = true_is_not_false (sym is)

-- no other object loses a node
other_left : (node : ℕ) (object : Object) → is_of_lists object ≡ false → left_by node object ≡ object
other_left node (ListHead nodes) apart = true_is_not_false apart
other_left node _ apart = refl

other_block : (node : ℕ) (found : Option Block) → is_kind is_of_lists (option_map (λ (block : Block). block.object) found) ≡ false
    → option_map (λ (block : Block). record block { object = left_by node block.object }) found ≡ found
other_block node None apart = refl
other_block node (Some block) apart = ap (λ (object : Object). Some (record block { object = object })) (other_left node block.object apart)

module _ (s : State) (tidy : IsTidy s) (a : ℕ) (none : is_library_at a s.memory.heap ≡ false)
    (apart : is_kind is_of_lists (object_at a s.memory.heap) ≡ false) where
  apart_list : (list : ℕ) → is_list_at list s.memory.heap ≡ true → a ≢ list
  unfolding is_list_at
  apart_list list is = apart_by is_of_lists a list s.memory.heap apart (list_is (object_at list s.memory.heap) is)

  relisted_leaves : (list : ℕ) (nodes : List ℕ) → is_list_at list s.memory.heap ≡ true
      → Becomes is_of_lists a s.memory.heap (with_nodes list nodes s.memory.heap)
  unfolding with_nodes
  relisted_leaves list nodes is = inl (block_elsewhere a list _ s.memory.heap (apart_list list is))

  list_leaves : (word : ListWord) (t : ℕ) (call : Call) → BecomesIn s tidy a none is_of_lists (does_lists word t call s).state
  unfolding performs list_rules answered done
  list_leaves lists.NewList t call = made_leaves s tidy a none is_of_lists is_list list_size (ListHead []) refl
  list_leaves lists.NewNode t call =
      let pri = cast_signed w32 (argument 0 call) in
      refused_leaves s tidy a none is_of_lists (new_node_alert pri) t call _
      (λ passes. made_leaves s tidy a none is_of_lists is_node node_size (Node (record { pri = pri; name = name_argument 1 call })) refl)
  list_leaves lists.FreeList t call =
      refused_leaves s tidy a none is_of_lists (free_list_alert (argument 0 call) s.memory.heap) t call _
      (λ passes. inl (block_rid_there a (argument 0 call) s.memory.heap
      (apart_list (argument 0 call) (passed_first (is_list_at (argument 0 call) s.memory.heap) _ _ passes).0)))
  list_leaves lists.FreeNode t call =
      refused_leaves s tidy a none is_of_lists (free_node_alert (argument 0 call) s.memory.heap) t call _
      (λ passes. inl (block_rid_there a (argument 0 call) s.memory.heap
      (apart_by is_of_lists a (argument 0 call) s.memory.heap apart
      (node_is (object_at (argument 0 call) s.memory.heap) (passed_first (is_node_at (argument 0 call) s.memory.heap) _ _ passes).0))))
  list_leaves lists.Remove t call =
      refused_leaves s tidy a none is_of_lists (linked_alert (argument 0 call) s.memory.heap) t call _
      (λ passes. inl (block_remade (λ k block. record block { object = left_by (argument 0 call) block.object }) a s.memory.heap
      ∙ other_block (argument 0 call) (block_at a s.memory.heap) apart))
  list_leaves lists.First t call = refused_leaves s tidy a none is_of_lists (list_alert (argument 0 call) s.memory.heap) t call _ (λ passes. inl refl)
  list_leaves lists.Last t call = refused_leaves s tidy a none is_of_lists (list_alert (argument 0 call) s.memory.heap) t call _ (λ passes. inl refl)
  list_leaves lists.Succ t call = refused_leaves s tidy a none is_of_lists (linked_alert (argument 0 call) s.memory.heap) t call _ (λ passes. inl refl)
  list_leaves lists.Pred t call = refused_leaves s tidy a none is_of_lists (linked_alert (argument 0 call) s.memory.heap) t call _ (λ passes. inl refl)
  list_leaves lists.FindName t call = refused_leaves s tidy a none is_of_lists (find_alert (argument 0 call) s.memory.heap) t call _ (λ passes. inl refl)
  list_leaves lists.AddHead t call =
      refused_leaves s tidy a none is_of_lists (link_alert (argument 0 call) (argument 1 call) s.memory.heap) t call _
      (λ passes. relisted_leaves (argument 0 call) _ (passed_first (is_list_at (argument 0 call) s.memory.heap) _ _ passes).0)
  list_leaves lists.AddTail t call =
      refused_leaves s tidy a none is_of_lists (link_alert (argument 0 call) (argument 1 call) s.memory.heap) t call _
      (λ passes. relisted_leaves (argument 0 call) _ (passed_first (is_list_at (argument 0 call) s.memory.heap) _ _ passes).0)
  list_leaves lists.Enqueue t call =
      refused_leaves s tidy a none is_of_lists (link_alert (argument 0 call) (argument 1 call) s.memory.heap) t call _
      (λ passes. relisted_leaves (argument 0 call) _ (passed_first (is_list_at (argument 0 call) s.memory.heap) _ _ passes).0)
  list_leaves lists.Insert t call =
      refused_leaves s tidy a none is_of_lists (insert_alert (argument 0 call) (argument 1 call) (argument 2 call) s.memory.heap) t call _
      (λ passes. relisted_leaves (argument 0 call) _ (passed_first (is_list_at (argument 0 call) s.memory.heap) _ _ passes).0)
  list_leaves lists.RemHead t call =
      refused_leaves s tidy a none is_of_lists (list_alert (argument 0 call) s.memory.heap) t call _
      (λ passes. relisted_leaves (argument 0 call) _ (passed_first (is_list_at (argument 0 call) s.memory.heap) _ _ passes).0)
  list_leaves lists.RemTail t call =
      refused_leaves s tidy a none is_of_lists (list_alert (argument 0 call) s.memory.heap) t call _
      (λ passes. relisted_leaves (argument 0 call) _ (passed_first (is_list_at (argument 0 call) s.memory.heap) _ _ passes).0)

pub list_words_leave_other_blocks : ListWordsLeaveOtherBlocks
list_words_leave_other_blocks word t call machine list is = record {
  others = λ a apart none. list_leaves (run machine list).state (tidy_in_every_state machine list is) a none apart word t call;
}
