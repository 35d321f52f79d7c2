-- How many tasks there are is read by nothing that a word makes of the memory, and stays as it is.
use Rattle.std.proofs.Common.{◌≡◌, ◌∙◌, ℕ, Bool, true, false, not, ◌&&◌, if◌then◌else◌, List, [], ◌∷◌, Option, None, Some, length, nat_eq, is_some, unwrap_or, refl, ap, w32}
use Rattle.std.specs.List.{range_with_len}
use Rattle.execlib.specs.Libraries.{public_memory}
use Rattle.script.specs.{declared.word.lists.ListWord.ListWord, declared.word.memory.MemoryWord.MemoryWord}
use Rattle.script.specs.declared.word.lists.ListWord.TheVariants as lists
use Rattle.script.specs.declared.word.memory.MemoryWord.TheVariants as memory
use Rattle.std.specs.Int.{cast_signed}
use Rattle.script.specs.declared.alert.Alert.{Alert}
use Rattle.execmodel.specs.State.{Call, Object, ListHead, Node, Plain, Memory}
use Rattle.execmodel.specs.{Calls.argument, Calls.name_argument, Lists.list_size, Lists.node_size, Deeds.Deed, Deeds.allots, Places.place_for, Places.placed, Objects.is_allowed, Objects.place_for_object, Loaded.base_of, Loaded.count_of, Loaded.after_expunge, LowMemory.gives_way_at, LowMemory.gives_way, LowMemory.asked_one, LowMemory.asked_each, LowMemory.after_asking, LowMemory.after_asking_for_object, Libraries.library_at, Libraries.library_to_open, Libraries.ready_to_load, Libraries.ready_to_open, Libraries.base_opened, Libraries.base_or_place, Libraries.opening, Libraries.entered_or_loaded, Libraries.library_opened, Libraries.opened, Libraries.closed, Libraries.is_delayed, Ports.after_asking_for_port, Ports.is_port, Ports.port_size, Lists.list_deed, Memory.memory_deed}

module _ (k : ℕ) where
  -- a memory of that many tasks
  abbrev pub of_tasks : Memory → Memory
  of_tasks m = record m { tasks = k }

  -- a change of the memory that leaves their number as it is
  abbrev pub IsBlind : (Memory → Memory) → Type 0
  IsBlind f = (m : Memory) → f (of_tasks m) ≡ of_tasks (f m)

  either_way : (test : Bool) (m n p q : Memory) → p ≡ of_tasks m → q ≡ of_tasks n → (if test then p else q) ≡ of_tasks (if test then m else n)
  either_way true m n p q one other = one
  either_way false m n p q one other = other

  pub placed_blind : (size : ℕ) (object : Object) (place : Option ℕ) → IsBlind (placed size object place)
  placed_blind size object None m = refl
  placed_blind size object (Some address) m = refl

  pub place_same : (kind : Object → Bool) (size : ℕ) (m : Memory) → place_for_object kind size (of_tasks m) ≡ place_for_object kind size m
  unfolding place_for_object
  place_same kind size m = refl

  pub removed_blind : (base : ℕ) → IsBlind (after_expunge base)
  unfolding after_expunge
  removed_blind base m = either_way (nat_eq (count_of base m.heap) 0) _ _ _ _ refl refl

  given_way_blind : (found : Option ℕ) → IsBlind (gives_way_at found)
  given_way_blind None m = refl
  given_way_blind (Some base) m = removed_blind base m

  gives_way_blind : (i : ℕ) → IsBlind (gives_way i)
  unfolding gives_way
  gives_way_blind i m = given_way_blind (base_of i m.heap) m

  one_blind : (size reqs i : ℕ) → IsBlind (asked_one size reqs i)
  one_blind size reqs i m = either_way (is_some (place_for size reqs m)) _ _ _ _ refl (gives_way_blind i m)

  each_blind : (size reqs : ℕ) (list : List ℕ) → IsBlind (asked_each size reqs list)
  each_blind size reqs [] m = refl
  each_blind size reqs (i ∷ others) m = ap (asked_each size reqs others) (one_blind size reqs i m) ∙ each_blind size reqs others (asked_one size reqs i m)

  pub asking_blind : (size reqs : ℕ) → IsBlind (after_asking size reqs)
  unfolding after_asking
  asking_blind size reqs m =
      either_way (m.asks && not (nat_eq size 0)) _ _ _ _ (each_blind size reqs (range_with_len 0 (length m.libraries)) m) refl

  pub asking_for_object_blind : (kind : Object → Bool) (size : ℕ) → IsBlind (after_asking_for_object kind size)
  unfolding after_asking_for_object
  asking_for_object_blind kind size m = either_way (is_allowed kind m) _ _ _ _ (asking_blind size public_memory m) refl

  pub asking_for_port_blind : (bit : Option ℕ) → IsBlind (after_asking_for_port bit)
  asking_for_port_blind None m = refl
  asking_for_port_blind (Some bit) m = asking_for_object_blind is_port port_size m

  load_blind : (found : Option ℕ) (i : ℕ) → IsBlind (ready_to_load found i)
  load_blind None i m = asking_blind (library_at i m).size public_memory m
  load_blind (Some base) i m = refl

  ready_blind : (found : Option ℕ) → IsBlind (ready_to_open found)
  unfolding ready_to_open
  ready_blind None m = refl
  ready_blind (Some i) m = load_blind (base_of i m.heap) i m

  base_same : (found : Option ℕ) (m : Memory) → base_opened found (of_tasks m) ≡ base_opened found m
  base_same None m = refl
  base_same (Some i) m = by_base (base_of i m.heap)
    where
      by_base : (base : Option ℕ) → base_or_place base i (of_tasks m) ≡ base_or_place base i m
      by_base None = refl
      by_base (Some base) = refl

  pub opening_same : (name : List ℕ) (version : ℕ) (m : Memory) → opening name version (of_tasks m) ≡ opening name version m
  unfolding opening
  opening_same name version m =
      let found = library_to_open name version m in
      ap (base_opened found) (ready_blind found m) ∙ base_same found (ready_to_open found m)

  entered_blind : (base : Option ℕ) (i : ℕ) → IsBlind (entered_or_loaded base i)
  entered_blind (Some base) i m = refl
  entered_blind None i m = placed_blind _ _ _ m

  library_opened_blind : (found : Option ℕ) → IsBlind (library_opened found)
  library_opened_blind None m = refl
  library_opened_blind (Some i) m = entered_blind (base_of i m.heap) i m

  pub opened_blind : (name : List ℕ) (version : ℕ) → IsBlind (opened name version)
  unfolding opened
  opened_blind name version m =
      let found = library_to_open name version m in
      ap (library_opened found) (ready_blind found m) ∙ library_opened_blind found (ready_to_open found m)

  pub closed_blind : (base : ℕ) → IsBlind (closed base)
  unfolding closed
  closed_blind base m = either_way (nat_eq (count_of base m.heap) 1 && is_delayed base m.heap) _ _ _ _ refl refl

  -- ---- words that are values

  pub record BlindDeed (deed : Deed) : Type 0 where
    pub alert : (m : Memory) → deed.alert (of_tasks m) ≡ deed.alert m
    pub heap : (m : Memory) → deed.heap (of_tasks m) ≡ deed.heap m
    pub answer : (m : Memory) → deed.answer (of_tasks m) ≡ deed.answer m

  allots_blind : (alert : Option Alert) (asked : Memory → Memory) (place : Memory → Option ℕ) (size : ℕ) (object : Object) → IsBlind asked
      → ((m : Memory) → place (of_tasks m) ≡ place m) → BlindDeed (allots alert asked place size object)
  allots_blind alert asked place size object blind same = record {
    alert = λ m. refl;
    heap = λ m. ap (λ (n : Memory). n.heap)
        (ap (λ (n : Memory). placed size object (place n) n) (blind m)
        ∙ ap (λ found. placed size object found (of_tasks (asked m))) (same (asked m)) ∙ placed_blind size object (place (asked m)) (asked m));
    answer = λ m. ap (λ found. Some (unwrap_or found 0)) (ap place (blind m) ∙ same (asked m));
  }

  pub list_blind : (word : ListWord) (call : Call) → BlindDeed (list_deed word call)
  unfolding list_deed
  list_blind lists.NewList call = allots_blind _ _ _ list_size (ListHead []) (asking_for_object_blind _ _) (place_same _ _)
  list_blind lists.NewNode call =
      let node = Node (record { pri = cast_signed w32 (argument 0 call); name = name_argument 1 call }) in
      allots_blind _ _ _ node_size node (asking_for_object_blind _ _) (place_same _ _)
  list_blind _ call = record { alert = λ m. refl; heap = λ m. refl; answer = λ m. refl }

  pub memory_blind : (word : MemoryWord) (call : Call) → BlindDeed (memory_deed word call)
  unfolding memory_deed
  memory_blind memory.AllocMem call =
      allots_blind _ (after_asking (argument 0 call) (argument 1 call)) (place_for (argument 0 call) (argument 1 call)) (argument 0 call) Plain (asking_blind (argument 0 call) (argument 1 call)) (λ m. refl)
  memory_blind memory.FreeMem call = record { alert = λ m. refl; heap = λ m. refl; answer = λ m. refl }
  memory_blind memory.AvailMem call = record { alert = λ m. refl; heap = λ m. refl; answer = λ m. refl }
