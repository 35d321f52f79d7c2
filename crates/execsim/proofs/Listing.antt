-- How the machine follows the words of lists and nodes.
use Rattle.std.proofs.Common.{◌≡◌, ℕ, [], Bool, false, true, Option, None, Some, List, refl, ap, sym, ◌∙◌, Result, Ok, Err, IfOk, OnOk, OnErr, codes, w32, unwrap_or}
use Rattle.std.specs.Int.{cast_signed}
use Rattle.execmodel.specs.{State.Call, State.Heap, State.ListHead, State.Memory, State.Node, State.Object, State.State, State.Outcome, State.on_memory, Calls.Caller, Calls.ByTask, Calls.unless, Calls.unless_by, Calls.argument, Calls.name_argument, Calls.done, Calls.answered, Calls.alerted, Calls.alerted_by, Memory.allocates_block, Memory.makes_object, Memory.placed, LowMemory.after_asking_for_object, Objects.place_for_object, Deeds.makes, Lists.does_lists, Lists.is_list, Lists.is_node, Lists.list_deed, Lists.list_size, Lists.new_node_alert, Lists.node_size, Tasks.is_priority}
use Rattle.script.specs.declared.word.lists.ListWord.TheVariants as lists
use Rattle.execmodel.proofs.Deeds.{making}
use Rattle.execheap.specs.{declared.refusal.Refusal.Refusal, Refusals.alert_of, Refusals.code_of}
use Rattle.execsim.specs.{Agreement.Seen, Agreement.Follows, Agreement.queues_in_order, Endings.done_or_alerted, Endings.answered_or_alerted}
use Rattle.execsim.proofs.{Allocating.placed-in_order, Following.reads_memory, Following.moves_memory, Following.follows_as, Following.follows_change, LowMemory.asking_for_object-in_order}
use Rattle.exectrace.specs.Hearing.{Hearing}
use Rattle.script.specs.declared.alert.Alert.TheVariants as an_alert
use Rattle.script.specs.declared.alert.Alert.{Alert}

-- ---- calls that may be refused

module _ {H : Hearing} {m o : Seen} {a b : H.Told} (c : Caller) (call : Call) (alert : Memory → Option Alert) (blind : (y : Memory) → alert (queues_in_order y) ≡ alert y) where
  -- a refused call ends in its alert, whoever makes it
  pub follows_refused_by : (effect : State → Outcome) (why : Refusal) → Some (code_of why) ≡ alert m.memory
      → Follows H (alerted_by (code_of why) c call) m o a b → Follows H (λ s. unless_by (alert s.memory) c call effect s) m o a b
  follows_refused_by effect why says follows = follows_as
      {g = alerted_by (code_of why) c call}
      (λ s e. let same : alert s.memory ≡ Some (code_of why) = reads_memory alert blind (sym says) s e in rw same refl)
      follows

  -- a call that is not refused has its effect
  pub follows_allowed_by : (effect : State → Outcome) → None ≡ alert m.memory → Follows H effect m o a b
      → Follows H (λ s. unless_by (alert s.memory) c call effect s) m o a b
  follows_allowed_by effect says follows = follows_as
      {g = effect}
      (λ s e. let same : alert s.memory ≡ None = reads_memory alert blind (sym says) s e in rw same refl)
      follows

module _ {H : Hearing} {m o : Seen} {a b : H.Told} (t : ℕ) (call : Call) (alert : Memory → Option Alert) (blind : (y : Memory) → alert (queues_in_order y) ≡ alert y) where
  pub follows_refused : (effect : State → Outcome) (why : Refusal) → Some (code_of why) ≡ alert m.memory
      → Follows H (alerted (code_of why) t call) m o a b → Follows H (λ s. unless (alert s.memory) t call effect s) m o a b
  follows_refused = follows_refused_by (ByTask t) call alert blind

  pub follows_allowed : (effect : State → Outcome) → None ≡ alert m.memory → Follows H effect m o a b
      → Follows H (λ s. unless (alert s.memory) t call effect s) m o a b
  follows_allowed = follows_allowed_by (ByTask t) call alert blind

  -- a call that answers nothing changes the memory, or is refused
  pub follows_changed : (next seen : Memory → Memory) → ((y : Memory) → seen (queues_in_order y) ≡ queues_in_order (next y)) → (x : Memory)
      (result : Result (Unit {0}) Refusal) → alert_of result ≡ alert m.memory → OnOk result (x ≡ seen m.memory) → OnErr result (x ≡ m.memory)
      → Follows H (done_or_alerted result t call) (record m { memory = x }) o a b
      → Follows H (λ s. unless (alert s.memory) t call (λ s. done t call (on_memory next s)) s) m o a b
  follows_changed next seen commutes x (Ok nothing) says changed kept follows =
      follows_allowed (λ s. done t call (on_memory next s)) says
      (follows_change (moves_memory next seen commutes (rw changed refl)) follows)
  follows_changed next seen commutes x (Err why) says changed kept follows =
      follows_refused (λ s. done t call (on_memory next s)) why says (rw kept at follows)

  -- a call that answers what it read, and then changes the memory, or is refused
  pub follows_taken : (answer : Memory → ℕ) → ((y : Memory) → answer (queues_in_order y) ≡ answer y) → (next : Memory → Memory)
      → ((y : Memory) → next (queues_in_order y) ≡ queues_in_order (next y)) → (x : Memory) (result : Result ℕ Refusal)
      → alert_of result ≡ alert m.memory → IfOk result (λ value. value ≡ answer m.memory) → OnOk result (x ≡ next m.memory)
      → OnErr result (x ≡ m.memory) → Follows H (answered_or_alerted result t call) (record m { memory = x }) o a b
      → Follows H (λ s. unless (alert s.memory) t call (λ s. answered t call (answer s.memory) (on_memory next s)) s) m o a b
  follows_taken answer same next commutes x (Ok value) says tells changed kept follows =
      follows_allowed (λ s. answered t call (answer s.memory) (on_memory next s)) says (follows_as
      {g = λ s. answered t call value (on_memory next s)}
      (λ s e. ap (λ v. answered t call v (on_memory next s)) (reads_memory answer same (sym tells) s e))
      (follows_change (moves_memory next next commutes (rw changed refl)) follows))
  follows_taken answer same next commutes x (Err why) says tells changed kept follows =
      follows_refused (λ s. answered t call (answer s.memory) (on_memory next s)) why says (rw kept at follows)

  -- a call that answers what it reads, or is refused
  pub follows_read : (answer : Memory → ℕ) → ((y : Memory) → answer (queues_in_order y) ≡ answer y) → (result : Result ℕ Refusal)
      → alert_of result ≡ alert m.memory → IfOk result (λ value. value ≡ answer m.memory)
      → Follows H (answered_or_alerted result t call) m o a b → Follows H (λ s. unless (alert s.memory) t call (λ s. answered t call (answer s.memory) s) s) m o a b
  follows_read answer same (Ok value) says tells follows =
      follows_allowed (λ s. answered t call (answer s.memory) s) says (follows_as
      {g = answered t call value}
      (λ s e. ap (λ v. answered t call v s) (reads_memory answer same (sym tells) s e))
      follows)
  follows_read answer same (Err why) says tells follows = follows_refused (λ s. answered t call (answer s.memory) s) why says follows

-- the same of an alert and an answer that read the blocks alone
module _ {H : Hearing} {m o : Seen} {a b : H.Told} (t : ℕ) (call : Call) (alert : Heap → Option Alert) where
  pub heap_changed : (next : Memory → Memory) → ((y : Memory) → next (queues_in_order y) ≡ queues_in_order (next y)) → (x : Memory)
      (result : Result (Unit {0}) Refusal) → alert_of result ≡ alert m.memory.heap → OnOk result (x ≡ next m.memory) → OnErr result (x ≡ m.memory)
      → Follows H (done_or_alerted result t call) (record m { memory = x }) o a b
      → Follows H (λ s. unless (alert s.memory.heap) t call (λ s. done t call (on_memory next s)) s) m o a b
  heap_changed next commutes = follows_changed t call (λ memory. alert memory.heap) (λ y. refl) next next commutes

  pub heap_taken : (answer : Heap → ℕ) (next : Memory → Memory) → ((y : Memory) → next (queues_in_order y) ≡ queues_in_order (next y)) → (x : Memory)
      (result : Result ℕ Refusal) → alert_of result ≡ alert m.memory.heap → IfOk result (λ value. value ≡ answer m.memory.heap)
      → OnOk result (x ≡ next m.memory) → OnErr result (x ≡ m.memory) → Follows H (answered_or_alerted result t call) (record m { memory = x }) o a b
      → Follows H (λ s. unless (alert s.memory.heap) t call (λ s. answered t call (answer s.memory.heap) (on_memory next s)) s) m o a b
  heap_taken answer next commutes =
      follows_taken t call (λ memory. alert memory.heap) (λ y. refl) (λ memory. answer memory.heap) (λ y. refl) next commutes

  pub heap_read : (answer : Heap → ℕ) (result : Result ℕ Refusal) → alert_of result ≡ alert m.memory.heap
      → IfOk result (λ value. value ≡ answer m.memory.heap) → Follows H (answered_or_alerted result t call) m o a b
      → Follows H (λ s. unless (alert s.memory.heap) t call (λ s. answered t call (answer s.memory.heap) s) s) m o a b
  heap_read answer = follows_read t call (λ memory. alert memory.heap) (λ y. refl) (λ memory. answer memory.heap) (λ y. refl)

-- ---- objects made

-- where an object is placed does not depend on the order of the public ports
pub room-in_order : (kind : Object → Bool) (size : ℕ) (y : Memory) → place_for_object kind size (queues_in_order y) ≡ place_for_object kind size y
unfolding place_for_object
room-in_order kind size y = refl

module _ {H : Hearing} {m n o : Seen} {a b : H.Told} (t : ℕ) (call : Call) where
  -- an object is made if it fits, and the call answers the address that it got
  object_made : (kind : Object → Bool) (size : ℕ) (object : Object) (place : Option ℕ) → place ≡ place_for_object kind size m.memory
      → n ≡ record m { memory = placed size object place m.memory } → Follows H (answered t call (unwrap_or place 0)) n o a b
      → Follows H (makes_object t call kind size object) m o a b
  object_made kind size object place fits is follows = follows_as
      {g = allocates_block t call size object place}
      (λ s e.
      let same : place_for_object kind size s.memory ≡ place = reads_memory (place_for_object kind size) (room-in_order kind size) (sym fits) s e in
      rw same refl)
      (follows_change (moves_memory (placed size object place) (placed size object place) (placed-in_order size object place) is) follows)

module _ {H : Hearing} {m n o : Seen} {a b : H.Told} (t : ℕ) (call : Call) where
  -- libraries are asked for memory for an object, and then it is made
  pub follows_made : (kind : Object → Bool) (size : ℕ) (object : Object) (place : Option ℕ)
      → place ≡ place_for_object kind size (after_asking_for_object kind size m.memory)
      → n ≡ record m { memory = placed size object place (after_asking_for_object kind size m.memory) }
      → Follows H (answered t call (unwrap_or place 0)) n o a b
      → Follows H (λ s. makes_object t call kind size object (on_memory (after_asking_for_object kind size) s)) m o a b
  follows_made kind size object place fits is follows =
      follows_change (moves_memory {m = m} (after_asking_for_object kind size) (after_asking_for_object kind size)
      (asking_for_object-in_order kind size) refl)
      (object_made t call kind size object place fits is follows)

  pub list_made : (place : Option ℕ) → place ≡ place_for_object is_list list_size (after_asking_for_object is_list list_size m.memory)
      → n ≡ record m { memory = placed list_size (ListHead []) place (after_asking_for_object is_list list_size m.memory) }
      → Follows H (answered t call (unwrap_or place 0)) n o a b → Follows H (does_lists lists.NewList t call) m o a b
  unfolding list_deed
  list_made place fits is follows = follows_as
      {g = λ s. makes_object t call is_list list_size (ListHead []) (on_memory (after_asking_for_object is_list list_size) s)}
      (λ s e. making None is_list list_size (ListHead []) t call s)
      (follows_made is_list list_size (ListHead []) place fits is follows)

-- a node with the priority that the word is, read as a signed one, and with that name or none
abbrev node_asked : Call → Object
node_asked call = Node (record { pri = cast_signed w32 (argument 0 call); name = name_argument 1 call })

-- NewNode is that deed
new_node_is : (t : ℕ) (call : Call) (s : State) → does_lists lists.NewNode t call s
    ≡ unless (new_node_alert (cast_signed w32 (argument 0 call))) t call
    (λ s. makes_object t call is_node node_size (node_asked call) (on_memory (after_asking_for_object is_node node_size) s)) s
unfolding list_deed
new_node_is t call s = making (new_node_alert (cast_signed w32 (argument 0 call))) is_node node_size (node_asked call) t call s

module _ {H : Hearing} {m o : Seen} {a b : H.Told} (t : ℕ) (call : Call) where
  pub node_refused : is_priority (cast_signed w32 (argument 0 call)) ≡ false
      → Follows H (alerted an_alert.Value t call) m o a b → Follows H (does_lists lists.NewNode t call) m o a b
  node_refused outside follows = follows_as (λ s e. new_node_is t call s ∙ rw outside refl) follows

module _ {H : Hearing} {m n o : Seen} {a b : H.Told} (t : ℕ) (call : Call) where
  pub node_made : (place : Option ℕ) → is_priority (cast_signed w32 (argument 0 call)) ≡ true
      → place ≡ place_for_object is_node node_size (after_asking_for_object is_node node_size m.memory)
      → n ≡ record m { memory = placed node_size (node_asked call) place (after_asking_for_object is_node node_size m.memory) }
      → Follows H (answered t call (unwrap_or place 0)) n o a b → Follows H (does_lists lists.NewNode t call) m o a b
  node_made place inside fits is follows = follows_as
      {g = λ s. makes_object t call is_node node_size (node_asked call) (on_memory (after_asking_for_object is_node node_size) s)}
      (λ s e. new_node_is t call s ∙ rw inside refl)
      (follows_made t call is_node node_size (node_asked call) place fits is follows)
