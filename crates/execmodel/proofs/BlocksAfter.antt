-- What a call makes of the blocks of memory and of what begins there: one of a few things, whatever the word. The laws
-- of ports, of semaphores and of memory go by these.
use Rattle.std.proofs.Common.{[], ◌⊎◌, inl, inr, ◌≡◌, ◌≢◌, ℕ, Bool, true, false, List, ◌∷◌, Option, None, Some, refl, sym, ap, ◌∙◌, subst, arith, ◌-◌, not, if◌then◌else◌, nat_eq, is_some, codes, ◌&&◌, ◌||◌, option_map}
use Rattle.memlist.proofs.Answered.{nat_eq-same}
use Rattle.memlist.specs.{declared.region.Region.Region, Fit.fit, Memory.IsWellFormed}
use Rattle.execlist.specs.Order.{first}
use Rattle.forbid.specs.Nesting.{Nesting}
use Rattle.scheduler.specs.Schedule.{Schedule}
use Rattle.msgport.specs.{Port.new_port, declared.action.PortAction.PortAction}
use Rattle.sigsem.specs.declared.semaphore.Obtained.TheVariants.{Owner, Waits}
use Rattle.sigsem.specs.Semaphores.{is_free_for, is_last, is_owned, is_owner}
use Rattle.script.specs.declared.word.Word.{Word}
use Rattle.script.specs.declared.word.Word.TheVariants as group
use Rattle.script.specs.declared.word.semaphores.SemaphoreWord.TheVariants as semaphores
use Rattle.script.specs.declared.word.libraries.LibraryWord.TheVariants as libraries
use Rattle.iorequest.specs.Request.{is_under_way}
use Rattle.execmodel.specs.State.{Call, Object, Plain, ListHead, Node, MsgPort, Message, Semaphore, Library, Request, Block, Heap, Memory, Mark, asked, passed, left, State, Outcome, on_schedule, on_memory, on_heap}
use Rattle.execmodel.specs.Ports.{is_port, is_message, is_port_at, is_message_at, port_size, port_created, makes_port, after_asking_for_port, messages_of, messages_of_object, with_action, is_queued, is_public, is_awaited_at, delete_alert, unqueued_alert, looked}
use Rattle.execmodel.specs.Semaphores.{awaited_by, dropped, entered, queued, handed_on, released_once, is_semaphore_at, waiters_of, free_sem_alert, is_semaphore, leaving_queue, obtain_alert, obtains, passes, release_alert, sem_of, sem_of_object}
use Rattle.execmodel.specs.Libraries.{is_library_at, count_of, is_delayed, with_library, base_of, library_at, library_opened, ready_to_open, entered_or_loaded}
use Rattle.execmodel.specs.{Calls.argument, Calls.done, Calls.answered, Calls.waiting, Calls.alerted, Signals.waited, Nesting.gives_nesting, Tasks.is_caller, Tasks.ends_other, Objects.object_at, Objects.is_kind, Objects.is_allowed, Objects.place_for_object, LowMemory.after_asking_for_object, Memory.extents, Memory.allocates_block, Memory.makes_object, Memory.placed, Memory.freed, Memory.place_for, Memory.is_named, Memory.is_plain, Lists.is_list, Lists.is_node, Lists.is_list_at, Lists.with_nodes, Lists.unlinked, Deeds.concluded}
use Rattle.execmodel.proofs.{Heaps.rid, Heaps.true_is_not_false, Heaps.both_true, Taking.IsNew, Taking.Takes, Taking.nothing, Taking.places, Taking.recounts, Taking.IsTaking, Taking.number_is, Taking.after_asking_for_object_taking, Taking.after_asking_for_port_taking, Taking.ready_to_open_taking, Posts.Other, Posts.post_in, Posts.post_of_object, Posts.post_at, Posts.is_a_port, Posts.is_mail, Posts.port_there, Posts.message_there, Loaded.base_is_loaded, Commands.Touches, Commands.remains, Commands.IsAltered, Commands.none_some, Commands.passed_first, Commands.passed_other, Commands.is_loose_there}
use Rattle.script.specs.declared.alert.Alert.TheVariants as an_alert
use Rattle.script.specs.declared.alert.Alert.{Alert}

-- an object that may be freed: a port has to be empty, a semaphore free, and a request not in progress
abbrev pub MayGo : Option Object → Type 0
MayGo (Some (MsgPort port messages)) = first messages ≡ None
MayGo (Some (Semaphore sem waiters)) = is_owned sem ≡ false
MayGo (Some (Library number count delayed)) = ⊥
MayGo (Some (Request content)) = is_under_way content ≡ false
MayGo _ = Unit {0}

-- nothing needs what begins at an address: no request in progress has it as reply port, and no port has it
pub record IsUnneeded (address : ℕ) (heap : Heap) : Type 0 where
  pub unawaited : is_a_port (post_at heap address) ≡ true → is_awaited_at address heap ≡ false
  pub unqueued : is_mail (post_at heap address) ≡ true → is_queued address heap ≡ false

-- the marks of a task that is removed
abbrev pub leaving_marks : Option ℕ → ℕ → List Mark
leaving_marks None t = []
leaving_marks (Some semaphore) t = left semaphore t ∷ []

-- a call of task t releases a semaphore, which the task owns
pub record IsRelease (t : ℕ) (call : Call) (semaphore : ℕ) (heap : Heap) : Type 0 where
  pub word : call.word ≡ group.Semaphores semaphores.ReleaseSemaphore
  pub names : argument 0 call ≡ semaphore
  pub owns : is_owner t (sem_of semaphore heap) ≡ true

-- a call closes a library for the last time that is to be expunged
pub record IsLastClosing (call : Call) (base : ℕ) (heap : Heap) : Type 0 where
  pub word : call.word ≡ group.Libraries libraries.CloseLibrary
  pub names : argument 0 call ≡ base
  pub once : count_of base heap ≡ 1
  pub delayed : is_delayed base heap ≡ true

-- a call removes a library that is not open
pub record IsRemoving (call : Call) (base : ℕ) (heap : Heap) : Type 0 where
  pub word : call.word ≡ group.Libraries libraries.RemLibrary
  pub names : argument 0 call ≡ base
  pub none : count_of base heap ≡ 0

-- a call expunges a library: it removes one that is not open, or closes one for the last time
abbrev pub MayExpunge : Call → ℕ → Heap → Type 0
MayExpunge call base heap = IsRemoving call base heap ⊎ IsLastClosing call base heap

-- the words on libraries alone count how often these are open
abbrev pub is_of_libraries : Word → Bool
is_of_libraries (group.Libraries word) = true
is_of_libraries _ = false

-- what a call of task t may make of the blocks, and the marks that it leaves
pub data Moves (asks : Bool) (regions : List Region) (t : ℕ) (call : Call) : Heap → List Mark → Heap → Type 0 where
  touches : {old new : Heap} {marks : List Mark} → Touches old marks new → Moves asks regions t call old marks new
  takes : {old new : Heap} → Takes asks (is_of_libraries call.word) regions old new → Moves asks regions t call old [] new
  frees : {heap : Heap} (address : ℕ) → MayGo (object_at address heap) → IsUnneeded address heap → Moves asks regions t call heap [] (rid address heap)
  relists : {heap : Heap} (list : ℕ) (nodes : List ℕ) → is_list_at list heap ≡ true → Moves asks regions t call heap [] (with_nodes list nodes heap)
  unlinks : {heap : Heap} (node : ℕ) → Moves asks regions t call heap [] (unlinked node heap)
  sets : {heap : Heap} (act : PortAction) (port : ℕ) → is_port_at port heap ≡ true → Moves asks regions t call heap [] (with_action act port heap)
  enters : {heap : Heap} (semaphore : ℕ) → is_semaphore_at semaphore heap ≡ true → is_free_for t (sem_of semaphore heap) ≡ true
      → Moves asks regions t call heap [] (entered semaphore t heap)
  queues : {heap : Heap} (semaphore : ℕ) → is_semaphore_at semaphore heap ≡ true → is_free_for t (sem_of semaphore heap) ≡ false
      → Moves asks regions t call heap (asked semaphore t ∷ []) (queued semaphore t heap)
  hands : {heap : Heap} (semaphore owner : ℕ) → IsRelease t call semaphore heap → is_semaphore_at semaphore heap ≡ true → is_last (sem_of semaphore heap) ≡ true
      → first (waiters_of semaphore heap) ≡ Some owner → Moves asks regions t call heap (passed semaphore owner ∷ []) (handed_on semaphore heap)
  opens : {heap : Heap} (semaphore : ℕ) → IsRelease t call semaphore heap → is_semaphore_at semaphore heap ≡ true → is_last (sem_of semaphore heap) ≡ true
      → first (waiters_of semaphore heap) ≡ None → Moves asks regions t call heap [] (handed_on semaphore heap)
  releases : {heap : Heap} (semaphore : ℕ) → is_semaphore_at semaphore heap ≡ true → is_last (sem_of semaphore heap) ≡ false
      → Moves asks regions t call heap [] (released_once semaphore heap)
  counts : {heap : Heap} (base count : ℕ) (delayed : Bool) → (IsWellFormed regions (extents heap) → is_library_at base heap ≡ true)
      → is_of_libraries call.word ≡ true → Moves asks regions t call heap [] (with_library base count delayed heap)
  expunges : {heap : Heap} (base : ℕ) → is_library_at base heap ≡ true → MayExpunge call base heap → Moves asks regions t call heap [] (rid base heap)
  drops : {heap : Heap} (other : ℕ) → other ≢ t → Moves asks regions t call heap (leaving_marks (awaited_by other heap) other) (dropped other heap)

-- an outcome makes such a thing of the blocks, and leaves the regions as they are
abbrev pub Makes : ℕ → Call → State → Outcome → Type 0
Makes t call s o = (o.state.memory.regions ≡ s.memory.regions) × Moves s.memory.asks s.memory.regions t call s.memory.heap o.marks o.state.memory.heap

-- nothing changes
pub stays : {asks : Bool} {regions : List Region} {t : ℕ} {call : Call} {heap : Heap} → Moves asks regions t call heap [] heap
stays = touches remains

-- what any caller may make of the blocks
pub any_makes : (t : ℕ) (call : Call) (s : State) (o : Outcome) → IsAltered s o → Makes t call s o
any_makes t call s o alters = (alters.regions, touches alters.blocks)

-- ---- what is freed is needed by nobody

pub other_unneeded : (address : ℕ) (heap : Heap) → post_at heap address ≡ Other → IsUnneeded address heap
other_unneeded address heap e = record {
  unawaited = λ is. true_is_not_false (sym is ∙ ap is_a_port e);
  unqueued = λ is. true_is_not_false (sym is ∙ ap is_mail e);
}

pub mail_unneeded : (address : ℕ) (heap : Heap) → is_a_port (post_at heap address) ≡ false → is_queued address heap ≡ false → IsUnneeded address heap
mail_unneeded address heap e loose = record { unawaited = λ is. true_is_not_false (sym is ∙ e); unqueued = λ is. loose }

port_unneeded : (port : ℕ) (heap : Heap) → is_port_at port heap ≡ true → is_awaited_at port heap ≡ false → IsUnneeded port heap
port_unneeded port heap is none =
    record { unawaited = λ same. none; unqueued = λ mail. true_is_not_false (sym mail ∙ ap is_mail (port_there port heap is)) }

pub list_other : (found : Option Object) → is_kind is_list found ≡ true → post_of_object found ≡ Other
list_other None is = refl
list_other (Some (ListHead nodes)) is = refl
list_other (Some _) is = true_is_not_false (sym is)

pub node_other : (found : Option Object) → is_kind is_node found ≡ true → post_of_object found ≡ Other
node_other None is = refl
node_other (Some (Node key)) is = refl
node_other (Some _) is = true_is_not_false (sym is)

pub semaphore_other : (found : Option Object) → is_kind is_semaphore found ≡ true → post_of_object found ≡ Other
semaphore_other None is = refl
semaphore_other (Some (Semaphore sem waiters)) is = refl
semaphore_other (Some _) is = true_is_not_false (sym is)

pub plain_other : (size : ℕ) (found : Option Block) → is_named size found ≡ true → post_of_object (option_map (λ (block : Block). block.object) found) ≡ Other
plain_other size None is = refl
plain_other size (Some block) is = of_object block.object _ _ is
  where
    of_object : (object : Object) (b c : Bool) → (is_plain object && b && c) ≡ true → post_in object ≡ Other
    of_object Plain b c e = refl
    of_object _ b c e = true_is_not_false (sym e)

-- ---- tests that alerts rest on

cases_bool : {A : Type 0} (b c : Bool) → (b || c) ≡ false → c ≡ true → A
cases_bool true c e f = true_is_not_false e
cases_bool false c e f = true_is_not_false (sym f ∙ e)

plain_object : (object : Object) (b c : Bool) → (is_plain object && b && c) ≡ true → MayGo (Some object)
plain_object Plain b c e = tt
plain_object _ b c e = true_is_not_false (sym e)

-- ---- calls that may be refused

-- a call that takes memory
pub taking_makes : (t : ℕ) (call : Call) (s : State) (o : Outcome) → IsTaking (is_of_libraries call.word) s o → Makes t call s o
taking_makes t call s o taking =
    (taking.regions, subst (λ ms. Moves s.memory.asks s.memory.regions t call s.memory.heap ms o.state.memory.heap) (sym taking.silent) (takes taking.blocks))

pub allocates_taking : {may_count : Bool} (t : ℕ) (call : Call) (s : State) (size reqs : ℕ) (object : Object) (place : Option ℕ) → IsNew s.memory.heap object
    → ((address : ℕ) → place ≡ Some address → fit s.memory.regions (extents s.memory.heap) size reqs ≡ Some address)
    → IsTaking may_count s (allocates_block t call size object place s)
unfolding answered
allocates_taking t call s size reqs object None new fits = record { regions = refl; silent = refl; blocks = nothing }
allocates_taking t call s size reqs object (Some address) new fits =
    record { regions = refl; silent = refl; blocks = places size reqs address object new (fits address refl) }

-- a place for an object is one if it fits
fits_there : (test : Bool) (place : Option ℕ) (address : ℕ) → (if test then place else None) ≡ Some address → place ≡ Some address
fits_there true place address e = e
fits_there false place address e = none_some (sym e)

object_taking : {may_count : Bool} (t : ℕ) (call : Call) (s : State) (kind : Object → Bool) (size : ℕ) (object : Object) → IsNew s.memory.heap object
    → IsTaking may_count s (makes_object t call kind size object s)
unfolding place_for_object
object_taking t call s kind size object new =
    allocates_taking t call s size 1 object (if is_allowed kind s.memory then place_for size 1 s.memory else None) new
    (fits_there (is_allowed kind s.memory) (place_for size 1 s.memory))

pub object_makes : (t : ℕ) (call : Call) (s : State) (kind : Object → Bool) (size : ℕ) (object : Object) → ((heap : Heap) → IsNew heap object)
    → Makes t call s (makes_object t call kind size object (on_memory (after_asking_for_object kind size) s))
object_makes t call s kind size object new =
    let asked = on_memory (after_asking_for_object kind size) s in
    taking_makes t call s _ (after_asking_for_object_taking kind size s _ (object_taking t call asked kind size object (new asked.memory.heap)))

-- ---- plain words, signals, nesting

pub waited_makes : (t : ℕ) (call : Call) (come : Option ℕ) (f : Schedule → Schedule) (s : State) → Makes t call s (waited t call come (on_schedule f s))
unfolding waiting answered
waited_makes t call None f s = (refl, stays)
waited_makes t call (Some bits) f s = (refl, stays)

pub counted_makes : (t : ℕ) (call : Call) (nesting : Option Nesting) (s : State) → Makes t call s (gives_nesting t call nesting s)
unfolding done alerted
counted_makes t call None s = (refl, stays)
counted_makes t call (Some nesting) s = (refl, stays)

-- ---- tasks

leaves_queue : (t other : ℕ) (call : Call) (s : State) (semaphore : Option ℕ) (o : Outcome) → o.state.memory.regions ≡ s.memory.regions → o.marks ≡ []
    → Moves s.memory.asks s.memory.regions t call s.memory.heap (leaving_marks semaphore other) o.state.memory.heap
    → Makes t call s (leaving_queue semaphore other o)
leaves_queue t other call s None o regions none moves =
    (regions, subst (λ ms. Moves s.memory.asks s.memory.regions t call s.memory.heap ms o.state.memory.heap) (sym none) moves)
leaves_queue t other call s (Some semaphore) o regions none moves =
    (regions, subst (λ ms. Moves s.memory.asks s.memory.regions t call s.memory.heap (left semaphore other ∷ ms) o.state.memory.heap) (sym none) moves)

pub no_caller : (t number : ℕ) → is_caller t number ≡ false → number - 1 ≢ t
no_caller t number is same = cases_bool (nat_eq number 0) (nat_eq (number - 1) t) is (ap (λ k. nat_eq k t) same ∙ nat_eq-same t)

pub ended_makes : (t other : ℕ) (call : Call) (s : State) → other ≢ t → Makes t call s (ends_other other t call s)
unfolding done
ended_makes t other call s apart = leaves_queue t other call s (awaited_by other s.memory.heap) _ refl refl (drops other apart)

-- ---- lists

pub list_goes : (found : Option Object) → is_kind is_list found ≡ true → MayGo found
list_goes None is = tt
list_goes (Some (ListHead nodes)) is = tt
list_goes (Some _) is = true_is_not_false (sym is)

pub node_goes : (found : Option Object) → is_kind is_node found ≡ true → MayGo found
node_goes None is = tt
node_goes (Some (Node key)) is = tt
node_goes (Some _) is = true_is_not_false (sym is)

pub concluded_makes : (answer : Option ℕ) (t : ℕ) (call : Call) (s : State) (heap : Memory → Heap)
    → Moves s.memory.asks s.memory.regions t call s.memory.heap [] (heap s.memory)
    → Makes t call s (concluded answer t call (on_memory (λ memory. record memory { heap = heap memory }) s))
unfolding done answered
concluded_makes None t call s heap moves = (refl, moves)
concluded_makes (Some value) t call s heap moves = (refl, moves)

-- ---- memory

pub plain_goes : (size : ℕ) (found : Option Block) → is_named size found ≡ true → MayGo (option_map (λ (block : Block). block.object) found)
plain_goes size None is = tt
plain_goes size (Some block) is = plain_object block.object _ _ is

-- ---- ports

created_taking : {may_count : Bool} (t : ℕ) (call : Call) (bit : ℕ) (s : State) (place : Option ℕ)
    → ((address : ℕ) → place ≡ Some address → fit s.memory.regions (extents s.memory.heap) port_size 1 ≡ Some address)
    → IsTaking may_count s (port_created t call (Some bit) place s)
unfolding answered
created_taking t call bit s None fits = record { regions = refl; silent = refl; blocks = nothing }
created_taking t call bit s (Some address) fits =
    record { regions = refl; silent = refl; blocks = places port_size 1 address (MsgPort (new_port t bit) []) refl (fits address refl) }

port_taking : {may_count : Bool} (t : ℕ) (call : Call) (bit : Option ℕ) (s : State) → IsTaking may_count s (makes_port t call bit s)
unfolding answered place_for_object
port_taking t call None s = record { regions = refl; silent = refl; blocks = nothing }
port_taking t call (Some bit) s =
    created_taking t call bit s (if is_allowed is_port s.memory then place_for port_size 1 s.memory else None)
    (fits_there (is_allowed is_port s.memory) (place_for port_size 1 s.memory))

pub port_makes : (t : ℕ) (call : Call) (bit : Option ℕ) (s : State)
    → Makes t call s (makes_port t call bit (on_memory (after_asking_for_port bit) s))
port_makes t call bit s =
    taking_makes t call s _ (after_asking_for_port_taking bit s _ (port_taking t call bit (on_memory (after_asking_for_port bit) s)))

port_goes : (found : Option Object) (rest : Option Alert) → is_kind is_port found ≡ true
    → (if is_some (first (messages_of_object found)) then Some an_alert.Port else rest) ≡ None → MayGo found
port_goes None rest is e = tt
port_goes (Some (MsgPort port [])) rest is e = refl
port_goes (Some (MsgPort port (message ∷ messages))) rest is e = none_some e
port_goes (Some _) rest is e = true_is_not_false (sym is)

pub deletes : (port : ℕ) (memory : Memory) → delete_alert port memory ≡ None → MayGo (object_at port memory.heap)
unfolding delete_alert is_port_at messages_of
deletes port memory none =
    let first = passed_first (is_kind is_port (object_at port memory.heap)) _ _ none in
    port_goes (object_at port memory.heap) _ first.0 first.1

pub unneeded_port : (port : ℕ) (memory : Memory) → delete_alert port memory ≡ None → IsUnneeded port memory.heap
unfolding delete_alert
unneeded_port port memory none =
    let there = passed_first (is_port_at port memory.heap) _ _ none in
    let empty = passed_other (is_some (first (messages_of port memory.heap))) _ _ there.1 in
    let private = passed_other (is_public port memory) _ _ empty.1 in
    port_unneeded port memory.heap there.0 (passed_other (is_awaited_at port memory.heap) _ _ private.1).0

message_goes : (found : Option Object) → is_kind is_message found ≡ true → MayGo found
message_goes None is = tt
message_goes (Some (Message content)) is = tt
message_goes (Some _) is = true_is_not_false (sym is)

pub frees_message : (message : ℕ) (heap : Heap) → unqueued_alert message heap ≡ None → MayGo (object_at message heap)
unfolding is_message_at
frees_message message heap none = message_goes (object_at message heap) (is_loose_there message heap none).0

pub unneeded_message : (message : ℕ) (heap : Heap) → unqueued_alert message heap ≡ None → IsUnneeded message heap
unneeded_message message heap none =
    let loose = is_loose_there message heap none in
    mail_unneeded message heap (ap is_a_port (message_there message heap loose.0)) loose.1

pub looked_makes : (message : Option ℕ) (mask t : ℕ) (call : Call) (f : Schedule → Schedule) (s : State)
    → Makes t call s (looked message mask t call (on_schedule f s))
unfolding waiting answered
looked_makes None mask t call f s = (refl, stays)
looked_makes (Some message) mask t call f s = (refl, stays)

-- ---- semaphores

semaphore_goes : (found : Option Object) → is_kind is_semaphore found ≡ true → is_owned (sem_of_object found) ≡ false → MayGo found
semaphore_goes None is free = tt
semaphore_goes (Some (Semaphore sem waiters)) is free = free
semaphore_goes (Some _) is free = true_is_not_false (sym is)

pub frees_semaphore : (semaphore : ℕ) (heap : Heap) → free_sem_alert semaphore heap ≡ None → MayGo (object_at semaphore heap)
unfolding free_sem_alert is_semaphore_at sem_of
frees_semaphore semaphore heap none =
    let first = passed_first (is_kind is_semaphore (object_at semaphore heap)) _ _ none in
    semaphore_goes (object_at semaphore heap) first.0 (passed_other (is_owned (sem_of_object (object_at semaphore heap))) _ _ first.1).0

pub unneeded_semaphore : (semaphore : ℕ) (heap : Heap) → free_sem_alert semaphore heap ≡ None → IsUnneeded semaphore heap
unfolding free_sem_alert is_semaphore_at
unneeded_semaphore semaphore heap none =
    other_unneeded semaphore heap
    (semaphore_other (object_at semaphore heap) (passed_first (is_kind is_semaphore (object_at semaphore heap)) _ _ none).0)

pub is_semaphore_there : (t semaphore : ℕ) (heap : Heap) → obtain_alert t semaphore heap ≡ None → is_semaphore_at semaphore heap ≡ true
unfolding obtain_alert
is_semaphore_there t semaphore heap none = (passed_first (is_semaphore_at semaphore heap) _ _ none).0

owns_there : (test : Bool) (code : Alert) → (if test then None else Some code) ≡ None → test ≡ true
owns_there true code e = refl
owns_there false code e = none_some e

pub is_owned_there : (t semaphore : ℕ) (heap : Heap) → release_alert t semaphore heap ≡ None → is_owner t (sem_of semaphore heap) ≡ true
unfolding release_alert
is_owned_there t semaphore heap none =
    owns_there (is_owner t (sem_of semaphore heap)) _ (passed_first (is_semaphore_at semaphore heap) _ _ none).1

pub is_released_there : (t semaphore : ℕ) (heap : Heap) → release_alert t semaphore heap ≡ None → is_semaphore_at semaphore heap ≡ true
unfolding release_alert
is_released_there t semaphore heap none = (passed_first (is_semaphore_at semaphore heap) _ _ none).0

pub obtaining : (test : Bool) (semaphore t : ℕ) (call : Call) (s : State) → is_semaphore_at semaphore s.memory.heap ≡ true
    → is_free_for t (sem_of semaphore s.memory.heap) ≡ test
    → Makes t call s (obtains (if test then Owner else Waits) semaphore t call
    (on_memory (on_heap (λ heap. if test then entered semaphore t heap else queued semaphore t heap)) s))
unfolding done waiting
obtaining true semaphore t call s is e = (refl, enters semaphore is e)
obtaining false semaphore t call s is e = (refl, queues semaphore is e)

pub attempting : (test : Bool) (semaphore t : ℕ) (call : Call) (value : ℕ) (s : State) → is_semaphore_at semaphore s.memory.heap ≡ true
    → is_free_for t (sem_of semaphore s.memory.heap) ≡ test
    → Makes t call s (answered t call value (on_memory (on_heap (λ heap. if test then entered semaphore t heap else heap)) s))
unfolding answered
attempting true semaphore t call value s is e = (refl, enters semaphore is e)
attempting false semaphore t call value s is e = (refl, stays)

handing : (owner : Option ℕ) (semaphore t : ℕ) (call : Call) (s : State) → IsRelease t call semaphore s.memory.heap → is_semaphore_at semaphore s.memory.heap ≡ true
    → is_last (sem_of semaphore s.memory.heap) ≡ true → first (waiters_of semaphore s.memory.heap) ≡ owner
    → Makes t call s (passes owner semaphore t call (on_memory (on_heap (handed_on semaphore)) s))
unfolding done
handing None semaphore t call s release is last e = (refl, opens semaphore release is last e)
handing (Some owner) semaphore t call s release is last e = (refl, hands semaphore owner release is last e)

pub releasing : (test : Bool) (semaphore t : ℕ) (call : Call) (s : State) → IsRelease t call semaphore s.memory.heap → is_semaphore_at semaphore s.memory.heap ≡ true
    → is_last (sem_of semaphore s.memory.heap) ≡ test
    → Makes t call s (passes (if test then first (waiters_of semaphore s.memory.heap) else None) semaphore t call
    (on_memory (on_heap (λ heap. if test then handed_on semaphore heap else released_once semaphore heap)) s))
unfolding done
releasing true semaphore t call s release is e = handing (first (waiters_of semaphore s.memory.heap)) semaphore t call s release is e refl
releasing false semaphore t call s release is e = (refl, releases semaphore is e)

-- ---- libraries

pub is_library_there : (test : Bool) (code : Alert) → (if not test then Some code else None) ≡ None → test ≡ true
is_library_there true code e = refl
is_library_there false code e = none_some e

entered_or_loaded_taking : (found : Option ℕ) (i value t : ℕ) (call : Call) (s : State) → base_of i s.memory.heap ≡ found
    → IsTaking true s (answered t call value (on_memory (entered_or_loaded found i) s))
unfolding answered
entered_or_loaded_taking (Some base) i value t call s e = record {
  regions = refl;
  silent = refl;
  blocks = recounts base _ false (λ formed. base_is_loaded s.memory.regions i base s.memory.heap formed e) (omega arith) (inr refl) nothing;
}
entered_or_loaded_taking None i value t call s absent =
    loads (place_for (library_at i s.memory).size 1 s.memory) refl
  where
    loads : (place : Option ℕ) → place_for (library_at i s.memory).size 1 s.memory ≡ place
        → IsTaking true s (answered t call value (on_memory (placed (library_at i s.memory).size (Library i 1 false) place) s))
    loads None e = record { regions = refl; silent = refl; blocks = nothing }
    loads (Some address) e =
        record { regions = refl; silent = refl; blocks = places (library_at i s.memory).size 1 address (Library i 1 false) absent e }

opened_taking : (found : Option ℕ) (value t : ℕ) (call : Call) (s : State)
    → IsTaking true s (answered t call value (on_memory (library_opened found) s))
unfolding answered
opened_taking None value t call s = record { regions = refl; silent = refl; blocks = nothing }
opened_taking (Some i) value t call s = entered_or_loaded_taking (base_of i s.memory.heap) i value t call s refl

pub opened_makes : (found : Option ℕ) (value t : ℕ) (call : Call) (s : State) → is_of_libraries call.word ≡ true
    → Makes t call s (answered t call value (on_memory (library_opened found) (on_memory (ready_to_open found) s)))
opened_makes found value t call s word =
    taking_makes t call s _ (ready_to_open_taking found s _ (subst (λ b. IsTaking b (on_memory (ready_to_open found) s)
    (answered t call value (on_memory (library_opened found) (on_memory (ready_to_open found) s)))) (sym word)
    (opened_taking found value t call (on_memory (ready_to_open found) s))))

pub closed_makes : (test : Bool) (base t : ℕ) (call : Call) (s : State) → call.word ≡ group.Libraries libraries.CloseLibrary → argument 0 call ≡ base
    → is_library_at base s.memory.heap ≡ true
    → (nat_eq (count_of base s.memory.heap) 1 && is_delayed base s.memory.heap) ≡ test
    → Makes t call s (done t call (on_memory (λ memory. if test then freed base memory
    else on_heap (with_library base (count_of base memory.heap - 1) (is_delayed base memory.heap)) memory) s))
unfolding done
closed_makes true base t call s word names is e =
    both_true (nat_eq (count_of base s.memory.heap) 1) (is_delayed base s.memory.heap) e
    (λ one delayed. (
      refl,
      expunges base is (inr (record { word = word; names = names; once = number_is (count_of base s.memory.heap) 1 one; delayed = delayed })),
    ))
closed_makes false base t call s word names is e = (refl, counts base _ _ (λ formed. is) (ap is_of_libraries word))

pub removed_makes : (test : Bool) (base t : ℕ) (call : Call) (s : State) → call.word ≡ group.Libraries libraries.RemLibrary → argument 0 call ≡ base
    → is_library_at base s.memory.heap ≡ true
    → nat_eq (count_of base s.memory.heap) 0 ≡ test
    → Makes t call s (done t call (on_memory (λ memory. if test then freed base memory
    else on_heap (with_library base (count_of base memory.heap) true) memory) s))
unfolding done
removed_makes true base t call s word names is e =
    (refl, expunges base is (inl (record { word = word; names = names; none = number_is (count_of base s.memory.heap) 0 e })))
removed_makes false base t call s word names is e = (refl, counts base _ true (λ formed. is) (ap is_of_libraries word))
