-- The owner of a semaphore changes from none or at the last release, and nobody waits for one that no task owns.
use Rattle.std.proofs.Common.{◌⊎◌, inl, inr, ◌≡◌, ◌≢◌, ℕ, Bool, true, false, List, [], ◌∷◌, Option, None, Some, refl, sym, ap, ◌∙◌, subst, not, if◌then◌else◌, nat_eq, map, drop, is_some, ◌==◌, ◌||◌, option_map}
use Rattle.memlist.specs.{declared.region.Region.Region, Memory.IsWellFormed, Fit.round}
use Rattle.memlist.proofs.Answered.{nat_eq-same, nat_eq-other, cases_eq}
use Rattle.execlist.specs.{Order.first, Order.without_item, Lists.is_at}
use Rattle.sigsem.specs.{declared.semaphore.Sem.Sem, Semaphores.is_free_for, Semaphores.is_owned, Semaphores.owned_next}
use Rattle.iorequest.specs.declared.request.Request.{Request as TimerRequest}
use Rattle.execmodel.specs.Semaphores.{sem_in, sem_of, sem_of_object, waiters_of, waiters_of_object, with_semaphore, left_by_task, entered, queued, dropped, handed_on, released_once}
use Rattle.execmodel.specs.{State.Call, State.Object, State.Plain, State.ListHead, State.Semaphore, State.Library, State.Request, State.Block, State.Heap, State.Waiting as Queued, State.Mark, State.State, Requests.is_request, Requests.is_request_at, Requests.with_request, Objects.object_at, Objects.is_kind, Objects.replaced, Memory.extents, Lists.is_list, Lists.is_list_at, Lists.with_nodes, Lists.unlinked, Lists.left_by, Ports.is_port, Ports.is_message, Ports.is_port_at, Ports.is_message_at, Ports.with_port, Ports.with_action, Ports.appended, Ports.taken_off, Libraries.is_library, Libraries.is_library_at, Libraries.with_library}
use Rattle.execmodel.proofs.BlocksAfter.{IsRelease, MayGo, Moves, touches, takes, frees, relists, unlinks, sets, enters, queues, hands, opens, releases, counts, expunges, drops}
use Rattle.execmodel.proofs.{Heaps.rid, Heaps.filled, Heaps.instead, Heaps.object_replaced, Heaps.object_remade, Heaps.object_placed_here, Heaps.object_placed_there, Heaps.object_rid_here, Heaps.object_rid_there, Heaps.true_is_not_false, WellFormed.placed_fresh, WellFormed.counted_formed, WellFormed.rid_formed, Fifo.port_stays, Commands.Touches, Commands.remains, Commands.fills, Commands.puts, Commands.gets, Commands.none_some, Asking.Asks, Asking.writes, Asking.answers, Asking.written, Asking.ports_written, Asking.without_reply, Taking.IsNew, Taking.Takes, Taking.nothing, Taking.places, Taking.recounts, Taking.yields}

-- nobody waits for what begins at an address, unless a task owns it
abbrev pub Idle : Option Object → Type 0
Idle found = (sem_of_object found).owner ≡ None → waiters_of_object found ≡ []

-- each semaphore is so
abbrev pub AllIdle : Heap → Type 0
AllIdle heap = (a : ℕ) → Idle (object_at a heap)

idle_instead : (test : Bool) (object : Object) (found : Option Object) → Idle (Some object) → Idle found
    → Idle (if test then instead object found else found)
idle_instead true object None e idle = idle
idle_instead true object (Some other) e idle = e
idle_instead false object found e idle = idle

idle_replaced : (address : ℕ) (object : Object) (heap : Heap) → Idle (Some object) → AllIdle heap → AllIdle (map (replaced address object) heap)
idle_replaced address object heap e idle a =
    subst (λ found. Idle found) (sym (object_replaced address object a heap)) (idle_instead (nat_eq a address) object (object_at a heap) e (idle a))

idle_mapped : (f : Object → Object) → ((object : Object) → Idle (Some object) → Idle (Some (f object))) → (found : Option Object) → Idle found
    → Idle (option_map f found)
idle_mapped f keeps None idle = idle
idle_mapped f keeps (Some object) idle = keeps object idle

idle_remade : (f : Object → Object) → ((object : Object) → Idle (Some object) → Idle (Some (f object))) → (heap : Heap) → AllIdle heap
    → AllIdle (map (λ (entry : ℕ × Block). (entry.0, record entry.1 { object = f entry.1.object })) heap)
idle_remade f keeps heap idle a =
    subst (λ found. Idle found) (sym (object_remade f a heap)) (idle_mapped f keeps (object_at a heap) (idle a))

left_idle : (node : ℕ) (object : Object) → Idle (Some object) → Idle (Some (left_by node object))
left_idle node (ListHead nodes) idle = λ e. refl
left_idle node _ idle = idle

task_left_idle : (t : ℕ) (object : Object) → Idle (Some object) → Idle (Some (left_by_task t object))
task_left_idle t (Semaphore sem waiters) idle = λ e. ap (λ q. without_item t q) (idle e)
task_left_idle t _ idle = idle

new_idle : (heap : Heap) (object : Object) → IsNew heap object → Idle (Some object)
new_idle heap (Semaphore sem waiters) is = λ e. is.1
new_idle heap _ is = λ e. refl

-- a semaphore that a task does not get at once has an owner
closed_owned : (t : ℕ) (sem : Sem) → is_free_for t sem ≡ false → sem.owner ≡ None → ⊥
closed_owned t sem closed none =
    true_is_not_false (sym (ap (λ owner. not (is_some owner) || is_at owner t) none) ∙ closed)

next_idle : (waiters : List ℕ) → Idle (Some (Semaphore (owned_next (first waiters)) (drop 1 waiters)))
next_idle [] = λ e. refl
next_idle (t ∷ waiters) = λ e. none_some e

-- whatever a call does, also one in a body
pub touched_idle : (old : Heap) (marks : List Mark) (new : Heap) → Touches old marks new → AllIdle old → AllIdle new
unfolding with_port appended taken_off sem_of waiters_of
touched_idle old marks new remains idle = idle
touched_idle old marks new (fills message content is) idle = idle_replaced message _ old (λ e. refl) idle
touched_idle old marks new (puts port message content is also loose) idle =
    idle_replaced port _ (filled message content old) (λ e. refl) (idle_replaced message _ old (λ e. refl) idle)
touched_idle old marks new (gets port message is e) idle = idle_replaced port _ old (λ e. refl) idle

rid_idle : (address : ℕ) (heap : Heap) → AllIdle heap → AllIdle (rid address heap)
rid_idle address heap idle a =
    cases_eq a address
    (λ same. subst (λ found. Idle found) (sym (ap (λ k. object_at k (rid address heap)) same ∙ object_rid_here address heap)) (λ e. refl))
    (λ apart. subst (λ found. Idle found) (sym (object_rid_there a address heap apart)) (idle a))

counted_idle : (base count : ℕ) (delayed : Bool) (heap : Heap) → AllIdle heap → AllIdle (with_library base count delayed heap)
unfolding with_library
counted_idle base count delayed heap idle = idle_replaced base _ heap (λ e. refl) idle

takes_idle : {asks may_count : Bool} (regions : List Region) (old new : Heap) → Takes asks may_count regions old new → AllIdle old → AllIdle new
takes_idle regions old new nothing idle = idle
takes_idle regions old new (places size reqs address object is fits) idle = λ a.
    cases_eq a address
    (λ same. subst (λ found. Idle found) (sym (ap (λ k. object_at k new) same ∙ object_placed_here address (round size) object old)) (new_idle old object is))
    (λ apart. subst (λ found. Idle found) (sym (object_placed_there a address _ old apart)) (idle a))
takes_idle regions old new (recounts base count delayed is more may rest) idle =
    takes_idle regions (with_library base count delayed old) new rest (counted_idle base count delayed old idle)
takes_idle regions old new (yields base is none may rest) idle = takes_idle regions (rid base old) new rest (rid_idle base old idle)

pub moves_idle : {asks : Bool} (regions : List Region) (t : ℕ) (call : Call) (old : Heap) (marks : List Mark) (new : Heap) → Moves asks regions t call old marks new
    → AllIdle old → AllIdle new
unfolding with_nodes unlinked with_action with_port with_semaphore entered queued dropped handed_on released_once sem_of waiters_of
moves_idle regions t call old marks new (touches how) idle = touched_idle old marks new how idle
moves_idle regions t call old marks new (takes how) idle = takes_idle regions old new how idle
moves_idle regions t call old marks new (frees address may unneeded) idle = rid_idle address old idle
moves_idle regions t call old marks new (relists list nodes is) idle = idle_replaced list (ListHead nodes) old (λ e. refl) idle
moves_idle regions t call old marks new (unlinks node) idle = idle_remade (left_by node) (left_idle node) old idle
moves_idle regions t call old marks new (sets act port is) idle = idle_replaced port _ old (λ e. refl) idle
moves_idle regions t call old marks new (enters semaphore is e) idle = idle_replaced semaphore _ old (λ none. none_some none) idle
moves_idle regions t call old marks new (queues semaphore is e) idle =
    idle_replaced semaphore _ old (λ none. absurd (closed_owned t (sem_of semaphore old) e none)) idle
moves_idle regions t call old marks new (hands semaphore owner release is last e) idle =
    idle_replaced semaphore _ old (next_idle (waiters_of semaphore old)) idle
moves_idle regions t call old marks new (opens semaphore release is last e) idle =
    idle_replaced semaphore _ old (next_idle (waiters_of semaphore old)) idle
moves_idle regions t call old marks new (releases semaphore is last) idle = idle_replaced semaphore _ old (idle semaphore) idle
moves_idle regions t call old marks new (counts base count delayed is may) idle = counted_idle base count delayed old idle
moves_idle regions t call old marks new (expunges base is may) idle = rid_idle base old idle
moves_idle regions t call old marks new (drops other apart) idle = idle_remade (left_by_task other) (task_left_idle other) old idle

-- ---- owners

-- the owner of what begins at an address, if it is a semaphore with one
abbrev pub owner_in : Option Object → Option ℕ
owner_in found = (sem_of_object found).owner

-- at an address the owner stays, or there was none, or the call is the last release
abbrev pub Owns : ℕ → Call → ℕ → Heap → Heap → Type 0
Owns t call a old new =
    (owner_in (object_at a new) ≡ owner_in (object_at a old))
    ⊎ (owner_in (object_at a old) ≡ None)
    ⊎ (IsRelease t call a old × ((sem_of a old).count ≡ 1))

no_owner : (kind : Object → Bool) → ((object : Object) → kind object ≡ true → (sem_in object).owner ≡ None) → (found : Option Object)
    → is_kind kind found ≡ true → owner_in found ≡ None
no_owner kind none None is = refl
no_owner kind none (Some object) is = none object is

list_free : (object : Object) → is_list object ≡ true → (sem_in object).owner ≡ None
list_free (Semaphore sem waiters) is = true_is_not_false (sym is)
list_free _ is = refl

port_free : (object : Object) → is_port object ≡ true → (sem_in object).owner ≡ None
port_free (Semaphore sem waiters) is = true_is_not_false (sym is)
port_free _ is = refl

message_free : (object : Object) → is_message object ≡ true → (sem_in object).owner ≡ None
message_free (Semaphore sem waiters) is = true_is_not_false (sym is)
message_free _ is = refl

library_free : (object : Object) → is_library object ≡ true → (sem_in object).owner ≡ None
library_free (Semaphore sem waiters) is = true_is_not_false (sym is)
library_free _ is = refl

pub free_owner : (sem : Sem) → is_owned sem ≡ false → sem.owner ≡ None
free_owner sem e = none_owner sem.owner e
  where
    none_owner : (owner : Option ℕ) → is_some owner ≡ false → owner ≡ None
    none_owner None e = refl
    none_owner (Some t) e = true_is_not_false e

gone_free : (found : Option Object) → MayGo found → owner_in found ≡ None
gone_free None may = refl
gone_free (Some (Semaphore sem waiters)) may = free_owner sem may
gone_free (Some (Library number count delayed)) may = absurd may
gone_free (Some _) may = refl

new_free : (heap : Heap) (object : Object) → IsNew heap object → (sem_in object).owner ≡ None
new_free heap (Semaphore sem waiters) is = ap (λ (s : Sem). s.owner) is.0
new_free heap _ is = refl

elsewhere : (a address : ℕ) (object : Object) (heap : Heap) → a ≢ address
    → object_at a (map (replaced address object) heap) ≡ object_at a heap
elsewhere a address object heap apart =
    object_replaced address object a heap
    ∙ ap (λ test. if test then instead object (object_at a heap) else object_at a heap) (nat_eq-other a address apart)

-- if another object begins at one address, the owner stays at any other
by_address : (t : ℕ) (call : Call) (a address : ℕ) (object : Object) (heap : Heap) → (a ≡ address → Owns t call a heap (map (replaced address object) heap))
    → Owns t call a heap (map (replaced address object) heap)
by_address t call a address object heap here =
    cases_eq a address here (λ apart. inl (ap (λ found. owner_in found) (elsewhere a address object heap apart)))

-- an object in place of one of a kind that has no owner
unowned : (t : ℕ) (call : Call) (kind : Object → Bool) → ((object : Object) → kind object ≡ true → (sem_in object).owner ≡ None) → (a address : ℕ)
    (object : Object) (heap : Heap) → is_kind kind (object_at address heap) ≡ true → Owns t call a heap (map (replaced address object) heap)
unowned t call kind none a address object heap is =
    by_address t call a address object heap
    (λ same. inr (inl (no_owner kind none (object_at a heap) (subst (λ k. is_kind kind (object_at k heap) ≡ true) (sym same) is))))

mapped_owner : (f : Object → Object) → ((object : Object) → (sem_in (f object)).owner ≡ (sem_in object).owner) → (found : Option Object)
    → owner_in (option_map f found) ≡ owner_in found
mapped_owner f same None = refl
mapped_owner f same (Some object) = same object

left_owner : (node : ℕ) (object : Object) → (sem_in (left_by node object)).owner ≡ (sem_in object).owner
left_owner node Plain = refl
left_owner node _ = refl

task_left_owner : (t : ℕ) (object : Object) → (sem_in (left_by_task t object)).owner ≡ (sem_in object).owner
task_left_owner t Plain = refl
task_left_owner t _ = refl

remade_owner : (f : Object → Object) → ((object : Object) → (sem_in (f object)).owner ≡ (sem_in object).owner) → (a : ℕ) (heap : Heap)
    → owner_in (object_at a (map (λ (entry : ℕ × Block). (entry.0, record entry.1 { object = f entry.1.object })) heap)) ≡ owner_in (object_at a heap)
remade_owner f same a heap = ap (λ found. owner_in found) (object_remade f a heap) ∙ mapped_owner f same (object_at a heap)

-- the owner of a semaphore in whose place another of that owner begins
kept_owner : (object : Object) (found : Option Object) → (sem_in object).owner ≡ owner_in found → owner_in (instead object found) ≡ owner_in found
kept_owner object None e = refl
kept_owner object (Some other) e = e

same_owner : (a : ℕ) (object : Object) (heap : Heap) → (sem_in object).owner ≡ owner_in (object_at a heap)
    → owner_in (object_at a (map (replaced a object) heap)) ≡ owner_in (object_at a heap)
same_owner a object heap e =
    ap (λ found. owner_in found)
    (object_replaced a object a heap ∙ ap (λ test. if test then instead object (object_at a heap) else object_at a heap) (nat_eq-same a))
    ∙ kept_owner object (object_at a heap) e

-- who may have a semaphore at once owns it, or it is free
open_owner : (t : ℕ) (owner : Option ℕ) → (not (is_some owner) || is_at owner t) ≡ true → (Some t ≡ owner) ⊎ (owner ≡ None)
open_owner t None e = inr refl
open_owner t (Some o) e = cases_eq o t (λ same. inl (ap (λ k. Some k) (sym same))) (λ apart. true_is_not_false (sym e ∙ nat_eq-other o t apart))

once_count : (count : ℕ) → (count == 1) ≡ true → count ≡ 1
once_count count e = cases_eq count 1 (λ same. same) (λ apart. true_is_not_false (sym e ∙ nat_eq-other count 1 apart))

-- an object without an owner in place of one of a kind that has none
still_unowned : (kind : Object → Bool) → ((object : Object) → kind object ≡ true → (sem_in object).owner ≡ None) → (a address : ℕ)
    (object : Object) (heap : Heap) → (sem_in object).owner ≡ None → is_kind kind (object_at address heap) ≡ true
    → owner_in (object_at a (map (replaced address object) heap)) ≡ owner_in (object_at a heap)
still_unowned kind none a address object heap free is =
    cases_eq a address
    (λ same. subst (λ k. owner_in (object_at k (map (replaced address object) heap)) ≡ owner_in (object_at k heap)) (sym same)
    (same_owner address object heap (free ∙ sym (no_owner kind none (object_at address heap) is))))
    (λ apart. ap (λ found. owner_in found) (elsewhere a address object heap apart))

-- no call of a body changes an owner
pub touched_own : (old : Heap) (marks : List Mark) (new : Heap) → Touches old marks new
    → (a : ℕ) → owner_in (object_at a new) ≡ owner_in (object_at a old)
unfolding with_port appended taken_off is_port_at is_message_at
touched_own old marks new remains a = refl
touched_own old marks new (fills message content is) a = still_unowned is_message message_free a message _ old refl is
touched_own old marks new (puts port message content is also loose) a =
    still_unowned is_port port_free a port _ (filled message content old) refl (port_stays port message content old is also)
    ∙ still_unowned is_message message_free a message _ old refl also
touched_own old marks new (gets port message is e) a = still_unowned is_port port_free a port _ old refl is

-- a library has no owner, counted or freed
counted_unowned : (base count : ℕ) (delayed : Bool) (a : ℕ) (heap : Heap) → is_library_at base heap ≡ true
    → owner_in (object_at a (with_library base count delayed heap)) ≡ owner_in (object_at a heap)
unfolding with_library is_library_at
counted_unowned base count delayed a heap is = still_unowned is_library library_free a base _ heap refl is

expunged_unowned : (base a : ℕ) (heap : Heap) → is_library_at base heap ≡ true → owner_in (object_at a (rid base heap)) ≡ owner_in (object_at a heap)
unfolding is_library_at
expunged_unowned base a heap is =
    cases_eq a base
    (λ same. ap (λ found. owner_in found) (ap (λ k. object_at k (rid base heap)) same ∙ object_rid_here base heap)
    ∙ sym (ap (λ k. owner_in (object_at k heap)) same ∙ no_owner is_library library_free (object_at base heap) is))
    (λ apart. ap (λ found. owner_in found) (object_rid_there a base heap apart))

takes_own : {asks may_count : Bool} (regions : List Region) (old new : Heap) → Takes asks may_count regions old new → IsWellFormed regions (extents old)
    → (a : ℕ) → owner_in (object_at a new) ≡ owner_in (object_at a old)
takes_own regions old new nothing formed a = refl
takes_own regions old new (places size reqs address object is fits) formed a =
    cases_eq a address
    (λ same. ap (λ found. owner_in found) (ap (λ k. object_at k new) same ∙ object_placed_here address (round size) object old)
    ∙ new_free old object is
    ∙ sym (ap (λ found. owner_in found) (ap (λ k. object_at k old) same ∙ placed_fresh regions size reqs address old formed fits)))
    (λ apart. ap (λ found. owner_in found) (object_placed_there a address _ old apart))
takes_own regions old new (recounts base count delayed is more may rest) formed a =
    takes_own regions (with_library base count delayed old) new rest (counted_formed regions base count delayed old formed) a
    ∙ counted_unowned base count delayed a old (is formed)
takes_own regions old new (yields base is none may rest) formed a =
    takes_own regions (rid base old) new rest (rid_formed regions base old formed) a ∙ expunged_unowned base a old (is formed)

pub moves_own : {asks : Bool} (regions : List Region) (t : ℕ) (call : Call) (old : Heap) (marks : List Mark) (new : Heap) → Moves asks regions t call old marks new
    → IsWellFormed regions (extents old) → (a : ℕ) → Owns t call a old new
unfolding with_nodes unlinked with_action with_port with_semaphore entered queued dropped handed_on released_once sem_of is_list_at is_port_at
moves_own regions t call old marks new (touches how) formed a = inl (touched_own old marks new how a)
moves_own regions t call old marks new (takes how) formed a = inl (takes_own regions old new how formed a)
moves_own regions t call old marks new (frees address may unneeded) formed a =
    cases_eq a address
    (λ same. inr (inl (ap (λ k. owner_in (object_at k old)) same ∙ gone_free (object_at address old) may)))
    (λ apart. inl (ap (λ found. owner_in found) (object_rid_there a address old apart)))
moves_own regions t call old marks new (relists list nodes is) formed a = unowned t call is_list list_free a list _ old is
moves_own regions t call old marks new (unlinks node) formed a = inl (remade_owner (left_by node) (left_owner node) a old)
moves_own regions t call old marks new (sets act port is) formed a = unowned t call is_port port_free a port _ old is
moves_own regions t call old marks new (enters semaphore is e) formed a =
    by_address t call a semaphore _ old
    (λ same. elim (open_owner t (sem_of semaphore old).owner e) [
      | inl h ↦ inl (subst (λ k. owner_in (object_at k new) ≡ owner_in (object_at k old)) (sym same) (same_owner semaphore _ old h))
      | inr h ↦ inr (inl (ap (λ k. owner_in (object_at k old)) same ∙ h))
    ])
moves_own regions t call old marks new (queues semaphore is e) formed a =
    by_address t call a semaphore _ old
    (λ same. inl (subst (λ k. owner_in (object_at k new) ≡ owner_in (object_at k old)) (sym same) (same_owner semaphore _ old refl)))
moves_own regions t call old marks new (hands semaphore owner release is last e) formed a =
    by_address t call a semaphore _ old
    (λ same. inr (inr (subst (λ k. IsRelease t call k old × ((sem_of k old).count ≡ 1)) (sym same) (release, once_count (sem_of semaphore old).count last))))
moves_own regions t call old marks new (opens semaphore release is last e) formed a =
    by_address t call a semaphore _ old
    (λ same. inr (inr (subst (λ k. IsRelease t call k old × ((sem_of k old).count ≡ 1)) (sym same) (release, once_count (sem_of semaphore old).count last))))
moves_own regions t call old marks new (releases semaphore is last) formed a =
    by_address t call a semaphore _ old
    (λ same. inl (subst (λ k. owner_in (object_at k new) ≡ owner_in (object_at k old)) (sym same) (same_owner semaphore _ old refl)))
moves_own regions t call old marks new (counts base count delayed is may) formed a = inl (counted_unowned base count delayed a old (is formed))
moves_own regions t call old marks new (expunges base is may) formed a = inl (expunged_unowned base a old is)
moves_own regions t call old marks new (drops other apart) formed a = inl (remade_owner (left_by_task other) (task_left_owner other) a old)

-- ---- requests, and the clock

request_free : (object : Object) → is_request object ≡ true → (sem_in object).owner ≡ None
request_free (Request content) is = refl
request_free _ is = true_is_not_false (sym is)

written_owner : (request : ℕ) (content : TimerRequest) (a : ℕ) (heap : Heap)
    → owner_in (object_at a (with_request request content heap)) ≡ owner_in (object_at a heap)
unfolding is_request_at
written_owner request content a heap =
    written (λ h. owner_in (object_at a h) ≡ owner_in (object_at a heap)) request content heap refl
    (λ is. still_unowned is_request request_free a request (Request content) heap refl is)

pub asked_own : (s : State) (marks : List Mark) (new : Heap) (later : List Queued) → Asks s marks new later
    → (a : ℕ) → owner_in (object_at a new) ≡ owner_in (object_at a s.memory.heap)
unfolding with_port appended
asked_own s marks new later (writes request content waiting rewritten) a = written_owner request content a s.memory.heap
asked_own s marks new later (answers port request content waiting is rewritten reply) a =
    still_unowned is_port port_free a port _ (with_request request content s.memory.heap) refl
    (unfold is_port_at in (ports_written request content s.memory.heap port ∙ is))
    ∙ written_owner request content a s.memory.heap

pub taken_own : (port request : ℕ) (heap : Heap) → is_port_at port heap ≡ true
    → (a : ℕ) → owner_in (object_at a (without_reply port request heap)) ≡ owner_in (object_at a heap)
unfolding with_port is_port_at
taken_own port request heap is a = still_unowned is_port port_free a port _ heap refl is

pub asked_idle : (s : State) (marks : List Mark) (new : Heap) (later : List Queued) → Asks s marks new later → AllIdle s.memory.heap → AllIdle new
unfolding with_port appended
asked_idle s marks new later (writes request content waiting rewritten) idle =
    written AllIdle request content s.memory.heap idle (λ is. idle_replaced request (Request content) s.memory.heap (λ e. refl) idle)
asked_idle s marks new later (answers port request content waiting is rewritten reply) idle =
    idle_replaced port _ (with_request request content s.memory.heap) (λ e. refl)
    (written AllIdle request content s.memory.heap idle (λ is. idle_replaced request (Request content) s.memory.heap (λ e. refl) idle))

pub taken_idle : (port request : ℕ) (heap : Heap) → AllIdle heap → AllIdle (without_reply port request heap)
unfolding with_port
taken_idle port request heap idle = idle_replaced port _ heap (λ e. refl) idle
