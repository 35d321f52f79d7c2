-- Tasks get a semaphore in the order in which they asked, from states if each task waits at one place at most and the
-- running one at none.
use Rattle.std.proofs.Common.{◌≡◌, ◌≢◌, ℕ, Bool, true, false, List, [], ◌∷◌, ◌++◌, Option, None, Some, refl, sym, ap, ◌∙◌, subst, not, cond, if◌then◌else◌, nat_eq, map, drop, option_map}
use Rattle.memlist.specs.{declared.region.Region.Region, Memory.IsWellFormed, Fit.round}
use Rattle.memlist.proofs.Answered.{nat_eq-same, nat_eq-other, cases_eq}
use Rattle.execlist.specs.Order.{without_item}
use Rattle.iorequest.specs.declared.request.Request.{Request as TimerRequest}
use Rattle.execmodel.specs.State.{Call, Object, Plain, ListHead, MsgPort, Message, Semaphore, Library, Request, Block, Heap, Waiting as Queued, Mark, out, State}
use Rattle.execmodel.specs.Semaphores.{is_semaphore, is_semaphore_at, waiters_in, waiters_of, waiters_of_object, awaited_by, with_semaphore, left_by_task, entered, queued, dropped, handed_on, released_once}
use Rattle.execmodel.specs.{Requests.is_request, Requests.is_request_at, Requests.with_request, Objects.object_at, Objects.is_kind, Objects.replaced, Memory.extents, Lists.is_list, Lists.is_list_at, Lists.with_nodes, Lists.unlinked, Lists.left_by, Ports.is_port, Ports.is_message, Ports.is_port_at, Ports.is_message_at, Ports.with_port, Ports.with_action, Ports.appended, Ports.taken_off, Libraries.is_library, Libraries.is_library_at, Libraries.with_library, Queues.Came, Queues.Served, Queues.Left, Marks.turns_at_semaphore}
use Rattle.execmodel.proofs.BlocksAfter.{MayGo, leaving_marks, Moves, touches, takes, frees, relists, unlinks, sets, enters, queues, hands, opens, releases, counts, expunges, drops}
use Rattle.execmodel.proofs.{Queues.Follows, Queues.IsAway, Heaps.rid, Heaps.filled, Heaps.instead, Heaps.object_replaced, Heaps.object_remade, Heaps.object_placed_here, Heaps.object_placed_there, Heaps.object_rid_here, Heaps.object_rid_there, Heaps.true_is_not_false, WellFormed.placed_fresh, WellFormed.counted_formed, WellFormed.rid_formed, Owners.Idle, Owners.AllIdle, Owners.free_owner, Fifo.turned, Fifo.first_is, Fifo.first_none, Fifo.port_stays, Commands.Touches, Commands.remains, Commands.fills, Commands.puts, Commands.gets, Asking.Asks, Asking.writes, Asking.answers, Asking.written, Asking.ports_written, Asking.without_reply, Taking.IsNew, Taking.Takes, Taking.nothing, Taking.places, Taking.recounts, Taking.yields}
use Rattle.msgport.specs.{Port.Port, declared.message.Message.Message as Content}
use Rattle.sigsem.specs.declared.semaphore.Sem.{Sem}

-- ---- what has no messages

instead_none : (object : Object) (found : Option Object) → waiters_in object ≡ [] → waiters_of_object (instead object found) ≡ []
instead_none object None e = refl
instead_none object (Some other) e = e

-- an object in place of one without messages, which has none either
quietly : (test : Bool) (object : Object) (found : Option Object) → waiters_in object ≡ []
    → (test ≡ true → waiters_of_object found ≡ [])
    → waiters_of_object (if test then instead object found else found) ≡ waiters_of_object found
quietly true object found e none = instead_none object found e ∙ sym (none refl)
quietly false object found e none = refl

no_port : (kind : Object → Bool) → ((object : Object) → kind object ≡ true → waiters_in object ≡ []) → (found : Option Object)
    → is_kind kind found ≡ true → waiters_of_object found ≡ []
no_port kind none None is = refl
no_port kind none (Some object) is = none object is

list_none : (object : Object) → is_list object ≡ true → waiters_in object ≡ []
list_none (Semaphore sem waiters) is = true_is_not_false (sym is)
list_none _ is = refl

message_none : (object : Object) → is_message object ≡ true → waiters_in object ≡ []
message_none (Semaphore sem waiters) is = true_is_not_false (sym is)
message_none _ is = refl

port_none : (object : Object) → is_port object ≡ true → waiters_in object ≡ []
port_none (Semaphore sem waiters) is = true_is_not_false (sym is)
port_none _ is = refl

library_none : (object : Object) → is_library object ≡ true → waiters_in object ≡ []
library_none (Semaphore sem waiters) is = true_is_not_false (sym is)
library_none _ is = refl

new_none : (heap : Heap) (object : Object) → IsNew heap object → waiters_in object ≡ []
new_none heap (Semaphore sem waiters) is = is.1
new_none heap _ is = refl

gone_none : (found : Option Object) → MayGo found → Idle found → waiters_of_object found ≡ []
gone_none None may idle = refl
gone_none (Some (Semaphore sem waiters)) may idle = idle (free_owner sem may)
gone_none (Some (Library number count delayed)) may idle = absurd may
gone_none (Some _) may idle = refl

-- ---- what begins at an address becomes another

-- at an address where something begins for which no task waits, and which becomes something else like that
still_none : (address : ℕ) (object : Object) (kind : Object → Bool) (p : ℕ) (heap : Heap) → waiters_in object ≡ []
    → ((other : Object) → kind other ≡ true → waiters_in other ≡ []) → is_kind kind (object_at address heap) ≡ true
    → waiters_of p (map (replaced address object) heap) ≡ waiters_of p heap
unfolding waiters_of
still_none address object kind p heap e none is =
    ap (λ found. waiters_of_object found) (object_replaced address object p heap)
    ∙ cases_eq p address
    (λ same. quietly (nat_eq p address) object (object_at p heap) e
    (λ t. no_port kind none (object_at p heap) (subst (λ a. is_kind kind (object_at a heap) ≡ true) (sym same) is)))
    (λ apart. ap (λ test. waiters_of_object (if test then instead object (object_at p heap) else object_at p heap)) (nat_eq-other p address apart))

remade_none : (f : Object → Object) → ((object : Object) → waiters_in (f object) ≡ waiters_in object) → (found : Option Object)
    → waiters_of_object (option_map f found) ≡ waiters_of_object found
remade_none f same None = refl
remade_none f same (Some object) = same object

all_remade : (f : Object → Object) → ((object : Object) → waiters_in (f object) ≡ waiters_in object) → (p : ℕ) (heap : Heap)
    → waiters_of p (map (λ (entry : ℕ × Block). (entry.0, record entry.1 { object = f entry.1.object })) heap) ≡ waiters_of p heap
unfolding waiters_of
all_remade f same p heap = ap (λ found. waiters_of_object found) (object_remade f p heap) ∙ remade_none f same (object_at p heap)

left_same : (node : ℕ) (object : Object) → waiters_in (left_by node object) ≡ waiters_in object
left_same node Plain = refl
left_same node _ = refl

-- ---- tasks that leave

without_away : (t : ℕ) (q : List ℕ) → IsAway t q → without_item t q ≡ q
without_away t [] away = refl
without_away t (x ∷ q) away =
    ap (λ test. cond (not test) (x ∷ without_item t q) (without_item t q)) (nat_eq-other x t (λ e. away.0 (sym e))) ∙ ap (λ r. x ∷ r) (without_away t q away.1)

task_left : (t : ℕ) (found : Option Object) → waiters_of_object (option_map (left_by_task t) found) ≡ without_item t (waiters_of_object found)
task_left t (Some Plain) = refl
task_left t None = refl
task_left t (Some _) = refl

pub dropped_left : (t p : ℕ) (heap : Heap) → waiters_of p (dropped t heap) ≡ without_item t (waiters_of p heap)
unfolding waiters_of dropped
dropped_left t p heap = ap (λ found. waiters_of_object found) (object_remade (left_by_task t) p heap) ∙ task_left t (object_at p heap)

-- ---- what a semaphore has

is_there : (object : Object) (found : Option Object) → is_kind is_semaphore found ≡ true → instead object found ≡ Some object
is_there object None is = true_is_not_false (sym is)
is_there object (Some other) is = refl

semaphore_there : (semaphore : ℕ) (sem : Sem) (waiters : List ℕ) (heap : Heap) → is_semaphore_at semaphore heap ≡ true
    → waiters_of semaphore (with_semaphore semaphore sem waiters heap) ≡ waiters
unfolding waiters_of with_semaphore is_semaphore_at
semaphore_there semaphore sem waiters heap is =
    ap (λ found. waiters_of_object found)
    (object_replaced semaphore (Semaphore sem waiters) semaphore heap
    ∙ ap (λ test. if test then instead (Semaphore sem waiters) (object_at semaphore heap) else object_at semaphore heap) (nat_eq-same semaphore)
    ∙ is_there (Semaphore sem waiters) (object_at semaphore heap) is)

semaphore_elsewhere : (p semaphore : ℕ) (sem : Sem) (waiters : List ℕ) (heap : Heap) → p ≢ semaphore
    → waiters_of p (with_semaphore semaphore sem waiters heap) ≡ waiters_of p heap
unfolding waiters_of with_semaphore
semaphore_elsewhere p semaphore sem waiters heap apart =
    ap (λ found. waiters_of_object found)
    (object_replaced semaphore (Semaphore sem waiters) p heap
    ∙ ap (λ test. if test then instead (Semaphore sem waiters) (object_at p heap) else object_at p heap) (nat_eq-other p semaphore apart))

port_still : (port : ℕ) (act : Port) (messages : List ℕ) (p : ℕ) (heap : Heap) → is_port_at port heap ≡ true
    → waiters_of p (with_port port act messages heap) ≡ waiters_of p heap
unfolding with_port is_port_at
port_still port act messages p heap is = still_none port (MsgPort act messages) is_port p heap refl port_none is

content_still : (message : ℕ) (content : Content) (p : ℕ) (heap : Heap) → is_message_at message heap ≡ true
    → waiters_of p (filled message content heap) ≡ waiters_of p heap
unfolding is_message_at
content_still message content p heap is = still_none message (Message content) is_message p heap refl message_none is

-- ---- where tasks wait

-- a task waits nowhere
abbrev pub IsNowhere : ℕ → Heap → Type 0
IsNowhere t heap = (p : ℕ) → IsAway t (waiters_of p heap)

-- a task waits at no other address than the one that is found, and nowhere if none is found
abbrev pub WaitsAtOne : ℕ → Heap → Option ℕ → Type 0
WaitsAtOne t heap None = IsNowhere t heap
WaitsAtOne t heap (Some semaphore) = (p : ℕ) → p ≢ semaphore → IsAway t (waiters_of p heap)

removed_pass : (found : Option ℕ) (t p : ℕ) (heap : Heap) → WaitsAtOne t heap found
    → Follows (waiters_of p heap) (turns_at_semaphore p (leaving_marks found t)) (waiters_of p (dropped t heap))
removed_pass None t p heap one = dropped_left t p heap ∙ without_away t (waiters_of p heap) (one p)
removed_pass (Some semaphore) t p heap one =
    turned p semaphore (Left t) (waiters_of p heap) (waiters_of p (dropped t heap))
    (λ same. dropped_left t p heap)
    (λ apart. dropped_left t p heap ∙ without_away t (waiters_of p heap) (one p apart))

-- a call that a body may make leaves each queue as it is
pub touched_pass : (old : Heap) (marks : List Mark) (new : Heap) → Touches old marks new
    → (p : ℕ) → Follows (waiters_of p old) (turns_at_semaphore p marks) (waiters_of p new)
unfolding appended taken_off
touched_pass old marks new remains p = refl
touched_pass old marks new (fills message content is) p = content_still message content p old is
touched_pass old marks new (puts port message content is also loose) p =
    port_still port _ _ p (filled message content old) (port_stays port message _ old is also) ∙ content_still message _ p old also
touched_pass old marks new (gets port message is e) p = port_still port _ _ p old is

-- nobody waits for a library, counted or freed
counted_still : (base count : ℕ) (delayed : Bool) (p : ℕ) (heap : Heap) → is_library_at base heap ≡ true
    → waiters_of p (with_library base count delayed heap) ≡ waiters_of p heap
unfolding with_library is_library_at
counted_still base count delayed p heap is = still_none base _ is_library p heap refl library_none is

expunged_still : (base p : ℕ) (heap : Heap) → is_library_at base heap ≡ true → waiters_of p (rid base heap) ≡ waiters_of p heap
unfolding waiters_of is_library_at
expunged_still base p heap is =
    cases_eq p base
    (λ same. ap (λ found. waiters_of_object found) (ap (λ a. object_at a (rid base heap)) same ∙ object_rid_here base heap)
    ∙ sym (ap (λ a. waiters_of_object (object_at a heap)) same ∙ no_port is_library library_none (object_at base heap) is))
    (λ apart. ap (λ found. waiters_of_object found) (object_rid_there p base heap apart))

takes_still : {asks may_count : Bool} (regions : List Region) (old new : Heap) → Takes asks may_count regions old new → IsWellFormed regions (extents old)
    → (p : ℕ) → waiters_of p new ≡ waiters_of p old
takes_still regions old new nothing formed p = refl
takes_still regions old new (places size reqs address object is fits) formed p =
    unfold waiters_of in cases_eq p address
    (λ same. ap (λ found. waiters_of_object found) (ap (λ a. object_at a new) same ∙ object_placed_here address (round size) object old)
    ∙ new_none old object is
    ∙ sym (ap (λ found. waiters_of_object found) (ap (λ a. object_at a old) same ∙ placed_fresh regions size reqs address old formed fits)))
    (λ apart. ap (λ found. waiters_of_object found) (object_placed_there p address _ old apart))
takes_still regions old new (recounts base count delayed is more may rest) formed p =
    takes_still regions (with_library base count delayed old) new rest (counted_formed regions base count delayed old formed) p
    ∙ counted_still base count delayed p old (is formed)
takes_still regions old new (yields base is none may rest) formed p =
    takes_still regions (rid base old) new rest (rid_formed regions base old formed) p ∙ expunged_still base p old (is formed)

pub moves_pass : {asks : Bool} (regions : List Region) (t : ℕ) (call : Call) (old : Heap) (marks : List Mark) (new : Heap) → Moves asks regions t call old marks new
    → IsWellFormed regions (extents old) → AllIdle old → IsNowhere t old → ((other : ℕ) → WaitsAtOne other old (awaited_by other old))
    → (p : ℕ) → Follows (waiters_of p old) (turns_at_semaphore p marks) (waiters_of p new)
unfolding with_nodes unlinked with_action entered queued handed_on released_once is_list_at
moves_pass regions t call old marks new (touches how) formed idle nowhere one p = touched_pass old marks new how p
moves_pass regions t call old marks new (takes how) formed idle nowhere one p = takes_still regions old new how formed p
moves_pass regions t call old marks new (frees address may unneeded) formed idle nowhere one p =
    unfold waiters_of in cases_eq p address
    (λ same. ap (λ found. waiters_of_object found) (ap (λ a. object_at a new) same ∙ object_rid_here address old)
    ∙ sym (ap (λ a. waiters_of_object (object_at a old)) same ∙ gone_none (object_at address old) may (idle address)))
    (λ apart. ap (λ found. waiters_of_object found) (object_rid_there p address old apart))
moves_pass regions t call old marks new (relists list nodes is) formed idle nowhere one p = still_none list (ListHead nodes) is_list p old refl list_none is
moves_pass regions t call old marks new (unlinks node) formed idle nowhere one p = all_remade (left_by node) (left_same node) p old
moves_pass regions t call old marks new (sets act port is) formed idle nowhere one p = port_still port _ _ p old is
moves_pass regions t call old marks new (enters semaphore is e) formed idle nowhere one p =
    cases_eq p semaphore
    (λ same. ap (λ a. waiters_of a new) same ∙ semaphore_there semaphore _ (waiters_of semaphore old) old is ∙ sym (ap (λ a. waiters_of a old) same))
    (λ apart. semaphore_elsewhere p semaphore _ (waiters_of semaphore old) old apart)
moves_pass regions t call old marks new (queues semaphore is e) formed idle nowhere one p =
    turned p semaphore (Came t) (waiters_of p old) (waiters_of p new)
    (λ same. (
      nowhere p,
      ap (λ a. waiters_of a new) same
          ∙ semaphore_there semaphore _ (waiters_of semaphore old ++ t ∷ []) old is
          ∙ ap (λ q. q ++ t ∷ []) (sym (ap (λ a. waiters_of a old) same)),
    ))
    (λ apart. semaphore_elsewhere p semaphore _ (waiters_of semaphore old ++ t ∷ []) old apart)
moves_pass regions t call old marks new (hands semaphore owner release is last e) formed idle nowhere one p =
    turned p semaphore (Served owner) (waiters_of p old) (waiters_of p new)
    (λ same. ap (λ a. waiters_of a old) same ∙ first_is owner (waiters_of semaphore old) e
    ∙ ap (λ q. owner ∷ q) (sym (ap (λ a. waiters_of a new) same ∙ semaphore_there semaphore _ (drop 1 (waiters_of semaphore old)) old is)))
    (λ apart. semaphore_elsewhere p semaphore _ (drop 1 (waiters_of semaphore old)) old apart)
moves_pass regions t call old marks new (opens semaphore release is last e) formed idle nowhere one p =
    cases_eq p semaphore
    (λ same. ap (λ a. waiters_of a new) same ∙ semaphore_there semaphore _ (drop 1 (waiters_of semaphore old)) old is
    ∙ ap (λ q. drop 1 q) (first_none (waiters_of semaphore old) e)
    ∙ sym (ap (λ a. waiters_of a old) same ∙ first_none (waiters_of semaphore old) e))
    (λ apart. semaphore_elsewhere p semaphore _ (drop 1 (waiters_of semaphore old)) old apart)
moves_pass regions t call old marks new (counts base count delayed is may) formed idle nowhere one p = counted_still base count delayed p old (is formed)
moves_pass regions t call old marks new (expunges base is may) formed idle nowhere one p = expunged_still base p old is
moves_pass regions t call old marks new (releases semaphore is last) formed idle nowhere one p =
    cases_eq p semaphore
    (λ same. ap (λ a. waiters_of a new) same ∙ semaphore_there semaphore _ (waiters_of semaphore old) old is ∙ sym (ap (λ a. waiters_of a old) same))
    (λ apart. semaphore_elsewhere p semaphore _ (waiters_of semaphore old) old apart)
moves_pass regions t call old marks new (drops other apart) formed idle nowhere one p = removed_pass (awaited_by other old) other p old (one other)

-- ---- each thing that a call makes of requests, and the clock

request_none : (object : Object) → is_request object ≡ true → waiters_in object ≡ []
request_none (Request content) is = refl
request_none _ is = true_is_not_false (sym is)

written_waiters : (request : ℕ) (content : TimerRequest) (p : ℕ) (heap : Heap) → waiters_of p (with_request request content heap) ≡ waiters_of p heap
unfolding is_request_at
written_waiters request content p heap =
    written (λ h. waiters_of p h ≡ waiters_of p heap) request content heap refl
    (λ is. still_none request (Request content) is_request p heap refl request_none is)

pub asked_pass : (s : State) (marks : List Mark) (new : Heap) (later : List Queued) → Asks s marks new later
    → (p : ℕ) → Follows (waiters_of p s.memory.heap) (turns_at_semaphore p marks) (waiters_of p new)
unfolding appended
asked_pass s marks new later (writes request content waiting rewritten) p = written_waiters request content p s.memory.heap
asked_pass s marks new later (answers port request content waiting is rewritten reply) p =
    port_still port _ _ p (with_request request content s.memory.heap) (ports_written request content s.memory.heap port ∙ is)
    ∙ written_waiters request content p s.memory.heap

pub taken_pass : (port request : ℕ) (heap : Heap) → is_port_at port heap ≡ true
    → (p : ℕ) → Follows (waiters_of p heap) (turns_at_semaphore p (out port request ∷ [])) (waiters_of p (without_reply port request heap))
taken_pass port request heap is p = port_still port _ _ p heap is
