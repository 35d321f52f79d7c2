-- Messages leave a port in the order in which they came.
use Rattle.std.proofs.Common.{◌≡◌, ◌≢◌, ℕ, Bool, true, false, List, [], ◌∷◌, ◌++◌, Option, None, Some, refl, sym, ap, ◌∙◌, subst, cond, if◌then◌else◌, nat_eq, map, drop, ◌==◌, ◌||◌, option_map, nat_cmp}
use Rattle.std.specs.{List.list_any, Ordering.eq_by_cmp}
use Rattle.memlist.specs.{declared.region.Region.Region, Memory.IsWellFormed, Fit.round}
use Rattle.memlist.proofs.Answered.{nat_eq-same, nat_eq-other, cases_eq}
use Rattle.execlist.specs.Order.{first, without_item}
use Rattle.iorequest.specs.declared.request.Request.{Request as TimerRequest}
use Rattle.execmodel.specs.State.{Call, Object, Plain, ListHead, MsgPort, Message, Semaphore, Library, Block, Heap, Waiting as Queued, Mark, out, State}
use Rattle.execmodel.specs.Ports.{is_port, is_message, is_port_at, is_message_at, messages_in, messages_of_object, messages_of, is_queued, has_message, with_port, with_action, appended, taken_off}
use Rattle.execmodel.specs.Semaphores.{is_semaphore, is_semaphore_at, with_semaphore, left_by_task, entered, queued, dropped, handed_on, released_once, awaited_by}
use Rattle.execmodel.specs.{Requests.with_request, Objects.object_at, Objects.is_kind, Objects.replaced, Memory.extents, Memory.block_at, Lists.is_list, Lists.is_list_at, Lists.with_nodes, Lists.unlinked, Lists.left_by, Libraries.is_library, Libraries.is_library_at, Libraries.with_library, Queues.Turn, Queues.Came, Queues.Served, Queues.Left, Marks.turn_at, Marks.turns_at_port}
use Rattle.execmodel.proofs.BlocksAfter.{MayGo, leaving_marks, Moves, touches, takes, frees, relists, unlinks, sets, enters, queues, hands, opens, releases, counts, expunges, drops}
use Rattle.execmodel.proofs.{Queues.Turns, Queues.Follows, Queues.IsAway, Heaps.rid, Heaps.filled, Heaps.instead, Heaps.object_replaced, Heaps.object_remade, Heaps.object_placed_here, Heaps.object_placed_there, Heaps.object_rid_here, Heaps.object_rid_there, Heaps.true_is_not_false, WellFormed.placed_fresh, WellFormed.counted_formed, WellFormed.rid_formed, Commands.Touches, Commands.remains, Commands.fills, Commands.puts, Commands.gets, Commands.none_some, Posts.IsTidy, Posts.messages_are, Asking.Asks, Asking.writes, Asking.answers, Asking.messages_written, Asking.ports_written, Asking.without_reply, Taking.IsNew, Taking.Takes, Taking.nothing, Taking.places, Taking.recounts, Taking.yields}
use Rattle.msgport.specs.{Port.Port, declared.message.Message.Message as Content}
use Rattle.sigsem.specs.declared.semaphore.Sem.{Sem}

pub both_false : {A : Type 0} (b c : Bool) → (b || c) ≡ false → (b ≡ false → c ≡ false → A) → A
both_false true c e f = true_is_not_false e
both_false false c e f = f refl e

some_same : {x y : ℕ} → Some x ≡ Some y → x ≡ y
some_same {x} {y} e = cc

-- ---- what has no messages

instead_none : (object : Object) (found : Option Object) → messages_in object ≡ [] → messages_of_object (instead object found) ≡ []
instead_none object None e = refl
instead_none object (Some other) e = e

-- an object in place of one without messages, which has none either
quietly : (test : Bool) (object : Object) (found : Option Object) → messages_in object ≡ []
    → (test ≡ true → messages_of_object found ≡ [])
    → messages_of_object (if test then instead object found else found) ≡ messages_of_object found
quietly true object found e none = instead_none object found e ∙ sym (none refl)
quietly false object found e none = refl

no_port : (kind : Object → Bool) → ((object : Object) → kind object ≡ true → messages_in object ≡ []) → (found : Option Object)
    → is_kind kind found ≡ true → messages_of_object found ≡ []
no_port kind none None is = refl
no_port kind none (Some object) is = none object is

list_none : (object : Object) → is_list object ≡ true → messages_in object ≡ []
list_none (MsgPort port messages) is = true_is_not_false (sym is)
list_none _ is = refl

message_none : (object : Object) → is_message object ≡ true → messages_in object ≡ []
message_none (MsgPort port messages) is = true_is_not_false (sym is)
message_none _ is = refl

semaphore_none : (object : Object) → is_semaphore object ≡ true → messages_in object ≡ []
semaphore_none (MsgPort port messages) is = true_is_not_false (sym is)
semaphore_none _ is = refl

library_none : (object : Object) → is_library object ≡ true → messages_in object ≡ []
library_none (MsgPort port messages) is = true_is_not_false (sym is)
library_none _ is = refl

new_none : (heap : Heap) (object : Object) → IsNew heap object → messages_in object ≡ []
new_none heap (MsgPort port messages) is = is
new_none heap _ is = refl

pub first_none : (messages : List ℕ) → first messages ≡ None → messages ≡ []
first_none [] e = refl
first_none (m ∷ messages) e = none_some e

gone_none : (found : Option Object) → MayGo found → messages_of_object found ≡ []
gone_none None may = refl
gone_none (Some (MsgPort port messages)) may = first_none messages may
gone_none (Some (Library number count delayed)) may = absurd may
gone_none (Some _) may = refl

-- ---- what begins at an address becomes another

-- at an address where something without messages begins, which becomes something else without messages
still_none : (address : ℕ) (object : Object) (kind : Object → Bool) (p : ℕ) (heap : Heap) → messages_in object ≡ []
    → ((other : Object) → kind other ≡ true → messages_in other ≡ []) → is_kind kind (object_at address heap) ≡ true
    → messages_of p (map (replaced address object) heap) ≡ messages_of p heap
unfolding messages_of
still_none address object kind p heap e none is =
    ap (λ found. messages_of_object found) (object_replaced address object p heap)
    ∙ cases_eq p address
    (λ same. quietly (nat_eq p address) object (object_at p heap) e
    (λ t. no_port kind none (object_at p heap) (subst (λ a. is_kind kind (object_at a heap) ≡ true) (sym same) is)))
    (λ apart. ap (λ test. messages_of_object (if test then instead object (object_at p heap) else object_at p heap)) (nat_eq-other p address apart))

remade_none : (f : Object → Object) → ((object : Object) → messages_in (f object) ≡ messages_in object) → (found : Option Object)
    → messages_of_object (option_map f found) ≡ messages_of_object found
remade_none f same None = refl
remade_none f same (Some object) = same object

all_remade : (f : Object → Object) → ((object : Object) → messages_in (f object) ≡ messages_in object) → (p : ℕ) (heap : Heap)
    → messages_of p (map (λ (entry : ℕ × Block). (entry.0, record entry.1 { object = f entry.1.object })) heap) ≡ messages_of p heap
unfolding messages_of
all_remade f same p heap = ap (λ found. messages_of_object found) (object_remade f p heap) ∙ remade_none f same (object_at p heap)

left_same : (node : ℕ) (object : Object) → messages_in (left_by node object) ≡ messages_in object
left_same node Plain = refl
left_same node _ = refl

task_left_same : (t : ℕ) (object : Object) → messages_in (left_by_task t object) ≡ messages_in object
task_left_same t Plain = refl
task_left_same t _ = refl

-- ---- what a port has

is_there : (object : Object) (found : Option Object) → is_kind is_port found ≡ true → instead object found ≡ Some object
is_there object None is = true_is_not_false (sym is)
is_there object (Some other) is = refl

-- the messages of a port that gets other ones, and of any other
port_there : (port : ℕ) (act : Port) (messages : List ℕ) (heap : Heap) → is_port_at port heap ≡ true
    → messages_of port (with_port port act messages heap) ≡ messages
unfolding messages_of with_port is_port_at
port_there port act messages heap is =
    ap (λ found. messages_of_object found)
    (object_replaced port (MsgPort act messages) port heap
    ∙ ap (λ test. if test then instead (MsgPort act messages) (object_at port heap) else object_at port heap) (nat_eq-same port)
    ∙ is_there (MsgPort act messages) (object_at port heap) is)

port_elsewhere : (p port : ℕ) (act : Port) (messages : List ℕ) (heap : Heap) → p ≢ port
    → messages_of p (with_port port act messages heap) ≡ messages_of p heap
unfolding messages_of with_port
port_elsewhere p port act messages heap apart =
    ap (λ found. messages_of_object found)
    (object_replaced port (MsgPort act messages) p heap
    ∙ ap (λ test. if test then instead (MsgPort act messages) (object_at p heap) else object_at p heap) (nat_eq-other p port apart))

port_and_message : (found : Option Object) → is_kind is_port found ≡ true → is_kind is_message found ≡ true → ⊥
port_and_message None is also = true_is_not_false (sym is)
port_and_message (Some (MsgPort port messages)) is also = true_is_not_false (sym also)
port_and_message (Some _) is also = true_is_not_false (sym is)

-- a port stays one if a message gets another content
pub port_stays : (port message : ℕ) (content : Content) (heap : Heap) → is_port_at port heap ≡ true → is_message_at message heap ≡ true
    → is_port_at port (filled message content heap) ≡ true
unfolding is_port_at is_message_at
port_stays port message content heap is also =
    ap (λ found. is_kind is_port found) (object_replaced message (Message content) port heap
    ∙ ap (λ test. if test then instead (Message content) (object_at port heap) else object_at port heap)
    (nat_eq-other port message
    (λ same. port_and_message (object_at port heap) is (subst (λ a. is_kind is_message (object_at a heap) ≡ true) (sym same) also))))
    ∙ is

content_still : (message : ℕ) (content : Content) (p : ℕ) (heap : Heap) → is_message_at message heap ≡ true
    → messages_of p (filled message content heap) ≡ messages_of p heap
unfolding is_message_at
content_still message content p heap is = still_none message (Message content) is_message p heap refl message_none is

semaphore_still : (semaphore : ℕ) (sem : Sem) (waiters : List ℕ) (p : ℕ) (heap : Heap) → is_semaphore_at semaphore heap ≡ true
    → messages_of p (with_semaphore semaphore sem waiters heap) ≡ messages_of p heap
unfolding with_semaphore is_semaphore_at
semaphore_still semaphore sem waiters p heap is = still_none semaphore (Semaphore sem waiters) is_semaphore p heap refl semaphore_none is

-- a message that is queued nowhere is in no port
away_from : (message : ℕ) (messages : List ℕ) → list_any (λ other. other == message) messages ≡ false → IsAway message messages
away_from message [] e = tt
away_from message (other ∷ rest) e =
    both_false (nat_eq other message) (list_any (λ x. x == message) rest) e
    (λ here there. ((λ same. true_is_not_false (sym (ap (λ k. nat_eq k message) (sym same) ∙ nat_eq-same message) ∙ here)), away_from message rest there))

entry_away : (message : ℕ) (test : Bool) (block : Block) (found : Option Block)
    → list_any (λ other. other == message) (messages_in block.object) ≡ false
    → IsAway message (messages_of_object (option_map (λ (b : Block). b.object) found))
    → IsAway message (messages_of_object (option_map (λ (b : Block). b.object) (cond test (Some block) found)))
entry_away message true block found here there = away_from message (messages_in block.object) here
entry_away message false block found here there = there

queued_nowhere : (message p : ℕ) (heap : Heap) → list_any (has_message message) heap ≡ false → IsAway message (messages_of_object (object_at p heap))
queued_nowhere message p [] e = tt
queued_nowhere message p (entry ∷ rest) e =
    both_false (has_message message entry) (list_any (has_message message) rest) e
    (λ here there. entry_away message (eq_by_cmp nat_cmp p entry.0) entry.1 (block_at p rest) here (queued_nowhere message p rest there))

pub is_away : (message port : ℕ) (heap : Heap) → is_queued message heap ≡ false → IsAway message (messages_of port heap)
unfolding is_queued messages_of
is_away message port heap e = queued_nowhere message port heap e

pub first_is : (message : ℕ) (messages : List ℕ) → first messages ≡ Some message → messages ≡ message ∷ drop 1 messages
first_is message [] e = none_some (sym e)
first_is message (m ∷ messages) e = ap (λ k. k ∷ messages) (some_same e)

-- ---- each thing that a call makes of the blocks

-- one turn, if it is at this address
pub turned : (p address : ℕ) (turn : Turn) (old new : List ℕ) → (p ≡ address → Turns turn old new) → (p ≢ address → new ≡ old)
    → Follows old (turn_at p address turn ++ []) new
turned p address turn old new here there =
    cases_eq p address
    (λ same. subst (λ test. Follows old ((if test then turn ∷ [] else []) ++ []) new)
    (sym (ap (λ k. nat_eq p k) (sym same) ∙ nat_eq-same p)) (new, here same, refl))
    (λ apart. subst (λ test. Follows old ((if test then turn ∷ [] else []) ++ []) new) (sym (nat_eq-other p address apart)) (there apart))

left_marks : (semaphore : Option ℕ) (t p : ℕ) → turns_at_port p (leaving_marks semaphore t) ≡ []
left_marks None t p = refl
left_marks (Some semaphore) t p = refl

-- each thing that a call makes of the blocks, also one in a body
pub touched_follow : (old : Heap) (marks : List Mark) (new : Heap) → Touches old marks new
    → (p : ℕ) → Follows (messages_of p old) (turns_at_port p marks) (messages_of p new)
unfolding appended taken_off
touched_follow old marks new remains p = refl
touched_follow old marks new (fills message content is) p = content_still message content p old is
touched_follow old marks new (puts port message content is also loose) p =
    let mid = filled message content old in
    turned p port (Came message) (messages_of p old) (messages_of p new)
    (λ same. (
      subst (λ a. IsAway message (messages_of a old)) (sym same) (is_away message port old loose),
      ap (λ a. messages_of a new) same
          ∙ port_there port _ (messages_of port mid ++ message ∷ []) mid (port_stays port message _ old is also)
          ∙ ap (λ q. q ++ message ∷ []) (content_still message _ port old also ∙ sym (ap (λ a. messages_of a old) same)),
    ))
    (λ apart. port_elsewhere p port _ (messages_of port mid ++ message ∷ []) mid apart ∙ content_still message _ p old also)
touched_follow old marks new (gets port message is e) p =
    turned p port (Served message) (messages_of p old) (messages_of p new)
    (λ same. ap (λ a. messages_of a old) same ∙ first_is message (messages_of port old) e
    ∙ ap (λ q. message ∷ q) (sym (ap (λ a. messages_of a new) same ∙ port_there port _ (drop 1 (messages_of port old)) old is)))
    (λ apart. port_elsewhere p port _ (drop 1 (messages_of port old)) old apart)

-- a library has no messages, counted or freed
counted_still : (base count : ℕ) (delayed : Bool) (p : ℕ) (heap : Heap) → is_library_at base heap ≡ true
    → messages_of p (with_library base count delayed heap) ≡ messages_of p heap
unfolding with_library is_library_at
counted_still base count delayed p heap is = still_none base _ is_library p heap refl library_none is

expunged_still : (base p : ℕ) (heap : Heap) → is_library_at base heap ≡ true → messages_of p (rid base heap) ≡ messages_of p heap
unfolding messages_of is_library_at
expunged_still base p heap is =
    cases_eq p base
    (λ same. ap (λ found. messages_of_object found) (ap (λ a. object_at a (rid base heap)) same ∙ object_rid_here base heap)
    ∙ sym (ap (λ a. messages_of_object (object_at a heap)) same ∙ no_port is_library library_none (object_at base heap) is))
    (λ apart. ap (λ found. messages_of_object found) (object_rid_there p base heap apart))

takes_still : {asks may_count : Bool} (regions : List Region) (old new : Heap) → Takes asks may_count regions old new → IsWellFormed regions (extents old)
    → (p : ℕ) → messages_of p new ≡ messages_of p old
takes_still regions old new nothing formed p = refl
takes_still regions old new (places size reqs address object is fits) formed p =
    unfold messages_of in cases_eq p address
    (λ same. ap (λ found. messages_of_object found) (ap (λ a. object_at a new) same ∙ object_placed_here address (round size) object old)
    ∙ new_none old object is
    ∙ sym (ap (λ found. messages_of_object found) (ap (λ a. object_at a old) same ∙ placed_fresh regions size reqs address old formed fits)))
    (λ apart. ap (λ found. messages_of_object found) (object_placed_there p address _ old apart))
takes_still regions old new (recounts base count delayed is more may rest) formed p =
    takes_still regions (with_library base count delayed old) new rest (counted_formed regions base count delayed old formed) p
    ∙ counted_still base count delayed p old (is formed)
takes_still regions old new (yields base is none may rest) formed p =
    takes_still regions (rid base old) new rest (rid_formed regions base old formed) p ∙ expunged_still base p old (is formed)

pub moves_follow : {asks : Bool} (regions : List Region) (t : ℕ) (call : Call) (old : Heap) (marks : List Mark) (new : Heap) → Moves asks regions t call old marks new
    → IsWellFormed regions (extents old) → (p : ℕ) → Follows (messages_of p old) (turns_at_port p marks) (messages_of p new)
unfolding with_nodes unlinked with_action entered queued dropped handed_on released_once is_list_at
moves_follow regions t call old marks new (touches how) formed p = touched_follow old marks new how p
moves_follow regions t call old marks new (takes how) formed p = takes_still regions old new how formed p
moves_follow regions t call old marks new (frees address may unneeded) formed p =
    unfold messages_of in cases_eq p address
    (λ same. ap (λ found. messages_of_object found) (ap (λ a. object_at a new) same ∙ object_rid_here address old)
    ∙ sym (ap (λ a. messages_of_object (object_at a old)) same ∙ gone_none (object_at address old) may))
    (λ apart. ap (λ found. messages_of_object found) (object_rid_there p address old apart))
moves_follow regions t call old marks new (relists list nodes is) formed p = still_none list (ListHead nodes) is_list p old refl list_none is
moves_follow regions t call old marks new (unlinks node) formed p = all_remade (left_by node) (left_same node) p old
moves_follow regions t call old marks new (sets act port is) formed p =
    cases_eq p port
    (λ same. ap (λ a. messages_of a new) same ∙ port_there port _ (messages_of port old) old is ∙ sym (ap (λ a. messages_of a old) same))
    (λ apart. port_elsewhere p port _ (messages_of port old) old apart)
moves_follow regions t call old marks new (enters semaphore is e) formed p = semaphore_still semaphore _ _ p old is
moves_follow regions t call old marks new (queues semaphore is e) formed p = semaphore_still semaphore _ _ p old is
moves_follow regions t call old marks new (hands semaphore owner release is last e) formed p = semaphore_still semaphore _ _ p old is
moves_follow regions t call old marks new (opens semaphore release is last e) formed p = semaphore_still semaphore _ _ p old is
moves_follow regions t call old marks new (releases semaphore is last) formed p = semaphore_still semaphore _ _ p old is
moves_follow regions t call old marks new (counts base count delayed is may) formed p = counted_still base count delayed p old (is formed)
moves_follow regions t call old marks new (expunges base is may) formed p = expunged_still base p old is
moves_follow regions t call old marks new (drops other apart) formed p =
    subst (λ turns. Follows (messages_of p old) turns (messages_of p new)) (sym (left_marks (awaited_by other old) other p))
    (all_remade (left_by_task other) (task_left_same other) p old)

-- ---- each thing that a call makes of requests, and the clock

written_messages : (request : ℕ) (content : TimerRequest) (p : ℕ) (heap : Heap) → messages_of p (with_request request content heap) ≡ messages_of p heap
written_messages request content p heap =
    messages_are p (with_request request content heap) ∙ messages_written request content heap p ∙ sym (messages_are p heap)

pub asked_follow : (s : State) (marks : List Mark) (new : Heap) (later : List Queued) → Asks s marks new later → IsTidy s
    → (p : ℕ) → Follows (messages_of p s.memory.heap) (turns_at_port p marks) (messages_of p new)
unfolding appended
asked_follow s marks new later (writes request content waiting rewritten) tidy p = written_messages request content p s.memory.heap
asked_follow s marks new later (answers port request content waiting is rewritten reply) tidy p =
    let old = s.memory.heap in
    let mid = with_request request content old in
    turned p port (Came request) (messages_of p old) (messages_of p new)
    (λ same. (
      (reply tidy).loose p,
      ap (λ a. messages_of a new) same
          ∙ port_there port _ (messages_of port mid ++ request ∷ []) mid (ports_written request content old port ∙ is)
          ∙ ap (λ q. q ++ request ∷ []) (written_messages request content port old ∙ sym (ap (λ a. messages_of a old) same)),
    ))
    (λ apart. port_elsewhere p port _ (messages_of port mid ++ request ∷ []) mid apart ∙ written_messages request content p old)

-- a reply that is taken out of its port leaves it unserved
pub taken_follow : (port request : ℕ) (heap : Heap) → is_port_at port heap ≡ true
    → (p : ℕ) → Follows (messages_of p heap) (turns_at_port p (out port request ∷ [])) (messages_of p (without_reply port request heap))
taken_follow port request heap is p =
    let new = without_reply port request heap in
    turned p port (Left request) (messages_of p heap) (messages_of p new)
    (λ same. ap (λ a. messages_of a new) same ∙ port_there port _ (without_item request (messages_of port heap)) heap is
    ∙ ap (λ a. without_item request (messages_of a heap)) (sym same))
    (λ apart. port_elsewhere p port _ (without_item request (messages_of port heap)) heap apart)
