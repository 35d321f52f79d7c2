-- The requests stay in order with the ports and the timer, whatever a call does.
use Rattle.std.proofs.Common.{◌≡◌, ◌≢◌, ℕ, Bool, true, false, List, [], ◌∷◌, ◌++◌, Option, None, Some, refl, sym, ap, ◌∙◌, subst, not, cond, ◌&&◌, nat_eq, map, drop, option_map, nat_cmp}
use Rattle.std.specs.{List.list_any, Ordering.eq_by_cmp}
use Rattle.memlist.specs.{declared.region.Region.Region, Fit.round, Memory.IsWellFormed}
use Rattle.memlist.proofs.Answered.{nat_eq-same, cases_eq}
use Rattle.execlist.specs.Order.{without_item}
use Rattle.iorequest.specs.{declared.request.Request.Request as TimerRequest, Request.is_under_way}
use Rattle.execmodel.specs.State.{Call, Object, ListHead, MsgPort, Message, Semaphore, Library, Request, Block, Heap, Waiting as Queued, Mark, State}
use Rattle.execmodel.specs.Semaphores.{is_semaphore, is_semaphore_at, with_semaphore, left_by_task, entered, queued, dropped, handed_on, released_once}
use Rattle.execmodel.specs.{Objects.object_at, Objects.is_kind, Objects.replaced, Memory.extents, Memory.block_at, Lists.is_list, Lists.is_list_at, Lists.with_nodes, Lists.unlinked, Lists.left_by, Ports.is_port, Ports.is_message, Ports.is_port_at, Ports.is_message_at, Ports.is_awaited_at, Ports.replies_to, Ports.messages_of, Ports.with_port, Ports.with_action, Ports.appended, Ports.taken_off, Libraries.is_library, Libraries.is_library_at, Libraries.with_library, Requests.request_of, Requests.with_request}
use Rattle.execmodel.proofs.Posts.{Post, APort, AMessage, ARequest, Other, post_in, post_of_object, post_at, messages_at, asked_at, is_a_port, is_mail, may_be_in, AreInOrder, IsTidy, messages_are, port_is, port_there, message_there, request_there, post_elsewhere, post_here, post_remade, unchanged, queue_changes, content_changes, replaced_in_order}
use Rattle.execmodel.proofs.BlocksAfter.{MayGo, IsUnneeded, list_other, semaphore_other, Moves, touches, takes, frees, relists, unlinks, sets, enters, queues, hands, opens, releases, counts, expunges, drops}
use Rattle.execmodel.proofs.{Heaps.rid, Heaps.filled, Heaps.object_placed_here, Heaps.object_placed_there, Heaps.object_rid_here, Heaps.object_rid_there, Heaps.true_is_not_false, Queues.IsAway, Queues.away_more, Queues.away_drop, Queues.away_without, Asking.Asks, Asking.writes, Asking.answers, Asking.IsRewritten, Asking.written_here, Asking.written_elsewhere, Asking.ports_written, Asking.without_reply, WellFormed.placed_fresh, WellFormed.counted_formed, WellFormed.rid_formed, Fifo.both_false, Fifo.is_away, Fifo.first_none, Fifo.port_stays, Commands.Touches, Commands.remains, Commands.fills, Commands.puts, Commands.gets, Taking.IsNew, Taking.Takes, Taking.nothing, Taking.places, Taking.recounts, Taking.yields}

-- ---- what nobody sees

-- an object in place of one that is the same for those who post
same_there : (kind : Object → Bool) (address : ℕ) (object : Object) (heap : Heap) → is_kind kind (object_at address heap) ≡ true
    → post_at heap address ≡ post_in object → (a : ℕ) → post_at (map (replaced address object) heap) a ≡ post_at heap a
same_there kind address object heap is same a =
    cases_eq a address
    (λ here. ap (λ k. post_at (map (replaced address object) heap) k) here ∙ post_here kind address object heap is
    ∙ sym (ap (λ k. post_at heap k) here ∙ same))
    (λ apart. post_elsewhere a address object heap apart)

left_post : (node : ℕ) (object : Object) → post_in (left_by node object) ≡ post_in object
left_post node (ListHead nodes) = refl
left_post node _ = refl

task_left_post : (t : ℕ) (object : Object) → post_in (left_by_task t object) ≡ post_in object
task_left_post t (Semaphore sem waiters) = refl
task_left_post t _ = refl

library_other : (found : Option Object) → is_kind is_library found ≡ true → post_of_object found ≡ Other
library_other None is = refl
library_other (Some (Library number count delayed)) is = refl
library_other (Some _) is = true_is_not_false (sym is)

-- ---- what is new, and what goes

new_messages : (heap : Heap) (object : Object) → IsNew heap object → messages_at (post_in object) ≡ []
new_messages heap (MsgPort port messages) is = is
new_messages heap _ is = refl

new_rests : (heap : Heap) (object : Object) → IsNew heap object → is_under_way (asked_at (post_in object)) ≡ false
new_rests heap (Request content) is = is
new_rests heap _ is = refl

gone_messages : (found : Option Object) → MayGo found → messages_at (post_of_object found) ≡ []
gone_messages None may = refl
gone_messages (Some (MsgPort port messages)) may = first_none messages may
gone_messages (Some _) may = refl

gone_rests : (found : Option Object) → MayGo found → is_under_way (asked_at (post_of_object found)) ≡ false
gone_rests None may = refl
gone_rests (Some (Request content)) may = may
gone_rests (Some _) may = refl

no_mail : (x : Post) (port : ℕ) → is_mail x ≡ false → may_be_in port x ≡ false
no_mail (APort messages) port e = refl
no_mail AMessage port e = true_is_not_false e
no_mail (ARequest content) port e = true_is_not_false e
no_mail Other port e = refl

-- a port that is not awaited is the reply port of no request in progress
abbrev AwaitsNot : ℕ → Option Object → Type 0
AwaitsNot port found = is_under_way (asked_at (post_of_object found)) ≡ true → (asked_at (post_of_object found)).port ≢ port

object_awaits : (port : ℕ) (object : Object) → replies_to port object ≡ false → AwaitsNot port (Some object)
object_awaits port (Request content) e = λ under same.
    true_is_not_false (sym (ap (λ b. b && is_under_way content) (ap (λ k. nat_eq k port) same ∙ nat_eq-same port) ∙ under) ∙ e)
object_awaits port _ e = λ under. true_is_not_false (sym under)

entry_replies : (port : ℕ) (test : Bool) (block : Block) (found : Option Block) → replies_to port block.object ≡ false
    → AwaitsNot port (option_map (λ (b : Block). b.object) found) → AwaitsNot port (option_map (λ (b : Block). b.object) (cond test (Some block) found))
entry_replies port true block found here there = object_awaits port block.object here
entry_replies port false block found here there = there

nobody_awaits : (port : ℕ) (heap : Heap) → list_any (λ (entry : ℕ × Block). replies_to port entry.1.object) heap ≡ false
    → (request : ℕ) → AwaitsNot port (object_at request heap)
nobody_awaits port [] e request = λ under. true_is_not_false (sym under)
nobody_awaits port (entry ∷ rest) e request =
    both_false (replies_to port entry.1.object) (list_any (λ (x : ℕ × Block). replies_to port x.1.object) rest) e
    (λ here there. entry_replies port (eq_by_cmp nat_cmp request entry.0) entry.1 (block_at request rest) here (nobody_awaits port rest there request))

-- ---- whatever a call does, also one in a body

module _ (waiting : List Queued) where
  filled_order : (message : ℕ) (content : Object) (old : Heap) → is_message_at message old ≡ true → post_in content ≡ AMessage
      → AreInOrder (post_at old) waiting → AreInOrder (post_at (map (replaced message content) old)) waiting
  filled_order message content old is same order =
      unchanged (post_at old) (post_at (map (replaced message content) old)) waiting order
      (same_there is_message message content old (unfold is_message_at in is) (message_there message old is ∙ sym same))

  -- a port gets other messages: fewer, or one more that may be there
  requeued : (port : ℕ) (heap new : Heap) (messages : List ℕ) → is_port_at port heap ≡ true → post_at new port ≡ APort messages
      → ((a : ℕ) → a ≢ port → post_at new a ≡ post_at heap a)
      → ((who : ℕ) → may_be_in port (post_at heap who) ≡ false → IsAway who (messages_of port heap) → IsAway who messages)
      → AreInOrder (post_at heap) waiting → AreInOrder (post_at new) waiting
  requeued port heap new messages is here there keeps order =
      queue_changes (post_at heap) (post_at new) waiting order port (messages_of port heap) messages (port_there port heap is) here there keeps

  appended_order : (port who : ℕ) (heap : Heap) → is_port_at port heap ≡ true → may_be_in port (post_at heap who) ≡ true
      → AreInOrder (post_at heap) waiting → AreInOrder (post_at (appended port who heap)) waiting
  unfolding appended with_port
  appended_order port who heap is may order =
      requeued port heap _ (messages_of port heap ++ who ∷ []) is (post_here is_port port _ heap (unfold is_port_at in is))
      (λ a apart. post_elsewhere a port _ heap apart)
      (λ other barred away. away_more other who (messages_of port heap) away
      (λ same. true_is_not_false (sym may ∙ ap (λ k. may_be_in port (post_at heap k)) (sym same) ∙ barred)))
      order

  pub touched_order : (old : Heap) (marks : List Mark) (new : Heap) → Touches old marks new → AreInOrder (post_at old) waiting
      → AreInOrder (post_at new) waiting
  touched_order old marks new remains order = order
  touched_order old marks new (fills message content is) order = filled_order message (Message content) old is refl order
  touched_order old marks new (puts port message content is also loose) order =
      appended_order port message (filled message content old) (port_stays port message content old is also)
      (ap (may_be_in port) (post_here is_message message (Message content) old (unfold is_message_at in also)))
      (filled_order message (Message content) old also refl order)
  touched_order old marks new (gets port message is e) order =
      unfold taken_off with_port in
      requeued port old _ (drop 1 (messages_of port old)) is (post_here is_port port _ old (unfold is_port_at in is))
      (λ a apart. post_elsewhere a port _ old apart) (λ who barred away. away_drop who (messages_of port old) away) order

  pub taken_order : (port request : ℕ) (heap : Heap) → is_port_at port heap ≡ true → AreInOrder (post_at heap) waiting
      → AreInOrder (post_at (without_reply port request heap)) waiting
  unfolding with_port
  taken_order port request heap is order =
      requeued port heap _ (without_item request (messages_of port heap)) is (post_here is_port port _ heap (unfold is_port_at in is))
      (λ a apart. post_elsewhere a port _ heap apart) (λ who barred away. away_without who request (messages_of port heap) away) order

  -- a semaphore becomes another one
  semaphore_order : (semaphore : ℕ) (object : Object) (old : Heap) → is_semaphore_at semaphore old ≡ true → post_in object ≡ Other
      → AreInOrder (post_at old) waiting → AreInOrder (post_at (map (replaced semaphore object) old)) waiting
  unfolding is_semaphore_at
  semaphore_order semaphore object old is same order =
      unchanged (post_at old) (post_at (map (replaced semaphore object) old)) waiting order
      (same_there is_semaphore semaphore object old is (semaphore_other (object_at semaphore old) is ∙ sym same))

  remade_order : (f : Object → Object) → ((object : Object) → post_in (f object) ≡ post_in object) → (old : Heap) → AreInOrder (post_at old) waiting
      → AreInOrder (post_at (map (λ (entry : ℕ × Block). (entry.0, record entry.1 { object = f entry.1.object })) old)) waiting
  remade_order f same old order = unchanged (post_at old) _ waiting order (post_remade f same old)

  -- if nothing begins for those who post, no request in progress has its reply port
  other_needless : (old : Heap) (address : ℕ) → post_at old address ≡ Other → AreInOrder (post_at old) waiting
      → (request : ℕ) → is_under_way (asked_at (post_at old request)) ≡ true → (asked_at (post_at old request)).port ≢ address
  other_needless old address is order request under same =
      true_is_not_false (sym (order.lives request under) ∙ ap (λ k. is_a_port (post_at old k)) same ∙ ap is_a_port is)

  -- what is freed is in no port, and is the reply port of no request in progress
  nowhere : (address : ℕ) (old : Heap) → IsUnneeded address old → AreInOrder (post_at old) waiting → (a : ℕ) → IsAway address (messages_at (post_at old a))
  nowhere address old unneeded order a = tested (is_mail (post_at old address)) refl
    where
      tested : (b : Bool) → is_mail (post_at old address) ≡ b → IsAway address (messages_at (post_at old a))
      tested true e = subst (λ messages. IsAway address messages) (messages_are a old) (is_away address a old (unneeded.unqueued e))
      tested false e = order.stands address a (no_mail (post_at old address) a e)

  needed_by_none : (address : ℕ) (old : Heap) → IsUnneeded address old → AreInOrder (post_at old) waiting
      → (request : ℕ) → is_under_way (asked_at (post_at old request)) ≡ true → (asked_at (post_at old request)).port ≢ address
  needed_by_none address old unneeded order request under same =
      nobody_awaits address old
      (unfold is_awaited_at in
      unneeded.unawaited (ap (λ k. is_a_port (post_at old k)) (sym same) ∙ order.lives request under)) request under same

  -- a library is other to those who post, counted or freed
  counted_order : (base count : ℕ) (delayed : Bool) (old : Heap) → is_library_at base old ≡ true → AreInOrder (post_at old) waiting
      → AreInOrder (post_at (with_library base count delayed old)) waiting
  unfolding with_library is_library_at
  counted_order base count delayed old is order =
      unchanged (post_at old) _ waiting order (same_there is_library base _ old is (library_other (object_at base old) is))

  expunged_order : (base : ℕ) (old : Heap) → is_library_at base old ≡ true → AreInOrder (post_at old) waiting
      → AreInOrder (post_at (rid base old)) waiting
  unfolding is_library_at
  expunged_order base old is order =
      let other = library_other (object_at base old) is in
      replaced_in_order (post_at old) (post_at (rid base old)) waiting order base Other
      (ap post_of_object (object_rid_here base old))
      (λ a apart. ap post_of_object (object_rid_there a base old apart))
      (ap messages_at other) (ap (λ x. is_under_way (asked_at x)) other) refl refl
      (λ a. order.stands base a (ap (may_be_in a) other)) (other_needless old base other order)

  takes_order : {asks may_count : Bool} (regions : List Region) (old new : Heap) → Takes asks may_count regions old new → IsWellFormed regions (extents old) → AreInOrder (post_at old) waiting
      → AreInOrder (post_at new) waiting
  takes_order regions old new nothing formed order = order
  takes_order regions old new (places size reqs address object is fits) formed order =
      let fresh : post_at old address ≡ Other = ap post_of_object (placed_fresh regions size reqs address old formed fits) in
      replaced_in_order (post_at old) (post_at new) waiting order address (post_in object)
      (ap post_of_object (object_placed_here address (round size) object old))
      (λ a apart. ap post_of_object (object_placed_there a address _ old apart))
      (ap messages_at fresh) (ap (λ x. is_under_way (asked_at x)) fresh) (new_messages old object is) (new_rests old object is)
      (λ a. order.stands address a (ap (may_be_in a) fresh)) (other_needless old address fresh order)
  takes_order regions old new (recounts base count delayed is more may rest) formed order =
      takes_order regions (with_library base count delayed old) new rest (counted_formed regions base count delayed old formed)
      (counted_order base count delayed old (is formed) order)
  takes_order regions old new (yields base is none may rest) formed order =
      takes_order regions (rid base old) new rest (rid_formed regions base old formed) (expunged_order base old (is formed) order)

  pub moves_order : {asks : Bool} (regions : List Region) (t : ℕ) (call : Call) (old : Heap) (marks : List Mark) (new : Heap) → Moves asks regions t call old marks new
      → IsWellFormed regions (extents old) → AreInOrder (post_at old) waiting → AreInOrder (post_at new) waiting
  unfolding with_nodes unlinked with_action with_port with_semaphore entered queued dropped handed_on released_once
  moves_order regions t call old marks new (touches how) formed order = touched_order old marks new how order
  moves_order regions t call old marks new (takes how) formed order = takes_order regions old new how formed order
  moves_order regions t call old marks new (frees address may unneeded) formed order =
      replaced_in_order (post_at old) (post_at new) waiting order address Other
      (ap post_of_object (object_rid_here address old))
      (λ a apart. ap post_of_object (object_rid_there a address old apart))
      (gone_messages (object_at address old) may) (gone_rests (object_at address old) may) refl refl
      (nowhere address old unneeded order) (needed_by_none address old unneeded order)
  moves_order regions t call old marks new (relists list nodes is) formed order =
      unchanged (post_at old) (post_at new) waiting order
      (same_there is_list list (ListHead nodes) old (unfold is_list_at in is) (list_other (object_at list old) (unfold is_list_at in is)))
  moves_order regions t call old marks new (unlinks node) formed order = remade_order (left_by node) (left_post node) old order
  moves_order regions t call old marks new (sets act port is) formed order =
      unchanged (post_at old) (post_at new) waiting order
      (same_there is_port port _ old (unfold is_port_at in is) (port_there port old is))
  moves_order regions t call old marks new (enters semaphore is e) formed order = semaphore_order semaphore _ old is refl order
  moves_order regions t call old marks new (queues semaphore is e) formed order = semaphore_order semaphore _ old is refl order
  moves_order regions t call old marks new (hands semaphore owner release is last e) formed order = semaphore_order semaphore _ old is refl order
  moves_order regions t call old marks new (opens semaphore release is last e) formed order = semaphore_order semaphore _ old is refl order
  moves_order regions t call old marks new (releases semaphore is last) formed order = semaphore_order semaphore _ old is refl order
  moves_order regions t call old marks new (counts base count delayed is may) formed order = counted_order base count delayed old (is formed) order
  moves_order regions t call old marks new (expunges base is may) formed order = expunged_order base old is order
  moves_order regions t call old marks new (drops other apart) formed order = remade_order (left_by_task other) (task_left_post other) old order

-- ---- whatever a call makes of requests, and the clock

-- a request that asks something else is in order
written_order : (request : ℕ) (content : TimerRequest) (later : List Queued) (s : State) → IsTidy s → IsRewritten request content later s
    → AreInOrder (post_at (with_request request content s.memory.heap)) later
written_order request content later s tidy new =
    let old = s.memory.heap in
    content_changes (post_at old) (post_at (with_request request content old)) s.memory.timer.waiting tidy.order request (request_of request old) content later
    (request_there request old new.there) (written_here request content old new.there)
    (λ a apart. written_elsewhere a request content old apart) new.port new.once new.others
    (λ under. let may = new.begins under in (
      λ a. subst (λ messages. IsAway request messages) (messages_are a old) (may.0 a),
      sym (port_is content.port old) ∙ may.1,
    ))

pub asked_order : (s : State) (marks : List Mark) (new : Heap) (later : List Queued) → Asks s marks new later → IsTidy s → AreInOrder (post_at new) later
asked_order s marks new later (writes request content waiting rewritten) tidy = written_order request content waiting s tidy (rewritten tidy)
asked_order s marks new later (answers port request content waiting is rewritten reply) tidy =
    let old = s.memory.heap in
    let mid = with_request request content old in
    let may = reply tidy in
    appended_order waiting port request mid (ports_written request content old port ∙ is)
    (ap (may_be_in port) (written_here request content old (rewritten tidy).there)
    ∙ ap (λ b. not b && nat_eq port content.port) may.done ∙ ap (λ k. nat_eq port k) may.own ∙ nat_eq-same port)
    (written_order request content waiting s tidy (rewritten tidy))
