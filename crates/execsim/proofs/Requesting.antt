-- How the machine follows the words of requests, and the requests that finish.
use Rattle.std.proofs.Common.{◌≡◌, ◌≢◌, ℕ, zero, suc, ◌≤◌, ◌<◌, ◌^◌, Bool, true, false, cond, not, ◌&&◌, ◌⊎◌, inl, inr, List, [], ◌∷◌, length, Option, None, Some, refl, ap, sym, ◌∙◌, subst, arith, ℤ, pos, negsuc, ◌==◌, Result, Ok, Err, IfOk, OnOk, OnErr, codes, filter, map, nat_eq, nat_lt, if◌then◌else◌, option_map, unwrap_or, w32, lt-ltb, le-ltb, eq-eqb}
use Rattle.std.specs.Int.{cast_unsigned}
use Rattle.memlist.proofs.Answered.{nat_eq-other, nat_eq-same}
use Rattle.exectrace.specs.{Trace.Timer}
use Rattle.execlist.specs.Order.{chosen, chosen_or, is_lower}
use Rattle.scheduler.specs.Schedule.{sets_signals}
use Rattle.msgport.specs.declared.action.Action.{Action}
use Rattle.iorequest.specs.declared.request.ReqState.TheVariants.{Idle, UnderWay, Quick, Replied}
use Rattle.iorequest.specs.declared.request.Begun.TheVariants.{Finish, NewTime, Queue, Until}
use Rattle.iorequest.specs.Request.{in_progress, done_state, due_of, error_of, finished, idle_request, is_to_wait, is_under_way, is_until, is_way, sets_time, time_of}
use Rattle.iorequest.specs.{declared.request.Request.Request as TimerRequest, declared.request.ReqState.ReqState, declared.request.Begun.Begun, Requests.unit_error}
use Rattle.execmodel.specs.State.{Call, Heap, Memory, Object, Request, State, Outcome, Timer as Clock, Waiting, quiet, prints_line, andthen, out, on_memory, on_heap, on_timer}
use Rattle.execmodel.specs.Requests.{acting_at, answering_port, appended_at, begun_at, ended, error_word, finished_at, finishes, finishes_all_due, finishes_each, finishes_set, heap_begun, is_request, is_request_at, looks_for, replying_port, reply_taken, request_alert, request_of, request_of_object, request_size, resting_alert, set_io_alert, under_way, where_port, with_reply, with_request}
use Rattle.execmodel.specs.{Calls.argument, Calls.name_argument, Calls.unless, Calls.done, Calls.answered, Calls.alerted, Memory.freed, Memory.makes_object, Memory.placed, LowMemory.after_asking_for_object, Objects.is_kind, Objects.object_at, Objects.place_for_object, Objects.replaced, Ports.loses, Ports.looked, Ports.performed, Ports.port_alert, Ports.port_of, Semaphores.is_tried_again}
use Rattle.timerdev.specs.Timing.{due_next, is_due, is_system, looked_at, next_of, sooner, until_next}
use Rattle.execmodel.specs.Requests as model
use Rattle.execmodel.proofs.Heaps.{instead, object_replaced}
use Rattle.execheap.specs.Listing.{aborted, aborting, acting_begun, acting_finished, awaited_for, ended_if, finishing, taken_by_state, taken_if_replied}
use Rattle.execheap.specs.{declared.awaited.Awaited.Awaited, declared.refusal.Refusal.Refusal, Refusals.alert_of, Refusals.code_of}
use Rattle.execheap.specs.declared.awaited.Awaited.TheVariants as awaited
use Rattle.execsim.specs.{Actions.aborts_or_alerted, Actions.finishes_all_until, Actions.finishes_with, Actions.performed as performed_seen, Actions.performed_or_alerted, Actions.tells_or_waits, Agreement.Seen, Agreement.Agrees, Agreement.Follows, Agreement.queues_in_order, Endings.answered_or_alerted, Endings.done_or_alerted}
use Rattle.execsim.proofs.Following.{reads_memory, reads_scripts, moves_memory, moves_schedule, follows_as, follows_change, follows_leaving, follows_nothing, follows_saying, follows_then}
use Rattle.execsim.proofs.{Listing.follows_allowed, Listing.follows_made, Listing.follows_refused, Listing.heap_changed, Porting.performed_moves, Signalling.sets_signals-in_order}
use Rattle.exectrace.specs.Hearing.{Hearing}
use Rattle.script.specs.declared.alert.Alert.TheVariants as an_alert

-- ---- changes that look at no order

ended-in_order : (error : ℤ) (request : ℕ) (y : Memory) → ended error request (queues_in_order y) ≡ queues_in_order (ended error request y)
unfolding ended
ended-in_order error request y = refl

begun-in_order : (quick : Bool) (request : ℕ) (y : Memory)
    → begun_at quick request (queues_in_order y) ≡ queues_in_order (begun_at quick request y)
unfolding begun_at
begun-in_order quick request y = refl

-- ---- replies

reply-state : (port : Option ℕ) (request : ℕ) (o : Outcome) → (with_reply port request o).state ≡ o.state
reply-state None request o = refl
reply-state (Some port) request o = refl

reply-lines : (port : Option ℕ) (request : ℕ) (o : Outcome) → (with_reply port request o).lines ≡ o.lines
reply-lines None request o = refl
reply-lines (Some port) request o = refl

-- an action that leaves the mark of a reply, too
follows_reply : {H : Hearing} {f : State → Outcome} {m n : Seen} {a b : H.Told} (port : State → Option ℕ) (request : ℕ) → Follows H f m n a b
    → Follows H (λ s. with_reply (port s) request (f s)) m n a b
follows_reply {H} {f} {n = n} {a = a} {b = b} port request follows = record {
  agrees = λ s e. subst (λ (x : State). Agrees n x) (sym (reply-state (port s) request (f s))) (follows.agrees s e);
  prints = λ s e. subst (λ lines. H.hears a b (lines)) (sym (reply-lines (port s) request (f s))) (follows.prints s e);
}

-- ---- what a request holds

-- a call that reads the blocks alone agrees
request_same : {m : Seen} (request : ℕ) (s : State) → Agrees m s → request_of request s.memory.heap ≡ request_of request m.memory.heap
request_same request s e = reads_memory (λ memory. request_of request memory.heap) (λ y. refl) refl s e

module _ (request : ℕ) (content : TimerRequest) where
  holds_instead : (o : Option Object) → is_kind is_request o ≡ true → request_of_object (instead (Request content) o) ≡ content
  holds_instead None there = absurd cc
  holds_instead (Some object) there = refl

  request_instead : (o : Option Object) → is_kind is_request o ≡ true → is_kind is_request (instead (Request content) o) ≡ true
  request_instead None there = absurd cc
  request_instead (Some object) there = refl

  object_there : (heap : Heap) → is_request_at request heap ≡ true → object_at request (with_request request content heap) ≡ instead (Request content) (object_at request heap)
  unfolding with_request
  object_there heap there =
      ap (λ (b : Bool). object_at request (if b then map (replaced request (Request content)) heap else heap)) there
      ∙ object_replaced request (Request content) request heap
      ∙ ap (λ (b : Bool). if b then instead (Request content) (object_at request heap) else object_at request heap) (nat_eq-same request)

  -- the request that begins at an address holds what it was given
  holds_given : (heap : Heap) → is_request_at request heap ≡ true → request_of request (with_request request content heap) ≡ content
  unfolding request_of is_request_at
  holds_given heap there = ap request_of_object (object_there heap there) ∙ holds_instead (object_at request heap) there

  stays_request : (heap : Heap) → is_request_at request heap ≡ true → is_request_at request (with_request request content heap) ≡ true
  unfolding is_request_at
  stays_request heap there = ap (is_kind is_request) (object_there heap there) ∙ request_instead (object_at request heap) there

-- ---- made

-- a call on a port that is not 0
abbrev creates : ℕ → Call → State → Outcome
creates t call s = unless (port_alert (argument 0 call) s.memory.heap) t call
    (λ s. makes_object t call is_request request_size (Request (idle_request (argument 0 call)))
    (on_memory (after_asking_for_object is_request request_size) s)) s

-- a command that fits is not an alert
set_alert-inside : (command request : ℕ) → nat_lt command 65536 ≡ true → (heap : Heap) → set_io_alert command request heap ≡ resting_alert request heap
unfolding set_io_alert resting_alert
set_alert-inside command request inside heap = rw inside refl

module _ {H : Hearing} {m o : Seen} {a b : H.Told} (t : ℕ) (call : Call) where
  pub create_none : argument 0 call ≡ 0 → Follows H (answered t call 0) m o a b → Follows H (model.does_create_io_request t call) m o a b
  unfolding model.does_create_io_request
  create_none none follows = follows_as (λ s e. rw none refl) follows

  create_some : argument 0 call ≢ 0 → Follows H (creates t call) m o a b → Follows H (model.does_create_io_request t call) m o a b
  unfolding model.does_create_io_request
  create_some some follows = follows_as {g = creates t call}
      (λ s e. let not_none : nat_eq (argument 0 call) 0 ≡ false = nat_eq-other (argument 0 call) 0 some in rw not_none refl) follows

  pub create_refused : (x : Memory) (why : Refusal) → argument 0 call ≢ 0 → Some (code_of why) ≡ port_alert (argument 0 call) m.memory.heap → x ≡ m.memory
      → Follows H (alerted (code_of why) t call) (record m { memory = x }) o a b → Follows H (model.does_create_io_request t call) m o a b
  create_refused x why some says kept follows =
      create_some some (follows_refused t call (λ memory. port_alert (argument 0 call) memory.heap) (λ y. refl) _ why says (rw kept at follows))

  pub create_made : (x : Memory) (place : Option ℕ) → argument 0 call ≢ 0 → None ≡ port_alert (argument 0 call) m.memory.heap
      → place ≡ place_for_object is_request request_size (after_asking_for_object is_request request_size m.memory)
      → x ≡ placed request_size (Request (idle_request (argument 0 call))) place (after_asking_for_object is_request request_size m.memory)
      → Follows H (answered t call (unwrap_or place 0)) (record m { memory = x }) o a b → Follows H (model.does_create_io_request t call) m o a b
  create_made x place some says fits is follows =
      create_some some (follows_allowed t call (λ memory. port_alert (argument 0 call) memory.heap) (λ y. refl) _ says
      (follows_made t call is_request request_size (Request (idle_request (argument 0 call))) place fits
      (ap (λ y. record m { memory = y }) is) follows))

  -- ---- freed, opened and written

  pub delete_none : argument 0 call ≡ 0 → Follows H (done t call) m o a b → Follows H (model.does_delete_io_request t call) m o a b
  unfolding model.does_delete_io_request
  delete_none none follows = follows_as (λ s e. rw none refl) follows

  pub delete_tried : (x : Memory) (result : Result (Unit {0}) Refusal) → argument 0 call ≢ 0
      → alert_of result ≡ model.delete_request_alert (argument 0 call) m.memory.heap → OnOk result (x ≡ freed (argument 0 call) m.memory)
      → OnErr result (x ≡ m.memory) → Follows H (done_or_alerted result t call) (record m { memory = x }) o a b
      → Follows H (model.does_delete_io_request t call) m o a b
  unfolding model.does_delete_io_request
  delete_tried x result some says changed kept follows = follows_as
      {g = λ s. unless (model.delete_request_alert (argument 0 call) s.memory.heap) t call (λ s. done t call (on_memory (freed (argument 0 call)) s)) s}
      (λ s e. let not_none : nat_eq (argument 0 call) 0 ≡ false = nat_eq-other (argument 0 call) 0 some in rw not_none refl)
      (heap_changed t call (model.delete_request_alert (argument 0 call)) (freed (argument 0 call)) (λ y. refl) x result says changed kept follows)

  pub open_tried : {n : Seen} (unit : Option ℕ) (result : Result ℕ Refusal)
      → unit ≡ model.timer_unit (unwrap_or (name_argument 0 call) []) (argument 1 call)
      → alert_of result ≡ resting_alert (argument 2 call) m.memory.heap → IfOk result (λ value. value ≡ cast_unsigned w32 (unit_error unit))
      → OnOk result (n ≡ record m { memory = on_heap (model.opened_for unit (argument 2 call)) m.memory }) → OnErr result (n ≡ m)
      → Follows H (answered_or_alerted result t call) n o a b → Follows H (model.does_open_device t call) m o a b
  unfolding model.does_open_device
  open_tried unit (Ok value) meant says tells changed kept follows =
      let opens = on_heap (model.opened_for unit (argument 2 call)) in
      follows_as
      {g = λ s. unless (resting_alert (argument 2 call) s.memory.heap) t call
      (λ s. answered t call (cast_unsigned w32 (unit_error unit)) (on_memory opens s)) s}
      (λ s e. rw meant refl)
      (follows_allowed t call (λ memory. resting_alert (argument 2 call) memory.heap) (λ y. refl) _ says (follows_as
      {g = λ s. answered t call value (on_memory opens s)}
      (λ s e. ap (λ (v : ℕ). answered t call v (on_memory opens s)) (sym tells))
      (follows_change (moves_memory opens opens (λ y. refl) changed) follows)))
  open_tried unit (Err why) meant says tells changed kept follows =
      follows_refused t call (λ memory. resting_alert (argument 2 call) memory.heap) (λ y. refl) _ why says (rw kept at follows)

  pub close_tried : (x : Memory) (result : Result (Unit {0}) Refusal) → alert_of result ≡ resting_alert (argument 0 call) m.memory.heap
      → OnOk result (x ≡ on_heap (model.closed_device (argument 0 call)) m.memory) → OnErr result (x ≡ m.memory)
      → Follows H (done_or_alerted result t call) (record m { memory = x }) o a b → Follows H (model.does_close_device t call) m o a b
  unfolding model.does_close_device
  close_tried x result says changed kept follows =
      heap_changed t call (resting_alert (argument 0 call)) (on_heap (model.closed_device (argument 0 call))) (λ y. refl) x result says changed kept follows

  pub set_outside : 65536 ≤ argument 1 call → is_request_at (argument 0 call) m.memory.heap ≡ true
      → Follows H (alerted an_alert.Value t call) m o a b → Follows H (model.does_set_io t call) m o a b
  unfolding model.does_set_io set_io_alert
  set_outside outside there follows = follows_as
      (λ s e.
      let same : is_request_at (argument 0 call) s.memory.heap ≡ true =
      reads_memory (λ memory. is_request_at (argument 0 call) memory.heap) (λ y. refl) there s e in
      let past : nat_lt (argument 1 call) 65536 ≡ false = le-ltb (argument 1 call) 65536 outside in
      rw (same, past) refl) follows

  pub set_unknown : is_request_at (argument 0 call) m.memory.heap ≡ false
      → Follows H (alerted an_alert.Handle t call) m o a b → Follows H (model.does_set_io t call) m o a b
  unfolding model.does_set_io set_io_alert
  set_unknown unknown follows = follows_as
      (λ s e.
      let same : is_request_at (argument 0 call) s.memory.heap ≡ false =
      reads_memory (λ memory. is_request_at (argument 0 call) memory.heap) (λ y. refl) unknown s e in
      rw same refl) follows

  pub set_tried : (x : Memory) (result : Result (Unit {0}) Refusal) → argument 1 call < 65536
      → alert_of result ≡ resting_alert (argument 0 call) m.memory.heap
      → OnOk result (x ≡ on_heap (model.with_command (argument 1 call) (argument 2 call) (argument 3 call) (argument 0 call)) m.memory)
      → OnErr result (x ≡ m.memory) → Follows H (done_or_alerted result t call) (record m { memory = x }) o a b
      → Follows H (model.does_set_io t call) m o a b
  unfolding model.does_set_io
  set_tried x result inside says changed kept follows =
      heap_changed t call (set_io_alert (argument 1 call) (argument 0 call))
      (on_heap (model.with_command (argument 1 call) (argument 2 call) (argument 3 call) (argument 0 call))) (λ y. refl) x result
      (says ∙ sym (set_alert-inside (argument 1 call) (argument 0 call) (lt-ltb (argument 1 call) 65536 inside) m.memory.heap)) changed kept follows

-- ---- beginning

module _ {H : Hearing} {m o : Seen} {a b : H.Told} (t : ℕ) (call : Call) where
  pub send_tried : (x : Memory) (result : Result Action Refusal) → alert_of result ≡ model.send_alert (argument 0 call) m.memory.heap
      → IfOk result (λ act. act ≡ acting_begun false (argument 0 call) m.memory)
      → OnOk result (x ≡ begun_at false (argument 0 call) m.memory) → OnErr result (x ≡ m.memory)
      → Follows H (performed_or_alerted result t call) (record m { memory = x }) o a b → Follows H (model.does_send_io t call) m o a b
  unfolding model.does_send_io acting_begun replying_port
  send_tried x (Ok act) says acts changed kept follows =
      let request = argument 0 call in
      follows_allowed t call (λ memory. model.send_alert request memory.heap) (λ y. refl) _ says
      (follows_reply (λ s. replying_port false request s.memory) request (follows_as
      {g = λ s. done t call (performed act (on_memory (begun_at false request) s))}
      (λ s e.
      let same : acting_at (replying_port false request s.memory) s.memory.heap ≡ act =
      reads_memory (λ memory. acting_at (replying_port false request memory) memory.heap) (λ y. refl) (sym acts) s e in
      rw same refl)
      (follows_change (moves_memory (begun_at false request) (begun_at false request) (begun-in_order false request)
      (ap (λ y. record m { memory = y }) changed)) follows)))
  send_tried x (Err why) says acts changed kept follows =
      follows_refused t call (λ memory. model.send_alert (argument 0 call) memory.heap) (λ y. refl) _ why says (rw kept at follows)

-- ---- looking

awaited-done : (request : ℕ) (heap : Heap) (state : ReqState) → (request_of request heap).state ≡ state → is_way state ≡ false
    → awaited_for request heap ≡ awaited.Done (request_of request heap).error
unfolding awaited_for
awaited-done request heap state is done =
    ap (λ (b : Bool). if b then awaited.UnderWay (port_of (request_of request heap).port heap).bit else awaited.Done (request_of request heap).error)
    (ap is_way is ∙ done)

awaited-under_way : (request : ℕ) (heap : Heap) → (request_of request heap).state ≡ UnderWay
    → awaited_for request heap ≡ awaited.UnderWay (port_of (request_of request heap).port heap).bit
unfolding awaited_for
awaited-under_way request heap is =
    ap (λ (b : Bool). if b then awaited.UnderWay (port_of (request_of request heap).port heap).bit else awaited.Done (request_of request heap).error)
    (ap is_way is)

module _ {H : Hearing} {m o : Seen} {a b : H.Told} (t : ℕ) (call : Call) (request : ℕ) where
  -- a task looks for a request in that state
  state_looked : (state : ReqState) → (request_of request m.memory.heap).state ≡ state → Follows H (looks_for state request t call) m o a b
      → Follows H (λ s. looks_for (request_of request s.memory.heap).state request t call s) m o a b
  state_looked state is follows = follows_as {g = looks_for state request t call}
      (λ s e. ap (λ (x : ReqState). looks_for x request t call s) (ap (λ (q : TimerRequest). q.state) (request_same request s e) ∙ is)) follows

  error_told : Follows H (answered t call (error_word request m.memory.heap)) m o a b → Follows H (λ s. answered t call (error_word request s.memory.heap) s) m o a b
  error_told follows = follows_as {g = answered t call (error_word request m.memory.heap)}
      (λ s e. ap (λ (q : TimerRequest). answered t call (cast_unsigned w32 q.error) s) (request_same request s e)) follows

  pub looks : (x : Memory) (found : Awaited) (state : ReqState) → (request_of request m.memory.heap).state ≡ state
      → found ≡ awaited_for request m.memory.heap → x ≡ on_heap (taken_by_state state request) m.memory
      → Follows H (tells_or_waits found t call) (record m { memory = x }) o a b
      → Follows H (λ s. looks_for (request_of request s.memory.heap).state request t call s) m o a b
  looks x found Idle is awaits changed follows =
      let told : found ≡ awaited.Done (request_of request m.memory.heap).error = awaits ∙ awaited-done request m.memory.heap Idle is refl in
      state_looked Idle is (error_told (rw (told, changed) at follows))
  looks x found UnderWay is awaits changed follows =
      let waits : found ≡ awaited.UnderWay (port_of (request_of request m.memory.heap).port m.memory.heap).bit =
      awaits ∙ awaited-under_way request m.memory.heap is in
      state_looked UnderWay is (follows_as
      {g = looked None (2 ^ (port_of (request_of request m.memory.heap).port m.memory.heap).bit) t call}
      (λ s e. ap (λ (bit : ℕ). looked None (2 ^ bit) t call s)
      (reads_memory (λ memory. (port_of (request_of request memory.heap).port memory.heap).bit) (λ y. refl) refl s e))
      (rw (waits, changed) at follows))
  looks x found Quick is awaits changed follows =
      let told : found ≡ awaited.Done (request_of request m.memory.heap).error = awaits ∙ awaited-done request m.memory.heap Quick is refl in
      state_looked Quick is (error_told (rw (told, changed) at follows))
  looks x found Replied is awaits changed follows =
      let told : found ≡ awaited.Done (request_of request m.memory.heap).error = awaits ∙ awaited-done request m.memory.heap Replied is refl in
      state_looked Replied is (follows_leaving
      {f = λ s. answered t call (error_word request s.memory.heap) (on_memory (on_heap (reply_taken request)) s)}
      (λ s. out (request_of request s.memory.heap).port request)
      (follows_as {g = λ s. answered t call (error_word request m.memory.heap) (on_memory (on_heap (reply_taken request)) s)}
      (λ s e. ap (λ (q : TimerRequest). answered t call (cast_unsigned w32 q.error) (on_memory (on_heap (reply_taken request)) s)) (request_same request s e))
      (follows_change (moves_memory (on_heap (reply_taken request)) (on_heap (reply_taken request)) (λ y. refl)
      (ap (λ y. record m { memory = y }) changed)) (rw told at follows))))

module _ {H : Hearing} {m n o : Seen} {a b : H.Told} (t : ℕ) (call : Call) where
  pub wait_found : (x : Memory) (found : Awaited) → None ≡ model.wait_io_alert t (argument 0 call) m.memory.heap
      → found ≡ awaited_for (argument 0 call) m.memory.heap → x ≡ on_heap (taken_if_replied (argument 0 call)) m.memory
      → n ≡ record m { memory = x; schedule = loses t call.awaited m.schedule }
      → Follows H (tells_or_waits found t call) n o a b → Follows H (model.does_wait_io t call) m o a b
  unfolding model.does_wait_io taken_if_replied
  wait_found x found says awaits changed is follows =
      let request = argument 0 call in
      let lost = record m { schedule = loses t call.awaited m.schedule } in
      follows_allowed t call (λ memory. model.wait_io_alert t request memory.heap) (λ y. refl) _ says
      (follows_change {g = λ s. looks_for (request_of request s.memory.heap).state request t call s}
      (moves_schedule {n = lost} (sets_signals t 0 call.awaited) (sets_signals t 0 call.awaited) (sets_signals-in_order t 0 call.awaited) refl)
      (looks {m = lost} t call request x found (request_of request m.memory.heap).state refl awaits changed (rw is at follows)))

pub wait_refused : {H : Hearing} {m o : Seen} {a b : H.Told} (t : ℕ) (call : Call) (x : Memory) (why : Refusal)
    → Some (code_of why) ≡ model.wait_io_alert t (argument 0 call) m.memory.heap → x ≡ m.memory
    → Follows H (alerted (code_of why) t call) (record m { memory = x }) o a b → Follows H (model.does_wait_io t call) m o a b
unfolding model.does_wait_io
wait_refused t call x why says kept follows =
    follows_refused t call (λ memory. model.wait_io_alert t (argument 0 call) memory.heap) (λ y. refl) _ why says (rw kept at follows)

-- ---- beginning and looking

-- a request that sets system time does not add
sets_no_more : (command : ℕ) → nat_eq command 11 ≡ true → nat_eq command 9 ≡ false
sets_no_more command sets = nat_eq-other command 9
    (λ is. let none : false ≡ true = ap (λ (c : ℕ). nat_eq c 11) (sym is) ∙ sets in cc)

-- how a request goes on that begins with its quick bit set: it is in progress, if it is to wait, and else done quick
module _ (request : ℕ) (memory : Memory) (there : is_request_at request memory.heap ≡ true) where
  -- the request as it is before
  abbrev asks : TimerRequest
  asks = request_of request memory.heap

  abbrev going : Heap
  going = under_way true memory.timer.system request memory.heap

  goes : request_of request going ≡ in_progress true memory.timer.system asks
  goes = holds_given request (in_progress true memory.timer.system asks) memory.heap there

  ends_quick : (error : ℤ) → is_to_wait memory.timer.system asks ≡ false
      → (request_of request (finished_at error request going)).state ≡ Quick
  unfolding finished_at answering_port
  ends_quick error rests =
      let quick : (request_of request going).quick ≡ true = ap (λ (p : TimerRequest). p.quick) goes ∙ ap not rests in
      ap (λ (b : Bool). (request_of request
      (appended_at (where_port (if b then None else Some (request_of request going).port) going) request
      (with_request request (finished error (request_of request going)) going))).state) quick
      ∙ ap (λ (p : TimerRequest). p.state)
      (holds_given request (finished error (request_of request going)) going
      (stays_request request (in_progress true memory.timer.system asks) memory.heap there))
      ∙ ap done_state quick

  -- its state, if it goes on so
  abbrev state_so : Begun → ReqState
  state_so how = (request_of request (heap_begun how true memory.timer.system request memory.heap)).state

  -- how it goes on, by whether it sets system time and whether it is to wait
  abbrev goes_by : Bool → Bool → Begun
  goes_by sets waits =
      if sets then NewTime (time_of asks)
      else (if waits then (if is_until asks then Until (time_of asks) else Queue (due_of memory.timer.clock asks))
      else Finish (error_of asks))

  begun_state : (sets waits : Bool) → sets_time asks ≡ sets → is_to_wait memory.timer.system asks ≡ waits
      → (request_of request (begun_at true request memory).heap).state ≡ (if waits then UnderWay else Quick)
  unfolding begun_at
  begun_state sets waits is to_wait =
      ap (λ (b : Bool). state_so (goes_by b (is_to_wait memory.timer.system asks))) is
      ∙ ap (λ (b : Bool). state_so (goes_by sets b)) to_wait
      ∙ by_case sets waits is to_wait
    where
      -- whether it is to wait, by whether it adds
      waits_if : Bool → Bool
      waits_if adds = adds && (if is_until asks then nat_lt memory.timer.system (time_of asks) else not (nat_eq (time_of asks) 0))

      by_until : (until : Bool) → state_so (if until then Until (time_of asks) else Queue (due_of memory.timer.clock asks)) ≡ UnderWay
      by_until true = ap (λ (p : TimerRequest). p.state) goes
      by_until false = ap (λ (p : TimerRequest). p.state) goes

      by_case : (sets waits : Bool) → sets_time asks ≡ sets → is_to_wait memory.timer.system asks ≡ waits
          → state_so (goes_by sets waits) ≡ (if waits then UnderWay else Quick)
      by_case true true is to_wait =
          let none : false ≡ true = sym (ap waits_if (sets_no_more asks.command is)) ∙ to_wait in
          absurd cc
      by_case true false is to_wait = ends_quick (pos 0) to_wait
      by_case false true is to_wait = by_until (is_until asks)
      by_case false false is to_wait = ends_quick (error_of asks) to_wait

-- a request that may begin is there
there_to_begin : {A : Type 0} (there : Bool) (code : A) (others : Option A) → None ≡ cond (not there) (Some code) others → there ≡ true
there_to_begin true code others says = refl
there_to_begin false code others says = absurd cc

module _ {H : Hearing} {m o : Seen} {a b : H.Told} (t : ℕ) (call : Call) where
  pub do_again : is_tried_again t m.scripts ≡ true → Follows H (model.does_wait_io t call) m o a b → Follows H (model.does_do_io t call) m o a b
  unfolding model.does_do_io
  do_again again follows = follows_as
      (λ s e. let same : is_tried_again t s.scripts ≡ true = reads_scripts (is_tried_again t) again s e in rw same refl) follows

  do_first : is_tried_again t m.scripts ≡ false
      → Follows H (λ s. unless (model.do_alert t (argument 0 call) s.memory.heap) t call (model.begins_and_looks (argument 0 call) t call) s) m o a b
      → Follows H (model.does_do_io t call) m o a b
  unfolding model.does_do_io
  do_first first follows = follows_as
      {g = λ s. unless (model.do_alert t (argument 0 call) s.memory.heap) t call (model.begins_and_looks (argument 0 call) t call) s}
      (λ s e. let same : is_tried_again t s.scripts ≡ false = reads_scripts (is_tried_again t) first s e in rw same refl) follows

  pub do_refused : (x : Memory) (why : Refusal) → is_tried_again t m.scripts ≡ false
      → Some (code_of why) ≡ model.do_alert t (argument 0 call) m.memory.heap → x ≡ m.memory
      → Follows H (alerted (code_of why) t call) (record m { memory = x }) o a b → Follows H (model.does_do_io t call) m o a b
  do_refused x why first says kept follows = do_first first
      (follows_refused t call (λ memory. model.do_alert t (argument 0 call) memory.heap) (λ y. refl) _ why says (rw kept at follows))

  pub do_found : (x : Memory) (found : Awaited) → is_tried_again t m.scripts ≡ false → None ≡ model.do_alert t (argument 0 call) m.memory.heap
      → found ≡ awaited_for (argument 0 call) x.heap → x ≡ begun_at true (argument 0 call) m.memory
      → Follows H (tells_or_waits found t call) (record m { memory = x }) o a b → Follows H (model.does_do_io t call) m o a b
  unfolding model.do_alert begun_at
  do_found x found first says awaits changed follows =
      let request = argument 0 call in
      let there = there_to_begin (is_request_at request m.memory.heap) _ _ says in
      let content = request_of request m.memory.heap in
      let waits = is_to_wait m.memory.timer.system content in
      let state = begun_state request m.memory there (sets_time content) waits refl refl in
      do_first first (follows_allowed t call (λ memory. model.do_alert t request memory.heap) (λ y. refl) _ says
      (follows_change {g = λ s. looks_for (request_of request s.memory.heap).state request t call s}
      (moves_memory {n = record m { memory = x }} (begun_at true request) (begun_at true request) (begun-in_order true request)
      (ap (λ y. record m { memory = y }) changed))
      (by_wait waits x (ap (λ (y : Memory). (request_of request y.heap).state) changed ∙ state) awaits follows)))
    where
      by_wait : (waits : Bool) (x : Memory) → (request_of (argument 0 call) x.heap).state ≡ (if waits then UnderWay else Quick)
          → found ≡ awaited_for (argument 0 call) x.heap → Follows H (tells_or_waits found t call) (record m { memory = x }) o a b
          → Follows H (λ s. looks_for (request_of (argument 0 call) s.memory.heap).state (argument 0 call) t call s) (record m { memory = x }) o a b
      by_wait true x is awaits follows = looks {m = record m { memory = x }} t call (argument 0 call) x found UnderWay is awaits refl follows
      by_wait false x is awaits follows = looks {m = record m { memory = x }} t call (argument 0 call) x found Quick is awaits refl follows

-- ---- aborting

module _ {H : Hearing} {m o : Seen} {a b : H.Told} (t : ℕ) (call : Call) where
  -- by whether the request is in progress
  aborts_by : (under_way : Bool) (x : Memory) (found : Option Action)
      → is_under_way (request_of (argument 0 call) m.memory.heap) ≡ under_way
      → found ≡ (if under_way then Some (acting_finished (argument 0 call) m.memory.heap) else None)
      → x ≡ (if under_way then ended (negsuc 1) (argument 0 call) m.memory else m.memory)
      → Follows H (aborts_or_alerted (Ok found) t call) (record m { memory = x }) o a b
      → Follows H (λ s. model.aborts (is_under_way (request_of (argument 0 call) s.memory.heap)) (argument 0 call) t call s) m o a b
  unfolding acting_finished
  aborts_by true x found is acts changed follows =
      let request = argument 0 call in
      let act = acting_at (answering_port request m.memory.heap) m.memory.heap in
      follows_as {g = model.aborts true request t call}
      (λ s e. ap (λ (b : Bool). model.aborts b request t call s) (ap (λ (q : TimerRequest). is_under_way q) (request_same request s e) ∙ is))
      (follows_reply (λ s. answering_port request s.memory.heap) request (follows_as
      {g = λ s. answered t call 0 (performed act (on_memory (ended (negsuc 1) request) s))}
      (λ s e. ap (λ (does : Action). answered t call 0 (performed does (on_memory (ended (negsuc 1) request) s)))
      (reads_memory (λ memory. acting_at (answering_port request memory.heap) memory.heap) (λ y. refl) refl s e))
      (follows_change (moves_memory (ended (negsuc 1) request) (ended (negsuc 1) request) (ended-in_order (negsuc 1) request)
      (ap (λ y. record m { memory = y }) changed)) (rw acts at follows))))
  aborts_by false x found is acts changed follows =
      follows_as {g = model.aborts false (argument 0 call) t call}
      (λ s e. ap (λ (b : Bool). model.aborts b (argument 0 call) t call s)
      (ap (λ (q : TimerRequest). is_under_way q) (request_same (argument 0 call) s e) ∙ is)) (rw (acts, changed) at follows)

  pub abort_tried : (x : Memory) (result : Result (Option Action) Refusal) → alert_of result ≡ request_alert (argument 0 call) m.memory.heap
      → IfOk result (λ found. found ≡ aborting (argument 0 call) m.memory.heap)
      → OnOk result (x ≡ aborted (argument 0 call) m.memory) → OnErr result (x ≡ m.memory)
      → Follows H (aborts_or_alerted result t call) (record m { memory = x }) o a b → Follows H (model.does_abort_io t call) m o a b
  unfolding model.does_abort_io aborting aborted
  abort_tried x (Ok found) says acts changed kept follows =
      follows_allowed t call (λ memory. request_alert (argument 0 call) memory.heap) (λ y. refl) _ says
      (aborts_by (is_under_way (request_of (argument 0 call) m.memory.heap)) x found refl acts changed follows)
  abort_tried x (Err why) says acts changed kept follows =
      follows_refused t call (λ memory. request_alert (argument 0 call) memory.heap) (λ y. refl) _ why says (rw kept at follows)

-- what is to be done for the reply of an aborted request is done, and then the call answers
pub aborted_answers : {H : Hearing} {m n o : Seen} {a b : H.Told} (t : ℕ) (call : Call) (act : Action) → n ≡ performed_seen act m
    → Follows H (answered t call 0) n o a b → Follows H (aborts_or_alerted (Ok (Some act)) t call) m o a b
aborted_answers t call act is follows = follows_change (performed_moves act is) follows

-- ---- requests that finish

-- a request that finishes says so, and what is to be done for its reply is done
pub announced_due : {H : Hearing} {m n : Seen} {a b : H.Told} (request : ℕ) (act : Action) → H.hears a b ((Timer request) ∷ []) → n ≡ performed_seen act m
    → Follows H (finishes_with request act) m n a b
announced_due request act puts is = follows_saying {f = performed act} (Timer request) (λ s e. refl) puts (performed_moves act is)

-- the request that is found, and what is to be done for its reply
found_due : (heap : Heap) (request : ℕ) (act : Action) (found : Option ℕ) → Some (request, act) ≡ finishing heap found
    → (found ≡ Some request) × (act ≡ acting_finished request heap)
found_due heap request act None is = absurd cc
found_due heap request act (Some other) is =
    let same : (request, act) ≡ (other, acting_finished other heap) = cc in
    let first : request ≡ other = ap (λ (p : ℕ × Action). p.0) same in
    (ap Some (sym first), ap (λ (p : ℕ × Action). p.1) same ∙ ap (λ (k : ℕ). acting_finished k heap) (sym first))

none_due : (heap : Heap) (found : Option ℕ) → None ≡ finishing heap found → found ≡ None
none_due heap None is = refl
none_due heap (Some other) is = absurd cc

-- that many requests finish, by the first one
abbrev finishes_from : (Clock → Option ℕ) → ℕ → Option ℕ → State → Outcome
finishes_from next n found s =
    elim found as (λ (x : Option ℕ). Outcome) [ None ↦ quiet s | Some request ↦ andthen (finishes request) (finishes_each next n) s ]

-- The requests that finish, by which one does so next: what follows is for those whose time has come, and for those
-- that wait for system time.
module _ (next : Clock → Option ℕ) where
  next_same : {m : Seen} (s : State) → Agrees m s → next s.memory.timer ≡ next m.memory.timer
  next_same s e = sym (ap (λ (y : Memory). next y.timer) e.memory)

  suc_finishes : (left : ℕ) (s : State) (found : Option ℕ) → next s.memory.timer ≡ found
      → finishes_each next (suc left) s ≡ finishes_from next left found s
  unfolding finishes_each
  suc_finishes left s found is = ap (λ (x : Option ℕ). finishes_from next left x s) is

  module _ {m n : Seen} (is : n ≡ record m { memory = ended_if (next m.memory.timer) m.memory }) where
    one_finishes : {H : Hearing} {o : Seen} {a b : H.Told} (request : ℕ) (act : Action)
        → Some (request, act) ≡ finishing m.memory.heap (next m.memory.timer)
        → Follows H (finishes_with request act) n o a b → Follows H (finishes request) m o a b
    unfolding finishes acting_finished
    one_finishes request act found follows =
        let known = found_due m.memory.heap request act (next m.memory.timer) found in
        follows_reply (λ s. answering_port request s.memory.heap) request (follows_as
        {g = λ s. finishes_with request act (on_memory (ended (pos 0) request) s)}
        (λ s e. ap (λ (does : Action). finishes_with request does (on_memory (ended (pos 0) request) s))
        (reads_memory (λ memory. acting_at (answering_port request memory.heap) memory.heap) (λ y. refl) (sym known.1) s e))
        (follows_change (moves_memory (ended (pos 0) request) (ended (pos 0) request) (ended-in_order (pos 0) request)
        (is ∙ ap (λ (d : Option ℕ). record m { memory = ended_if d m.memory }) known.0)) follows))

    -- a request finishes, and then others
    finishes_next : {H : Hearing} {o p : Seen} {a b c : H.Told} (left request : ℕ) (act : Action)
        → Some (request, act) ≡ finishing m.memory.heap (next m.memory.timer)
        → Follows H (finishes_with request act) n o a b → Follows H (finishes_each next left) o p b c
        → Follows H (finishes_each next (suc left)) m p a c
    finishes_next left request act found first others =
        let known = found_due m.memory.heap request act (next m.memory.timer) found in
        follows_as {g = andthen (finishes request) (finishes_each next left)}
        (λ s e. suc_finishes left s (Some request) (next_same s e ∙ known.0))
        (follows_then (one_finishes request act found first) others)

    -- none finishes any more
    finishes_no_more : {H : Hearing} (left : ℕ) (t : H.Told) → None ≡ finishing m.memory.heap (next m.memory.timer)
        → Follows H (finishes_each next left) m n t t
    unfolding finishes_each
    finishes_no_more {H} left t none =
        let known = none_due m.memory.heap (next m.memory.timer) none in
        let same : n ≡ m = is ∙ ap (λ (d : Option ℕ). record m { memory = ended_if d m.memory }) known in
        by_left left known (subst (λ (x : Seen). Follows H quiet m x t t) (sym same) (follows_nothing m t))
      where
        by_left : (left : ℕ) → next m.memory.timer ≡ None → Follows H quiet m n t t → Follows H (finishes_each next left) m n t t
        by_left zero known stays = stays
        by_left (suc less) known stays = follows_as {g = quiet}
            (λ s e. ap (λ (x : Option ℕ). finishes_from next less x s) (next_same s e ∙ known)) stays

-- ---- fewer and fewer wait

few_left : (keep : Waiting → Bool) (xs : List Waiting) → length (filter keep xs) ≤ length xs
few_left keep [] = omega arith
few_left keep (x ∷ xs) = by_case (keep x) (few_left keep xs) where
  by_case : (b : Bool) → length (filter keep xs) ≤ length xs → length (cond b (x ∷ filter keep xs) (filter keep xs)) ≤ suc (length xs)
  by_case true ih = omega (arith, ih)
  by_case false ih = omega (arith, ih)

-- the request of one that waits, if there is one
abbrev request_in : Option Waiting → Option ℕ
request_in found = option_map (λ (w : Waiting). w.request) found

module _ (key : Waiting → ℤ) where
  -- who is chosen is the first, or is chosen from the others
  first_or_other : (x : Waiting) (others : Option Waiting) (request : ℕ) → request_in (chosen_or key x others) ≡ Some request
      → (x.request ≡ request) ⊎ (request_in others ≡ Some request)
  first_or_other x None request is = inl cc
  first_or_other x (Some y) request is = by_case (is_lower key x y) is where
    by_case : (b : Bool) → request_in (cond b (Some y) (Some x)) ≡ Some request
        → (x.request ≡ request) ⊎ (request_in (Some y) ≡ Some request)
    by_case true is = inr is
    by_case false is = inl cc

  -- who is chosen from those that pass a test is left out
  less_left : (passes : Waiting → Bool) (xs : List Waiting) (request : ℕ) → request_in (chosen key (filter passes xs)) ≡ Some request
      → length (filter (λ (w : Waiting). not (w.request == request)) xs) < length xs
  less_left passes [] request is = absurd cc
  less_left passes (x ∷ xs) request is = by_case (passes x) is (less_left passes xs request)
    where
      left : List Waiting
      left = filter (λ (w : Waiting). not (w.request == request)) xs

      first_kept : (b : Bool) → length left < length xs → length (cond b (x ∷ left) left) < suc (length xs)
      first_kept true less = omega (arith, less)
      first_kept false less = omega (arith, less)

      first_leaves : x.request ≡ request → length (cond (not (x.request == request)) (x ∷ left) left) < suc (length xs)
      first_leaves same =
          let some = few_left (λ (w : Waiting). not (w.request == request)) xs in
          rw (eq-eqb x.request request same) (omega (arith, some))

      by_case : (b : Bool) → request_in (chosen key (cond b (x ∷ filter passes xs) (filter passes xs))) ≡ Some request
          → (request_in (chosen key (filter passes xs)) ≡ Some request → length left < length xs)
          → length (cond (not (x.request == request)) (x ∷ left) left) < suc (length xs)
      by_case true is less =
          elim (first_or_other x (chosen key (filter passes xs)) request is)
          [ inl same ↦ first_leaves same | inr other ↦ first_kept (not (x.request == request)) (less other) ]
      by_case false is less = first_kept (not (x.request == request)) (less is)

-- who finishes next is one that waits
abbrev pub TakesOne : (Clock → Option ℕ) → Type 0
TakesOne next = (timer : Clock) (request : ℕ) → next timer ≡ Some request
    → length (filter (λ (w : Waiting). not (w.request == request)) timer.waiting) < length timer.waiting

pub due_takes_one : TakesOne due_next
unfolding due_next next_of
due_takes_one timer request is = less_left (sooner timer) (λ (w : Waiting). is_due timer w.due) timer.waiting request is

pub until_takes_one : TakesOne until_next
unfolding until_next next_of
until_takes_one timer request is =
    less_left (sooner timer) (λ (w : Waiting). is_system w.due && is_due timer w.due) timer.waiting request is

-- ---- all of them

-- all requests finish, one after another, by which one does so next
abbrev pub finishes_all : (Clock → Option ℕ) → State → Outcome
finishes_all next s = finishes_each next (length s.memory.timer.waiting) s

-- The requests that finish from now on end what all of them began: that many may, at least as many as wait.
pub record EndsAll (H : Hearing) (next : Clock → Option ℕ) (m : Seen) (a : H.Told) (now : Seen) (b : H.Told) : Type 0 where
  pub left : ℕ
  pub enough : length now.memory.timer.waiting ≤ left
  pub rest : (n : Seen) (c : H.Told) → Follows H (finishes_each next left) now n b c → Follows H (finishes_all next) m n a c

module _ (next : Clock → Option ℕ) (takes : TakesOne next) where
  pub all_begin : {H : Hearing} (m : Seen) (a : H.Told) → EndsAll H next m a m a
  all_begin m a = record {
    left = length m.memory.timer.waiting;
    enough = omega arith;
    rest = λ n c follows. follows_as {g = finishes_each next (length m.memory.timer.waiting)}
        (λ s e. ap (λ (k : ℕ). finishes_each next k s) (sym (ap (λ (y : Memory). length y.timer.waiting) e.memory))) follows;
  }

  pub shorter : (m n o : Seen) (request : ℕ) (act : Action) → Some (request, act) ≡ finishing m.memory.heap (next m.memory.timer)
      → n ≡ record m { memory = ended_if (next m.memory.timer) m.memory } → o.memory ≡ n.memory
      → length o.memory.timer.waiting < length m.memory.timer.waiting
  unfolding ended
  shorter m n o request act found is kept =
      let known = found_due m.memory.heap request act (next m.memory.timer) found in
      let waits : o.memory.timer.waiting ≡ filter (λ (w : Waiting). not (w.request == request)) m.memory.timer.waiting =
      ap (λ (y : Memory). y.timer.waiting) kept
      ∙ ap (λ (x : Seen). x.memory.timer.waiting) (is ∙ ap (λ (d : Option ℕ). record m { memory = ended_if d m.memory }) known.0) in
      rw waits (takes m.memory.timer request known.0)

  pub one_less : {H : Hearing} {m now n o : Seen} {a b c : H.Told} (request : ℕ) (act : Action) → EndsAll H next m a now b
      → Some (request, act) ≡ finishing now.memory.heap (next now.memory.timer)
      → n ≡ record now { memory = ended_if (next now.memory.timer) now.memory }
      → Follows H (finishes_with request act) n o b c → o.memory ≡ n.memory → EndsAll H next m a o c
  one_less {H} {m} {now} {n} {o} {a} {b} {c} request act before found is follows kept =
      by_left before.left before.enough before.rest
    where
      by_left : (left : ℕ) → length now.memory.timer.waiting ≤ left
          → ((n : Seen) (c : H.Told) → Follows H (finishes_each next left) now n b c → Follows H (finishes_all next) m n a c)
          → EndsAll H next m a o c
      by_left zero enough rest = let less = shorter now n o request act found is kept in absurd (omega (arith, less, enough))
      by_left (suc left) enough rest = record {
        left = left;
        enough = let less = shorter now n o request act found is kept in omega (arith, less, enough);
        rest = λ p d others. rest p d (finishes_next next is left request act found follows others);
      }

  pub all_ended : {H : Hearing} {m now n : Seen} {a b : H.Told} → EndsAll H next m a now b → None ≡ finishing now.memory.heap (next now.memory.timer)
      → n ≡ record now { memory = ended_if (next now.memory.timer) now.memory } → Follows H (finishes_all next) m n a b
  all_ended {n = n} {b = b} before none is = before.rest n b (finishes_no_more next is before.left b none)

pub all_due_ended : {H : Hearing} {m now n : Seen} {a b : H.Told} → EndsAll H due_next m a now b
    → None ≡ finishing now.memory.heap (due_next now.memory.timer)
    → n ≡ record now { memory = ended_if (due_next now.memory.timer) now.memory } → Follows H finishes_all_due m n a b
unfolding finishes_all_due
all_due_ended before none is = all_ended due_next due_takes_one before none is

-- ---- after a call

-- by whether system time was set, and those that wait for it were not looked at since
abbrev finishes_where : Bool → State → Outcome
finishes_where set s = if set then finishes_all_until (on_memory (on_timer looked_at) s) else quiet s

where_set : {H : Hearing} {m n : Seen} {a b : H.Told} (set : Bool) → m.memory.timer.is_set ≡ set
    → Follows H (finishes_where set) m n a b → Follows H finishes_set m n a b
unfolding finishes_set
where_set set is follows = follows_as {g = finishes_where set}
    (λ s e. ap (λ (b : Bool). finishes_where b s) (reads_memory (λ memory. memory.timer.is_set) (λ y. refl) is s e)) follows

module _ {m n : Seen} (is : n ≡ record m { memory = on_timer looked_at m.memory }) where
  -- those that wait for system time finish
  pub set_finishes : {H : Hearing} {o : Seen} {a b : H.Told} → m.memory.timer.is_set ≡ true → Follows H finishes_all_until n o a b
      → Follows H finishes_set m o a b
  set_finishes set follows =
      where_set true set (follows_change (moves_memory (on_timer looked_at) (on_timer looked_at) (λ y. refl) is) follows)

  -- there is nothing to look at
  pub not_set : {H : Hearing} (t : H.Told) → m.memory.timer.is_set ≡ false → Follows H finishes_set m n t t
  not_set {H} t unset = where_set false unset (subst (λ (x : Seen). Follows H quiet m x t t) (sym same) (follows_nothing m t))
    where
      same : n ≡ m
      same = is ∙ ap (λ (b : Bool). record m { memory = on_timer (λ (timer : Clock). record timer { is_set = b }) m.memory }) (sym unset)
