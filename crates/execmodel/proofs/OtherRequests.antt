-- Words on requests leave the blocks of all objects but requests and ports as they are.
use Rattle.std.proofs.Common.{inl, inr, ◌≡◌, ℕ, zero, suc, ℤ, pos, negsuc, Bool, true, false, List, length, Option, None, Some, refl, sym, ap, ◌∙◌, subst, if◌then◌else◌, nat_eq, map}
use Rattle.exectrace.specs.Trace.{Timer as TimerLine}
use Rattle.iorequest.specs.Request.{idle_request, finished, is_under_way}
use Rattle.iorequest.specs.declared.request.Begun.TheVariants.{Finish, Queue, Until, NewTime}
use Rattle.iorequest.specs.declared.request.ReqState.TheVariants.{Replied}
use Rattle.iorequest.specs.{declared.request.Request.Request as TimerRequest, declared.request.ReqState.ReqState, declared.request.Begun.Begun}
use Rattle.msgport.specs.{Port.Port, declared.action.Action.Action}
use Rattle.script.specs.declared.alert.Alert.{Alert}
use Rattle.script.specs.declared.word.requests.RequestWord.{RequestWord}
use Rattle.script.specs.declared.word.requests.RequestWord.TheVariants as requests
use Rattle.timerdev.specs.Timing.{until_next, looked_at}
use Rattle.execmodel.specs.State.{Call, Object, MsgPort, Request, Heap, Memory, Timer as Clock, State, Outcome, quiet, prints_line, andthen, on_memory, on_schedule, on_timer}
use Rattle.execmodel.specs.Ports.{is_port, is_port_at, is_queued, port_alert, with_port, appended, performed, loses}
use Rattle.execmodel.specs.Semaphores.{is_tried_again}
use Rattle.execmodel.specs.Requests.{is_request, is_request_at, request_of, with_request, request_alert, resting_alert, delete_request_alert, send_alert, do_alert, wait_io_alert, state_alert, set_io_alert, answering_port, appended_at, finished_at, acting_at, with_reply, ended, ends_with, under_way, heap_begun, outcome_at, begun_at, replying_port, request_size, does_create_io_request, does_delete_io_request, opened_for, does_open_device, closed_device, does_close_device, with_command, does_set_io, does_send_io, reply_taken, looks_for, does_wait_io, begins_and_looks, does_do_io, does_check_io, aborts, does_abort_io, does_io_secs, does_io_micros, does_io_error, does_io_flags, does_requests, finishes, finishes_each, finishes_set}
use Rattle.execmodel.specs.{Calls.argument, Calls.done, Calls.answered, Calls.waiting, Calls.unless, Libraries.is_library_at, Objects.object_at, Objects.is_kind, Objects.replaced, Step.run, OtherBlocks.is_of_requests, OtherBlocks.RequestWordsLeaveOtherBlocks}
use Rattle.execmodel.proofs.Libraries.{block_elsewhere, block_rid_there}
use Rattle.execmodel.proofs.OtherBlocks.{alike_kind, apart_by, Becomes, BecomesIn, refused_leaves, either_leaves, made_leaves}
use Rattle.execmodel.proofs.{Heaps.instead, Heaps.object_replaced, Heaps.true_is_not_false, Asking.written, Asking.ports_written, Asking.answering, Commands.passed_first, Commands.performed_memory, Posts.IsTidy, NoStraysLaw.tidy_in_every_state, RequestsAfter.MayBegin, RequestsAfter.may_do, RequestsAfter.queued_lives, RequestsAfter.replied_there, RequestsAfter.never_replied}

request_is : (found : Option Object) → is_kind is_request found ≡ true → is_kind is_of_requests found ≡ true
request_is None is = is
request_is (Some (Request content)) is = refl
request_is (Some _) is = true_is_not_false (sym is)

port_is : (found : Option Object) → is_kind is_port found ≡ true → is_kind is_of_requests found ≡ true
port_is None is = is
port_is (Some (MsgPort port messages)) is = refl
port_is (Some _) is = true_is_not_false (sym is)

request_exists : (request : ℕ) (heap : Heap) → delete_request_alert request heap ≡ None
    → is_request_at request heap ≡ true
unfolding delete_request_alert
request_exists request heap none = (passed_first (is_request_at request heap) _ _ none).0

awaited_exists : (request t : ℕ) (heap : Heap) → wait_io_alert t request heap ≡ None
    → (is_request_at request heap ≡ true) × (state_alert (request_of request heap).state t request heap ≡ None)
unfolding wait_io_alert
awaited_exists request t heap none = passed_first (is_request_at request heap) _ _ none

-- ---- what a block becomes, where neither a request nor a port began

abbrev IsApart : ℕ → Heap → Type 0
IsApart a heap = is_kind is_of_requests (object_at a heap) ≡ false

-- what begins there stays a request or a port
kind_stays : (test : Bool) (object : Object) (found : Option Object) → is_of_requests object ≡ true
    → is_kind is_of_requests found ≡ true
    → is_kind is_of_requests (if test then instead object found else found) ≡ true
kind_stays true object None of_kind is = is
kind_stays true object (Some other) of_kind is = of_kind
kind_stays false object found of_kind is = is

module _ (a : ℕ) (old : Heap) (apart : IsApart a old) where
  abbrev IsLeft : Heap → Type 0
  IsLeft heap = Becomes is_of_requests a old heap

  -- a request or a port becomes another one
  replaced_left : (address : ℕ) (object : Object) (heap : Heap) → is_of_requests object ≡ true
      → is_kind is_of_requests (object_at address heap) ≡ true → IsLeft heap
      → IsLeft (map (replaced address object) heap)
  replaced_left address object heap of_kind is (inl same) =
      inl (block_elsewhere a address object heap
      (apart_by is_of_requests a address heap (alike_kind is_of_requests a old heap same ∙ apart) is)
      ∙ same)
  replaced_left address object heap of_kind is (inr (free, kind)) =
      inr (
        free,
        ap (λ found. is_kind is_of_requests found) (object_replaced address object a heap)
            ∙ kind_stays (nat_eq a address) object (object_at a heap) of_kind kind,
      )

  written_left : (request : ℕ) (content : TimerRequest) (heap : Heap) → IsLeft heap
      → IsLeft (with_request request content heap)
  unfolding is_request_at
  written_left request content heap left =
      written (λ h. IsLeft h) request content heap left
      (λ is. replaced_left request (Request content) heap refl (request_is (object_at request heap) is) left)

  port_left : (port : ℕ) (held : Port) (messages : List ℕ) (heap : Heap) → is_port_at port heap ≡ true → IsLeft heap
      → IsLeft (with_port port held messages heap)
  unfolding with_port is_port_at
  port_left port held messages heap is left =
      replaced_left port (MsgPort held messages) heap refl (port_is (object_at port heap) is) left

  appended_left : (found : Option ℕ) (request : ℕ) (heap : Heap)
      → ((port : ℕ) → found ≡ Some port → is_port_at port heap ≡ true)
      → IsLeft heap → IsLeft (appended_at found request heap)
  unfolding appended
  appended_left None request heap lives left = left
  appended_left (Some port) request heap lives left = port_left port _ _ heap (lives port refl) left

  -- a request finishes
  finished_left : (error : ℤ) (request : ℕ) (heap : Heap) → IsLeft heap → IsLeft (finished_at error request heap)
  unfolding finished_at
  finished_left error request heap left =
      let content = finished error (request_of request heap) in
      appended_left (answering_port request heap) request (with_request request content heap)
      (λ port e. ports_written request content heap port ∙ (answering request port heap e).0)
      (written_left request content heap left)

  acted_left : (act : Action) (r : State) → IsLeft r.memory.heap → IsLeft (performed act r).memory.heap
  acted_left act r left = subst (λ (m : Memory). IsLeft m.heap) (sym (performed_memory act r)) left

  ends_left : (error : ℤ) (request : ℕ) (s : State) → IsLeft s.memory.heap
      → IsLeft (ends_with error request s).memory.heap
  unfolding ended
  ends_left error request s left =
      acted_left (acting_at (answering_port request s.memory.heap) s.memory.heap) (on_memory (ended error request) s)
      (finished_left error request s.memory.heap left)

  -- whether it is replied is another matter
  reply_left : (found : Option ℕ) (request : ℕ) (o : Outcome) → IsLeft o.state.memory.heap
      → IsLeft (with_reply found request o).state.memory.heap
  reply_left None request o left = left
  reply_left (Some port) request o left = left

  finishes_left : (request : ℕ) (s : State) → IsLeft s.memory.heap → IsLeft (finishes request s).state.memory.heap
  unfolding finishes
  finishes_left request s left =
      reply_left (answering_port request s.memory.heap) request (prints_line (TimerLine request) (ends_with (pos 0) request s))
      (ends_left (pos 0) request s left)

  abbrev Leaves : (State → Outcome) → Type 0
  Leaves next = (s : State) → IsLeft s.memory.heap → IsLeft (next s).state.memory.heap

  found_left : (more : State → Outcome) → Leaves more → (found : Option ℕ) (s : State) → IsLeft s.memory.heap
      → IsLeft (elim found as (λ (x : Option ℕ). Outcome)
      [ None ↦ quiet s | Some request ↦ andthen (finishes request) more s ]).state.memory.heap
  unfolding andthen
  found_left more leaves None s left = left
  found_left more leaves (Some request) s left = leaves (finishes request s).state (finishes_left request s left)

  each_left : (next : Clock → Option ℕ) (n : ℕ) → Leaves (finishes_each next n)
  unfolding finishes_each
  each_left next zero s left = left
  each_left next (suc n) s left = found_left (finishes_each next n) (each_left next n) (next s.memory.timer) s left

  either_left : (test : Bool) (o p : Outcome) → IsLeft o.state.memory.heap → IsLeft p.state.memory.heap
      → IsLeft (if test then o else p).state.memory.heap
  either_left true o p one other = one
  either_left false o p one other = other

  -- what follows a call that set system time
  set_left : Leaves finishes_set
  unfolding finishes_set
  set_left s left =
      either_left s.memory.timer.is_set
      (finishes_each until_next (length s.memory.timer.waiting) (on_memory (on_timer looked_at) s)) (quiet s)
      (each_left until_next (length s.memory.timer.waiting) (on_memory (on_timer looked_at) s) left) left

  -- a request begins
  begun_left : (how : Begun) (quick : Bool) (system request : ℕ) (heap : Heap) → IsLeft heap
      → IsLeft (heap_begun how quick system request heap)
  begun_left (Queue due) quick system request heap left = written_left request _ heap left
  begun_left (Until at) quick system request heap left = written_left request _ heap left
  begun_left (Finish error) quick system request heap left =
      finished_left error request (under_way quick system request heap) (written_left request _ heap left)
  begun_left (NewTime time) quick system request heap left =
      finished_left (pos 0) request (under_way quick system request heap) (written_left request _ heap left)

  begun_at_left : (quick : Bool) (request : ℕ) (memory : Memory) → IsLeft memory.heap
      → IsLeft (begun_at quick request memory).heap
  unfolding begun_at
  begun_at_left quick request memory left =
      begun_left (outcome_at request memory) quick memory.timer.system request memory.heap left

  -- a task looks for a request, and takes its reply out of its port
  looks_left : (how : ReqState) (request t : ℕ) (call : Call) (r : State) → IsLeft r.memory.heap
      → (how ≡ Replied → is_port_at (request_of request r.memory.heap).port r.memory.heap ≡ true)
      → IsLeft (looks_for how request t call r).state.memory.heap
  unfolding answered waiting reply_taken
  looks_left Replied request t call r left lives =
      port_left (request_of request r.memory.heap).port _ _ r.memory.heap (lives refl) left
  looks_left _ request t call r left lives = left

-- ---- the words

module _ (s : State) (tidy : IsTidy s) (a : ℕ) (none : is_library_at a s.memory.heap ≡ false)
    (apart : IsApart a s.memory.heap) where
  abbrev LeavesIt : State → Type 0
  LeavesIt r = BecomesIn s tidy a none is_of_requests r

  refused : (alert : Option Alert) (t : ℕ) (call : Call) (effect : State → Outcome)
      → (alert ≡ None → LeavesIt (effect s).state)
      → LeavesIt (unless alert t call effect s).state
  refused alert t call effect passing = refused_leaves s tidy a none is_of_requests alert t call effect passing

  replied_lives : (how : ReqState) (t request : ℕ) → is_request_at request s.memory.heap ≡ true
      → state_alert how t request s.memory.heap ≡ None
      → how ≡ Replied → is_port_at (request_of request s.memory.heap).port s.memory.heap ≡ true
  replied_lives how t request there none e =
      queued_lives request s there (replied_there (is_queued request s.memory.heap) _
      (ap (λ h. state_alert h t request s.memory.heap) (sym e) ∙ none)) tidy

  waits_leave : (t : ℕ) (call : Call) → LeavesIt (does_wait_io t call s).state
  unfolding does_wait_io
  waits_leave t call =
      let request = argument 0 call in
      refused (wait_io_alert t request s.memory.heap) t call _
      (λ passes. let there = awaited_exists request t s.memory.heap passes in
      looks_left a s.memory.heap apart (request_of request s.memory.heap).state request t call
      (on_schedule (loses t call.awaited) s) (inl refl)
      (replied_lives (request_of request s.memory.heap).state t request there.0 there.1))

  begins_leave : (t : ℕ) (call : Call) (request : ℕ) → MayBegin request s.memory.heap
      → LeavesIt (begins_and_looks request t call s).state
  begins_leave t call request may =
      let next = begun_at true request s.memory in
      looks_left a s.memory.heap apart (request_of request next.heap).state request t call (record s { memory = next })
      (begun_at_left a s.memory.heap apart true request s.memory (inl refl)) (λ e. never_replied request s may e)

  sends_leave : (t : ℕ) (call : Call) (request : ℕ)
      → LeavesIt (with_reply (replying_port false request s.memory) request
      (done t call
      (performed (acting_at (replying_port false request s.memory) s.memory.heap)
      (on_memory (begun_at false request) s)))).state
  unfolding done
  sends_leave t call request =
      let port = replying_port false request s.memory in
      reply_left a s.memory.heap apart port request
      (done t call (performed (acting_at port s.memory.heap) (on_memory (begun_at false request) s)))
      (acted_left a s.memory.heap apart (acting_at port s.memory.heap) (on_memory (begun_at false request) s)
      (begun_at_left a s.memory.heap apart false request s.memory (inl refl)))

  aborts_leave : (test : Bool) (request t : ℕ) (call : Call) → LeavesIt (aborts test request t call s).state
  unfolding answered
  aborts_leave true request t call =
      reply_left a s.memory.heap apart (answering_port request s.memory.heap) request
      (answered t call 0 (ends_with (negsuc 1) request s))
      (ends_left a s.memory.heap apart (negsuc 1) request s (inl refl))
  aborts_leave false request t call = inl refl

  request_leaves : (word : RequestWord) (t : ℕ) (call : Call) → LeavesIt (does_requests word t call s).state
  unfolding does_create_io_request does_delete_io_request does_open_device does_close_device does_set_io does_send_io does_do_io does_check_io does_abort_io does_io_secs does_io_micros does_io_error does_io_flags opened_for closed_device with_command answered done
  request_leaves requests.CreateIORequest t call =
      let port = argument 0 call in
      either_leaves s tidy a none is_of_requests (nat_eq port 0) _ _ (inl refl)
      (refused (port_alert port s.memory.heap) t call _
      (λ passes. made_leaves s tidy a none is_of_requests is_request request_size (Request (idle_request port)) refl))
  request_leaves requests.DeleteIORequest t call =
      let request = argument 0 call in
      either_leaves s tidy a none is_of_requests (nat_eq request 0) _ _ (inl refl)
      (refused (delete_request_alert request s.memory.heap) t call _
      (λ passes. inl (block_rid_there a request s.memory.heap
      (apart_by is_of_requests a request s.memory.heap apart
      (request_is (object_at request s.memory.heap)
      (unfold is_request_at in request_exists request s.memory.heap passes))))))
  request_leaves requests.OpenDevice t call =
      let request = argument 2 call in
      refused (resting_alert request s.memory.heap) t call _
      (λ passes. written_left a s.memory.heap apart request _ s.memory.heap (inl refl))
  request_leaves requests.CloseDevice t call =
      let request = argument 0 call in
      refused (resting_alert request s.memory.heap) t call _
      (λ passes. written_left a s.memory.heap apart request _ s.memory.heap (inl refl))
  request_leaves requests.SetIO t call =
      let request = argument 0 call in
      refused (set_io_alert (argument 1 call) request s.memory.heap) t call _
      (λ passes. written_left a s.memory.heap apart request _ s.memory.heap (inl refl))
  request_leaves requests.DoIO t call =
      let request = argument 0 call in
      either_leaves s tidy a none is_of_requests (is_tried_again t s.scripts) _ _ (waits_leave t call)
      (refused (do_alert t request s.memory.heap) t call (begins_and_looks request t call)
      (λ passes. begins_leave t call request (may_do t request s.memory.heap passes)))
  request_leaves requests.SendIO t call =
      let request = argument 0 call in
      refused (send_alert request s.memory.heap) t call _ (λ passes. sends_leave t call request)
  request_leaves requests.CheckIO t call =
      refused (request_alert (argument 0 call) s.memory.heap) t call _ (λ passes. inl refl)
  request_leaves requests.WaitIO t call = waits_leave t call
  request_leaves requests.AbortIO t call =
      let request = argument 0 call in
      refused (request_alert request s.memory.heap) t call _
      (λ passes. aborts_leave (is_under_way (request_of request s.memory.heap)) request t call)
  request_leaves requests.IOSecs t call =
      refused (request_alert (argument 0 call) s.memory.heap) t call _ (λ passes. inl refl)
  request_leaves requests.IOMicros t call =
      refused (request_alert (argument 0 call) s.memory.heap) t call _ (λ passes. inl refl)
  request_leaves requests.IOError t call =
      refused (request_alert (argument 0 call) s.memory.heap) t call _ (λ passes. inl refl)
  request_leaves requests.IOFlags t call =
      refused (request_alert (argument 0 call) s.memory.heap) t call _ (λ passes. inl refl)

  -- the requests that finish after it, if it set system time, are of the word
  with_set_leaves : (word : RequestWord) (t : ℕ) (call : Call)
      → LeavesIt (andthen (does_requests word t call) finishes_set s).state
  unfolding andthen
  with_set_leaves word t call =
      set_left a s.memory.heap apart (does_requests word t call s).state (request_leaves word t call)

pub request_words_leave_other_blocks : RequestWordsLeaveOtherBlocks
request_words_leave_other_blocks word t call machine list is = record {
  others = λ a apart none.
      with_set_leaves (run machine list).state (tidy_in_every_state machine list is) a none apart word t call;
}
