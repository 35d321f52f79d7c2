-- What a call makes of the blocks and of the requests that wait: it makes one of a few things of the blocks, and the
-- same requests wait; or a request asks something else, or is replied; or its reply is taken out of its port.
use Rattle.std.proofs.Common.{[], ◌≡◌, ◌≢◌, ℕ, ◌+◌, ◌<◌, Bool, true, false, List, ◌∷◌, ◌++◌, Option, None, Some, refl, sym, ap, ◌∙◌, subst, arith, ℤ, pos, negsuc, not, cond, ◌&&◌, ◌||◌, ◌==◌, if◌then◌else◌, nat_eq, option_map}
use Rattle.std.specs.List.{list_any}
use Rattle.memlist.proofs.{Answered.nat_eq-same, Answered.nat_eq-other, Answered.cases_eq, Answered.key_same, Answered.key_other, Keeping.rising_sorted, Merged.IsRising, Slots.AllFrom}
use Rattle.scheduler.specs.Schedule.{Schedule}
use Rattle.msgport.specs.declared.action.Action.{Action}
use Rattle.iorequest.specs.declared.request.Begun.TheVariants.{Finish, Queue, Until, NewTime}
use Rattle.iorequest.specs.Request.{idle_request, is_under_way, is_to_wait, is_until, is_opened, asks_time, sets_time, with_system_time, in_progress, finished, done_state, outcome, reply_port}
use Rattle.iorequest.specs.{declared.request.Request.Request as TimerRequest, declared.request.ReqState.ReqState, declared.request.ReqState.TheVariants.Replied, declared.request.Begun.Begun}
use Rattle.execmodel.specs.State.{Call, Object, Request, Block, Heap, Due, AtClock, AtSystem, Memory, Mark, out, put, State, Outcome, on_schedule, on_memory}
use Rattle.execmodel.specs.Requests.{is_request, is_request_at, request_size, request_of, request_of_object, with_request, is_command, resting_alert, delete_request_alert, set_io_alert, can_begin, begin_alert, send_alert, do_alert, state_alert, answering_port, where_port, acting_at, appended_at, finished_at, with_reply, ended, heap_begun, timer_begun, outcome_at, begun_at, answering_begun, replying_port, reply_taken, looks_for, begins_and_looks, aborts}
use Rattle.execmodel.specs.{Calls.done, Calls.answered, Calls.waiting, Objects.object_at, Objects.is_kind, Objects.place_for_object, LowMemory.after_asking_for_object, Memory.extents, Memory.block_at, Memory.placed, Memory.makes_object, Ports.is_port_at, Ports.is_queued, Ports.has_message, Ports.messages_in, Ports.messages_of, Ports.messages_of_object, Ports.performed, Ports.port_alert, Ports.wait_alert, Agreement.once_if, Laws.times_waiting}
use Rattle.execmodel.proofs.Asking.{Asks, writes, IsLoose, IsRewritten, ports_written, request_written, written_again, waits_last, finished_rests, answering, reply_marks, reply_asks, ended_asks, without_reply}
use Rattle.execmodel.proofs.{Heaps.true_is_not_false, LowMemory.asking_for_object_keeps, Queues.IsAway, Posts.Post, Posts.APort, Posts.post_at, Posts.messages_at, Posts.is_a_port, Posts.may_be_in, Posts.IsTidy, Posts.messages_are, Posts.request_is, Posts.port_is, Posts.request_there, Fifo.is_away, Commands.none_some, Commands.passed_first, Commands.passed_other, Commands.is_port_there, Commands.performed_memory, BlocksAfter.Makes, BlocksAfter.MayGo, BlocksAfter.IsUnneeded, BlocksAfter.stays, Heaps.both_true, BlocksAfter.mail_unneeded, BlocksAfter.object_makes}
use Rattle.script.specs.declared.alert.Alert.{Alert}

pub data Works (t : ℕ) (call : Call) (s : State) (o : Outcome) : Type 0 where
  by_moves : Makes t call s o → o.state.memory.timer.waiting ≡ s.memory.timer.waiting → Works t call s o
  by_asking : o.state.memory.regions ≡ s.memory.regions → Asks s o.marks o.state.memory.heap o.state.memory.timer.waiting → Works t call s o
  by_taking : (port request : ℕ) → o.state.memory.regions ≡ s.memory.regions → o.state.memory.timer.waiting ≡ s.memory.timer.waiting
      → o.marks ≡ out port request ∷ [] → o.state.memory.heap ≡ without_reply port request s.memory.heap
      → (IsTidy s → is_port_at port s.memory.heap ≡ true) → Works t call s o

-- ---- requests made and freed

placed_waiting : (size : ℕ) (object : Object) (place : Option ℕ) (memory : Memory)
    → (placed size object place memory).timer.waiting ≡ memory.timer.waiting
placed_waiting size object None memory = refl
placed_waiting size object (Some address) memory = refl

pub created_works : (t : ℕ) (call : Call) (port : ℕ) (s : State)
    → Works t call s (makes_object t call is_request request_size (Request (idle_request port)) (on_memory (after_asking_for_object is_request request_size) s))
created_works t call port s =
    let asked = after_asking_for_object is_request request_size s.memory in
    by_moves (object_makes t call s is_request request_size (Request (idle_request port)) (λ heap. refl))
    (unfold answered in (placed_waiting request_size (Request (idle_request port)) (place_for_object is_request request_size asked) asked
    ∙ ap (λ (memory : Memory). memory.timer.waiting) (asking_for_object_keeps is_request request_size s.memory)))

request_goes : (found : Option Object) → is_under_way (request_of_object found) ≡ false → is_kind is_request found ≡ true → MayGo found
request_goes None rests is = tt
request_goes (Some (Request content)) rests is = rests
request_goes (Some _) rests is = true_is_not_false (sym is)

-- a request that is not in progress is to be there
pub is_resting_there : (request : ℕ) (heap : Heap) → resting_alert request heap ≡ None
    → (is_request_at request heap ≡ true) × (is_under_way (request_of request heap) ≡ false)
unfolding resting_alert
is_resting_there request heap none =
    let there = passed_first (is_request_at request heap) _ _ none in
    (there.0, (passed_other (is_under_way (request_of request heap)) _ _ there.1).0)

pub is_settable_there : (command request : ℕ) (heap : Heap) → set_io_alert command request heap ≡ None
    → (is_request_at request heap ≡ true) × (is_under_way (request_of request heap) ≡ false)
unfolding set_io_alert
is_settable_there command request heap none =
    let there = passed_first (is_request_at request heap) _ _ none in
    let value = passed_first (is_command command) _ _ there.1 in
    (there.0, (passed_other (is_under_way (request_of request heap)) _ _ value.1).0)

pub goes_there : (request : ℕ) (heap : Heap) → delete_request_alert request heap ≡ None → MayGo (object_at request heap) × IsUnneeded request heap
unfolding delete_request_alert
goes_there request heap none =
    let there = passed_first (is_request_at request heap) _ _ none in
    let rests = passed_other (is_under_way (request_of request heap)) _ _ there.1 in
    let loose = passed_other (is_queued request heap) _ _ rests.1 in (
      request_goes (object_at request heap) (unfold request_of in rests.0) (unfold is_request_at in there.0),
      mail_unneeded request heap (ap is_a_port (request_there request heap there.0)) loose.0,
    )

-- ---- a request that is not in progress, before and after

pub resting_rewritten : (request : ℕ) (content : TimerRequest) (s : State) → is_request_at request s.memory.heap ≡ true
    → content.port ≡ (request_of request s.memory.heap).port → is_under_way (request_of request s.memory.heap) ≡ false → is_under_way content ≡ false
    → IsTidy s → IsRewritten request content s.memory.timer.waiting s
resting_rewritten request content s there port was rests tidy = record {
  there = there;
  port = port;
  once = tidy.order.waits request
      ∙ ap once_if (ap (λ (q : TimerRequest). is_under_way q) (sym (request_is request s.memory.heap)) ∙ was ∙ sym rests);
  others = λ other apart. refl;
  begins = λ under. true_is_not_false (sym under ∙ rests);
}

-- ---- a request begins

-- it is there, not in progress, is in no port, and its reply port lives
pub record MayBegin (request : ℕ) (heap : Heap) : Type 0 where
  pub there : is_request_at request heap ≡ true
  pub rests : is_under_way (request_of request heap) ≡ false
  pub loose : is_queued request heap ≡ false
  pub lives : is_port_at (request_of request heap).port heap ≡ true

not_true : (b : Bool) → not b ≡ true → b ≡ false
not_true true e = sym e
not_true false e = refl

may_begin : (of_port : Option Alert) (request : ℕ) (heap : Heap) → begin_alert of_port request heap ≡ None
    → (of_port ≡ None → is_port_at (request_of request heap).port heap ≡ true) → MayBegin request heap
may_begin of_port request heap none port =
    let there = passed_first (is_request_at request heap) _ _ none in
    let can = passed_first (can_begin (request_of request heap)) _ _ there.1 in
    let loose = passed_other (is_queued request heap) _ _ can.1 in
    record {
      there = there.0;
      rests = both_true (not (is_under_way (request_of request heap))) (is_opened (request_of request heap)) can.0
          (λ one other. not_true (is_under_way (request_of request heap)) one);
      loose = loose.0;
      lives = port loose.1;
    }

pub may_send : (request : ℕ) (heap : Heap) → send_alert request heap ≡ None → MayBegin request heap
unfolding send_alert
may_send request heap none =
    may_begin (port_alert (request_of request heap).port heap) request heap none (is_port_there (request_of request heap).port heap)

is_awaitable_there : (t port : ℕ) (heap : Heap) → wait_alert t port heap ≡ None → is_port_at port heap ≡ true
unfolding wait_alert
is_awaitable_there t port heap none = (passed_first (is_port_at port heap) _ _ none).0

pub may_do : (t request : ℕ) (heap : Heap) → do_alert t request heap ≡ None → MayBegin request heap
unfolding do_alert
may_do t request heap none =
    may_begin (wait_alert t (request_of request heap).port heap) request heap none (is_awaitable_there t (request_of request heap).port heap)

told_port : (system : ℕ) (q : TimerRequest) → (with_system_time system q).port ≡ q.port
told_port system q = tested (asks_time q) _ _
  where
    tested : (b : Bool) (secs micros : ℕ) → (if b then record q { secs = secs; micros = micros } else q).port ≡ q.port
    tested true secs micros = refl
    tested false secs micros = refl

-- a request that is to wait is queued, and any other is done at once
is_done : Begun → Bool
is_done (Queue due) = false
is_done (Until at) = false
is_done (Finish error) = true
is_done (NewTime time) = true

queued_rests : (b : Bool) (due at : ℕ) → is_done (if b then Until at else Queue due) ≡ false
unfolding is_done
queued_rests true due at = refl
queued_rests false due at = refl

-- one that sets system time is not one that waits
not_both : (command : ℕ) (test : Bool) → nat_eq command 11 ≡ true → (nat_eq command 9 && test) ≡ false
not_both command test is = cases_eq command 11
    (λ e. ap (λ k. nat_eq k 9 && test) e)
    (λ apart. true_is_not_false (sym is ∙ nat_eq-other command 11 apart))

done_tested : (sets waits : Bool) (queued other new : Begun) → (sets ≡ true → waits ≡ false) → is_done queued ≡ false
    → is_done (if sets then new else (if waits then queued else other)) ≡ true → waits ≡ false
done_tested true waits queued other new apart rests e = apart refl
done_tested false true queued other new apart rests e = true_is_not_false (sym e ∙ rests)
done_tested false false queued other new apart rests e = refl

-- it is done at once exactly if it does not wait
done_now : (now system : ℕ) (q : TimerRequest) → is_done (outcome now system q) ≡ true → is_to_wait system q ≡ false
done_now now system q e =
    done_tested (sets_time q) (is_to_wait system q) _ _ _ (not_both q.command _) (queued_rests (is_until q) _ _) e

module _ (quick : Bool) (request : ℕ) (s : State) (may : MayBegin request s.memory.heap) where
  -- the request as it is begun, and the blocks with it
  abbrev fresh : TimerRequest
  fresh = in_progress quick s.memory.timer.system (request_of request s.memory.heap)

  abbrev mid : Heap
  mid = with_request request fresh s.memory.heap

  same_port : fresh.port ≡ (request_of request s.memory.heap).port
  same_port = told_port s.memory.timer.system (request_of request s.memory.heap)

  is_begun : request_of request mid ≡ fresh
  is_begun = request_written request fresh s.memory.heap may.there

  queue_rewritten : (due : Due) → IsTidy s
      → IsRewritten request fresh (s.memory.timer.waiting ++ record { request = request; due = due } ∷ []) s
  queue_rewritten due tidy = record {
    there = may.there;
    port = same_port;
    once = waits_last request s.memory.timer.waiting (record { request = request; due = due })
        ∙ ap (λ n. n + once_if (nat_eq request request))
        (tidy.order.waits request ∙ ap once_if (ap (λ (q : TimerRequest). is_under_way q) (sym (request_is request s.memory.heap)) ∙ may.rests))
        ∙ ap (λ b. 0 + once_if b) (nat_eq-same request);
    others = λ other apart.
        waits_last other s.memory.timer.waiting (record { request = request; due = due })
        ∙ ap (λ b. times_waiting other s.memory.timer.waiting + once_if b) (nat_eq-other request other (λ e. apart (sym e)))
        ∙ and_none (times_waiting other s.memory.timer.waiting);
    begins = λ under. (
      λ port. is_away request port s.memory.heap may.loose,
      subst (λ port. is_port_at port s.memory.heap ≡ true) (sym same_port) may.lives,
    );
  }
    where
      and_none : (n : ℕ) → n + 0 ≡ n
      and_none n = omega arith

  -- one that finishes at once is written once
  finish_written : (error : ℤ)
      → with_request request (finished error (request_of request mid)) mid ≡ with_request request (finished error fresh) s.memory.heap
  finish_written error =
      ap (λ q. with_request request (finished error q) mid) is_begun
      ∙ written_again request fresh (finished error fresh) s.memory.heap may.there

  finish_asks : (error : ℤ)
      → Asks s (reply_marks (answering_port request mid) request) (finished_at error request mid) s.memory.timer.waiting
  unfolding finished_at
  finish_asks error =
      subst (λ heap. Asks s (reply_marks (answering_port request mid) request) (appended_at (answering_port request mid) request heap) s.memory.timer.waiting)
      (sym (finish_written error))
      (reply_asks (answering_port request mid) request (finished error fresh) s.memory.timer.waiting s
      (λ port e. let there = answering request port mid e in (
        sym (ports_written request fresh s.memory.heap port) ∙ there.0,
        ap (λ (q : TimerRequest). q.port) (sym is_begun) ∙ there.1,
      ))
      (finished_rests error fresh) (λ tidy port. is_away request port s.memory.heap may.loose)
      (resting_rewritten request (finished error fresh) s may.there same_port may.rests (finished_rests error fresh)))

  begin_asks : (how : Begun)
      → Asks s (reply_marks (answering_begun how quick s.memory.timer.system request s.memory.heap) request)
      (heap_begun how quick s.memory.timer.system request s.memory.heap) (timer_begun how request s.memory.timer).waiting
  begin_asks (Queue due) = writes request fresh _ (queue_rewritten (AtClock due))
  begin_asks (Until at) = writes request fresh _ (queue_rewritten (AtSystem at))
  begin_asks (Finish error) = finish_asks error
  begin_asks (NewTime time) = finish_asks (pos 0)

-- A request that is begun with its quick bit set is not replied at once.
is_replied : ReqState → Bool
is_replied Replied = true
is_replied _ = false

module _ (request : ℕ) (s : State) (may : MayBegin request s.memory.heap) where
  abbrev asked : TimerRequest
  asked = in_progress true s.memory.timer.system (request_of request s.memory.heap)

  abbrev under : Heap
  under = with_request request asked s.memory.heap

  record IsQuiet (how : Begun) : Type 0 where
    answers_none : answering_begun how true s.memory.timer.system request s.memory.heap ≡ None
    none_replied : is_replied (request_of request (heap_begun how true s.memory.timer.system request s.memory.heap)).state ≡ false

  quick_done : (how : Begun) → outcome_at request s.memory ≡ how → is_done how ≡ true → asked.quick ≡ true
  quick_done how e done =
      ap (λ b. true && not b)
      (done_now s.memory.timer.clock s.memory.timer.system (request_of request s.memory.heap) (ap is_done e ∙ done))

  quick_quiet : (error : ℤ) → asked.quick ≡ true → IsQuiet (Finish error)
  unfolding finished_at answering_port is_replied
  quick_quiet error quick =
      let none : answering_port request under ≡ None =
      ap (λ q. where_port (reply_port q) under) (is_begun true request s may) ∙ ap (λ b. where_port (if b then None else Some asked.port) under) quick in
      record {
        answers_none = none;
        none_replied = ap (λ found. is_replied (request_of request (appended_at found request (with_request request (finished error (request_of request under)) under))).state) none
            ∙ ap (λ heap. is_replied (request_of request heap).state) (finish_written true request s may error)
            ∙ ap (λ (q : TimerRequest). is_replied q.state) (request_written request (finished error asked) s.memory.heap may.there)
            ∙ ap (λ b. is_replied (done_state b)) quick;
      }

  do_quiet : (how : Begun) → outcome_at request s.memory ≡ how → IsQuiet how
  unfolding is_replied is_done
  do_quiet (Queue due) e =
      record { answers_none = refl; none_replied = ap (λ (q : TimerRequest). is_replied q.state) (is_begun true request s may) }
  do_quiet (Until at) e =
      record { answers_none = refl; none_replied = ap (λ (q : TimerRequest). is_replied q.state) (is_begun true request s may) }
  do_quiet (Finish error) e = quick_quiet error (quick_done (Finish error) e refl)
  do_quiet (NewTime time) e =
      let quiet = quick_quiet (pos 0) (quick_done (NewTime time) e refl) in
      record { answers_none = quiet.answers_none; none_replied = quiet.none_replied }

-- so the task that begins it finds no reply to take
pub never_replied : {A : Type 0} (request : ℕ) (s : State) → MayBegin request s.memory.heap
    → (request_of request (begun_at true request s.memory).heap).state ≡ Replied → A
unfolding begun_at is_replied
never_replied request s may e =
    true_is_not_false (sym (ap is_replied e) ∙ (do_quiet request s may (outcome_at request s.memory) refl).none_replied)

-- ---- how calls end that begin a request, or end it

replied_works : (found : Option ℕ) (request t : ℕ) (call : Call) (s : State) (o : Outcome) → o.marks ≡ []
    → o.state.memory.regions ≡ s.memory.regions → Asks s (reply_marks found request) o.state.memory.heap o.state.memory.timer.waiting
    → Works t call s (with_reply found request o)
replied_works None request t call s o none regions asks =
    by_asking regions (subst (λ marks. Asks s marks o.state.memory.heap o.state.memory.timer.waiting) (sym none) asks)
replied_works (Some port) request t call s o none regions asks =
    by_asking regions
    (subst (λ marks. Asks s marks o.state.memory.heap o.state.memory.timer.waiting) (sym (ap (λ marks. put port request ∷ marks) none)) asks)

-- the memory is another one, and then a port acts
acted_asks : (act : Action) (marks : List Mark) (s : State) (memory : Memory) → Asks s marks memory.heap memory.timer.waiting
    → Asks s marks (performed act (record s { memory = memory })).memory.heap (performed act (record s { memory = memory })).memory.timer.waiting
acted_asks act marks s memory asks =
    subst (λ (m : Memory). Asks s marks m.heap m.timer.waiting) (sym (performed_memory act (record s { memory = memory }))) asks

acted_regions : (act : Action) (s : State) (memory : Memory) → memory.regions ≡ s.memory.regions
    → (performed act (record s { memory = memory })).memory.regions ≡ s.memory.regions
acted_regions act s memory same = ap (λ (m : Memory). m.regions) (performed_memory act (record s { memory = memory })) ∙ same

pub sends_works : (t : ℕ) (call : Call) (request : ℕ) (s : State) → MayBegin request s.memory.heap
    → Works t call s (with_reply (replying_port false request s.memory) request
    (done t call (performed (acting_at (replying_port false request s.memory) s.memory.heap) (on_memory (begun_at false request) s))))
unfolding done replying_port begun_at
sends_works t call request s may =
    let port = replying_port false request s.memory in
    let act = acting_at port s.memory.heap in
    replied_works port request t call s (done t call (performed act (on_memory (begun_at false request) s))) refl
    (acted_regions act s (begun_at false request s.memory) refl)
    (acted_asks act (reply_marks port request) s (begun_at false request s.memory) (begin_asks false request s may (outcome_at request s.memory)))

pub aborts_works : (test : Bool) (t : ℕ) (call : Call) (request : ℕ) (s : State) → is_under_way (request_of request s.memory.heap) ≡ test
    → Works t call s (aborts test request t call s)
unfolding answered
aborts_works true t call request s e =
    let port = answering_port request s.memory.heap in
    let act = acting_at port s.memory.heap in
    replied_works port request t call s (answered t call 0 (performed act (on_memory (ended (negsuc 1) request) s))) refl
    (acted_regions act s (ended (negsuc 1) request s.memory) (unfold ended in refl))
    (acted_asks act (reply_marks port request) s (ended (negsuc 1) request s.memory) (ended_asks (negsuc 1) request s (λ tidy. e)))
aborts_works false t call request s e = by_moves (refl, stays) refl

-- ---- a reply that is queued is in the reply port

-- the messages of the port at the address of the first entry, and of any other
messages_in_block : Option Block → List ℕ
messages_in_block found = messages_of_object (option_map (λ (block : Block). block.object) found)

at_entry : (entry : ℕ × Block) (rest : Heap) → messages_of entry.0 (entry ∷ rest) ≡ messages_in entry.1.object
unfolding messages_of messages_in_block
at_entry entry rest = ap (λ b. messages_in_block (cond b (Some entry.1) (block_at entry.0 rest))) (key_same entry.0)

behind_entry : (a : ℕ) (entry : ℕ × Block) (rest : Heap) → a ≢ entry.0 → messages_of a (entry ∷ rest) ≡ messages_of a rest
unfolding messages_of messages_in_block
behind_entry a entry rest apart = ap (λ b. messages_in_block (cond b (Some entry.1) (block_at a rest))) (key_other a entry.0 apart)

-- no port begins below all entries
none_below : (a low : ℕ) (heap : Heap) → a < low → AllFrom low (extents heap) → messages_of a heap ≡ []
none_below a low [] below from = unfold messages_of in refl
none_below a low (entry ∷ rest) below from =
    let apart : a ≢ entry.0 = omega (arith, below, from.0) in behind_entry a entry rest apart ∙ none_below a low rest below from.1

away_none : (who : ℕ) (q : List ℕ) → IsAway who q → list_any (λ other. other == who) q ≡ false
away_none who [] away = refl
away_none who (x ∷ q) away =
    ap (λ b. b || list_any (λ other. other == who) q) (nat_eq-other x who (λ same. away.0 (sym same))) ∙ away_none who q away.1

unqueued : (who : ℕ) (heap : Heap) → IsRising (extents heap) → IsLoose who heap → list_any (has_message who) heap ≡ false
unqueued who [] rising loose = refl
unqueued who (entry ∷ rest) rising loose =
    ap (λ b. b || list_any (has_message who) rest)
    (away_none who (messages_in entry.1.object) (subst (λ q. IsAway who q) (at_entry entry rest) (loose entry.0)))
    ∙ unqueued who rest rising.1
    (λ a. cases_eq a entry.0
    (λ same. subst (λ q. IsAway who q) (sym (none_below a (entry.0 + 1) rest (omega (arith, same)) rising.0)) tt)
    (λ apart. subst (λ q. IsAway who q) (behind_entry a entry rest apart) (loose a)))

no_messages : (x : Post) → is_a_port x ≡ false → messages_at x ≡ []
no_messages (APort messages) e = true_is_not_false e
no_messages _ e = refl

and_false : (b c : Bool) → c ≡ false → (b && c) ≡ false
and_false true c e = e
and_false false c e = refl

pub queued_lives : (request : ℕ) (s : State) → is_request_at request s.memory.heap ≡ true → is_queued request s.memory.heap ≡ true → IsTidy s
    → is_port_at (request_of request s.memory.heap).port s.memory.heap ≡ true
unfolding is_queued
queued_lives request s there queued tidy = tested (is_port_at (request_of request s.memory.heap).port s.memory.heap) refl
  where
    loose : is_port_at (request_of request s.memory.heap).port s.memory.heap ≡ false → IsLoose request s.memory.heap
    loose dead a =
        let heap = s.memory.heap in
        subst (λ q. IsAway request q) (sym (messages_are a heap))
        (cases_eq a (request_of request heap).port
        (λ same. subst (λ q. IsAway request q)
        (sym (no_messages (post_at heap a) (ap (λ k. is_a_port (post_at heap k)) same ∙ sym (port_is (request_of request heap).port heap) ∙ dead))) tt)
        (λ apart. tidy.order.stands request a
        (ap (may_be_in a) (request_there request heap there)
        ∙ and_false (not (is_under_way (request_of request heap))) (nat_eq a (request_of request heap).port)
        (nat_eq-other a (request_of request heap).port apart))))

    tested : (b : Bool) → is_port_at (request_of request s.memory.heap).port s.memory.heap ≡ b
        → is_port_at (request_of request s.memory.heap).port s.memory.heap ≡ true
    tested true e = e
    tested false e =
        true_is_not_false (sym queued ∙ unqueued request s.memory.heap (rising_sorted (extents s.memory.heap) tidy.formed.in_order) (loose e))

-- ---- a task looks for a request

pub replied_there : (test : Bool) (code : Alert) → (if test then None else Some code) ≡ None → test ≡ true
replied_there true code e = refl
replied_there false code e = none_some e

pub waits_works : (how : ReqState) (t : ℕ) (call : Call) (request : ℕ) (f : Schedule → Schedule) (s : State)
    → (request_of request s.memory.heap).state ≡ how → is_request_at request s.memory.heap ≡ true → state_alert how t request s.memory.heap ≡ None
    → Works t call s (looks_for how request t call (on_schedule f s))
unfolding waiting answered reply_taken
waits_works Replied t call request f s e there none =
    by_taking (request_of request s.memory.heap).port request refl refl refl refl
    (queued_lives request s there (replied_there (is_queued request s.memory.heap) _ none))
waits_works _ t call request f s e there none = by_moves (refl, stays) refl

looks_works : (how : ReqState) (t : ℕ) (call : Call) (request : ℕ) (s : State) (memory : Memory) → is_replied how ≡ false
    → memory.regions ≡ s.memory.regions → Asks s [] memory.heap memory.timer.waiting
    → Works t call s (looks_for how request t call (record s { memory = memory }))
unfolding waiting answered is_replied
looks_works Replied t call request s memory quiet regions asks = true_is_not_false quiet
looks_works _ t call request s memory quiet regions asks = by_asking regions asks

pub begins_works : (t : ℕ) (call : Call) (request : ℕ) (s : State) → MayBegin request s.memory.heap
    → Works t call s (begins_and_looks request t call s)
unfolding begun_at
begins_works t call request s may =
    let next = begun_at true request s.memory in
    let quiet = do_quiet request s may (outcome_at request s.memory) refl in
    looks_works (request_of request next.heap).state t call request s next quiet.none_replied refl
    (subst (λ found. Asks s (reply_marks found request) next.heap next.timer.waiting) quiet.answers_none
    (begin_asks true request s may (outcome_at request s.memory)))
