-- What the calls on requests by number show by address.
use Rattle.std.proofs.Common.{◌≡◌, ◌≢◌, ℕ, ◌<◌, ◌≤◌, List, [], ◌∷◌, ◌++◌, Bool, true, false, not, inl, inr, ◌⊎◌, map, length, refl, ap, sym, ◌∙◌, arith, ℤ, pos, neg_ℤ, Option, Some, None, is_some, nat_eq, if◌then◌else◌, filter, unwrap_or, option_map, IsSome, IsTrue, ◌&&◌, ◌==◌, eq-eqb, ne_eqb}
use Rattle.std.specs.List.{AllByRecursion}
use Rattle.std.proofs.lemmas.{Bool.cases_eq, List.map-append}
use Rattle.execlist.specs.{Order.chosen, Order.without_item, Lists.home, Lists.sequence, Pool.Pooled, Pool.slot}
use Rattle.execlist.proofs.Pools.{slot_known, slot_other}
use Rattle.memlist.specs.Memory.{IsWellFormed}
use Rattle.iorequest.specs.declared.request.Begun.TheVariants.{Finish, NewTime, Queue, Until}
use Rattle.iorequest.specs.Requests.{closed, is_request, is_unit, opened, request_at, unit_error, with_request, written_with}
use Rattle.iorequest.specs.declared.request.ReqState.TheVariants.{Idle, UnderWay, Quick, Replied}
use Rattle.iorequest.specs.{declared.request.Request.Request as TimerRequest, declared.request.Begun.Begun, Request.in_progress, Request.finished, Request.idle_request, Request.outcome, Request.reply_port, declared.request.ReqState.ReqState}
use Rattle.msgport.specs.{Port.arrival_action, Port.new_port, Ports.MessagePorts, Ports.appended, Ports.left_port, Ports.let_go, Ports.message_at, Ports.messages_of, Ports.new_message, Ports.nt_replymsg, Ports.port_at, Ports.taken_out, Ports.typed}
use Rattle.msgport.specs.Ports as ports
use Rattle.timerdev.specs.Timing.{AtClock, AtSystem, Due, Timer, Waiting, begins_to_wait, due_next, is_due, is_system, is_waiting, moment, next_of, sooner, system_set, until_next, waits_no_more}
use Rattle.timerdev.specs.Held.{on_timer}
use Rattle.execmodel.specs.{State.Message, State.MsgPort, State.Request, State.Heap, State.PublicPort, State.on_heap, Objects.replaced}
use Rattle.execmodel.specs.Ports as port_model
use Rattle.execmodel.specs.Requests as model
use Rattle.execheap.specs.Numbered.{Numbered, IsSoundHeap, address_in, message_of_request, message_places, object_of, places, shown_entry, shown_heap, shown_library, shown_memory, shown_public, shown_tagged, shown_timer, shown_waiting}
use Rattle.execheap.specs.Requesting.{acting_so, begun_as, begun_now, begun_so, begun_until, done_with, goes_on, on_requests, on_timing, port_number, put_at, reply_out}
use Rattle.execheap.specs.{declared.tag.Kind.Kind, declared.tag.Tagged.Tagged, Tags.is_same, Tags.tagged, Table.number_at, Table.place_of, Changes.on_ports, Listing.acting_begun, Listing.taken_by_state}
use Rattle.execheap.specs.declared.tag.Kind.TheVariants as variant
use Rattle.execheap.specs.declared.tag.Tagged.TheVariants as tag
use Rattle.execheap.specs.Table as table
use Rattle.execheap.specs.Requesting as numbers
use Rattle.execheap.proofs.{Entries.all_then, Entries.map_same, KeptRequests.request_live, KeptRequests.written_here, Beside.public_kept, Linked.some_is, Mapped.chosen-map, Mapped.without-map, Matching.number_live, Matching.number_placed, Matching.number_same, MessagePlaces.messages_apart, MessagePlaces.request_standing, Posted.appended_heap, Posted.item_known, Posted.objects_beside, Posted.same_at, Posted.with_port_shown, Posted.written_at, Public.each, Public.filter-map, Relisted.Tells, Relisted.item_set, Relisted.object_replaced, RequestAlerts.request_at_shown, RequestAlerts.request_shown, RequestCalls.set_twice, RequestCalls.waiting_under_way, Shown.messages_shown, Shown.port_at_shown, Shown.port_shown, Shown.tells, Stepping.shape_lives, Waits.waiting_members, Ticked.timing_beside}

-- ---- parts of the memory that is shown

pub memory_is : (u : Numbered) {heap : Heap} {public : List PublicPort} {timer : Timer} → shown_heap u ≡ heap → map (shown_public u) u.ports.public ≡ public
    → shown_timer u ≡ timer
    → shown_memory u ≡ record { regions = u.table.memory.regions; libraries = map shown_library u.table.libs.known; asks = u.table.libs.asks; pool = u.table.pool; tasks = u.tasks; heap = heap; public = public; timer = timer }
memory_is u heap public timer = λ i. record {
  regions = u.table.memory.regions;
  libraries = map shown_library u.table.libs.known;
  asks = u.table.libs.asks;
  pool = u.table.pool;
  tasks = u.tasks;
  heap = heap i;
  public = public i;
  timer = timer i;
}

-- ---- a request that is another

module _ (s : Numbered) (r request : ℕ) (found : number_at variant.Request request s.table ≡ Some r) (told : Tells s request variant.Request r)
    (lives : IsTrue (is_request r s.requests)) (q : TimerRequest) where
  either_request : (b : Bool) (other : TimerRequest) → Request (if b then q else other) ≡ (if b then Request q else Request other)
  either_request true other = refl
  either_request false other = refl

  request_set : (k : Kind) (m : ℕ) → object_of k m (on_requests (with_request r q) s) ≡ (if is_same k variant.Request && nat_eq m r then Request q else object_of k m s)
  request_set variant.Request m =
      ap Request (written_at s.requests.slots r q (idle_request 0) (item_known s.requests.slots r lives) m) ∙ either_request (nat_eq m r) (request_at m s.requests)
  request_set variant.Port m = refl
  request_set _ m = refl

  pub request_heap : shown_heap (on_requests (with_request r q) s) ≡ model.with_request request q (shown_heap s)
  unfolding model.with_request
  request_heap =
      object_replaced s (on_requests (with_request r q) s) request (Request q) variant.Request r request_set told refl
      ∙ sym (ap (λ b. if b then map (replaced request (Request q)) (shown_heap s) else shown_heap s) (request_at_shown s request ∙ ap is_some found))

-- ---- the message of a request is shown by nothing

module _ (s : Numbered) (sound : table.IsSoundTable s.table) (m : ℕ) (past : s.table.pool ≤ m) (q : MessagePorts) (ports : q.ports ≡ s.ports.ports)
    (queues : q.queues ≡ s.ports.queues) (messages : (n : ℕ) → n ≢ m → message_at n q ≡ message_at n s.ports) where
  unseen : (x : Tagged) (b : ℕ) → place_of x b s.table ≡ Some b → shown_tagged (record s { ports = q }) x ≡ shown_tagged s x
  unseen (tag.Object variant.Port n) b there =
      λ i. MsgPort (unwrap_or (slot (ports i).slots n) (new_port 0 0)) (map (address_in (message_places s)) (sequence (queues i) n))
  unseen (tag.Object variant.Message n) b there =
      ap Message (messages n (λ same. omega (arith, same, past, slot_known (places variant.Message s) n b there, sound.each variant.Message)))
  unseen _ b there = refl

  pub unseen_heap : shown_heap (record s { ports = q }) ≡ shown_heap s
  unfolding shown_heap
  unseen_heap = map_same (shown_entry (record s { ports = q })) (shown_entry s) s.table.memory.blocks
      (all_then (λ (entry : ℕ × (ℕ × ℕ)) told. ap (λ o. (entry.0, record { size = entry.1.0; object = o })) (unseen (tagged entry.1.1) entry.0 told.0))
      s.table.memory.blocks sound.matched.tagged)

-- ---- a reply is put, or taken

module _ {s : Numbered} (sound : IsSoundHeap s) (held : ports.IsSoundPorts s.ports) (formed : IsWellFormed s.table.memory.regions s.table.memory.blocks) (r request : ℕ)
    (here : slot (places variant.Request s) r ≡ Some request) where
  begins : number_at variant.Request request s.table ≡ Some r
  begins = number_live sound.table variant.Request r request here

  abbrev message : ℕ
  message = message_of_request r s

  stands_at : address_in (message_places s) message ≡ request
  stands_at = ap (λ o. unwrap_or o 0) (request_standing s sound.table r ∙ here)

  lives : IsTrue (is_request r s.requests)
  lives = sym (shape_lives (table.pool_of variant.Request s.table) s.requests (sound.kept.in_step variant.Request) r) ∙ ap is_some here

  holds : request_at r s.requests ≡ model.request_of request (shown_heap s)
  holds = sym (request_shown s request r begins)

  port_live : (p port : ℕ) → slot (places variant.Port s) p ≡ Some port → IsTrue (ports.is_port p s.ports)
  port_live p port at = sym (shape_lives (table.pool_of variant.Port s.table) s.ports.ports (sound.kept.in_step variant.Port) p) ∙ ap is_some at

  has_queue : (p port : ℕ) → slot (places variant.Port s) p ≡ Some port → p < length s.ports.queues
  has_queue p port at = omega (arith, held.each_queue, item_known s.ports.ports.slots p (port_live p port at))

  module _ (q : Pooled TimerRequest) where
    abbrev u : Numbered
    u = record s { requests = q }

    let_go_heap : shown_heap (on_ports (let_go message) u) ≡ shown_heap u
    let_go_heap = objects_beside u (let_go message u.ports) refl refl refl

    abbrev typed_u : Numbered
    typed_u = record u { ports = typed nt_replymsg message (let_go message u.ports) }

    typed_heap : shown_heap typed_u ≡ shown_heap u
    typed_heap = unseen_heap u sound.table message (omega arith) typed_u.ports refl refl (λ n other. ap (λ o. unwrap_or o (new_message 0 0))
        (slot_other s.ports.messages.slots message n (Some (record (message_at message s.ports) { kind = nt_replymsg })) other))

    put_port : (p port : ℕ) → slot (places variant.Port s) p ≡ Some port → shown_heap (on_ports (put_at (Some p) message) u) ≡ port_model.appended port request (shown_heap u)
    put_port p port at =
        appended_heap typed_u p port (number_live sound.table variant.Port p port at) (tells sound.table formed variant.Port p port at) (port_live p port at)
        (has_queue p port at) message request stands_at
        ∙ ap (port_model.appended port request) typed_heap

    put_heap : (o : Option ℕ) → shown_heap (on_ports (put_at (port_number o s.table) message) u) ≡ model.appended_at (model.where_port o (shown_heap u)) request (shown_heap u)
    put_heap None = let_go_heap
    put_heap (Some port) = by_number (number_at variant.Port port s.table) refl where
      by_number : (o : Option ℕ) → number_at variant.Port port s.table ≡ o → shown_heap (on_ports (put_at o message) u)
          ≡ model.appended_at (if port_model.is_port_at port (shown_heap u) then Some port else None) request (shown_heap u)
      by_number None none =
          let_go_heap
          ∙ sym (ap (λ b. model.appended_at (if b then Some port else None) request (shown_heap u)) (port_at_shown u port ∙ ap is_some none))
      by_number (Some p) found =
          put_port p port (number_placed sound.table variant.Port p port found)
          ∙ sym (ap (λ b. model.appended_at (if b then Some port else None) request (shown_heap u)) (port_at_shown u port ∙ ap is_some found))

    where_same : (o : Option ℕ) → model.where_port o (shown_heap u) ≡ model.where_port o (shown_heap s)
    where_same None = refl
    where_same (Some port) = ap (λ b. if b then Some port else None) (port_at_shown u port ∙ sym (port_at_shown s port))

  -- what is to be done for a reply
  acting_where : (o : Option ℕ) → numbers.acting_at (port_number o s.table) s.ports ≡ model.acting_at (model.where_port o (shown_heap s)) (shown_heap s)
  acting_where None = refl
  acting_where (Some port) = by_number (number_at variant.Port port s.table) refl where
    by_number : (o : Option ℕ) → number_at variant.Port port s.table ≡ o → numbers.acting_at o s.ports
        ≡ model.acting_at (if port_model.is_port_at port (shown_heap s) then Some port else None) (shown_heap s)
    by_number None none = sym (ap (λ b. model.acting_at (if b then Some port else None) (shown_heap s)) (port_at_shown s port ∙ ap is_some none))
    by_number (Some p) found =
        ap arrival_action (sym (port_shown s port p found))
        ∙ sym (ap (λ b. model.acting_at (if b then Some port else None) (shown_heap s)) (port_at_shown s port ∙ ap is_some found))

  pub acting_ended_shown : numbers.acting_ended r s ≡ model.acting_at (model.answering_port request (shown_heap s)) (shown_heap s)
  unfolding model.answering_port
  acting_ended_shown =
      acting_where (reply_port (request_at r s.requests))
      ∙ ap (λ q. model.acting_at (model.where_port (reply_port q) (shown_heap s)) (shown_heap s)) holds

  -- a request is done, and its reply is put
  pub done_heap : (error : ℤ) → shown_heap (done_with error (request_at r s.requests) r s) ≡ model.finished_at error request (shown_heap s)
  unfolding model.finished_at model.answering_port
  done_heap error =
      let q : TimerRequest = request_at r s.requests in
      let all : Pooled TimerRequest = with_request r (finished error q) s.requests in
      put_heap all (reply_port q)
      ∙ (λ i. model.appended_at (where_same all (reply_port q) i) request
      (request_heap s r request begins (tells sound.table formed variant.Request r request here) lives (finished error q) i))
      ∙ (λ i. model.appended_at (model.where_port (reply_port (holds i)) (shown_heap s)) request
      (model.with_request request (finished error (holds i)) (shown_heap s)))

  -- one that is begun and done at once
  module _ (b : TimerRequest) where
    abbrev after : Numbered
    after = on_requests (with_request r b) s

    after_heap : shown_heap after ≡ model.with_request request b (shown_heap s)
    after_heap = request_heap s r request begins (tells sound.table formed variant.Request r request here) lives b

    after_lives : IsTrue (is_request r after.requests)
    after_lives = ap is_some (written_here r b s.requests lives)

    after_holds : b ≡ model.request_of request (shown_heap after)
    after_holds = sym (request_shown after request r begins ∙ ap (λ o. unwrap_or o (idle_request 0)) (written_here r b s.requests lives))

    answers_after : model.where_port (reply_port b) (shown_heap s) ≡ model.answering_port request (model.with_request request b (shown_heap s))
    unfolding model.answering_port
    answers_after =
        sym (where_same after.requests (reply_port b)) ∙ ap (λ q. model.where_port (reply_port q) (shown_heap after)) after_holds
        ∙ ap (model.answering_port request) after_heap

    done_after : (error : ℤ) → shown_heap (done_with error b r s) ≡ model.finished_at error request (model.with_request request b (shown_heap s))
    unfolding model.finished_at
    done_after error =
        let all : Pooled TimerRequest = with_request r (finished error b) s.requests in
        put_heap all (reply_port b)
        ∙ (λ i. model.appended_at ((where_same all (reply_port b) ∙ answers_after ∙ ap (model.answering_port request) (sym after_heap)) i) request
        ((ap (λ slots. shown_heap (record s { requests = record { slots = slots; free = s.requests.free } })) (sym (set_twice s.requests.slots r (Some b) (Some (finished error b))))
        ∙ request_heap after r request begins (tells sound.table formed variant.Request r request here) after_lives (finished error b)) i))
        ∙ ap (λ q. model.appended_at (model.answering_port request (shown_heap after)) request (model.with_request request (finished error q) (shown_heap after))) after_holds
        ∙ ap (model.finished_at error request) after_heap

  -- the reply is taken out of the port that has it
  out_at : (p port : ℕ) → home s.ports.places message ≡ Some p → slot (places variant.Port s) p ≡ Some port → port ≡ (request_at r s.requests).port
      → shown_heap (on_ports (taken_out message) s) ≡ model.reply_taken request (shown_heap s)
  unfolding model.reply_taken
  out_at p port there at is =
      ap (λ o. shown_heap (on_ports (left_port message o) s)) there
      ∙ with_port_shown s (left_port message (Some p) s.ports) p port (port_at p s.ports) (without_item message (messages_of p s.ports)) refl
      (same_at (λ k. port_at k s.ports) p) (λ k. item_set s.ports.queues p (without_item message (messages_of p s.ports)) [] k (has_queue p port at))
      (tells sound.table formed variant.Port p port at)
      ∙ ap (λ queue. port_model.with_port port (port_at p s.ports) queue (shown_heap s)) left
      ∙ (λ i. port_model.with_port port (sym (port_shown s port p number) i) (without_item request (sym (messages_shown s port p number) i)) (shown_heap s))
      ∙ ap (λ a. port_model.with_port a (port_model.port_of a (shown_heap s)) (without_item request (port_model.messages_of a (shown_heap s))) (shown_heap s))
      (is ∙ ap (λ (q : TimerRequest). q.port) holds)
    where
      number : number_at variant.Port port s.table ≡ Some p
      number = number_live sound.table variant.Port p port at

      left : map (address_in (message_places s)) (without_item message (messages_of p s.ports)) ≡ without_item request (map (address_in (message_places s)) (messages_of p s.ports))
      left =
          sym (without-map (address_in (message_places s)) message (messages_of p s.ports)
          (messages_apart sound held p message request (request_standing s sound.table r ∙ here)))
          ∙ ap (λ a. without_item a (map (address_in (message_places s)) (messages_of p s.ports))) stands_at

  pub out_heap : IsSome (home s.ports.places message) → shown_heap (on_ports (taken_out message) s) ≡ model.reply_taken request (shown_heap s)
  out_heap queued =
      let p = some_is (home s.ports.places message) queued in
      out_at p.0 (request_at r s.requests).port p.1 (sound.kept.in_time.at_reply_port r p.0 p.1) refl

-- ---- the timer

-- what waits lives
pub waiting_placed : {s : Numbered} → IsSoundHeap s → (k : ℕ) → is_waiting k s.timing.timer ≡ true → (a : ℕ) × (slot (places variant.Request s) k ≡ Some a)
waiting_placed {s} sound k stands = some_is (slot (places variant.Request s) k) (request_live sound.kept k (waiting_under_way sound.kept k stands).0)

module _ {s : Numbered} (sound : IsSoundHeap s) (r request : ℕ) (here : slot (places variant.Request s) r ≡ Some request) where
  address_is : address_in (places variant.Request s) r ≡ request
  address_is = ap (λ o. unwrap_or o 0) here

  -- a request is distinguished from those that wait by its address as by its number
  pub waiting_apart : AllByRecursion (λ (w : Waiting). ((shown_waiting s w).request == request) ≡ (w.request == r)) s.timing.timer.waiting
  waiting_apart = waiting_members (λ (w : Waiting). ((shown_waiting s w).request == request) ≡ (w.request == r)) s.timing.timer.waiting
      (λ w stands. by_case w.request (cases_eq w.request r) (waiting_placed sound w.request stands))
    where
      by_case : (k : ℕ) → (k ≡ r) ⊎ (k ≡ r → ⊥) → (a : ℕ) × (slot (places variant.Request s) k ≡ Some a)
          → (address_in (places variant.Request s) k == request) ≡ (k == r)
      by_case k (inl same) placed =
          eq-eqb (address_in (places variant.Request s) k) request (ap (address_in (places variant.Request s)) same ∙ address_is) ∙ sym (eq-eqb k r same)
      by_case k (inr other) placed =
          ne_eqb (address_in (places variant.Request s) k) request (λ e. other (number_same sound.table variant.Request k r request
          (placed.1 ∙ ap Some (ap (λ o. unwrap_or o 0) (sym placed.1) ∙ e)) here))
          ∙ sym (ne_eqb k r other)

  told_waiting : AllByRecursion (λ (w : Waiting). not ((shown_waiting s w).request == request) ≡ not (w.request == r)) s.timing.timer.waiting
  told_waiting = all_then (λ (w : Waiting) same. ap not same) s.timing.timer.waiting waiting_apart

  -- a request waits no more
  no_more_shown : shown_timer (on_timing (waits_no_more r) s) ≡ waits_no_more request (shown_timer s)
  no_more_shown = ap (λ waiting. record s.timing.timer { waiting = waiting })
      (sym (filter-map (shown_waiting s) (λ (w : Waiting). not (w.request == request)) (λ (w : Waiting). not (w.request == r))
      s.timing.timer.waiting told_waiting))

  -- one begins to wait
  begins_shown : (due : Due) → shown_timer (on_timing (begins_to_wait r due) s) ≡ begins_to_wait request due (shown_timer s)
  begins_shown due = ap (λ waiting. record s.timing.timer { waiting = waiting })
      (map-append (shown_waiting s) s.timing.timer.waiting (record { request = r; due = due } ∷ [])
      ∙ (λ i. map (shown_waiting s) s.timing.timer.waiting ++ record { request = address_is i; due = due } ∷ []))

-- the request that finishes next of those that pass a test
module _ (s : Numbered) where
  moment_same : (due : Due) → moment (shown_timer s) due ≡ moment s.timing.timer due
  moment_same (AtClock time) = refl
  moment_same (AtSystem time) = refl

  come_same : (due : Due) → is_due (shown_timer s) due ≡ is_due s.timing.timer due
  come_same (AtClock time) = refl
  come_same (AtSystem time) = refl

  next_shown : (other passes : Waiting → Bool) → ((w : Waiting) → other (shown_waiting s w) ≡ passes w)
      → next_of other (shown_timer s) ≡ option_map (address_in (places variant.Request s)) (next_of passes s.timing.timer)
  unfolding next_of
  next_shown other passes same =
      ap (λ all. option_map (λ (w : Waiting). w.request) (chosen (sooner (shown_timer s)) all))
      (filter-map (shown_waiting s) other passes s.timing.timer.waiting
      (each (λ w. other (shown_waiting s w) ≡ passes w) same s.timing.timer.waiting))
      ∙ ap (option_map (λ (w : Waiting). w.request))
      (chosen-map (shown_waiting s) (sooner (shown_timer s)) (sooner s.timing.timer) (filter passes s.timing.timer.waiting)
      (λ w. ap neg_ℤ (moment_same w.due)))
      ∙ both (chosen (sooner s.timing.timer) (filter passes s.timing.timer.waiting))
    where
      both : (o : Option Waiting) → option_map (λ (w : Waiting). w.request) (option_map (shown_waiting s) o)
          ≡ option_map (address_in (places variant.Request s)) (option_map (λ (w : Waiting). w.request) o)
      both None = refl
      both (Some w) = refl

  pub due_shown : due_next (shown_timer s) ≡ option_map (address_in (places variant.Request s)) (due_next s.timing.timer)
  unfolding due_next
  due_shown =
      next_shown (λ (w : Waiting). is_due (shown_timer s) w.due) (λ (w : Waiting). is_due s.timing.timer w.due) (λ w. come_same w.due)

  pub until_shown : until_next (shown_timer s) ≡ option_map (address_in (places variant.Request s)) (until_next s.timing.timer)
  unfolding until_next
  until_shown = next_shown (λ (w : Waiting). is_system w.due && is_due (shown_timer s) w.due)
      (λ (w : Waiting). is_system w.due && is_due s.timing.timer w.due) (λ w. ap (λ b. is_system w.due && b) (come_same w.due))

-- ---- the memory that is shown

-- the public ports stay
keys_put : (o : Option ℕ) (m : ℕ) (q : MessagePorts) → (put_at o m q).keys ≡ q.keys
keys_put None m q = refl
keys_put (Some p) m q = refl

public_put : (o : Option ℕ) (m : ℕ) (q : MessagePorts) → (put_at o m q).public ≡ q.public
public_put None m q = refl
public_put (Some p) m q = refl

module _ {s : Numbered} (sound : IsSoundHeap s) (held : ports.IsSoundPorts s.ports) (formed : IsWellFormed s.table.memory.regions s.table.memory.blocks) (r request : ℕ)
    (here : slot (places variant.Request s) r ≡ Some request) where
  holds_here : request_at r s.requests ≡ model.request_of request (shown_heap s)
  holds_here = holds sound held formed r request here

  set_shown : (q : TimerRequest) → shown_memory (on_requests (with_request r q) s) ≡ on_heap (model.with_request request q) (shown_memory s)
  set_shown q = memory_is (on_requests (with_request r q) s) (after_heap sound held formed r request here q) refl refl

  pub opened_shown : (unit : Option ℕ) → shown_memory (on_requests (opened r unit) s) ≡ on_heap (model.opened_for unit request) (shown_memory s)
  unfolding model.opened_for
  opened_shown unit =
      set_shown (record (request_at r s.requests) { unit = if is_unit unit then unit else None; error = unit_error unit })
      ∙ (λ i. on_heap (model.with_request request (record (holds_here i) { unit = if is_unit unit then unit else None; error = unit_error unit })) (shown_memory s))

  pub closed_shown : shown_memory (on_requests (closed r) s) ≡ on_heap (model.closed_device request) (shown_memory s)
  unfolding model.closed_device
  closed_shown =
      set_shown (record (request_at r s.requests) { unit = None })
      ∙ (λ i. on_heap (model.with_request request (record (holds_here i) { unit = None })) (shown_memory s))

  pub command_shown : (command secs micros : ℕ)
      → shown_memory (on_requests (written_with command secs micros r) s) ≡ on_heap (model.with_command command secs micros request) (shown_memory s)
  unfolding model.with_command
  command_shown command secs micros =
      set_shown (record (request_at r s.requests) { command = command; secs = secs; micros = micros })
      ∙ (λ i. on_heap (model.with_request request (record (holds_here i) { command = command; secs = secs; micros = micros })) (shown_memory s))

  public_done : (error : ℤ) (q : TimerRequest) → map (shown_public (done_with error q r s)) (done_with error q r s).ports.public ≡ map (shown_public s) s.ports.public
  public_done error q = public_kept s (done_with error q r s) refl
      (keys_put (numbers.answering q s) (message_of_request r s) s.ports) (public_put (numbers.answering q s) (message_of_request r s) s.ports)

  -- a request that waited is done
  pub ended_shown : (error : ℤ) → shown_memory (numbers.ended error r s) ≡ model.ended error request (shown_memory s)
  unfolding model.ended
  ended_shown error =
      let done : Numbered = done_with error (request_at r s.requests) r s in
      memory_is (numbers.ended error r s)
      (timing_beside done (on_timer (waits_no_more r) s.timing) ∙ done_heap sound held formed r request here error)
      (public_done error (request_at r s.requests))
      (no_more_shown sound r request here)

  -- the reply of one that is replied is taken
  pub taken_shown : (state : ReqState) → (request_at r s.requests).state ≡ state → (state ≡ Replied → IsSome (home s.ports.places (message_of_request r s)))
      → shown_memory (reply_out state r s) ≡ on_heap (taken_by_state state request) (shown_memory s)
  taken_shown Idle is queued = refl
  taken_shown UnderWay is queued = refl
  taken_shown Quick is queued = refl
  taken_shown Replied is queued = memory_is (on_ports (taken_out (message_of_request r s)) s) (out_heap sound held formed r request here (queued refl))
      (public_kept s (on_ports (taken_out (message_of_request r s)) s) refl
      (keys_out (home s.ports.places (message_of_request r s))) (public_out (home s.ports.places (message_of_request r s)))) refl
    where
      keys_out : (o : Option ℕ) → (left_port (message_of_request r s) o s.ports).keys ≡ s.ports.keys
      keys_out None = refl
      keys_out (Some p) = refl

      public_out : (o : Option ℕ) → (left_port (message_of_request r s) o s.ports).public ≡ s.ports.public
      public_out None = refl
      public_out (Some p) = refl

  -- ---- a request that is begun

  module _ (quick : Bool) where
    -- it is in progress and waits
    waits_shown : (due : Due) → shown_memory (begun_until due quick r s) ≡ record (shown_memory s) {
      heap = model.under_way quick s.timing.timer.system request (shown_heap s);
      timer = begins_to_wait request due (shown_timer s);
    }
    waits_shown due = memory_is (begun_until due quick r s)
        (timing_beside (record (on_requests (with_request r (begun_as quick r s)) s) { ports = ports.held (message_of_request r s) s.ports })
        (on_timer (begins_to_wait r due) s.timing)
        ∙ objects_beside (on_requests (with_request r (begun_as quick r s)) s) (ports.held (message_of_request r s) s.ports) refl refl refl
        ∙ after_heap sound held formed r request here (begun_as quick r s)
        ∙ ap (λ x. model.with_request request (in_progress quick s.timing.timer.system x) (shown_heap s)) holds_here) refl
        (begins_shown sound r request here due)

    -- it is done at once
    done_begun : (error : ℤ) → shown_heap (done_with error (begun_as quick r s) r s)
        ≡ model.finished_at error request (model.under_way quick s.timing.timer.system request (shown_heap s))
    done_begun error =
        done_after sound held formed r request here (begun_as quick r s) error
        ∙ ap (λ x. model.finished_at error request (model.with_request request (in_progress quick s.timing.timer.system x) (shown_heap s))) holds_here

    by_outcome : (b : Begun) → shown_memory (begun_so b quick r s) ≡ record (shown_memory s) {
      heap = model.heap_begun b quick s.timing.timer.system request (shown_heap s);
      timer = model.timer_begun b request (shown_timer s);
    }
    by_outcome (Queue due) = waits_shown (AtClock due)
    by_outcome (Until time) = waits_shown (AtSystem time)
    by_outcome (Finish error) =
        memory_is (done_with error (begun_as quick r s) r s) (done_begun error) (public_done error (begun_as quick r s)) refl
    by_outcome (NewTime time) =
        let done : Numbered = done_with (pos 0) (begun_as quick r s) r s in
        memory_is (on_timing (system_set time) done) (timing_beside done (on_timer (system_set time) s.timing) ∙ done_begun (pos 0))
        (public_done (pos 0) (begun_as quick r s)) refl

    pub begun_shown : shown_memory (begun_now quick r s) ≡ model.begun_at quick request (shown_memory s)
    unfolding model.begun_at
    begun_shown =
        by_outcome (goes_on r s)
        ∙ ap (λ x. record (shown_memory s) {
          heap = model.heap_begun (outcome s.timing.timer.clock s.timing.timer.system x) quick s.timing.timer.system request (shown_heap s);
          timer = model.timer_begun (outcome s.timing.timer.clock s.timing.timer.system x) request (shown_timer s);
        }) holds_here

    -- what is to be done for the reply of one that is done at once
    acting_once : numbers.acting_at (numbers.answering (begun_as quick r s) s) s.ports
        ≡ model.acting_at (model.answering_port request (model.under_way quick s.timing.timer.system request (shown_heap s))) (shown_heap s)
    acting_once =
        acting_where sound held formed r request here (reply_port (begun_as quick r s))
        ∙ ap (λ o. model.acting_at o (shown_heap s)) (answers_after sound held formed r request here (begun_as quick r s))
        ∙ ap (λ x. model.acting_at
        (model.answering_port request (model.with_request request (in_progress quick s.timing.timer.system x) (shown_heap s))) (shown_heap s)) holds_here

    acting_outcome : (b : Begun)
        → acting_so b quick r s ≡ model.acting_at (model.answering_begun b quick s.timing.timer.system request (shown_heap s)) (shown_heap s)
    acting_outcome (Queue due) = refl
    acting_outcome (Until time) = refl
    acting_outcome (Finish error) = acting_once
    acting_outcome (NewTime time) = acting_once

    pub acting_begun_shown : acting_so (goes_on r s) quick r s ≡ acting_begun quick request (shown_memory s)
    unfolding acting_begun model.replying_port
    acting_begun_shown =
        acting_outcome (goes_on r s)
        ∙ ap (λ x. model.acting_at
        (model.answering_begun (outcome s.timing.timer.clock s.timing.timer.system x) quick s.timing.timer.system request (shown_heap s))
        (shown_heap s)) holds_here
