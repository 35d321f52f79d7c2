-- What the calls on requests answer by number and by address.
use Rattle.std.proofs.Common.{◌≡◌, ℕ, Bool, true, false, refl, ap, sym, ◌∙◌, ℤ, pos, negsuc, Option, Some, None, is_some, if◌then◌else◌, unwrap_or, option_map, IsSome, IsTrue}
use Rattle.execlist.specs.{Lists.home, Pool.Pooled, Pool.slot}
use Rattle.memlist.specs.{Blocks.block_at, Memory.IsWellFormed}
use Rattle.iorequest.specs.declared.request.Begun.TheVariants.{Finish, NewTime, Queue, Until}
use Rattle.iorequest.specs.declared.request.ReqState.TheVariants.{Idle, UnderWay, Quick, Replied}
use Rattle.iorequest.specs.{declared.request.Begun.Begun, declared.request.Request.Request as TimerRequest, declared.request.ReqState.ReqState, Request.done_state, Request.finished, Request.idle_request, Request.is_under_way, Request.is_way, Requests.is_request, Requests.request_at}
use Rattle.msgport.specs.{declared.action.Action.Action, Port.Port, Port.new_port}
use Rattle.msgport.specs.Ports as ports
use Rattle.timerdev.specs.{Held.Held, Held.on_timer, Timing.AtClock, Timing.AtSystem, Timing.Due, Timing.Timer, Timing.due_next, Timing.is_waiting, Timing.system_set, Timing.until_next}
use Rattle.execmodel.specs.{State.Heap, State.on_heap, Ports.port_in, Ports.port_of, Ports.port_of_object, Requests.request_of}
use Rattle.execmodel.specs.Requests as model
use Rattle.execheap.specs.declared.awaited.Awaited.TheVariants as awaited
use Rattle.execheap.specs.declared.tag.Kind.TheVariants as variant
use Rattle.execheap.specs.Numbered.{Numbered, IsSoundHeap, address_in, message_of_request, places, shown_heap, shown_memory, shown_tagged, shown_timer}
use Rattle.execheap.specs.Requesting.{begun_as, begun_now, begun_so, begun_until, done_with, goes_on, reply_out}
use Rattle.execheap.specs.{declared.tag.Tagged.Tagged, Tags.tagged, Table.Tabled, Table.number_at, Listing.aborted, Listing.aborting, Listing.acting_finished, Listing.awaited_for, Listing.ended_if, Listing.finishing, Listing.taken_by_state, Listing.taken_if_replied}
use Rattle.execheap.specs.declared.tag.Tagged.TheVariants as tag
use Rattle.execheap.specs.Requesting as numbers
use Rattle.execheap.proofs.RequestsShown.{acting_ended_shown, due_shown, ended_shown, taken_shown, until_shown}
use Rattle.execheap.proofs.{Entries.some_same, KeptRequests.begun_port, KeptRequests.request_live, KeptRequests.written_here, Linked.some_is, Matching.number_live, RequestAlerts.request_shown, RequestCalls.due_waits, RequestCalls.until_waits, RequestCalls.waiting_under_way, Showing.object_at_shown}

-- ---- what a task gets that looks for a request

looked : (b : Bool) (bit other : ℕ) (error : ℤ) → (IsTrue b → bit ≡ other)
    → (if b then awaited.UnderWay bit else awaited.Done error) ≡ (if b then awaited.UnderWay other else awaited.Done error)
looked true bit other error same = ap awaited.UnderWay (same refl)
looked false bit other error same = refl

pub looked_shown : (q : TimerRequest) (bit request : ℕ) (heap : Heap) → q ≡ request_of request heap
    → (IsTrue (is_under_way q) → bit ≡ (port_of (request_of request heap).port heap).bit) → numbers.looked_for q bit ≡ awaited_for request heap
unfolding awaited_for
looked_shown q bit request heap is same =
    looked (is_under_way q) bit (port_of (request_of request heap).port heap).bit q.error same
    ∙ ap (λ (x : TimerRequest). if is_under_way x then awaited.UnderWay (port_of (request_of request heap).port heap).bit else awaited.Done x.error) is

-- a reply that is taken leaves the requests
pub requests_out : (state : ReqState) (r : ℕ) (s : Numbered) → (reply_out state r s).requests ≡ s.requests
requests_out Idle r s = refl
requests_out UnderWay r s = refl
requests_out Quick r s = refl
requests_out Replied r s = refl

-- a port shows the same if the ports are the same
port_beside : (s u : Numbered) → u.table ≡ s.table → u.ports.ports ≡ s.ports.ports → (a : ℕ) → port_of a (shown_heap u) ≡ port_of a (shown_heap s)
unfolding port_of
port_beside s u table same a =
    ap port_of_object (object_at_shown u a)
    ∙ ap (λ (t : Tabled). port_of_object (option_map (λ (block : ℕ × ℕ). shown_tagged u (tagged block.1)) (block_at a t.memory.blocks))) table
    ∙ by_block (block_at a s.table.memory.blocks) ∙ sym (ap port_of_object (object_at_shown s a))
  where
    by_tag : (x : Tagged) → port_in (shown_tagged u x) ≡ port_in (shown_tagged s x)
    by_tag (tag.Object variant.Port p) = ap (λ (all : Pooled Port). unwrap_or (slot all.slots p) (new_port 0 0)) same
    by_tag _ = refl

    by_block : (found : Option (ℕ × ℕ)) → port_of_object (option_map (λ (block : ℕ × ℕ). shown_tagged u (tagged block.1)) found)
        ≡ port_of_object (option_map (λ (block : ℕ × ℕ). shown_tagged s (tagged block.1)) found)
    by_block None = refl
    by_block (Some block) = by_tag (tagged block.1)

-- a request that is begun lives on
pub begun_lives : (s : Numbered) (r : ℕ) (quick : Bool) → IsTrue (is_request r s.requests) → IsTrue (is_request r (begun_now quick r s).requests)
begun_lives s r quick lives = by_outcome (goes_on r s) where
  by_outcome : (b : Begun) → IsTrue (is_request r (begun_so b quick r s).requests)
  by_outcome (Queue due) = ap is_some (written_here r (begun_as quick r s) s.requests lives)
  by_outcome (Until time) = ap is_some (written_here r (begun_as quick r s) s.requests lives)
  by_outcome (Finish error) = ap is_some (written_here r (finished error (begun_as quick r s)) s.requests lives)
  by_outcome (NewTime time) = ap is_some (written_here r (finished (pos 0) (begun_as quick r s)) s.requests lives)

module _ {s : Numbered} (sound : IsSoundHeap s) (held : ports.IsSoundPorts s.ports) (formed : IsWellFormed s.table.memory.regions s.table.memory.blocks) (r request : ℕ)
    (here : slot (places variant.Request s) r ≡ Some request) where
  begins : number_at variant.Request request s.table ≡ Some r
  begins = number_live sound.table variant.Request r request here

  holds : request_at r s.requests ≡ request_of request (shown_heap s)
  holds = sym (request_shown s request r begins)

  -- ---- waiting

  pub taken_if_shown : ((request_at r s.requests).state ≡ Replied → IsSome (home s.ports.places (message_of_request r s)))
      → shown_memory (reply_out (request_at r s.requests).state r s) ≡ on_heap (taken_if_replied request) (shown_memory s)
  unfolding taken_if_replied
  taken_if_shown queued =
      taken_shown sound held formed r request here (request_at r s.requests).state refl queued
      ∙ ap (λ (q : TimerRequest). on_heap (taken_by_state q.state request) (shown_memory s)) holds

  -- ---- aborting

  pub aborted_way : is_under_way (request_at r s.requests) ≡ true → shown_memory (numbers.ended (negsuc 1) r s) ≡ aborted request (shown_memory s)
  unfolding aborted
  aborted_way way =
      ended_shown sound held formed r request here (negsuc 1)
      ∙ sym (ap (λ b. if b then model.ended (negsuc 1) request (shown_memory s) else shown_memory s) (ap is_under_way (sym holds) ∙ way))

  pub aborted_rest : is_under_way (request_at r s.requests) ≡ false → shown_memory s ≡ aborted request (shown_memory s)
  unfolding aborted
  aborted_rest rests = sym (ap (λ b. if b then model.ended (negsuc 1) request (shown_memory s) else shown_memory s) (ap is_under_way (sym holds) ∙ rests))

  acting_done : numbers.acting_ended r s ≡ acting_finished request (shown_heap s)
  unfolding acting_finished
  acting_done = acting_ended_shown sound held formed r request here

  pub aborting_way : is_under_way (request_at r s.requests) ≡ true → Some (numbers.acting_ended r s) ≡ aborting request (shown_heap s)
  unfolding aborting
  aborting_way way =
      ap Some acting_done
      ∙ sym (ap (λ b. if b then Some (acting_finished request (shown_heap s)) else None) (ap is_under_way (sym holds) ∙ way))

  pub aborting_rest : is_under_way (request_at r s.requests) ≡ false → None ≡ aborting request (shown_heap s)
  unfolding aborting
  aborting_rest rests = sym (ap (λ b. if b then Some (acting_finished request (shown_heap s)) else None) (ap is_under_way (sym holds) ∙ rests))

  -- ---- beginning

  module _ (lives : IsTrue (is_request r s.requests)) (quick : Bool) (bit : ℕ) (is : bit ≡ (port_of (request_of request (shown_heap s)).port (shown_heap s)).bit) where
    way_done : (b : Bool) → is_way (done_state b) ≡ false
    way_done true = refl
    way_done false = refl

    -- one that waits is in progress
    looked_until : (due : Due)
        → numbers.looked_for (request_at r (begun_until due quick r s).requests) bit ≡ awaited_for request (shown_heap (begun_until due quick r s))
    looked_until due =
        let u : Numbered = begun_until due quick r s in
        let now : request_of request (shown_heap u) ≡ request_at r u.requests = request_shown u request r begins in
        let same : (request_of request (shown_heap s)).port ≡ (request_of request (shown_heap u)).port =
        ap (λ (q : TimerRequest). q.port) (sym holds) ∙ sym (begun_port quick s.timing.timer.system (request_at r s.requests))
        ∙ sym (ap (λ o. (unwrap_or o (idle_request 0)).port) (written_here r (begun_as quick r s) s.requests lives))
        ∙ ap (λ (q : TimerRequest). q.port) (sym now) in
        looked_shown (request_at r u.requests) bit request (shown_heap u) (sym now)
        (λ way. is ∙ ap (λ a. (port_of a (shown_heap s)).bit) same
        ∙ ap (λ (p : Port). p.bit) (sym (port_beside s u refl refl (request_of request (shown_heap u)).port)))

    -- one that is done at once is not, whatever the times are then
    looked_done : (error : ℤ) (t : Held) → numbers.looked_for (request_at r (done_with error (begun_as quick r s) r s).requests) bit
        ≡ awaited_for request (shown_heap (record (done_with error (begun_as quick r s) r s) { timing = t }))
    looked_done error t =
        let u : Numbered = record (done_with error (begun_as quick r s) r s) { timing = t } in
        let over : is_under_way (request_at r u.requests) ≡ false =
        ap (λ o. is_under_way (unwrap_or o (idle_request 0))) (written_here r (finished error (begun_as quick r s)) s.requests lives)
        ∙ way_done (begun_as quick r s).quick in
        looked_shown (request_at r u.requests) bit request (shown_heap u) (sym (request_shown u request r begins))
        (λ way. let bad : true ≡ false = sym way ∙ over in cc)

    begun_looked : (b : Begun) → numbers.looked_for (request_at r (begun_so b quick r s).requests) bit ≡ awaited_for request (shown_heap (begun_so b quick r s))
    begun_looked (Queue due) = looked_until (AtClock due)
    begun_looked (Until time) = looked_until (AtSystem time)
    begun_looked (Finish error) = looked_done error s.timing
    begun_looked (NewTime time) = looked_done (pos 0) (on_timer (system_set time) s.timing)

    pub begun_awaited : numbers.looked_for (request_at r (begun_now quick r s).requests) bit ≡ awaited_for request (shown_heap (begun_now quick r s))
    begun_awaited = begun_looked (goes_on r s)

-- ---- what finishes next

-- a request, and what is to be done for its reply when it is done
abbrev pub answered : Numbered → ℕ → ℕ × Action
answered s r = (r, numbers.acting_ended r s)

-- one that finishes next by number waits, and it is shown that it finishes next by address
pub record IsNext (s : Numbered) (next : Timer → Option ℕ) : Type 0 where
  pub waits : (r : ℕ) → next s.timing.timer ≡ Some r → is_waiting r s.timing.timer ≡ true
  pub shown : next (shown_timer s) ≡ option_map (address_in (places variant.Request s)) (next s.timing.timer)

pub due_is_next : (s : Numbered) → IsNext s due_next
due_is_next s = record { waits = due_waits s.timing.timer; shown = due_shown s }

pub until_is_next : (s : Numbered) → IsNext s until_next
until_is_next s = record { waits = until_waits s.timing.timer; shown = until_shown s }

module _ {s : Numbered} (sound : IsSoundHeap s) (held : ports.IsSoundPorts s.ports) (formed : IsWellFormed s.table.memory.regions s.table.memory.blocks)
    (next : Timer → Option ℕ) (is_next : IsNext s next) where
  next_placed : (r : ℕ) → next s.timing.timer ≡ Some r → (a : ℕ) × (slot (places variant.Request s) r ≡ Some a)
  next_placed r is = some_is (slot (places variant.Request s) r) (request_live sound.kept r (waiting_under_way sound.kept r (is_next.waits r is)).0)

  next_is : (o : Option ℕ) → next s.timing.timer ≡ o → next (shown_timer s) ≡ option_map (address_in (places variant.Request s)) o
  next_is o is = is_next.shown ∙ ap (option_map (address_in (places variant.Request s))) is

  ended_by : (o : Option ℕ) → next s.timing.timer ≡ o
      → shown_memory (numbers.ended_if o s) ≡ ended_if (option_map (address_in (places variant.Request s)) o) (shown_memory s)
  ended_by None is = refl
  ended_by (Some r) is =
      let a = next_placed r is in
      ended_shown sound held formed r a.0 a.1 (pos 0)
      ∙ ap (λ o. model.ended (pos 0) (unwrap_or o 0) (shown_memory s)) (sym a.1)

  pub next_ended_shown : shown_memory (numbers.ended_if (next s.timing.timer) s) ≡ ended_if (next (shown_timer s)) (shown_memory s)
  next_ended_shown =
      ended_by (next s.timing.timer) refl ∙ ap (λ o. ended_if o (shown_memory s)) (sym (next_is (next s.timing.timer) refl))

  -- what is answered for it
  pub finishing_none : ◌≡◌ {A = Option (ℕ × Action)} None (option_map (answered s) (next s.timing.timer))
      → ◌≡◌ {A = Option (ℕ × Action)} None (finishing (shown_heap s) (next (shown_timer s)))
  finishing_none none = by_next (next s.timing.timer) refl none where
    by_next : (o : Option ℕ) → next s.timing.timer ≡ o → ◌≡◌ {A = Option (ℕ × Action)} None (option_map (answered s) o)
        → ◌≡◌ {A = Option (ℕ × Action)} None (finishing (shown_heap s) (next (shown_timer s)))
    by_next None is e = sym (ap (finishing (shown_heap s)) (next_is None is))
    by_next (Some r) is e = let bad : false ≡ true = ap is_some e in cc

  pub finishing_some : (r a : ℕ) (action : Action) → ◌≡◌ {A = Option (ℕ × Action)} (Some (r, action)) (option_map (answered s) (next s.timing.timer))
      → slot (places variant.Request s) r ≡ Some a
      → ◌≡◌ {A = Option (ℕ × Action)} (Some (a, action)) (finishing (shown_heap s) (next (shown_timer s)))
  finishing_some r a action answer at = by_next (next s.timing.timer) refl answer where
    by_next : (o : Option ℕ) → next s.timing.timer ≡ o → ◌≡◌ {A = Option (ℕ × Action)} (Some (r, action)) (option_map (answered s) o)
        → ◌≡◌ {A = Option (ℕ × Action)} (Some (a, action)) (finishing (shown_heap s) (next (shown_timer s)))
    by_next None is e = let bad : true ≡ false = ap is_some e in cc
    by_next (Some k) is e =
        let pair : ◌≡◌ {A = ℕ × Action} (r, action) (k, numbers.acting_ended k s) = some_same e in
        let number : r ≡ k = ap (λ (x : ℕ × Action). x.0) pair in
        let at_k : slot (places variant.Request s) k ≡ Some a = ap (slot (places variant.Request s)) (sym number) ∙ at in
        let done : action ≡ acting_finished a (shown_heap s) =
        ap (λ (x : ℕ × Action). x.1) pair ∙ acting_done sound held formed k a at_k in
        ap (λ x. Some (a, x)) done
        ∙ sym (ap (finishing (shown_heap s)) (next_is (Some k) is ∙ ap (λ o. Some (unwrap_or o 0)) at_k))

-- the objects keep their addresses
pub table_ended : (o : Option ℕ) (s : Numbered) → (numbers.ended_if o s).table ≡ s.table
table_ended None s = refl
table_ended (Some r) s = refl
