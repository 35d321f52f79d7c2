-- Requests made and freed.
use Rattle.std.proofs.Common.{◌≡◌, ◌≢◌, ℕ, true, false, inl, inr, ◌⊎◌, map, refl, ap, sym, ◌∙◌, arith, Some, None, Option, is_some, unwrap_or, slice_set, IsSome}
use Rattle.std.proofs.lemmas.Bool.{cases_eq}
use Rattle.execlist.specs.{Lists.home, Lists.sequence, Pool.Pooled, Pool.next_number, Pool.slot}
use Rattle.execlist.proofs.Pools.{slot_other, slot_same}
use Rattle.iorequest.specs.{declared.request.Request.Request as TimerRequest, Request.idle_request, Request.is_under_way, Requests.is_request, Requests.request_at, Requests.request_freed, Requests.request_made}
use Rattle.msgport.specs.Ports as ports
use Rattle.msgport.specs.Ports.{port_at}
use Rattle.timerdev.specs.Timing.{is_waiting}
use Rattle.execmodel.specs.{State.ListHead, State.MsgPort, State.Request, Memory.freed, Memory.placed}
use Rattle.execheap.specs.Numbered.{Numbered, IsKept, address_in, is_way_at, message_of_request, object_of, own_shape, places, shape, shown_memory}
use Rattle.execheap.specs.{declared.tag.Kind.Kind, Tags.kind_code, Table.Tabled}
use Rattle.execheap.specs.declared.tag.Kind.TheVariants as variant
use Rattle.execheap.proofs.Made.{IsMade, IsFreed, not_new, apart, beside, kept_new, shown_new, own_next, own_known, own_vacant, own_slots, own_given, apart_left, beside_left, kept_left, shown_left, own_there, own_released}
use Rattle.execheap.proofs.{Beside.public_kept, Beside.timer_beside, Front.front, InTime.IsAlong, KeptRequests.not_way, KeptRequests.request_live, KeptRequests.way_of, MessagePlaces.request_standing, MessagePlaces.standing_new, MessagePlaces.standing_left, RequestCalls.both_hold}

module _ {s : Numbered} (kept : IsKept s) where
  -- one that waits lives, and is in progress
  waiting_way : (r : ℕ) → is_waiting r s.timing.timer ≡ true → is_way_at r s.requests ≡ true
  waiting_way r there = sym (kept.in_time.waits r) ∙ there

  waiting_lives : (r : ℕ) → is_waiting r s.timing.timer ≡ true → IsSome (slot (places variant.Request s) r)
  waiting_lives r there = request_live kept r (both_hold (is_request r s.requests) (is_under_way (request_at r s.requests)) (waiting_way r there)).0

abbrev changed : Numbered → Tabled → Pooled TimerRequest → Numbered
changed s t q = record s { table = t; requests = q }

-- only requests have numbers of their own that change
same : (s : Numbered) (t : Tabled) (q : Pooled TimerRequest) → t.pool ≡ s.table.pool → (k : Kind) → kind_code k ≢ kind_code variant.Request → own_shape k (changed s t q) ≡ own_shape k s
same s t q pool variant.Request ne = absurd (ne refl)
same s t q pool variant.Message ne = ap (λ m. Some (shape (front m s.ports.messages))) pool
same s t q pool _ ne = refl

-- the other requests stay, and what is in progress if what was at that number is not, and is not then
along : (s : Numbered) (n : ℕ) (t : Tabled) (q : Pooled TimerRequest) (o : Option TimerRequest) → slot q.slots n ≡ o → way_of o ≡ false → is_way_at n s.requests ≡ false → ((r : ℕ) → r ≢ n → slot q.slots r ≡ slot s.requests.slots r)
    → ((r p : ℕ) → home s.ports.places (message_of_request r s) ≡ Some p → r ≢ n) → IsAlong s (changed s t q)
along s n t q o now idle was others queued = record {
  timing = refl;
  holding = refl;
  way = λ r. way r (cases_eq r n);
  reply = λ r p there. ap (λ o. (unwrap_or o (idle_request 0)).port) (others r (queued r p there));
  each_message = refl;
  made = λ r small lives. lives;
  queued = λ r p there. there;
} where
  way : (r : ℕ) → (r ≡ n) ⊎ (r ≡ n → ⊥) → is_way_at r q ≡ is_way_at r s.requests
  way r (inl e) = ap (λ k. is_way_at k q) e ∙ ap way_of now ∙ idle ∙ sym (ap (λ k. is_way_at k s.requests) e ∙ was)
  way r (inr other) = ap way_of (others r other)

module _ {s : Numbered} {n a : ℕ} {t : Tabled} (q : Pooled TimerRequest) where
  module _ (port : ℕ) (made : IsMade variant.Request s n a t) where
    -- the requests give the number that the table gives
    pub request_next : next_number s.requests ≡ Some n
    request_next = own_next made s.requests (made.kept.in_step variant.Request)

    module _ (is : q ≡ request_made port s.requests) where
      slots : q.slots ≡ slice_set s.requests.slots n (Some (idle_request port))
      slots = ap (λ (r : Pooled TimerRequest). r.slots) is ∙ own_slots made s.requests (made.kept.in_step variant.Request) (idle_request port)

      here : slot q.slots n ≡ Some (idle_request port)
      here = ap (λ xs. slot xs n) slots
          ∙ slot_same s.requests.slots n (Some (idle_request port)) (own_known made s.requests (made.kept.in_step variant.Request))

      others : (r : ℕ) → r ≢ n → slot q.slots r ≡ slot s.requests.slots r
      others r other = ap (λ xs. slot xs r) slots ∙ slot_other s.requests.slots n r (Some (idle_request port)) other

      pub request_made_kept : IsKept (changed s t q)
      request_made_kept = kept_new made (changed s t q) refl refl refl (same s t q (ap (λ u. u.pool) made.is))
          (ap shape is ∙ own_given made s.requests (made.kept.in_step variant.Request) (idle_request port)) made.kept.apt
          (along s n t q (Some (idle_request port)) here refl (ap way_of (own_vacant made s.requests (made.kept.in_step variant.Request))) others
          (λ r p there. not_new made r (made.kept.in_time.live r p there)))

      pub request_made_shown : ports.IsSoundPorts s.ports → shown_memory (changed s t q) ≡ placed 40 (Request (idle_request port)) (Some a) (shown_memory s)
      request_made_shown held = shown_new made (changed s t q) (Request (idle_request port)) refl refl objects
          (ap (λ o. Request (unwrap_or o (idle_request 0))) here)
          (public_kept s (changed s t q) (apart made variant.Port (omega arith)) refl refl)
          (timer_beside s (changed s t q) refl (λ r there. beside made variant.Request r (λ e. not_new made r (waiting_lives made.kept r there))))
        where
          objects : (k : Kind) (m b : ℕ) → slot (places k s) m ≡ Some b → object_of k m (changed s t q) ≡ object_of k m s
          objects variant.Request m b lives = ap (λ o. Request (unwrap_or o (idle_request 0))) (others m (not_new made m (ap is_some lives)))
          objects variant.List m b lives = ap (λ all. ListHead (map (address_in all) (sequence s.sequences m))) (apart made variant.Node (omega arith))
          objects variant.Port m b lives = ap (MsgPort (port_at m s.ports)) (standing_new made held m)
          objects _ m b lives = refl

  module _ (gone : IsFreed variant.Request s n a t) (rests : is_under_way (request_at n s.requests) ≡ false)
      (loose : home s.ports.places (message_of_request n s) ≡ None) (is : q ≡ request_freed n s.requests) where
    stays : (r : ℕ) → r ≢ n → slot q.slots r ≡ slot s.requests.slots r
    stays r other = ap (λ (x : Pooled TimerRequest). slot x.slots r) is ∙ slot_other s.requests.slots n r None other

    -- one whose reply is in a port, or that waits, is another
    not_queued : (r p : ℕ) → home s.ports.places (message_of_request r s) ≡ Some p → r ≢ n
    not_queued r p there e =
        let bad : true ≡ false = sym (ap is_some there) ∙ ap (λ k. is_some (home s.ports.places (message_of_request k s))) e ∙ ap is_some loose in cc

    not_waiting : (r : ℕ) → is_waiting r s.timing.timer ≡ true → r ≢ n
    not_waiting r there e =
        let bad : true ≡ false = sym (waiting_way gone.kept r there) ∙ ap (λ k. is_way_at k s.requests) e ∙ not_way n s.requests rests in cc

    pub request_freed_kept : IsKept (changed s t q)
    request_freed_kept = kept_left gone (changed s t q) refl refl refl (same s t q (ap (λ u. u.pool) gone.is))
        (ap shape is ∙ own_released gone s.requests (gone.kept.in_step variant.Request)) not_queued gone.kept.apt
        (along s n t q None (ap (λ (r : Pooled TimerRequest). slot r.slots n) is
        ∙ slot_same s.requests.slots n None (own_there gone s.requests (gone.kept.in_step variant.Request))) refl (not_way n s.requests rests) stays not_queued)

    pub request_freed_shown : ports.IsSoundPorts s.ports → shown_memory (changed s t q) ≡ freed a (shown_memory s)
    request_freed_shown held = shown_left gone (changed s t q) refl refl objects
        (public_kept s (changed s t q) (apart_left gone variant.Port (omega arith)) refl refl)
        (timer_beside s (changed s t q) refl (λ r there. beside_left gone variant.Request r (λ e. not_waiting r there)))
      where
        objects : (k : Kind) (m b : ℕ) → (k ≡ variant.Request → m ≢ n) → slot (places k s) m ≡ Some b → object_of k m (changed s t q) ≡ object_of k m s
        objects variant.Request m b other lives = ap (λ o. Request (unwrap_or o (idle_request 0))) (stays m (other refl))
        objects variant.List m b other lives = ap (λ all. ListHead (map (address_in all) (sequence s.sequences m))) (apart_left gone variant.Node (omega arith))
        objects variant.Port m b other lives =
            ap (MsgPort (port_at m s.ports)) (standing_left gone held (message_of_request n s) (request_standing s gone.sound n ∙ gone.live) loose m)
        objects _ m b other lives = refl
