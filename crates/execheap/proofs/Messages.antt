-- Messages made and freed.
use Rattle.std.proofs.Common.{◌≡◌, ◌≢◌, ℕ, ◌<◌, map, refl, ap, sym, ◌∙◌, subst, arith, Some, None, is_some, unwrap_or, slice_set, IsTrue}
use Rattle.execlist.specs.{Lists.home, Lists.sequence, Pool.given_at, Pool.next_number, Pool.slot}
use Rattle.execlist.proofs.Pools.{slot_other, slot_same}
use Rattle.msgport.specs.Ports as ports
use Rattle.msgport.specs.Ports.{MessagePorts, message_freed, message_made, messages_of, new_message, port_at}
use Rattle.execmodel.specs.{State.ListHead, State.Message, State.MsgPort, Memory.freed, Memory.placed}
use Rattle.execheap.specs.Numbered.{Numbered, IsKept, address_in, object_of, own_shape, places, shape, shown_memory}
use Rattle.execheap.specs.{declared.tag.Kind.Kind, Tags.kind_code, Table.Tabled}
use Rattle.execheap.specs.declared.tag.Kind.TheVariants as variant
use Rattle.execheap.specs.Numbered as numbered
use Rattle.execheap.proofs.{Beside.public_kept, Beside.timer_kept, Front.front, Front.front_given, Front.front_released, Front.message_live, Front.message_next_number, Front.message_small, Front.message_step, Front.own_messages, InTime.along_message, Loose.unheld_loose, MessagePlaces.place_message, MessagePlaces.queue_places, MessagePlaces.standing_new, MessagePlaces.standing_left, Made.IsMade, Made.IsFreed, Made.within, Made.not_new, Made.apart, Made.kept_new, Made.shown_new, Made.own_given, Made.apart_left, Made.kept_left, Made.shown_left, Made.own_released}

abbrev changed : Numbered → Tabled → MessagePorts → Numbered
changed s t q = record s { table = t; ports = q }

-- only messages have numbers of their own that change
same : (s : Numbered) (t : Tabled) (q : MessagePorts) → q.ports ≡ s.ports.ports → (k : Kind) → kind_code k ≢ kind_code variant.Message → own_shape k (changed s t q) ≡ own_shape k s
same s t q is variant.Message ne = absurd (ne refl)
same s t q is variant.Port ne = ap (λ r. Some (shape r)) is
same s t q is _ ne = refl

module _ {s : Numbered} {n a : ℕ} {t : Tabled} (q : MessagePorts) where
  module _ (reply word : ℕ) (made : IsMade variant.Message s n a t) where
    -- the messages give the number that the table gives
    pub message_next : next_number s.ports.messages ≡ Some n
    message_next = message_next_number made.kept ∙ made.number

    module _ (is : q ≡ message_made reply word s.ports) where
      slots : q.messages.slots ≡ slice_set s.ports.messages.slots n (Some (new_message reply word))
      slots =
          ap (λ (r : MessagePorts). r.messages.slots) is
          ∙ ap (λ o. (given_at o (new_message reply word) s.ports.messages).slots) message_next

      pub message_made_kept : IsKept (changed s t q)
      message_made_kept = kept_new made (changed s t q) refl refl refl (same s t q (ap (λ (r : MessagePorts). r.ports) is))
          ((λ i. shape (front (made.is i).pool (is i).messages)) ∙ ap shape (front_given s.table.pool (new_message reply word) s.ports.messages)
          ∙ own_given made (own_messages made.kept) (message_step made.kept) (new_message reply word))
          (subst (λ r. numbered.IsApt r s.sems s.tasks) (sym is) (record { own_signals = made.kept.apt.own_signals; each_task = made.kept.apt.each_task }))
          (along_message n (Some (new_message reply word)) (within made) slots (ap (λ (r : MessagePorts). r.places) is) (ap (λ (r : MessagePorts). r.holding) is) refl refl)

      pub message_made_shown : ports.IsSoundPorts s.ports → shown_memory (changed s t q) ≡ placed 24 (Message (new_message reply word)) (Some a) (shown_memory s)
      message_made_shown held = shown_new made (changed s t q) (Message (new_message reply word)) refl refl others
          (ap (λ o. Message (unwrap_or o (new_message 0 0)))
          (ap (λ xs. slot xs n) slots ∙ slot_same s.ports.messages.slots n (Some (new_message reply word)) (omega (arith, within made, made.kept.in_time.each_message))))
          (public_kept s (changed s t q) (apart made variant.Port (omega arith)) (ap (λ (r : MessagePorts). r.keys) is) (ap (λ (r : MessagePorts). r.public) is))
          (timer_kept s (changed s t q) (apart made variant.Request (omega arith)) refl)
        where
          -- what is in a port keeps its address
          others : (k : Kind) (m b : ℕ) → slot (places k s) m ≡ Some b → object_of k m (changed s t q) ≡ object_of k m s
          others variant.List m b lives = ap (λ all. ListHead (map (address_in all) (sequence s.sequences m))) (apart made variant.Node (omega arith))
          others variant.Port m b lives =
              ap (λ (r : MessagePorts). MsgPort (port_at m r) (map (address_in (queue_places t)) (messages_of m r))) is
              ∙ ap (MsgPort (port_at m s.ports)) (standing_new made held m)
          others variant.Message m b lives = ap (λ o. Message (unwrap_or o (new_message 0 0)))
              (ap (λ xs. slot xs m) slots ∙ slot_other s.ports.messages.slots n m (Some (new_message reply word)) (not_new made m (ap is_some lives)))
          others _ m b lives = refl

  module _ (gone : IsFreed variant.Message s n a t) where
    pub message_lives : IsTrue (ports.is_message n s.ports)
    message_lives = message_live gone.kept gone.sound n (ap is_some gone.live)

    below : n < s.table.pool
    below = message_small gone.kept gone.sound n (ap is_some gone.live)

    -- one that is in no port may be freed
    pub message_loose : home s.ports.places n ≡ None → ports.linked_fault n s.ports ≡ None
    message_loose loose = unheld_loose gone.kept.in_time n below message_lives loose

    module _ (is : q ≡ message_freed n s.ports) where
      pub message_freed_kept : IsKept (changed s t q)
      message_freed_kept = kept_left gone (changed s t q) refl refl refl (same s t q (ap (λ (r : MessagePorts). r.ports) is))
          ((λ i. shape (front (gone.is i).pool (is i).messages)) ∙ ap shape (front_released s.table.pool n s.ports.messages)
          ∙ own_released gone (own_messages gone.kept) (message_step gone.kept)) tt
          (subst (λ r. numbered.IsApt r s.sems s.tasks) (sym is) (record { own_signals = gone.kept.apt.own_signals; each_task = gone.kept.apt.each_task }))
          (along_message n None below (ap (λ (r : MessagePorts). r.messages.slots) is) (ap (λ (r : MessagePorts). r.places) is)
          (ap (λ (r : MessagePorts). r.holding) is) refl refl)

      pub message_freed_shown : ports.IsSoundPorts s.ports → home s.ports.places n ≡ None → shown_memory (changed s t q) ≡ freed a (shown_memory s)
      message_freed_shown held loose = shown_left gone (changed s t q) refl refl others
          (public_kept s (changed s t q) (apart_left gone variant.Port (omega arith)) (ap (λ (r : MessagePorts). r.keys) is) (ap (λ (r : MessagePorts). r.public) is))
          (timer_kept s (changed s t q) (apart_left gone variant.Request (omega arith)) refl)
        where
          others : (k : Kind) (m b : ℕ) → (k ≡ variant.Message → m ≢ n) → slot (places k s) m ≡ Some b → object_of k m (changed s t q) ≡ object_of k m s
          others variant.List m b other lives = ap (λ all. ListHead (map (address_in all) (sequence s.sequences m))) (apart_left gone variant.Node (omega arith))
          others variant.Port m b other lives =
              ap (λ (r : MessagePorts). MsgPort (port_at m r) (map (address_in (queue_places t)) (messages_of m r))) is
              ∙ ap (MsgPort (port_at m s.ports)) (standing_left gone held n (place_message gone.sound n a gone.live) loose m)
          others variant.Message m b other lives =
              ap (λ (r : MessagePorts). Message (ports.message_at m r)) is
              ∙ ap (λ o. Message (unwrap_or o (new_message 0 0))) (slot_other s.ports.messages.slots n m None (other refl))
          others _ m b other lives = refl
