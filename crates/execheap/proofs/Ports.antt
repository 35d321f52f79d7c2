-- Ports made and freed.
use Rattle.std.proofs.Common.{◌≡◌, ◌≢◌, ℕ, ◌≤◌, [], Bool, true, false, map, refl, ap, sym, ◌∙◌, subst, arith, Some, None, Option, is_some, if◌then◌else◌, unwrap_or, not, slice_set, IsTrue, ◌==◌, ◌++◌}
use Rattle.std.specs.List.{list_any}
use Rattle.memlist.proofs.Headers.{from_eq}
use Rattle.execlist.specs.{Lists.home, Lists.is_at, Lists.sequence, Lists.key_at, Pool.next_number, Pool.slot}
use Rattle.execlist.proofs.Pools.{slot_other, slot_same}
use Rattle.msgport.proofs.Linking.{nobody_at}
use Rattle.msgport.specs.declared.fault.PortFault.TheVariants.{Link, NotEmpty, Unknown}
use Rattle.msgport.specs.{Port.new_port, Ports.MessagePorts, Ports.messages_of, Ports.port_at, Ports.port_freed, Ports.port_made}
use Rattle.msgport.specs.Ports as ports
use Rattle.execmodel.specs.{State.ListHead, State.Message, State.MsgPort, Memory.freed, Memory.placed}
use Rattle.execheap.specs.Numbered.{Numbered, IsKept, address_in, object_of, own_shape, message_places, places, shape, shown_memory, shown_public, message_of_request}
use Rattle.execheap.specs.{declared.tag.Kind.Kind, Tags.kind_code, Table.Tabled, Table.pool_of}
use Rattle.execheap.specs.declared.tag.Kind.TheVariants as variant
use Rattle.execheap.proofs.Made.{IsMade, IsFreed, not_new, apart, beside, kept_new, shown_new, own_next, own_known, own_vacant, own_slots, own_given, apart_left, beside_left, kept_left, shown_left, own_lives, own_there, own_released}
use Rattle.execheap.proofs.{Beside.timer_kept, Front.front, InTime.along_messages, KeptPorts.IsOwn, KeptPorts.own_set, Lists.none_there, Mapped.map_agree, Mapped.members, Public.no_public, Public.public_lives, Stepping.shape_lives}

-- the public ports show the same if they keep their addresses
public_beside : (s u : Numbered) → u.ports.keys ≡ s.ports.keys → u.ports.public ≡ s.ports.public
    → ((q : ℕ) → list_any (λ other. other == q) s.ports.public ≡ true → slot (places variant.Port u) q ≡ slot (places variant.Port s) q)
    → map (shown_public u) u.ports.public ≡ map (shown_public s) s.ports.public
public_beside s u keys public same =
    ap (map (shown_public u)) public
    ∙ map_agree (shown_public u) (shown_public s) s.ports.public (members (λ q. shown_public u q ≡ shown_public s q) s.ports.public
    (λ q there. λ i. record { port = unwrap_or (same q there i) 0; key = key_at (keys i) q }))

no_fault : (there has public : Bool) → IsTrue there → IsTrue (not has) → IsTrue (not public)
    → (if not there then Some Unknown else (if has then Some NotEmpty else (if public then Some Link else None))) ≡ None
no_fault true false false lives empty private = refl
no_fault true false true lives empty private = let bad : false ≡ true = private in cc
no_fault true true public lives empty private = let bad : false ≡ true = empty in cc
no_fault false has public lives empty private = let bad : false ≡ true = lives in cc

-- a port whose number is free has no messages
no_messages : (s : Numbered) → ports.IsSoundPorts s.ports → (p : ℕ) → slot s.ports.ports.slots p ≡ None → messages_of p s.ports ≡ []
no_messages s held p free = none_there (messages_of p s.ports)
    (λ m. held.stands p m ∙ ap (λ b. if b then 1 else 0) (elsewhere m (home s.ports.places m) refl))
  where
    elsewhere : (m : ℕ) (o : Option ℕ) → home s.ports.places m ≡ o → is_at o p ≡ false
    elsewhere m None there = refl
    elsewhere m (Some q) there = elim (q == p) as (λ b. (q == p) ≡ b → b ≡ false) [
      | true ↦ λ same. let bad : true ≡ false = sym (held.live_port m q there) ∙ ap (λ r. ports.is_port r s.ports) (from_eq q p same) ∙ ap is_some free in cc
      | false ↦ λ other. refl
    ] refl

abbrev changed : Numbered → Tabled → MessagePorts → Numbered
changed s t q = record s { table = t; ports = q }

-- only ports have numbers of their own that change
same : (s : Numbered) (t : Tabled) (q : MessagePorts) → t.pool ≡ s.table.pool → q.messages ≡ s.ports.messages → (k : Kind) → kind_code k ≢ kind_code variant.Port → own_shape k (changed s t q) ≡ own_shape k s
same s t q pool is variant.Port ne = absurd (ne refl)
same s t q pool is variant.Message ne = λ i. Some (shape (front (pool i) (is i)))
same s t q pool is _ ne = refl

module _ {s : Numbered} {n a : ℕ} {t : Tabled} (q : MessagePorts) where
  module _ (task bit : ℕ) (made : IsMade variant.Port s n a t) where
    -- the ports give the number that the table gives
    pub port_next : next_number s.ports.ports ≡ Some n
    port_next = own_next made s.ports.ports (made.kept.in_step variant.Port)

    -- a public port is another
    public_other : ports.IsSoundPorts s.ports → (p : ℕ) → list_any (λ other. other == p) s.ports.public ≡ true → p ≢ n
    public_other held p stands = not_new made p
        (shape_lives (pool_of variant.Port s.table) s.ports.ports (made.kept.in_step variant.Port) p
        ∙ public_lives {s = s} (record { table = made.sound; kept = made.kept }) held p stands)

    module _ (is : q ≡ port_made task bit s.ports) where
      slots : q.ports.slots ≡ slice_set s.ports.ports.slots n (Some (new_port task bit))
      slots = ap (λ (r : MessagePorts). r.ports.slots) is ∙ own_slots made s.ports.ports (made.kept.in_step variant.Port) (new_port task bit)

      pub port_made_kept : 16 ≤ bit → IsKept (changed s t q)
      port_made_kept own = kept_new made (changed s t q) refl refl refl (same s t q (ap (λ u. u.pool) made.is) (ap (λ (r : MessagePorts). r.messages) is))
          (ap (λ (r : MessagePorts). shape r.ports) is ∙ own_given made s.ports.ports (made.kept.in_step variant.Port) (new_port task bit))
          (record {
            own_signals = λ p. subst (λ ports. IsOwn (slot ports p)) (sym slots)
                (own_set s.ports.ports.slots n (Some (new_port task bit)) (own_known made s.ports.ports (made.kept.in_step variant.Port)) (λ lives. own) made.kept.apt.own_signals p);
            each_task = made.kept.apt.each_task;
          })
          (along_messages (ap (λ (r : MessagePorts). r.messages) is) (ap (λ (r : MessagePorts). r.places) is) (ap (λ (r : MessagePorts). r.holding) is) refl refl)

      pub port_made_shown : ports.IsSoundPorts s.ports → shown_memory (changed s t q) ≡ placed 34 (MsgPort (new_port task bit) []) (Some a) (shown_memory s)
      port_made_shown held = shown_new made (changed s t q) (MsgPort (new_port task bit) []) refl refl others here
          (public_beside s (changed s t q) (ap (λ (r : MessagePorts). r.keys) is) (ap (λ (r : MessagePorts). r.public) is)
          (λ p stands. beside made variant.Port p (λ e. public_other held p stands)))
          (timer_kept s (changed s t q) (apart made variant.Request (omega arith)) refl)
        where
          shown : (m : ℕ) → object_of variant.Port m (changed s t q)
              ≡ MsgPort (unwrap_or (slot (slice_set s.ports.ports.slots n (Some (new_port task bit))) m) (new_port 0 0)) (map (address_in (message_places s)) (messages_of m s.ports))
          shown m = λ i. MsgPort (unwrap_or (slot (slots i) m) (new_port 0 0))
              (map (address_in (apart made variant.Message (omega arith) i ++ apart made variant.Request (omega arith) i)) (messages_of m (is i)))

          others : (k : Kind) (m b : ℕ) → slot (places k s) m ≡ Some b → object_of k m (changed s t q) ≡ object_of k m s
          others variant.List m b lives = ap (λ all. ListHead (map (address_in all) (sequence s.sequences m))) (apart made variant.Node (omega arith))
          others variant.Port m b lives = shown m ∙ ap (λ o. MsgPort (unwrap_or o (new_port 0 0)) (map (address_in (message_places s)) (messages_of m s.ports)))
              (slot_other s.ports.ports.slots n m (Some (new_port task bit)) (not_new made m (ap is_some lives)))
          others variant.Message m b lives = ap (λ (r : MessagePorts). Message (ports.message_at m r)) is
          others _ m b lives = refl

          here : object_of variant.Port n (changed s t q) ≡ MsgPort (new_port task bit) []
          here = shown n ∙ (λ i. MsgPort (unwrap_or (slot_same s.ports.ports.slots n (Some (new_port task bit)) (own_known made s.ports.ports (made.kept.in_step variant.Port)) i) (new_port 0 0))
              (map (address_in (message_places s)) (no_messages s held n (own_vacant made s.ports.ports (made.kept.in_step variant.Port)) i)))

  module _ (gone : IsFreed variant.Port s n a t) where
    pub port_lives : IsTrue (ports.is_port n s.ports)
    port_lives = own_lives gone s.ports.ports (gone.kept.in_step variant.Port)

    -- one that has no message and is not public may be freed
    pub port_unused : IsTrue (not (ports.has_messages n s.ports)) → IsTrue (not (ports.is_public n s.ports)) → ports.delete_fault n s.ports ≡ None
    port_unused empty private = no_fault (ports.is_port n s.ports) (ports.has_messages n s.ports) (ports.is_public n s.ports) port_lives empty private

    module _ (is : q ≡ port_freed n s.ports) where
      pub port_freed_kept : ports.IsSoundPorts s.ports → IsTrue (not (ports.has_messages n s.ports)) → IsKept (changed s t q)
      port_freed_kept held empty = kept_left gone (changed s t q) refl refl refl (same s t q (ap (λ u. u.pool) gone.is) (ap (λ (r : MessagePorts). r.messages) is))
          (ap (λ (r : MessagePorts). shape r.ports) is ∙ own_released gone s.ports.ports (gone.kept.in_step variant.Port))
          (λ r p there same. nobody_at s.ports.queues (message_of_request r s) n (home s.ports.places (message_of_request r s))
          (held.stands n (message_of_request r s)) empty (there ∙ ap Some same))
          (record {
            own_signals = λ p. subst (λ (r : MessagePorts). IsOwn (slot r.ports.slots p)) (sym is)
                (own_set s.ports.ports.slots n None (own_there gone s.ports.ports (gone.kept.in_step variant.Port)) (λ lives. (let bad : false ≡ true = lives in cc)) gone.kept.apt.own_signals p);
            each_task = gone.kept.apt.each_task;
          })
          (along_messages (ap (λ (r : MessagePorts). r.messages) is) (ap (λ (r : MessagePorts). r.places) is) (ap (λ (r : MessagePorts). r.holding) is) refl refl)

      pub port_freed_shown : ports.IsSoundPorts s.ports → IsTrue (not (ports.is_public n s.ports)) → shown_memory (changed s t q) ≡ freed a (shown_memory s)
      port_freed_shown held private = shown_left gone (changed s t q) refl refl others
          (public_beside s (changed s t q) (ap (λ (r : MessagePorts). r.keys) is) (ap (λ (r : MessagePorts). r.public) is)
          (λ p stands. beside_left gone variant.Port p (λ e. no_public {s = s} (record { table = gone.sound; kept = gone.kept }) held n private p stands)))
          (timer_kept s (changed s t q) (apart_left gone variant.Request (omega arith)) refl)
        where
          others : (k : Kind) (m b : ℕ) → (k ≡ variant.Port → m ≢ n) → slot (places k s) m ≡ Some b → object_of k m (changed s t q) ≡ object_of k m s
          others variant.List m b other lives = ap (λ all. ListHead (map (address_in all) (sequence s.sequences m))) (apart_left gone variant.Node (omega arith))
          others variant.Port m b other lives =
              (λ i. MsgPort (port_at m (is i)) (map (address_in (apart_left gone variant.Message (omega arith) i ++ apart_left gone variant.Request (omega arith) i)) (messages_of m (is i))))
              ∙ ap (λ o. MsgPort (unwrap_or o (new_port 0 0)) (map (address_in (message_places s)) (messages_of m s.ports)))
              (slot_other s.ports.ports.slots n m None (other refl))
          others variant.Message m b other lives = ap (λ (r : MessagePorts). Message (ports.message_at m r)) is
          others _ m b other lives = refl
