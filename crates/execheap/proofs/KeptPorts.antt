-- What calls on ports and messages leave alone.
use Rattle.std.proofs.Common.{◌≡◌, ℕ, ◌<◌, ◌≤◌, List, true, false, length, refl, ap, sym, ◌∙◌, subst, arith, Some, None, Option, Ok, Result, is_ok, is_some, slice_set, unwrap_or, IsTrue}
use Rattle.memlist.proofs.Answered.{cases_eq}
use Rattle.execlist.specs.{Lists.home, Pool.Pooled, Pool.slot, Pool.written, Answers.fault_or, Answers.kept_or}
use Rattle.execlist.proofs.Pools.{item_of, slot_known, slot_other, slot_same}
use Rattle.msgport.proofs.Linking.{left_home}
use Rattle.msgport.specs.{declared.fault.PortFault.PortFault, declared.message.Message.Message, Port.Port, Port.new_port, Ports.MessagePorts, Ports.is_message, Ports.is_port, Ports.taken_off, Ports.with_message, Ports.with_port}
use Rattle.execheap.specs.{declared.tag.Kind.Kind, Table.pool_of, Numbered.Numbered, Numbered.Fits, Numbered.IsKept, Numbered.message_of_request, Numbered.own_shape, Numbered.shape}
use Rattle.execheap.specs.declared.tag.Kind.TheVariants as variant
use Rattle.execheap.proofs.{Front.front_step, InTime.IsAlong, InTime.about_same, InTime.in_time_kept, Stepping.shape_length, Stepping.shape_lives, Stepping.shape_written}

-- a port, if there is one, has a signal of its task's own
abbrev pub IsOwn : Option Port → Type 0
IsOwn o = IsTrue (is_some o) → 16 ≤ (unwrap_or o (new_port 0 0)).bit

pub own_set : (ports : List (Option Port)) (n : ℕ) (o : Option Port) → n < length ports → IsOwn o → ((p : ℕ) → IsOwn (slot ports p))
    → (p : ℕ) → IsOwn (slot (slice_set ports n o) p)
own_set ports n o known here all p = cases_eq p n
    (λ e. subst (λ k. IsOwn (slot (slice_set ports n o) k)) (sym e) (subst IsOwn (sym (slot_same ports n o known)) here))
    (λ e. subst IsOwn (sym (slot_other ports n p o e)) (all p))

-- a call that was not refused
pub not_refused : {A : Type 0} (fault : Option PortFault) (value answer : A) (result : Result A PortFault) (old new q : MessagePorts)
    → result ≡ fault_or fault value → result ≡ Ok answer → q ≡ kept_or fault old new → q ≡ new
not_refused None value answer result old new q is ok next = next
not_refused (Some fault) value answer result old new q is ok next = let bad : false ≡ true = ap is_ok (sym is ∙ ok) in cc

-- the same messages live and are held, and those of requests are in ports only if they were
along_shape : {s : Numbered} (q : MessagePorts) → shape q.messages ≡ shape s.ports.messages → q.holding ≡ s.ports.holding
    → ((r p : ℕ) → home q.places (message_of_request r s) ≡ Some p → home s.ports.places (message_of_request r s) ≡ Some p)
    → IsAlong s (record s { ports = q })
along_shape {s} q same holding queued = record {
  timing = refl;
  holding = holding;
  way = λ r. refl;
  reply = λ r p there. refl;
  each_message = shape_length s.ports.messages q.messages same;
  made = λ r small is. sym (shape_lives s.ports.messages q.messages same (message_of_request r s)) ∙ is;
  queued = queued;
}

module _ {s : Numbered} (kept : IsKept s) where
  -- the same ports and messages live and are free, and each port has a signal of its task's own
  kept_ports : (q : MessagePorts) → shape q.ports ≡ shape s.ports.ports → shape q.messages ≡ shape s.ports.messages
      → ((p : ℕ) → IsOwn (slot q.ports.slots p)) → q.holding ≡ s.ports.holding
      → ((r p : ℕ) → home q.places (message_of_request r s) ≡ Some p → home s.ports.places (message_of_request r s) ≡ Some p)
      → IsKept (record s { ports = q })
  kept_ports q ports messages own holding queued = record {
    live_nodes = kept.live_nodes;
    live_lists = kept.live_lists;
    each_list = kept.each_list;
    each_node = kept.each_node;
    in_step = in_step;
    apt = record { own_signals = own; each_task = kept.apt.each_task };
    in_time = in_time_kept kept.in_time (along_shape q messages holding queued) (about_same refl);
  } where
    in_step : (k : Kind) → Fits (own_shape k (record s { ports = q })) (pool_of k s.table)
    in_step variant.Port = ports ∙ kept.in_step variant.Port
    in_step variant.Message = front_step s.table.pool q.messages s.ports.messages messages ∙ kept.in_step variant.Message
    in_step variant.Semaphore = kept.in_step variant.Semaphore
    in_step variant.Request = kept.in_step variant.Request
    in_step _ = tt

  -- all ports and messages are as they were
  pub kept_linked : (q : MessagePorts) → q.ports ≡ s.ports.ports → q.messages ≡ s.ports.messages → q.holding ≡ s.ports.holding
      → ((r p : ℕ) → home q.places (message_of_request r s) ≡ Some p → home s.ports.places (message_of_request r s) ≡ Some p)
      → IsKept (record s { ports = q })
  kept_linked q ports messages holding queued = kept_ports q (ap shape ports) (ap shape messages)
      (λ p. subst (λ (r : Pooled Port). IsOwn (slot r.slots p)) (sym ports) (kept.apt.own_signals p)) holding queued

  -- a message is another one
  pub kept_message_set : (q : MessagePorts) (m : ℕ) (message : Message) → IsTrue (is_message m s.ports) → q.ports ≡ s.ports.ports
      → q.messages ≡ written m message s.ports.messages → q.holding ≡ s.ports.holding
      → ((r p : ℕ) → home q.places (message_of_request r s) ≡ Some p → home s.ports.places (message_of_request r s) ≡ Some p)
      → IsKept (record s { ports = q })
  kept_message_set q m message lives ports set holding queued =
      kept_ports q (ap shape ports) (ap shape set ∙ shape_written s.ports.messages m message lives)
      (λ p. subst (λ (r : Pooled Port). IsOwn (slot r.slots p)) (sym ports) (kept.apt.own_signals p)) holding queued

  -- a message is another one, and nothing else changes
  pub kept_written : (q : MessagePorts) (m : ℕ) (message : Message) → IsTrue (is_message m s.ports) → q ≡ with_message m message s.ports → IsKept (record s { ports = q })
  kept_written q m message lives is = subst (λ r. IsKept (record s { ports = r })) (sym is)
      (kept_message_set (with_message m message s.ports) m message lives refl refl refl (λ r p there. there))

  -- a message of the table is another one, and is in a port
  pub kept_posted : (q : MessagePorts) (m p : ℕ) (message : Message) → m < s.table.pool → IsTrue (is_message m s.ports) → q.ports ≡ s.ports.ports
      → q.messages ≡ written m message s.ports.messages → q.holding ≡ s.ports.holding → q.places ≡ slice_set s.ports.places m (Some p)
      → IsKept (record s { ports = q })
  kept_posted q m p message small lives ports set holding placed = kept_message_set q m message lives ports set holding
      (λ r o there. sym (ap (λ all. home all (message_of_request r s)) placed
      ∙ slot_other s.ports.places m (message_of_request r s) (Some p) (λ same. omega (arith, small, same))) ∙ there)

  -- a port is another one, with a signal of its task's own
  pub kept_port_set : (q : MessagePorts) (p : ℕ) (port : Port) → IsTrue (is_port p s.ports) → 16 ≤ port.bit
      → q ≡ with_port p port s.ports → IsKept (record s { ports = q })
  kept_port_set q p port lives own is =
      let item = item_of (slot s.ports.ports.slots p) lives in
      subst (λ r. IsKept (record s { ports = r })) (sym is)
      (kept_ports (with_port p port s.ports) (shape_written s.ports.ports p port lives) refl
      (own_set s.ports.ports.slots p (Some port) (slot_known s.ports.ports.slots p item.0 item.1) (λ some. own) kept.apt.own_signals)
      refl (λ r o there. there))

  -- a call that may be refused
  pub kept_unless : (fault : Option PortFault) (q r : MessagePorts) → q ≡ kept_or fault s.ports r → IsKept (record s { ports = r })
      → IsKept (record s { ports = q })
  kept_unless None q r is next = subst (λ x. IsKept (record s { ports = x })) (sym is) next
  kept_unless (Some fault) q r is next = subst (λ x. IsKept (record s { ports = x })) (sym is) kept

  -- the first message of a port, or none, is taken off
  pub kept_taken : (p : ℕ) (o : Option ℕ) (q : MessagePorts) → q ≡ taken_off p o s.ports → IsKept (record s { ports = q })
  kept_taken p None q is = subst (λ x. IsKept (record s { ports = x })) (sym is) kept
  kept_taken p (Some m) q is = subst (λ x. IsKept (record s { ports = x })) (sym is)
      (kept_linked (taken_off p (Some m) s.ports) refl refl refl (λ r o there. left_home s.ports.places m (message_of_request r s) o there))
