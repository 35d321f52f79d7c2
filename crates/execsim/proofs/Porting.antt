-- How the machine follows the words of ports and messages.
use Rattle.std.proofs.Common.{◌≡◌, ◌≢◌, ℕ, ◌^◌, true, false, cond, List, [], Option, None, Some, refl, ap, sym, ◌∙◌, ℤ, negsuc, Bool, Result, Ok, Err, IfOk, OnOk, OnErr, codes, find, nat_eq, unwrap_or, w32}
use Rattle.std.specs.Int.{cast_signed}
use Rattle.memlist.proofs.Answered.{nat_eq-other}
use Rattle.execlist.specs.{Order.first, Disciplines.by_arrival, Disciplines.by_priority}
use Rattle.signals.specs.Signals.{grant}
use Rattle.scheduler.specs.Schedule.{Schedule, signals_of, allocates_signal, clears_and_waits, frees_signal, sets_signals, takes_signals, waits_for}
use Rattle.scheduler.specs.Dispatch.{signalled}
use Rattle.msgport.specs.{declared.action.Action.Action, declared.action.PortAction.TheVariants.Cause, Port.arrival_action, Port.new_port, Ports.new_message, Ports.nt_freemsg, Ports.nt_message, Ports.nt_replymsg}
use Rattle.msgport.specs.declared.action.Action.TheVariants as action
use Rattle.execmodel.specs.Ports.{content_of, is_called, is_message, is_port, is_port_at, messages_of, message_size, port_of, port_or_none, port_size, posted, taken_off, typed}
use Rattle.execmodel.specs.{State.Call, State.Message, State.MsgPort, State.Memory, State.State, State.Outcome, State.put, State.got, State.leaving, State.on_schedule, State.on_memory, State.on_heap, Calls.Caller, Calls.unless, Calls.argument, Calls.name_argument, Calls.done, Calls.done_by, Calls.answered, Calls.answered_by, Calls.waiting, Calls.alerted, Memory.freed, Memory.placed, LowMemory.after_asking_for_object, Objects.place_for_object, Lists.or_none, Pending.softint_number, Tasks.is_priority}
use Rattle.execmodel.specs.Ports as model
use Rattle.execheap.specs.{declared.refusal.Refusal.Refusal, Listing.listed, Listing.replied_by, Listing.replying, Refusals.alert_of, Refusals.code_of}
use Rattle.execsim.specs.{Actions.given_back_or_alerted, Actions.performed, Actions.performed_or_alerted_by, Agreement.Seen, Agreement.Follows, Agreement.Moves, Agreement.in_order, Endings.answered_or_alerted_by, Endings.done_or_alerted}
use Rattle.execsim.proofs.Following.{reads_schedule, reads_memory, reads_bodies, moves_schedule, moves_caused, moves_nowhere, moves_memory, follows_as, follows_change, follows_leaving}
use Rattle.execsim.proofs.{LowMemory.asking_for_object-in_order, Listing.follows_allowed, Listing.follows_allowed_by, Listing.follows_made, Listing.follows_refused, Listing.follows_refused_by, Listing.heap_changed, Listing.room-in_order, Ordering.signalled-in_order, PortOrder.add_port_alert-in_order, PortOrder.delete_alert-in_order, PortOrder.found-in_order, PortOrder.listed-in_order, Signalling.allocates-in_order, Signalling.frees-in_order, Signalling.sets_signals-in_order}
use Rattle.exectrace.specs.Hearing.{Hearing}
use Rattle.script.specs.declared.alert.Alert.TheVariants as an_alert

-- ---- ports made

module _ {H : Hearing} {m : Seen} {a b : H.Told} (t : ℕ) (call : Call) where
  pub created_without_signal : {n : Seen} → None ≡ grant (negsuc 0) (signals_of m.schedule t)
      → Follows H (answered t call 0) m n a b → Follows H (model.does_create_msg_port t call) m n a b
  unfolding model.does_create_msg_port
  created_without_signal none follows = follows_as {g = answered t call 0}
      (λ s e.
      let same : grant (negsuc 0) (signals_of s.schedule t) ≡ None =
      reads_schedule (λ y. grant (negsuc 0) (signals_of y t)) (λ y. refl) (sym none) s e in
      rw same refl)
      follows

  -- the caller has that signal left, and libraries are asked for memory for its port
  asked_first : {n : Seen} (bit : ℕ) → Some bit ≡ grant (negsuc 0) (signals_of m.schedule t)
      → Follows H (model.makes_port t call (Some bit)) (record m { memory = after_asking_for_object is_port port_size m.memory }) n a b
      → Follows H (model.does_create_msg_port t call) m n a b
  unfolding model.does_create_msg_port
  asked_first bit some follows = follows_as
      {g = λ s. model.makes_port t call (Some bit) (on_memory (after_asking_for_object is_port port_size) s)}
      (λ s e.
      let same : grant (negsuc 0) (signals_of s.schedule t) ≡ Some bit =
      reads_schedule (λ y. grant (negsuc 0) (signals_of y t)) (λ y. refl) (sym some) s e in
      rw same refl)
      (follows_change (moves_memory {m = m} (after_asking_for_object is_port port_size) (after_asking_for_object is_port port_size)
      (asking_for_object-in_order is_port port_size) refl) follows)

-- the caller has that signal left, and there is no room for its port
full : {H : Hearing} {m n : Seen} {a b : H.Told} (t : ℕ) (call : Call) (bit : ℕ) → None ≡ place_for_object is_port port_size m.memory
    → Follows H (answered t call 0) m n a b → Follows H (model.makes_port t call (Some bit)) m n a b
full t call bit none follows = follows_as {g = answered t call 0}
    (λ s e.
    let same : place_for_object is_port port_size s.memory ≡ None =
    reads_memory (place_for_object is_port port_size) (room-in_order is_port port_size) (sym none) s e in
    rw same refl) follows

-- the caller has that signal left, and there is room for its port
port_made : {H : Hearing} {m n o p : Seen} {a b : H.Told} (t : ℕ) (call : Call) (bit port : ℕ) → Some port ≡ place_for_object is_port port_size m.memory
    → n ≡ record m { memory = placed port_size (MsgPort (new_port t bit) []) (Some port) m.memory }
    → o ≡ record n { schedule = allocates_signal t (negsuc 0) n.schedule }
    → Follows H (answered t call port) o p a b → Follows H (model.makes_port t call (Some bit)) m p a b
port_made t call bit port room is next follows =
    let made = placed port_size (MsgPort (new_port t bit) []) (Some port) in
    follows_as {g = λ s. answered t call port (on_schedule (allocates_signal t (negsuc 0)) (on_memory made s))}
    (λ s e.
    let same : place_for_object is_port port_size s.memory ≡ Some port =
    reads_memory (place_for_object is_port port_size) (room-in_order is_port port_size) (sym room) s e in
    rw same refl)
    (follows_change (moves_memory made made (λ y. refl) is)
    (follows_change (moves_schedule (allocates_signal t (negsuc 0)) (allocates_signal t (negsuc 0)) (allocates-in_order t (negsuc 0)) next) follows))

module _ {H : Hearing} {m n o : Seen} {a b : H.Told} (t : ℕ) (call : Call) where
  pub created_without_room : (bit : ℕ) → Some bit ≡ grant (negsuc 0) (signals_of m.schedule t)
      → None ≡ place_for_object is_port port_size (after_asking_for_object is_port port_size m.memory)
      → n ≡ record m { memory = placed port_size (MsgPort (new_port t bit) []) None (after_asking_for_object is_port port_size m.memory) }
      → Follows H (answered t call 0) n o a b → Follows H (model.does_create_msg_port t call) m o a b
  created_without_room bit some none is follows = asked_first t call bit some (full t call bit none (rw is at follows))

  pub created : {p : Seen} (bit port : ℕ) → Some bit ≡ grant (negsuc 0) (signals_of m.schedule t)
      → Some port ≡ place_for_object is_port port_size (after_asking_for_object is_port port_size m.memory)
      → n ≡ record m { memory = placed port_size (MsgPort (new_port t bit) []) (Some port) (after_asking_for_object is_port port_size m.memory) }
      → o ≡ record n { schedule = allocates_signal t (negsuc 0) n.schedule }
      → Follows H (answered t call port) o p a b → Follows H (model.does_create_msg_port t call) m p a b
  created bit port some room is next follows = asked_first t call bit some (port_made t call bit port room is next follows)

-- ---- ports freed

module _ {H : Hearing} {m : Seen} {a b : H.Told} (t : ℕ) (call : Call) where
  pub delete_none : {n : Seen} → argument 0 call ≡ 0 → Follows H (done t call) m n a b → Follows H (model.does_delete_msg_port t call) m n a b
  unfolding model.does_delete_msg_port
  delete_none none follows = follows_as (λ s e. rw none refl) follows

  pub delete_tried : {n : Seen} (x : Memory) (result : Result (ℕ × ℕ) Refusal) → argument 0 call ≢ 0
      → alert_of result ≡ model.delete_alert (argument 0 call) m.memory
      → IfOk result (λ owner. owner.0 ≡ (port_of (argument 0 call) m.memory.heap).task)
      → IfOk result (λ owner. owner.1 ≡ (port_of (argument 0 call) m.memory.heap).bit)
      → OnOk result (x ≡ freed (argument 0 call) m.memory) → OnErr result (x ≡ m.memory)
      → Follows H (given_back_or_alerted result t call) (record m { memory = x }) n a b
      → Follows H (model.does_delete_msg_port t call) m n a b
  unfolding model.does_delete_msg_port
  delete_tried {n} x result some says task bit changed kept follows =
      follows_as {g = λ s. unless (model.delete_alert (argument 0 call) s.memory) t call effect s}
      (λ s e. let not_none : nat_eq (argument 0 call) 0 ≡ false = nat_eq-other (argument 0 call) 0 some in rw not_none refl)
      (by_result result says task bit changed kept follows)
    where
      effect : State → Outcome
      effect s = done t call (on_schedule (model.gives_back (port_of (argument 0 call) s.memory.heap)) (on_memory (freed (argument 0 call)) s))

      by_result : (result : Result (ℕ × ℕ) Refusal) → alert_of result ≡ model.delete_alert (argument 0 call) m.memory
          → IfOk result (λ owner. owner.0 ≡ (port_of (argument 0 call) m.memory.heap).task)
          → IfOk result (λ owner. owner.1 ≡ (port_of (argument 0 call) m.memory.heap).bit)
          → OnOk result (x ≡ freed (argument 0 call) m.memory) → OnErr result (x ≡ m.memory)
          → Follows H (given_back_or_alerted result t call) (record m { memory = x }) n a b
          → Follows H (λ s. unless (model.delete_alert (argument 0 call) s.memory) t call effect s) m n a b
      by_result (Ok owner) says task bit changed kept follows =
          follows_allowed t call (model.delete_alert (argument 0 call)) (delete_alert-in_order (argument 0 call)) effect says (follows_as
          {g = λ s. done t call (on_schedule (frees_signal owner.0 owner.1) (on_memory (freed (argument 0 call)) s))}
          (λ s e.
          let its_task : (port_of (argument 0 call) s.memory.heap).task ≡ owner.0 =
          reads_memory (λ memory. (port_of (argument 0 call) memory.heap).task) (λ y. refl) (sym task) s e in
          let its_bit : (port_of (argument 0 call) s.memory.heap).bit ≡ owner.1 =
          reads_memory (λ memory. (port_of (argument 0 call) memory.heap).bit) (λ y. refl) (sym bit) s e in
          rw (its_task, its_bit) refl)
          (follows_change (moves_memory (freed (argument 0 call)) (freed (argument 0 call)) (λ y. refl)
          (ap (λ y. record m { memory = y }) changed)) follows))
      by_result (Err why) says task bit changed kept follows =
          follows_refused t call (model.delete_alert (argument 0 call)) (delete_alert-in_order (argument 0 call)) effect why says (rw kept at follows)

-- what is given back, from a machine with that memory
pub gives_back_done : {H : Hearing} {m n o : Seen} {a b : H.Told} (t : ℕ) (call : Call) (owner : ℕ × ℕ) → n ≡ record m { schedule = frees_signal owner.0 owner.1 m.schedule }
    → Follows H (done t call) n o a b → Follows H (given_back_or_alerted (Ok owner) t call) m o a b
gives_back_done t call owner is follows =
    follows_change (moves_schedule (frees_signal owner.0 owner.1) (frees_signal owner.0 owner.1) (frees-in_order owner.0 owner.1) is) follows

-- ---- public ports

module _ {H : Hearing} {m n : Seen} {a b : H.Told} (t : ℕ) (call : Call) where
  pub add_outside : is_priority (cast_signed w32 (argument 2 call)) ≡ false → is_port_at (argument 0 call) m.memory.heap ≡ true
      → Follows H (alerted an_alert.Value t call) m n a b → Follows H (model.does_add_port t call) m n a b
  unfolding model.does_add_port model.add_port_alert
  add_outside outside there follows = follows_as
      (λ s e.
      let same : is_port_at (argument 0 call) s.memory.heap ≡ true =
      reads_memory (λ memory. is_port_at (argument 0 call) memory.heap) (λ y. refl) there s e in
      rw (same, outside) refl) follows

  pub add_unknown : is_port_at (argument 0 call) m.memory.heap ≡ false
      → Follows H (alerted an_alert.Handle t call) m n a b → Follows H (model.does_add_port t call) m n a b
  unfolding model.does_add_port model.add_port_alert
  add_unknown unknown follows = follows_as
      (λ s e.
      let same : is_port_at (argument 0 call) s.memory.heap ≡ false =
      reads_memory (λ memory. is_port_at (argument 0 call) memory.heap) (λ y. refl) unknown s e in
      rw same refl) follows

  pub add_tried : {o : Seen} (result : Result (Unit {0}) Refusal)
      → alert_of result ≡ model.add_port_alert (argument 0 call) (cast_signed w32 (argument 2 call)) m.memory
      → OnOk result (n ≡ record m { memory = listed (argument 0 call) (unwrap_or (name_argument 1 call) []) (cast_signed w32 (argument 2 call)) m.memory })
      → OnErr result (n ≡ m) → Follows H (done_or_alerted result t call) n o a b → Follows H (model.does_add_port t call) m o a b
  unfolding model.does_add_port
  add_tried result says changed kept follows =
      let port = argument 0 call in
      let name = unwrap_or (name_argument 1 call) [] in
      let pri = cast_signed w32 (argument 2 call) in
      by_result port name pri result says changed kept follows
    where
      by_result : {o : Seen} (port : ℕ) (name : List ℕ) (pri : ℤ) (result : Result (Unit {0}) Refusal) → alert_of result ≡ model.add_port_alert port pri m.memory
          → OnOk result (n ≡ record m { memory = listed port name pri m.memory })
          → OnErr result (n ≡ m) → Follows H (done_or_alerted result t call) n o a b
          → Follows H (λ s. unless (model.add_port_alert port pri s.memory) t call (λ s. done t call (on_memory (model.made_public port name pri) s)) s) m o a b
      by_result port name pri (Ok nothing) says changed kept follows =
          follows_allowed t call (model.add_port_alert port pri) (add_port_alert-in_order port pri) _ says
          (follows_change (moves_memory (model.made_public port name pri) (listed port name pri) (listed-in_order port name pri) changed) follows)
      by_result port name pri (Err why) says changed kept follows =
          follows_refused t call (model.add_port_alert port pri) (add_port_alert-in_order port pri) _ why says (rw kept at follows)

  pub find_answered : (answer : ℕ) → answer ≡ port_or_none (find (is_called (unwrap_or (name_argument 0 call) [])) m.memory.public)
      → Follows H (answered t call answer) m n a b → Follows H (model.does_find_port t call) m n a b
  unfolding model.does_find_port
  find_answered answer is follows = follows_as {g = answered t call answer}
      (λ s e. ap (λ value. answered t call value s)
      (sym (found-in_order (unwrap_or (name_argument 0 call) []) s.memory)
      ∙ ap (λ (y : Memory). port_or_none (find (is_called (unwrap_or (name_argument 0 call) [])) y.public)) (sym e.memory)
      ∙ sym is)) follows

-- ---- the action of a port

-- a port has the action that causes software interrupt i
abbrev set_to : ℕ → Call → ℕ → State → Outcome
set_to t call i s = unless (model.port_alert (argument 0 call) s.memory.heap) t call
    (λ s. done t call (on_memory (on_heap (model.with_action (Cause i) (argument 0 call))) s)) s

pub cause_set : {H : Hearing} {m o : Seen} {a b : H.Told} (t : ℕ) (call : Call) (i : ℕ) (x : Memory) (result : Result (Unit {0}) Refusal)
    → i ≡ softint_number (unwrap_or (name_argument 1 call) []) m.bodies.softints → alert_of result ≡ model.port_alert (argument 0 call) m.memory.heap
    → OnOk result (x ≡ on_heap (model.with_action (Cause i) (argument 0 call)) m.memory) → OnErr result (x ≡ m.memory)
    → Follows H (done_or_alerted result t call) (record m { memory = x }) o a b → Follows H (model.does_port_cause t call) m o a b
unfolding model.does_port_cause
cause_set t call i x result named says changed kept follows = follows_as
    {g = set_to t call i}
    (λ s e. ap (λ k. set_to t call k s) (reads_bodies (λ bodies. softint_number (unwrap_or (name_argument 1 call) []) bodies.softints) (sym named) s e))
    (heap_changed t call (model.port_alert (argument 0 call)) (on_heap (model.with_action (Cause i) (argument 0 call))) (λ y. refl) x result says changed kept follows)

-- ---- messages made

module _ {H : Hearing} {m o : Seen} {a b : H.Told} (t : ℕ) (call : Call) where
  pub message_refused : (x : Memory) (why : Refusal) → Some (code_of why) ≡ model.reply_port_alert (argument 0 call) m.memory.heap → x ≡ m.memory
      → Follows H (alerted (code_of why) t call) (record m { memory = x }) o a b → Follows H (model.does_new_msg t call) m o a b
  unfolding model.does_new_msg
  message_refused x why says kept follows =
      follows_refused t call (λ memory. model.reply_port_alert (argument 0 call) memory.heap) (λ y. refl) _ why says (rw kept at follows)

  pub message_made : (x : Memory) (place : Option ℕ) → None ≡ model.reply_port_alert (argument 0 call) m.memory.heap
      → place ≡ place_for_object is_message message_size (after_asking_for_object is_message message_size m.memory)
      → x ≡ placed message_size (Message (new_message (argument 0 call) (argument 1 call))) place (after_asking_for_object is_message message_size m.memory)
      → Follows H (answered t call (unwrap_or place 0)) (record m { memory = x }) o a b → Follows H (model.does_new_msg t call) m o a b
  unfolding model.does_new_msg
  message_made x place says fits is follows =
      follows_allowed t call (λ memory. model.reply_port_alert (argument 0 call) memory.heap) (λ y. refl) _ says
      (follows_made t call is_message message_size (Message (new_message (argument 0 call) (argument 1 call))) place fits
      (ap (λ y. record m { memory = y }) is) follows)

-- ---- putting and replying

pub performed_moves : {m n : Seen} (act : Action) → n ≡ performed act m → Moves (model.performed act) m n
performed_moves (action.Signal task mask) is = moves_schedule (signalled by_arrival task mask) (signalled by_priority task mask) (signalled-in_order task mask) is
performed_moves (action.Cause i) is = moves_caused i is
performed_moves {m} action.Nothing is = rw is (moves_nowhere m)

-- what is to be done for a message is done, and then the call
pub performed_done : {H : Hearing} {m n o : Seen} {a b : H.Told} (c : Caller) (call : Call) (act : Action) → n ≡ performed act m
    → Follows H (done_by c call) n o a b → Follows H (performed_or_alerted_by (Ok act) c call) m o a b
performed_done c call act is follows = follows_change (performed_moves act is) follows

module _ {H : Hearing} {m o : Seen} {a b : H.Told} (c : Caller) (call : Call) where
  -- a message is put at a port, and what is to be done is done
  delivers : (kind port message : ℕ) (x : Memory) (act : Action) → act ≡ arrival_action (port_of port m.memory.heap)
      → x ≡ on_heap (posted kind port message) m.memory → Follows H (performed_or_alerted_by (Ok act) c call) (record m { memory = x }) o a b
      → Follows H (λ s. done_by c call (model.delivered kind port message s)) m o a b
  unfolding model.delivered
  delivers kind port message x act acts changed follows = follows_as
      {g = λ s. done_by c call (model.performed act (on_memory (on_heap (posted kind port message)) s))}
      (λ s e.
      let same : arrival_action (port_of port s.memory.heap) ≡ act = reads_memory (λ memory. arrival_action (port_of port memory.heap)) (λ y. refl) (sym acts) s e in
      rw same refl)
      (follows_change (moves_memory (on_heap (posted kind port message)) (on_heap (posted kind port message)) (λ y. refl)
      (ap (λ y. record m { memory = y }) changed)) follows)

  pub put_tried : (x : Memory) (result : Result Action Refusal) → alert_of result ≡ model.put_alert (argument 0 call) (argument 1 call) m.memory.heap
      → IfOk result (λ act. act ≡ arrival_action (port_of (argument 0 call) m.memory.heap))
      → OnOk result (x ≡ on_heap (posted nt_message (argument 0 call) (argument 1 call)) m.memory) → OnErr result (x ≡ m.memory)
      → Follows H (performed_or_alerted_by result c call) (record m { memory = x }) o a b → Follows H (model.does_put_msg_by c call) m o a b
  put_tried x (Ok act) says acts changed kept follows =
      follows_allowed_by c call (λ memory. model.put_alert (argument 0 call) (argument 1 call) memory.heap) (λ y. refl) _ says
      (follows_leaving {f = λ s. done_by c call (model.delivered nt_message (argument 0 call) (argument 1 call) s)}
      (λ s. put (argument 0 call) (argument 1 call))
      (delivers nt_message (argument 0 call) (argument 1 call) x act acts changed follows))
  put_tried x (Err why) says acts changed kept follows =
      follows_refused_by c call (λ memory. model.put_alert (argument 0 call) (argument 1 call) memory.heap) (λ y. refl) _ why says (rw kept at follows)

  -- a message with that reply port, or with none, is replied
  replies : (reply message : ℕ) (x : Memory) (act : Action) (none : Bool) → nat_eq reply 0 ≡ none
      → act ≡ cond none action.Nothing (arrival_action (port_of reply m.memory.heap))
      → x ≡ record m.memory { heap = cond none (typed nt_freemsg message m.memory.heap) (posted nt_replymsg reply message m.memory.heap) }
      → Follows H (performed_or_alerted_by (Ok act) c call) (record m { memory = x }) o a b → Follows H (model.replied_by reply c call message) m o a b
  replies reply message x act true none acts changed follows = follows_as
      {g = λ s. done_by c call (on_memory (on_heap (typed nt_freemsg message)) s)} (λ s e. rw none refl)
      (follows_change (moves_memory (on_heap (typed nt_freemsg message)) (on_heap (typed nt_freemsg message)) (λ y. refl)
      (ap (λ y. record m { memory = y }) changed)) (rw acts at follows))
  replies reply message x act false some acts changed follows = follows_as
      {g = λ s. leaving (put reply message) (done_by c call (model.delivered nt_replymsg reply message s))} (λ s e. rw some refl)
      (follows_leaving {f = λ s. done_by c call (model.delivered nt_replymsg reply message s)} (λ s. put reply message)
      (delivers nt_replymsg reply message x act acts changed follows))

  pub reply_tried : (x : Memory) (result : Result Action Refusal) → alert_of result ≡ model.reply_alert (argument 0 call) m.memory.heap
      → IfOk result (λ act. act ≡ replying (argument 0 call) m.memory.heap)
      → OnOk result (x ≡ on_heap (replied_by (argument 0 call)) m.memory) → OnErr result (x ≡ m.memory)
      → Follows H (performed_or_alerted_by result c call) (record m { memory = x }) o a b → Follows H (model.does_reply_msg_by c call) m o a b
  unfolding replying replied_by
  reply_tried x (Ok act) says acts changed kept follows =
      let reply = (content_of (argument 0 call) m.memory.heap).reply in
      follows_allowed_by c call (λ memory. model.reply_alert (argument 0 call) memory.heap) (λ y. refl) _ says (follows_as
      {g = model.replied_by reply c call (argument 0 call)}
      (λ s e. ap (λ (r : ℕ). model.replied_by r c call (argument 0 call) s)
      (reads_memory (λ memory. (content_of (argument 0 call) memory.heap).reply) (λ y. refl) refl s e))
      (replies reply (argument 0 call) x act (nat_eq reply 0) refl acts changed follows))
  reply_tried x (Err why) says acts changed kept follows =
      follows_refused_by c call (λ memory. model.reply_alert (argument 0 call) memory.heap) (λ y. refl) _ why says (rw kept at follows)

-- ---- taking

module _ {H : Hearing} {m o : Seen} {a b : H.Told} (c : Caller) (call : Call) where
  takes_first : (port : ℕ) (x : Memory) (value : ℕ) (message : Option ℕ) → value ≡ or_none message → (message ≡ None → x ≡ m.memory)
      → x ≡ on_heap (taken_off port) m.memory → Follows H (answered_by c call value) (record m { memory = x }) o a b
      → Follows H (model.taken_by port message c call) m o a b
  takes_first port x value None is empty changed follows = rw (is, empty refl) at follows
  takes_first port x value (Some message) is empty changed follows =
      follows_leaving {f = λ s. answered_by c call message (on_memory (on_heap (taken_off port)) s)} (λ s. got port message)
      (follows_change (moves_memory (on_heap (taken_off port)) (on_heap (taken_off port)) (λ y. refl)
      (ap (λ y. record m { memory = y }) changed)) (rw is at follows))

  pub get_tried : (x : Memory) (result : Result ℕ Refusal) → alert_of result ≡ model.port_alert (argument 0 call) m.memory.heap
      → IfOk result (λ value. value ≡ or_none (first (messages_of (argument 0 call) m.memory.heap)))
      → OnOk result (first (messages_of (argument 0 call) m.memory.heap) ≡ None → x ≡ m.memory)
      → OnOk result (x ≡ on_heap (taken_off (argument 0 call)) m.memory) → OnErr result (x ≡ m.memory)
      → Follows H (answered_or_alerted_by result c call) (record m { memory = x }) o a b → Follows H (model.does_get_msg_by c call) m o a b
  get_tried x (Ok value) says answers empty changed kept follows =
      let message = first (messages_of (argument 0 call) m.memory.heap) in
      follows_allowed_by c call (λ memory. model.port_alert (argument 0 call) memory.heap) (λ y. refl) _ says (follows_as
      {g = model.taken_by (argument 0 call) message c call}
      (λ s e. ap (λ (r : Option ℕ). model.taken_by (argument 0 call) r c call s)
      (reads_memory (λ memory. first (messages_of (argument 0 call) memory.heap)) (λ y. refl) refl s e))
      (takes_first (argument 0 call) x value message answers empty changed follows))
  get_tried x (Err why) says answers empty changed kept follows =
      follows_refused_by c call (λ memory. model.port_alert (argument 0 call) memory.heap) (λ y. refl) _ why says (rw kept at follows)

-- ---- waiting

clears_and_waits-in_order : (t mask : ℕ) (y : Schedule) → clears_and_waits t mask (in_order y) ≡ in_order (clears_and_waits t mask y)
unfolding waits_for takes_signals
clears_and_waits-in_order t mask y = refl

-- a task that loses signals goes on running
pub loses_running : (m : Seen) {n : Seen} (t mask : ℕ) (running : Option ℕ) → n ≡ record m { schedule = model.loses t mask m.schedule }
    → m.schedule.running ≡ running → n.schedule.running ≡ running
unfolding sets_signals
loses_running m t mask running is runs = ap (λ (x : Seen). x.schedule.running) is ∙ runs

module _ {H : Hearing} {m n o : Seen} {a b : H.Told} (t : ℕ) (call : Call) where
  pub waits_cleared : (mask : ℕ) → n ≡ record m { schedule = clears_and_waits t mask m.schedule }
      → Follows H (waiting t (record call { awaited = mask })) n o a b → Follows H (model.looked None mask t call) m o a b
  waits_cleared mask is follows =
      follows_change (moves_schedule (clears_and_waits t mask) (clears_and_waits t mask) (clears_and_waits-in_order t mask) is) follows

  pub wait_looked : (message : Option ℕ) (bit : ℕ) → None ≡ model.wait_alert t (argument 0 call) m.memory.heap
      → message ≡ first (messages_of (argument 0 call) m.memory.heap) → bit ≡ (port_of (argument 0 call) m.memory.heap).bit
      → n ≡ record m { schedule = model.loses t call.awaited m.schedule }
      → Follows H (model.looked message (2 ^ bit) t call) n o a b → Follows H (model.does_wait_port t call) m o a b
  unfolding model.does_wait_port
  wait_looked message bit says there is_bit is follows =
      follows_allowed t call (λ memory. model.wait_alert t (argument 0 call) memory.heap) (λ y. refl) _ says (follows_as
      {g = λ s. model.looked message (2 ^ bit) t call (on_schedule (model.loses t call.awaited) s)}
      (λ s e.
      let same : first (messages_of (argument 0 call) s.memory.heap) ≡ message =
      reads_memory (λ memory. first (messages_of (argument 0 call) memory.heap)) (λ y. refl) (sym there) s e in
      let its : (port_of (argument 0 call) s.memory.heap).bit ≡ bit =
      reads_memory (λ memory. (port_of (argument 0 call) memory.heap).bit) (λ y. refl) (sym is_bit) s e in
      rw (same, its) refl)
      (follows_change (moves_schedule (sets_signals t 0 call.awaited) (sets_signals t 0 call.awaited) (sets_signals-in_order t 0 call.awaited) is) follows))

pub wait_refused : {H : Hearing} {m o : Seen} {a b : H.Told} (t : ℕ) (call : Call) (why : Refusal)
    → Some (code_of why) ≡ model.wait_alert t (argument 0 call) m.memory.heap → Follows H (alerted (code_of why) t call) m o a b
    → Follows H (model.does_wait_port t call) m o a b
unfolding model.does_wait_port
wait_refused t call why says follows =
    follows_refused t call (λ memory. model.wait_alert t (argument 0 call) memory.heap) (λ y. refl) _ why says follows
