-- Words on ports leave the blocks of all objects but ports and messages as they are.
use Rattle.std.proofs.Common.{inl, ◌≡◌, ◌≢◌, ℕ, negsuc, ◌^◌, Bool, true, false, List, [], Option, None, Some, refl, sym, ap, ◌∙◌, if◌then◌else◌, nat_eq, map}
use Rattle.std.specs.Int.{cast_signed, w32}
use Rattle.execlist.specs.Order.{first}
use Rattle.msgport.specs.{Port.Port, Port.new_port, Port.arrival_action, Ports.new_message, Ports.nt_freemsg, Ports.nt_message, Ports.nt_replymsg, declared.action.PortAction.PortAction, declared.message.Message.Message as Content}
use Rattle.msgport.specs.declared.action.PortAction.TheVariants.{Signal, Cause, Ignore}
use Rattle.scheduler.specs.Schedule.{signals_of}
use Rattle.signals.specs.Signals.{grant}
use Rattle.script.specs.declared.word.ports.PortWord.{PortWord}
use Rattle.script.specs.declared.word.ports.PortWord.TheVariants as ports
use Rattle.execmodel.specs.State.{Call, Object, MsgPort, Message, Heap, Memory, State, put, leaving, on_memory, on_heap, on_schedule}
use Rattle.execmodel.specs.Ports.{is_port, is_message, is_port_at, is_message_at, port_of, messages_of, content_of, with_port, with_content, port_alert, message_alert, is_queued, made_public, made_private, port_size, message_size, port_created, after_asking_for_port, makes_port, does_create_msg_port, delete_alert, does_delete_msg_port, add_port_alert, does_add_port, rem_port_alert, does_rem_port, does_find_port, with_action, does_port_signal, does_port_cause, does_port_ignore, reply_port_alert, does_new_msg, unqueued_alert, does_free_msg, does_msg_word, with_message_word, does_set_msg_word, does_msg_type, typed, appended, posted, delivered, put_alert, does_put_msg, reply_alert, does_reply_msg, taken_off, does_get_msg, wait_alert, loses, looked, does_wait_port, replied, taken, does_ports}
use Rattle.execmodel.specs.{Calls.argument, Calls.done, Calls.answered, Calls.waiting, Libraries.is_library_at, Memory.placed, Objects.object_at, Objects.is_kind, Objects.replaced, Objects.place_for_object, Places.block_at, Step.run, OtherBlocks.is_of_ports, OtherBlocks.PortWordsLeaveOtherBlocks}
use Rattle.execmodel.proofs.Libraries.{block_elsewhere, block_rid_there}
use Rattle.execmodel.proofs.OtherBlocks.{apart_by, Becomes, BecomesIn, refused_leaves, either_leaves, asked_for, placed_object_leaves, made_leaves}
use Rattle.execmodel.proofs.{Heaps.true_is_not_false, Commands.passed_first, Commands.passed_other, Commands.is_port_there, Commands.is_loose_there, Commands.performed_memory, Posts.IsTidy, NoStraysLaw.tidy_in_every_state}

port_is : (found : Option Object) → is_kind is_port found ≡ true → is_kind is_of_ports found ≡ true
port_is None is = is
port_is (Some (MsgPort port messages)) is = refl
port_is (Some _) is = true_is_not_false (sym is)

message_is : (found : Option Object) → is_kind is_message found ≡ true → is_kind is_of_ports found ≡ true
message_is None is = is
message_is (Some (Message content)) is = refl
message_is (Some _) is = true_is_not_false (sym is)

-- what the alerts of PutMsg, DeleteMsgPort and ReplyMsg leave
put_there : (port message : ℕ) (heap : Heap) → put_alert port message heap ≡ None → is_port_at port heap ≡ true
unfolding put_alert
put_there port message heap none = (passed_first (is_port_at port heap) _ _ none).0

deleted_there : (port : ℕ) (memory : Memory) → delete_alert port memory ≡ None → is_port_at port memory.heap ≡ true
unfolding delete_alert
deleted_there port memory none = (passed_first (is_port_at port memory.heap) _ _ none).0

awaited_there : (test : Bool) (port : ℕ) (heap : Heap) → (if test then None else port_alert port heap) ≡ None
    → test ≡ false → is_port_at port heap ≡ true
awaited_there true port heap none is = true_is_not_false is
awaited_there false port heap none is = is_port_there port heap none

reply_there : (message : ℕ) (heap : Heap) → reply_alert message heap ≡ None
    → nat_eq (content_of message heap).reply 0 ≡ false
    → is_port_at (content_of message heap).reply heap ≡ true
unfolding reply_alert reply_port_alert
reply_there message heap none is =
    let there = passed_first (is_message_at message heap) _ _ none in
    let loose = passed_other (is_queued message heap) _ _ there.1 in
    awaited_there (nat_eq (content_of message heap).reply 0) (content_of message heap).reply heap loose.1 is

module _ (s : State) (tidy : IsTidy s) (a : ℕ) (none : is_library_at a s.memory.heap ≡ false)
    (apart : is_kind is_of_ports (object_at a s.memory.heap) ≡ false) where
  abbrev LeavesIt : State → Type 0
  LeavesIt r = BecomesIn s tidy a none is_of_ports r

  apart_port : (port : ℕ) → is_port_at port s.memory.heap ≡ true → a ≢ port
  unfolding is_port_at
  apart_port port is = apart_by is_of_ports a port s.memory.heap apart (port_is (object_at port s.memory.heap) is)

  apart_message : (message : ℕ) → is_message_at message s.memory.heap ≡ true → a ≢ message
  unfolding is_message_at
  apart_message message is =
      apart_by is_of_ports a message s.memory.heap apart (message_is (object_at message s.memory.heap) is)

  -- a port gets another action or other messages, and a message another content
  port_same : (port : ℕ) (held : Port) (messages : List ℕ) (heap : Heap) → is_port_at port s.memory.heap ≡ true
      → block_at a (with_port port held messages heap) ≡ block_at a heap
  unfolding with_port
  port_same port held messages heap is = block_elsewhere a port (MsgPort held messages) heap (apart_port port is)

  content_same : (message : ℕ) (content : Content)
      → block_at a (with_content message content s.memory.heap) ≡ block_at a s.memory.heap
  unfolding with_content
  content_same message content = tested (is_message_at message s.memory.heap) refl
    where
      tested : (b : Bool) → is_message_at message s.memory.heap ≡ b
          → block_at a (if b then map (replaced message (Message content)) s.memory.heap else s.memory.heap)
          ≡ block_at a s.memory.heap
      tested true is = block_elsewhere a message (Message content) s.memory.heap (apart_message message is)
      tested false is = refl

  action_leaves : (act : PortAction) (port : ℕ) → is_port_at port s.memory.heap ≡ true
      → Becomes is_of_ports a s.memory.heap (with_action act port s.memory.heap)
  unfolding with_action
  action_leaves act port is = inl (port_same port _ _ s.memory.heap is)

  typed_same : (kind message : ℕ) → block_at a (typed kind message s.memory.heap) ≡ block_at a s.memory.heap
  unfolding typed
  typed_same kind message = content_same message _

  delivered_leaves : (kind port message : ℕ) → is_port_at port s.memory.heap ≡ true
      → LeavesIt (delivered kind port message s)
  unfolding delivered posted appended
  delivered_leaves kind port message is =
      let next = on_memory (on_heap (posted kind port message)) s in
      inl (ap (λ (m : Memory). block_at a m.heap) (performed_memory (arrival_action (port_of port s.memory.heap)) next)
      ∙ port_same port _ _ (typed kind message s.memory.heap) is
      ∙ typed_same kind message)

  replied_leaves : (reply t : ℕ) (call : Call) (message : ℕ)
      → (nat_eq reply 0 ≡ false → is_port_at reply s.memory.heap ≡ true)
      → LeavesIt (replied reply t call message s).state
  unfolding done
  replied_leaves reply t call message there = tested (nat_eq reply 0) refl
    where
      tested : (b : Bool) → nat_eq reply 0 ≡ b
          → LeavesIt (if b then done t call (on_memory (on_heap (typed nt_freemsg message)) s)
          else leaving (put reply message) (done t call (delivered nt_replymsg reply message s))).state
      tested true e = inl (typed_same nt_freemsg message)
      tested false e = delivered_leaves nt_replymsg reply message (there e)

  taken_leaves : (port : ℕ) (message : Option ℕ) (t : ℕ) (call : Call) → is_port_at port s.memory.heap ≡ true
      → LeavesIt (taken port message t call s).state
  unfolding answered taken_off
  taken_leaves port None t call is = inl refl
  taken_leaves port (Some message) t call is = inl (port_same port _ _ s.memory.heap is)

  looked_leaves : (message : Option ℕ) (mask t : ℕ) (call : Call) (r : State) → r.memory ≡ s.memory
      → LeavesIt (looked message mask t call r).state
  unfolding answered waiting
  looked_leaves None mask t call r same = inl (ap (λ (m : Memory). block_at a m.heap) same)
  looked_leaves (Some message) mask t call r same = inl (ap (λ (m : Memory). block_at a m.heap) same)

  created_leaves : (t : ℕ) (call : Call) (bit : ℕ) (place : Option ℕ) (r : State)
      → Becomes is_of_ports a s.memory.heap (placed port_size (MsgPort (new_port t bit) []) place r.memory).heap
      → LeavesIt (port_created t call (Some bit) place r).state
  unfolding answered
  created_leaves t call bit None r becomes = becomes
  created_leaves t call bit (Some address) r becomes = becomes

  makes_leaves : (t : ℕ) (call : Call) (bit : Option ℕ)
      → LeavesIt (makes_port t call bit (on_memory (after_asking_for_port bit) s)).state
  unfolding answered
  makes_leaves t call None = inl refl
  makes_leaves t call (Some bit) =
      let asked = after_asking_for_port (Some bit) s.memory in
      created_leaves t call bit (place_for_object is_port port_size asked) (record s { memory = asked })
      (placed_object_leaves s tidy a none is_of_ports is_port port_size (MsgPort (new_port t bit) []) asked
      (asked_for s tidy a none is_port port_size) refl)

  port_leaves : (word : PortWord) (t : ℕ) (call : Call) → LeavesIt (does_ports word t call s).state
  unfolding does_create_msg_port does_delete_msg_port does_add_port does_rem_port does_find_port does_port_signal does_port_cause does_port_ignore does_new_msg does_free_msg does_msg_word does_set_msg_word does_msg_type does_put_msg does_get_msg does_wait_port does_reply_msg made_public made_private with_message_word answered done
  port_leaves ports.CreateMsgPort t call = makes_leaves t call (grant (negsuc 0) (signals_of s.schedule t))
  port_leaves ports.DeleteMsgPort t call =
      let port = argument 0 call in
      either_leaves s tidy a none is_of_ports (nat_eq port 0) _ _ (inl refl)
      (refused_leaves s tidy a none is_of_ports (delete_alert port s.memory) t call _
      (λ passes. inl (block_rid_there a port s.memory.heap (apart_port port (deleted_there port s.memory passes)))))
  port_leaves ports.AddPort t call =
      refused_leaves s tidy a none is_of_ports
      (add_port_alert (argument 0 call) (cast_signed w32 (argument 2 call)) s.memory) t call _ (λ passes. inl refl)
  port_leaves ports.RemPort t call =
      refused_leaves s tidy a none is_of_ports (rem_port_alert (argument 0 call) s.memory) t call _ (λ passes. inl refl)
  port_leaves ports.FindPort t call = inl refl
  port_leaves ports.PortSignal t call =
      let port = argument 0 call in
      refused_leaves s tidy a none is_of_ports (port_alert port s.memory.heap) t call _
      (λ passes. action_leaves Signal port (is_port_there port s.memory.heap passes))
  port_leaves ports.PortCause t call =
      let port = argument 0 call in
      refused_leaves s tidy a none is_of_ports (port_alert port s.memory.heap) t call _
      (λ passes. action_leaves (Cause _) port (is_port_there port s.memory.heap passes))
  port_leaves ports.PortIgnore t call =
      let port = argument 0 call in
      refused_leaves s tidy a none is_of_ports (port_alert port s.memory.heap) t call _
      (λ passes. action_leaves Ignore port (is_port_there port s.memory.heap passes))
  port_leaves ports.NewMsg t call =
      refused_leaves s tidy a none is_of_ports (reply_port_alert (argument 0 call) s.memory.heap) t call _
      (λ passes. made_leaves s tidy a none is_of_ports is_message message_size
      (Message (new_message (argument 0 call) (argument 1 call))) refl)
  port_leaves ports.FreeMsg t call =
      let message = argument 0 call in
      refused_leaves s tidy a none is_of_ports (unqueued_alert message s.memory.heap) t call _
      (λ passes. inl
      (block_rid_there a message s.memory.heap (apart_message message (is_loose_there message s.memory.heap passes).0)))
  port_leaves ports.MsgWord t call =
      refused_leaves s tidy a none is_of_ports (message_alert (argument 0 call) s.memory.heap) t call _
      (λ passes. inl refl)
  port_leaves ports.SetMsgWord t call =
      refused_leaves s tidy a none is_of_ports (message_alert (argument 0 call) s.memory.heap) t call _
      (λ passes. inl (content_same (argument 0 call) _))
  port_leaves ports.MsgType t call =
      refused_leaves s tidy a none is_of_ports (message_alert (argument 0 call) s.memory.heap) t call _
      (λ passes. inl refl)
  port_leaves ports.PutMsg t call =
      let port = argument 0 call in
      let message = argument 1 call in
      refused_leaves s tidy a none is_of_ports (put_alert port message s.memory.heap) t call _
      (λ passes. delivered_leaves nt_message port message (put_there port message s.memory.heap passes))
  port_leaves ports.GetMsg t call =
      let port = argument 0 call in
      refused_leaves s tidy a none is_of_ports (port_alert port s.memory.heap) t call _
      (λ passes. taken_leaves port (first (messages_of port s.memory.heap)) t call
      (is_port_there port s.memory.heap passes))
  port_leaves ports.WaitPort t call =
      let port = argument 0 call in
      refused_leaves s tidy a none is_of_ports (wait_alert t port s.memory.heap) t call _
      (λ passes. looked_leaves (first (messages_of port s.memory.heap)) (2 ^ (port_of port s.memory.heap).bit) t call
      (on_schedule (loses t call.awaited) s) refl)
  port_leaves ports.ReplyMsg t call =
      let message = argument 0 call in
      refused_leaves s tidy a none is_of_ports (reply_alert message s.memory.heap) t call _
      (λ passes. replied_leaves (content_of message s.memory.heap).reply t call message
      (reply_there message s.memory.heap passes))

pub port_words_leave_other_blocks : PortWordsLeaveOtherBlocks
port_words_leave_other_blocks word t call machine list is = record {
  others = λ a apart none.
      port_leaves (run machine list).state (tidy_in_every_state machine list is) a none apart word t call;
}
