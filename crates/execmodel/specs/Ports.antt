-- Message ports and messages (RKM Libraries, Exec Messages and Ports). A port has a sequence of messages in order of
-- arrival; a message is in one port at most, once. The public ports are a sequence in order of arrival; the one of a
-- name is the earliest among those of highest priority that have it. An address at which no object of the kind begins
-- is the alert HANDLE; a message that is in a port where it must be in none, or a port that is public where it must not
-- be, or is not public where it must be, is the alert LINK; a port that is in use, or that does not signal the caller,
-- is the alert PORT (project rule).
use Rattle.std.specs.Prelude.{ℕ, ℤ, negsuc, ◌^◌, Bool, true, false, not, ◌&&◌, ◌==◌, if◌then◌else◌, nat_eq, is_some, map, filter, drop, unwrap_or, codes, List, [], ◌∷◌, ◌++◌, Option, None, Some, ⊤}
use Rattle.std.specs.{List.list_any, Int.cast_signed, Int.w32}
use Rattle.execlist.specs.{Order.chosen, Order.first, Lists.name_is, Disciplines.by_arrival}
use Rattle.signals.specs.Signals.{grant}
use Rattle.scheduler.specs.{Schedule.Schedule, Schedule.signals_of, Schedule.allocates_signal, Schedule.clears_and_waits, Schedule.frees_signal, Schedule.sets_signals, Dispatch.signalled}
use Rattle.msgport.specs.declared.action.PortAction.TheVariants.{Signal, Cause, Ignore}
use Rattle.msgport.specs.{declared.action.Action.Action, declared.action.PortAction.PortAction, declared.message.Message.Message as Content, Port.Port, Port.arrival_action, Port.new_port, Port.wait_bit, Ports.new_message, Ports.nt_freemsg, Ports.nt_message, Ports.nt_replymsg}
use Rattle.msgport.specs.declared.action.Action.TheVariants as action
use Rattle.iorequest.specs.Request.{is_under_way}
use Rattle.script.specs.declared.word.ports.PortWord.{PortWord}
use Rattle.script.specs.declared.word.ports.PortWord.TheVariants as word
use Rattle.execmodel.specs.State.{Call, Object, MsgPort, Message, Request, Block, Heap, PublicPort, Memory, State, Outcome, put, got, leaving, on_schedule, on_memory, on_heap}
use Rattle.execmodel.specs.{Calls.Caller, Calls.ByTask, Calls.argument, Calls.name_argument, Calls.done, Calls.done_by, Calls.answered, Calls.answered_by, Calls.waiting, Calls.unless, Calls.unless_by, Pending.causes, Pending.softint_number, LowMemory.after_asking_for_object, Memory.makes_object, Memory.freed, Memory.placed, Objects.object_at, Objects.is_kind, Objects.place_for_object, Objects.replaced, Tasks.is_priority}
use Rattle.script.specs.declared.alert.Alert.TheVariants as an_alert
use Rattle.script.specs.declared.alert.Alert.{Alert}

-- ---- ports and messages in memory

-- the object is a message port
abbrev pub is_port : Object → Bool
is_port (MsgPort port messages) = true
is_port _ = false

-- the object is a message
abbrev pub is_message : Object → Bool
is_message (Message content) = true
is_message _ = false

-- a port begins at an address
unfoldable pub is_port_at : ℕ → Heap → Bool
is_port_at address heap = is_kind is_port (object_at address heap)

-- a message begins at an address
unfoldable pub is_message_at : ℕ → Heap → Bool
is_message_at address heap = is_kind is_message (object_at address heap)

-- the task, the signal and the action of a port, those of a new one for another object
abbrev pub port_in : Object → Port
port_in (MsgPort port messages) = port
port_in _ = new_port 0 0

-- the task, the signal and the action of what begins at an address
abbrev pub port_of_object : Option Object → Port
port_of_object None = new_port 0 0
port_of_object (Some object) = port_in object

-- the task, the signal and the action of the port that begins at an address (RKM Libraries, Exec Messages and Ports)
unfoldable pub port_of : ℕ → Heap → Port
port_of port heap = port_of_object (object_at port heap)

-- the messages of a port, none for another object
abbrev pub messages_in : Object → List ℕ
messages_in (MsgPort port messages) = messages
messages_in _ = []

-- the messages of what begins at an address, none if it is not a port
abbrev pub messages_of_object : Option Object → List ℕ
messages_of_object None = []
messages_of_object (Some object) = messages_in object

-- the messages of the port that begins at an address
unfoldable pub messages_of : ℕ → Heap → List ℕ
messages_of port heap = messages_of_object (object_at port heap)

-- the type, the word and the reply port of a message, those of a new one for another object
abbrev pub content_in : Object → Content
content_in (Message content) = content
content_in _ = new_message 0 0

-- the type, the word and the reply port of what begins at an address
abbrev pub content_of_object : Option Object → Content
content_of_object None = new_message 0 0
content_of_object (Some object) = content_in object

-- the type, the word and the reply port of the message that begins at an address
unfoldable pub content_of : ℕ → Heap → Content
content_of message heap = content_of_object (object_at message heap)

-- an entry of the heap is a port that has the message
abbrev pub has_message : ℕ → ℕ × Block → Bool
has_message message entry = list_any (λ other. other == message) (messages_in entry.1.object)

-- a message, or the reply of a request, is in a port
unfoldable pub is_queued : ℕ → Heap → Bool
is_queued message heap = list_any (has_message message) heap

-- what begins at an address becomes that port, with these messages
unfoldable pub with_port : ℕ → Port → List ℕ → Heap → Heap
with_port address port messages heap = map (replaced address (MsgPort port messages)) heap

-- the message that begins at an address gets that content; if none begins there, nothing changes
unfoldable pub with_content : ℕ → Content → Heap → Heap
with_content address content heap =
    if is_message_at address heap then map (replaced address (Message content)) heap else heap

-- the alert of a call on a port: HANDLE if no port begins at the address
unfoldable pub port_alert : ℕ → Heap → Option Alert
port_alert port heap = if not (is_port_at port heap) then Some an_alert.Handle else None

-- the alert of a call on a message: HANDLE if no message begins at the address
unfoldable pub message_alert : ℕ → Heap → Option Alert
message_alert message heap = if not (is_message_at message heap) then Some an_alert.Handle else None

-- ---- public ports

-- a port is public (autodoc AddPort)
abbrev pub is_public : ℕ → Memory → Bool
is_public port memory = list_any (λ (public : PublicPort). public.port == port) memory.public

-- the priority of a public port
abbrev pub priority_of_public : PublicPort → ℤ
priority_of_public public = public.key.pri

-- a public port has that name, byte for byte
abbrev pub is_called : List ℕ → PublicPort → Bool
is_called name public = name_is public.key.name name

-- a public port with that name and priority
abbrev pub under : ℕ → List ℕ → ℤ → PublicPort
under port name pri = record { port = port; key = record { pri = pri; name = Some name } }

-- a port becomes public, after those that are (autodocs AddPort and RemPort)
unfoldable pub made_public : ℕ → List ℕ → ℤ → Memory → Memory
made_public port name pri memory = record memory { public = memory.public ++ under port name pri ∷ [] }

-- a port is no longer public
unfoldable pub made_private : ℕ → Memory → Memory
made_private port memory = record memory { public = filter (λ (public : PublicPort). not (public.port == port)) memory.public }

-- the address of a public port, or 0 for none
abbrev pub port_or_none : Option PublicPort → ℕ
port_or_none None = 0
port_or_none (Some public) = public.port

-- the public port of a name: the earliest among those of highest priority that have it, or 0 if none has (autodoc
-- FindPort)
unfoldable pub found_port : List ℕ → Memory → ℕ
found_port name memory = port_or_none (chosen priority_of_public (filter (is_called name) memory.public))

-- ---- making and freeing ports

-- the size of a port in bytes: Exec's MsgPort (include file exec/ports.h)
abbrev pub port_size : ℕ
port_size = 34

-- the size of a message in bytes: Exec's Message, and 4 for the word (include file exec/ports.h)
abbrev pub message_size : ℕ
message_size = 24

-- CreateMsgPort is done: the caller gets a port at that address, and the signal of that number, and the address is
-- returned; if either is not given, nothing changes and 0 is returned
abbrev pub port_created : ℕ → Call → Option ℕ → Option ℕ → State → Outcome
port_created t call None place s = answered t call 0 s
port_created t call (Some bit) None s = answered t call 0 s
port_created t call (Some bit) (Some address) s =
    answered t call address
    (on_schedule (allocates_signal t (negsuc 0)) (on_memory (placed port_size (MsgPort (new_port t bit) []) (Some address)) s))

-- the memory after libraries were asked for memory for a port; if there is no signal for the port, none is asked
-- (project rule)
abbrev pub after_asking_for_port : Option ℕ → Memory → Memory
after_asking_for_port None memory = memory
after_asking_for_port (Some bit) memory = after_asking_for_object is_port port_size memory

-- CreateMsgPort makes a port, if the pool allows one more, there is a place for it, and the caller has a signal left
abbrev pub makes_port : ℕ → Call → Option ℕ → State → Outcome
makes_port t call bit s = port_created t call bit (place_for_object is_port port_size s.memory) s

-- CreateMsgPort: returns the address of a new port of the caller, which signals the caller by a newly allocated signal;
-- or 0 if it cannot be made (autodoc exec.library/CreateMsgPort)
unfoldable pub does_create_msg_port : ℕ → Call → State → Outcome
does_create_msg_port t call s =
    let bit = grant (negsuc 0) (signals_of s.schedule t) in
    makes_port t call bit (on_memory (after_asking_for_port bit) s)

-- an object is a request in progress whose reply goes to that port
abbrev pub replies_to : ℕ → Object → Bool
replies_to port (Request content) = nat_eq content.port port && is_under_way content
replies_to port _ = false

-- a request in progress has that reply port
unfoldable pub is_awaited_at : ℕ → Heap → Bool
is_awaited_at port heap = list_any (λ (entry : ℕ × Block). replies_to port entry.1.object) heap

-- the alert of a call that frees a port: HANDLE if none begins there, PORT if it has a message, is public, or is the
-- reply port of a request in progress
unfoldable pub delete_alert : ℕ → Memory → Option Alert
delete_alert port memory =
    if not (is_port_at port memory.heap) then Some an_alert.Handle
    else (if is_some (first (messages_of port memory.heap)) then Some an_alert.Port
    else (if is_public port memory then Some an_alert.Port
    else (if is_awaited_at port memory.heap then Some an_alert.Port else None)))

-- the signal of a port is no longer allocated by its task (autodoc DeleteMsgPort)
abbrev pub gives_back : Port → Schedule → Schedule
gives_back port s = frees_signal port.task port.bit s

-- DeleteMsgPort port: the port is freed, and its signal is given back to its task, whichever task calls; 0 does nothing
-- (autodoc exec.library/DeleteMsgPort; the alerts: project rule)
unfoldable pub does_delete_msg_port : ℕ → Call → State → Outcome
does_delete_msg_port t call s =
    let port = argument 0 call in
    if nat_eq port 0 then done t call s
    else unless (delete_alert port s.memory) t call
    (λ s. done t call (on_schedule (gives_back (port_of port s.memory.heap)) (on_memory (freed port) s))) s

-- ---- public ports: calls

-- the alert of AddPort: HANDLE if no port begins there, VALUE if the priority is not one that a task may have, LINK if
-- the port is public already
unfoldable pub add_port_alert : ℕ → ℤ → Memory → Option Alert
add_port_alert port pri memory =
    if not (is_port_at port memory.heap) then Some an_alert.Handle
    else (if not (is_priority pri) then Some an_alert.Value
    else (if is_public port memory then Some an_alert.Link else None))

-- AddPort port name pri: the port becomes public under the name; its messages stay (autodoc exec.library/AddPort; that
-- the priority is read as a signed word, that the messages stay, and the alerts: project rule)
unfoldable pub does_add_port : ℕ → Call → State → Outcome
does_add_port t call s =
    let port = argument 0 call in
    let name = unwrap_or (name_argument 1 call) [] in
    let pri = cast_signed w32 (argument 2 call) in
    unless (add_port_alert port pri s.memory) t call (λ s. done t call (on_memory (made_public port name pri) s)) s

-- the alert of RemPort: HANDLE if no port begins there, LINK if it is not public
unfoldable pub rem_port_alert : ℕ → Memory → Option Alert
rem_port_alert port memory =
    if not (is_port_at port memory.heap) then Some an_alert.Handle
    else (if is_public port memory then None else Some an_alert.Link)

-- RemPort port: the port is no longer public (autodoc exec.library/RemPort; the alerts: project rule)
unfoldable pub does_rem_port : ℕ → Call → State → Outcome
does_rem_port t call s =
    let port = argument 0 call in
    unless (rem_port_alert port s.memory) t call (λ s. done t call (on_memory (made_private port) s)) s

-- FindPort name: returns the public port of that name, or 0 if there is none (autodoc exec.library/FindPort)
unfoldable pub does_find_port : ℕ → Call → State → Outcome
does_find_port t call s = answered t call (found_port (unwrap_or (name_argument 0 call) []) s.memory) s

-- ---- the action of a port

-- a port gets that action
unfoldable pub with_action : PortAction → ℕ → Heap → Heap
with_action act port heap = with_port port (record (port_of port heap) { action = act }) (messages_of port heap) heap

-- PortSignal port: from now on the port signals its task when a message arrives, as a new port does (RKM Libraries,
-- Exec Messages and Ports: mp_Flags, PA_SIGNAL; that there is a call for it: project rule)
unfoldable pub does_port_signal : ℕ → Call → State → Outcome
does_port_signal t call s =
    let port = argument 0 call in
    unless (port_alert port s.memory.heap) t call (λ s. done t call (on_memory (on_heap (with_action Signal port)) s)) s

-- PortCause port name: from now on the port causes the software interrupt of that name when a message arrives (RKM
-- Libraries, Exec Messages and Ports: mp_Flags, PA_SOFTINT; that there is a call for it: project rule)
unfoldable pub does_port_cause : ℕ → Call → State → Outcome
does_port_cause t call s =
    let port = argument 0 call in
    let i = softint_number (unwrap_or (name_argument 1 call) []) s.bodies.softints in
    unless (port_alert port s.memory.heap) t call (λ s. done t call (on_memory (on_heap (with_action (Cause i) port)) s)) s

-- PortIgnore port: from now on the port does nothing when a message arrives (RKM Libraries, Exec Messages and Ports:
-- mp_Flags, PA_IGNORE; that there is a call for it: project rule)
unfoldable pub does_port_ignore : ℕ → Call → State → Outcome
does_port_ignore t call s =
    let port = argument 0 call in
    unless (port_alert port s.memory.heap) t call (λ s. done t call (on_memory (on_heap (with_action Ignore port)) s)) s

-- ---- making and freeing messages

-- the alert of a reply port: none for 0, as there is no reply port then; else HANDLE if no port begins there
unfoldable pub reply_port_alert : ℕ → Heap → Option Alert
reply_port_alert port heap = if nat_eq port 0 then None else port_alert port heap

-- NewMsg port word: returns the address of a new message with that word, and with that reply port, or with none for 0;
-- or returns 0 if it cannot be made (project rule)
unfoldable pub does_new_msg : ℕ → Call → State → Outcome
does_new_msg t call s =
    let reply = argument 0 call in
    let content = new_message reply (argument 1 call) in
    unless (reply_port_alert reply s.memory.heap) t call
    (λ s. makes_object t call is_message message_size (Message content) (on_memory (after_asking_for_object is_message message_size) s)) s

-- the alert of a call on a message that must be in no port: HANDLE if none begins there, LINK if it is in a port
unfoldable pub unqueued_alert : ℕ → Heap → Option Alert
unqueued_alert message heap =
    if not (is_message_at message heap) then Some an_alert.Handle
    else (if is_queued message heap then Some an_alert.Link else None)

-- FreeMsg message: a message that is in no port is freed (project rule)
unfoldable pub does_free_msg : ℕ → Call → State → Outcome
does_free_msg t call s =
    let message = argument 0 call in
    unless (unqueued_alert message s.memory.heap) t call (λ s. done t call (on_memory (freed message) s)) s

-- ---- what a message holds

-- MsgWord message: returns its word (project rule)
unfoldable pub does_msg_word : ℕ → Call → State → Outcome
does_msg_word t call s =
    let message = argument 0 call in
    unless (message_alert message s.memory.heap) t call (λ s. answered t call (content_of message s.memory.heap).word s) s

-- a message gets that word
unfoldable pub with_message_word : ℕ → ℕ → Heap → Heap
with_message_word message value heap = with_content message (record (content_of message heap) { word = value }) heap

-- SetMsgWord message word: the message gets that word (project rule)
unfoldable pub does_set_msg_word : ℕ → Call → State → Outcome
does_set_msg_word t call s =
    let message = argument 0 call in
    unless (message_alert message s.memory.heap) t call
    (λ s. done t call (on_memory (on_heap (with_message_word message (argument 1 call))) s)) s

-- MsgType message: returns its type, 0 for a new one (RKM Libraries, Exec Messages and Ports: ln_Type; that a new one
-- has type 0, and that there is a call for it: project rule)
unfoldable pub does_msg_type : ℕ → Call → State → Outcome
does_msg_type t call s =
    let message = argument 0 call in
    unless (message_alert message s.memory.heap) t call (λ s. answered t call (content_of message s.memory.heap).kind s) s

-- ---- putting and replying

-- a message gets that type; an object of another kind stays as it is (autodocs PutMsg and ReplyMsg)
unfoldable pub typed : ℕ → ℕ → Heap → Heap
typed kind message heap = with_content message (record (content_of message heap) { kind = kind }) heap

-- a message or a request, by its address, becomes the last in a port
unfoldable pub appended : ℕ → ℕ → Heap → Heap
appended port message heap = with_port port (port_of port heap) (messages_of port heap ++ message ∷ []) heap

-- a message gets that type, and becomes the last in a port
unfoldable pub posted : ℕ → ℕ → ℕ → Heap → Heap
posted kind port message heap = appended port message (typed kind message heap)

-- the action of a port is done for a message that has arrived: a signal, a software interrupt, or nothing
abbrev pub performed : Action → State → State
performed (action.Signal task mask) s = on_schedule (signalled by_arrival task mask) s
performed (action.Cause i) s = causes i s
performed action.Nothing s = s

-- a message gets that type and becomes the last in a port, and then the port acts (autodocs PutMsg and ReplyMsg)
unfoldable pub delivered : ℕ → ℕ → ℕ → State → State
delivered kind port message s =
    performed (arrival_action (port_of port s.memory.heap)) (on_memory (on_heap (posted kind port message)) s)

-- the alert of PutMsg: HANDLE if the port or the message is not there, LINK if the message is in a port
unfoldable pub put_alert : ℕ → ℕ → Heap → Option Alert
put_alert port message heap = if not (is_port_at port heap) then Some an_alert.Handle else unqueued_alert message heap

-- PutMsg port message: the message is put at the port, after those that are there, and the port acts (autodoc
-- exec.library/PutMsg; the alerts: project rule)
abbrev pub does_put_msg_by : Caller → Call → State → Outcome
does_put_msg_by c call s =
    let port = argument 0 call in
    let message = argument 1 call in
    unless_by (put_alert port message s.memory.heap) c call
    (λ s. leaving (put port message) (done_by c call (delivered nt_message port message s))) s

-- PutMsg, called by task t (autodoc PutMsg)
unfoldable pub does_put_msg : ℕ → Call → State → Outcome
does_put_msg t call s = does_put_msg_by (ByTask t) call s

-- the alert of ReplyMsg: HANDLE if the message, or its reply port, if it has one, is not there; LINK if the message is
-- in a port
unfoldable pub reply_alert : ℕ → Heap → Option Alert
reply_alert message heap =
    if not (is_message_at message heap) then Some an_alert.Handle
    else (if is_queued message heap then Some an_alert.Link else reply_port_alert (content_of message heap).reply heap)

-- ReplyMsg is done, for a message whose reply port is at that address, or is 0 if it has none
abbrev pub replied_by : ℕ → Caller → Call → ℕ → State → Outcome
replied_by reply c call message s =
    if nat_eq reply 0 then done_by c call (on_memory (on_heap (typed nt_freemsg message)) s)
    else leaving (put reply message) (done_by c call (delivered nt_replymsg reply message s))

-- ReplyMsg is done, called by task t
abbrev pub replied : ℕ → ℕ → Call → ℕ → State → Outcome
replied reply t call message s = replied_by reply (ByTask t) call message s

-- ReplyMsg message: the message is put at its reply port, the one that begins at that address now, and the port acts; a
-- message without a reply port gets the type NT_FREEMSG (autodoc exec.library/ReplyMsg; the alerts: project rule)
abbrev pub does_reply_msg_by : Caller → Call → State → Outcome
does_reply_msg_by c call s =
    let message = argument 0 call in
    unless_by (reply_alert message s.memory.heap) c call
    (λ s. replied_by (content_of message s.memory.heap).reply c call message s) s

-- ReplyMsg, called by task t (autodoc ReplyMsg)
unfoldable pub does_reply_msg : ℕ → Call → State → Outcome
does_reply_msg t call s = does_reply_msg_by (ByTask t) call s

-- ---- taking and waiting

-- a port loses its first message (autodoc GetMsg)
unfoldable pub taken_off : ℕ → Heap → Heap
taken_off port heap = with_port port (port_of port heap) (drop 1 (messages_of port heap)) heap

-- GetMsg is done: the first message of a port, if there is one, leaves the port and is returned; else 0 is returned
abbrev pub taken_by : ℕ → Option ℕ → Caller → Call → State → Outcome
taken_by port None c call s = answered_by c call 0 s
taken_by port (Some message) c call s = leaving (got port message) (answered_by c call message (on_memory (on_heap (taken_off port)) s))

-- GetMsg is done, called by task t
abbrev pub taken : ℕ → Option ℕ → ℕ → Call → State → Outcome
taken port message t call s = taken_by port message (ByTask t) call s

-- GetMsg port: returns the first message, which leaves the port, or 0 if there is none (autodoc exec.library/GetMsg)
abbrev pub does_get_msg_by : Caller → Call → State → Outcome
does_get_msg_by c call s =
    let port = argument 0 call in
    unless_by (port_alert port s.memory.heap) c call (λ s. taken_by port (first (messages_of port s.memory.heap)) c call s) s

-- GetMsg, called by task t (autodoc GetMsg)
unfoldable pub does_get_msg : ℕ → Call → State → Outcome
does_get_msg t call s = does_get_msg_by (ByTask t) call s

-- the alert of WaitPort for task t: HANDLE if no port begins there, PORT if it does not signal that task
unfoldable pub wait_alert : ℕ → ℕ → Heap → Option Alert
wait_alert t port heap =
    if not (is_port_at port heap) then Some an_alert.Handle
    else (if is_some (wait_bit t (port_of port heap)) then None else Some an_alert.Port)

-- task t loses the signals of the mask that it has received
abbrev pub loses : ℕ → ℕ → Schedule → Schedule
loses t mask s = sets_signals t 0 mask s

-- WaitPort returns the first message, if there is one; else the task clears the signals of the mask that it has
-- received, and waits for one that comes from now on (autodoc WaitPort)
abbrev pub looked : Option ℕ → ℕ → ℕ → Call → State → Outcome
looked None mask t call s = waiting t (record call { awaited = mask }) (on_schedule (clears_and_waits t mask) s)
looked (Some message) mask t call s = answered t call message s

-- WaitPort port: returns the first message of the port, and leaves it there; if there is none, the task waits for the
-- port's signal, and looks again when it next runs, after the signal that it waited for is cleared (autodoc
-- exec.library/WaitPort; how a task waits and looks again, and the alerts: project rule)
unfoldable pub does_wait_port : ℕ → Call → State → Outcome
does_wait_port t call s =
    let port = argument 0 call in
    unless (wait_alert t port s.memory.heap) t call
    (λ s.
    let mask = 2 ^ (port_of port s.memory.heap).bit in
    let cleared = on_schedule (loses t call.awaited) s in
    looked (first (messages_of port s.memory.heap)) mask t call cleared) s

-- ---- the words of this group

-- a call of task t on ports and messages, by its word
abbrev pub does_ports : PortWord → ℕ → Call → State → Outcome
does_ports word.CreateMsgPort t call s = does_create_msg_port t call s
does_ports word.DeleteMsgPort t call s = does_delete_msg_port t call s
does_ports word.AddPort t call s = does_add_port t call s
does_ports word.RemPort t call s = does_rem_port t call s
does_ports word.FindPort t call s = does_find_port t call s
does_ports word.PortSignal t call s = does_port_signal t call s
does_ports word.PortCause t call s = does_port_cause t call s
does_ports word.PortIgnore t call s = does_port_ignore t call s
does_ports word.NewMsg t call s = does_new_msg t call s
does_ports word.FreeMsg t call s = does_free_msg t call s
does_ports word.MsgWord t call s = does_msg_word t call s
does_ports word.SetMsgWord t call s = does_set_msg_word t call s
does_ports word.MsgType t call s = does_msg_type t call s
does_ports word.PutMsg t call s = does_put_msg t call s
does_ports word.GetMsg t call s = does_get_msg t call s
does_ports word.WaitPort t call s = does_wait_port t call s
does_ports word.ReplyMsg t call s = does_reply_msg t call s

-- the rules of this group, where all of them are to unfold
unfoldable pub port_rules : ⊤
unfolding add_port_alert appended content_of delete_alert delivered does_add_port does_create_msg_port does_delete_msg_port does_find_port does_free_msg does_get_msg does_msg_type does_msg_word does_new_msg does_port_cause does_port_ignore does_port_signal does_put_msg does_rem_port does_reply_msg does_set_msg_word does_wait_port found_port is_awaited_at is_message_at is_port_at is_queued unqueued_alert made_private made_public message_alert messages_of port_alert port_of posted put_alert rem_port_alert reply_alert reply_port_alert taken_off typed wait_alert with_action with_content with_port with_message_word
port_rules = tt
