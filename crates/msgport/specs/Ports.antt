-- What calls on ports see: the ports and the messages by number, the messages of each port, those that are held, and
-- the public ports (RKM Libraries, Exec Messages and Ports).
use Rattle.std.specs.Prelude.{◌≡◌, ℕ, nat_lt, ℤ, Bool, not, ◌||◌, is_some, IsTrue, if◌then◌else◌, List, [], ◌∷◌, ◌++◌, length, drop, replicate, slice_set, Option, Some, None, unwrap_or}
use Rattle.execlist.specs.{Order.enqueue, Order.first, Order.without_item, Lists.KeyData, Lists.blank, Lists.sequence, Lists.home, Lists.is_at, Lists.pri_of, Lists.times, Pool.Pooled, Pool.all_free, Pool.free_below, Pool.given, Pool.released, Pool.slot, Pool.written}
use Rattle.msgport.specs.declared.fault.PortFault.TheVariants.{NotEmpty, Link, Unknown}
use Rattle.msgport.specs.{declared.fault.PortFault.PortFault, declared.message.Message.Message, Port.Port, Port.new_port}

-- the ports, the messages, and how they are linked
pub record MessagePorts : Type 0 where
  -- each port's task, signal and action, by its number
  pub ports : Pooled Port
  -- each message's type, word and reply port, by its number
  pub messages : Pooled Message
  -- the messages of each port, in order of arrival
  pub queues : List (List ℕ)
  -- the port that has each message, or none
  pub places : List (Option ℕ)
  -- the messages that are held, as they came: in no port, and not to be put at one but by a reply
  pub holding : List ℕ
  -- the public ports, as `enqueue` keeps them
  pub public : List ℕ
  -- the priority and the name of each port, as it was made public last
  pub keys : List KeyData

-- ---- types of messages (exec/nodes.h)

-- NT_UNKNOWN, 0: the type of a message that was never put (include file exec/nodes.h)
abbrev pub nt_unknown : ℕ
nt_unknown = 0

-- NT_MESSAGE, 5: the type of a message that was put
abbrev pub nt_message : ℕ
nt_message = 5

-- NT_FREEMSG, 6: the type of a message that was replied and has no reply port
abbrev pub nt_freemsg : ℕ
nt_freemsg = 6

-- NT_REPLYMSG, 7: the type of a message that was replied
abbrev pub nt_replymsg : ℕ
nt_replymsg = 7

-- ---- parts

-- there is a port of number p
abbrev pub is_port : ℕ → MessagePorts → Bool
is_port p s = is_some (slot s.ports.slots p)

-- there is a message of number m
abbrev pub is_message : ℕ → MessagePorts → Bool
is_message m s = is_some (slot s.messages.slots m)

-- a message that was never put
abbrev pub new_message : ℕ → ℕ → Message
new_message reply word = record { kind = nt_unknown; word = word; reply = reply }

-- port p
abbrev pub port_at : ℕ → MessagePorts → Port
port_at p s = unwrap_or (slot s.ports.slots p) (new_port 0 0)

-- message m
abbrev pub message_at : ℕ → MessagePorts → Message
message_at m s = unwrap_or (slot s.messages.slots m) (new_message 0 0)

-- the messages of port p
abbrev pub messages_of : ℕ → MessagePorts → List ℕ
messages_of p s = sequence s.queues p

-- a port has message m
abbrev pub is_queued : ℕ → MessagePorts → Bool
is_queued m s = is_some (home s.places m)

-- message m is held
abbrev pub is_held : ℕ → MessagePorts → Bool
is_held m s = nat_lt 0 (times m s.holding)

-- a port has message m, or it is held
abbrev pub is_linked : ℕ → MessagePorts → Bool
is_linked m s = is_queued m s || is_held m s

-- port p has messages
abbrev pub has_messages : ℕ → MessagePorts → Bool
has_messages p s = is_some (first (messages_of p s))

-- port p is public
abbrev pub is_public : ℕ → MessagePorts → Bool
is_public p s = nat_lt 0 (times p s.public)

-- ---- refusals

-- message m is to be there, in no port and not held
abbrev pub linked_fault : ℕ → MessagePorts → Option PortFault
linked_fault m s = if not (is_message m s) then Some Unknown else (if is_linked m s then Some Link else None)

-- port p is to be there, and message m too, in no port and not held
abbrev pub post_fault : ℕ → ℕ → MessagePorts → Option PortFault
post_fault p m s = if not (is_port p s) then Some Unknown else linked_fault m s

-- port p is to be there, and message m too, and in no port
abbrev pub reply_fault : ℕ → ℕ → MessagePorts → Option PortFault
reply_fault p m s =
    if not (is_port p s) then Some Unknown
    else (if not (is_message m s) then Some Unknown else (if is_queued m s then Some Link else None))

-- message m is to be there, and in a port
abbrev pub queued_fault : ℕ → MessagePorts → Option PortFault
queued_fault m s = if not (is_message m s) then Some Unknown else (if is_queued m s then None else Some Link)

-- port p is to be there, and not public
abbrev pub private_fault : ℕ → MessagePorts → Option PortFault
private_fault p s = if not (is_port p s) then Some Unknown else (if is_public p s then Some Link else None)

-- port p is to be there, and public
abbrev pub public_fault : ℕ → MessagePorts → Option PortFault
public_fault p s = if not (is_port p s) then Some Unknown else (if is_public p s then None else Some Link)

-- port p is to be there, without messages, and not public
abbrev pub delete_fault : ℕ → MessagePorts → Option PortFault
delete_fault p s =
    if not (is_port p s) then Some Unknown else (if has_messages p s then Some NotEmpty else (if is_public p s then Some Link else None))

-- ---- changes

-- room for that many ports and messages, of which there is none
abbrev pub no_ports : (ports messages : ℕ) → MessagePorts
no_ports ports messages = record {
  ports = all_free ports;
  messages = all_free messages;
  queues = replicate ports [];
  places = replicate messages None;
  holding = [];
  public = [];
  keys = replicate ports blank;
}

-- every port is free, and so is each message below that number; each other message stays, and none is linked
abbrev pub all_freed : ℕ → MessagePorts → MessagePorts
all_freed count s = record (no_ports (length s.ports.slots) (length s.messages.slots)) { messages = free_below count s.messages }

-- the next number, if there is one, is that of a new port or of a new message
abbrev pub port_made : (task bit : ℕ) → MessagePorts → MessagePorts
port_made task bit s = record s { ports = given (new_port task bit) s.ports }

abbrev pub message_made : (reply word : ℕ) → MessagePorts → MessagePorts
message_made reply word s = record s { messages = given (new_message reply word) s.messages }

-- the number of a port or of a message is free again
abbrev pub port_freed : ℕ → MessagePorts → MessagePorts
port_freed p s = record s { ports = released p s.ports }

abbrev pub message_freed : ℕ → MessagePorts → MessagePorts
message_freed m s = record s { messages = released m s.messages }

-- port p or message m is another one
abbrev pub with_port : ℕ → Port → MessagePorts → MessagePorts
with_port p port s = record s { ports = written p port s.ports }

abbrev pub with_message : ℕ → Message → MessagePorts → MessagePorts
with_message m message s = record s { messages = written m message s.messages }

-- message m is of that type
abbrev pub typed : ℕ → ℕ → MessagePorts → MessagePorts
typed kind m s = with_message m (record (message_at m s) { kind = kind }) s

-- message m is last in port p
abbrev pub appended : (p m : ℕ) → MessagePorts → MessagePorts
appended p m s = record s { queues = slice_set s.queues p (messages_of p s ++ m ∷ []); places = slice_set s.places m (Some p) }

-- message m is of that type, and is last in port p (autodocs exec.library/PutMsg and exec.library/ReplyMsg)
abbrev pub posted : ℕ → (p m : ℕ) → MessagePorts → MessagePorts
posted kind p m s = appended p m (typed kind m s)

-- message m is held, after those that are
abbrev pub held : ℕ → MessagePorts → MessagePorts
held m s = record s { holding = s.holding ++ m ∷ [] }

-- message m is not held any more
abbrev pub let_go : ℕ → MessagePorts → MessagePorts
let_go m s = record s { holding = without_item m s.holding }

-- message m is in no port any more
abbrev pub left_port : ℕ → Option ℕ → MessagePorts → MessagePorts
left_port m None s = s
left_port m (Some p) s = record s { queues = slice_set s.queues p (without_item m (messages_of p s)); places = slice_set s.places m None }

abbrev pub taken_out : ℕ → MessagePorts → MessagePorts
taken_out m s = left_port m (home s.places m) s

-- the first message of port p, if there is one, is in no port any more (autodoc exec.library/GetMsg)
abbrev pub taken_off : ℕ → Option ℕ → MessagePorts → MessagePorts
taken_off p None s = s
taken_off p (Some m) s = record s { queues = slice_set s.queues p (drop 1 (messages_of p s)); places = slice_set s.places m None }

-- port p is public under that name, before the first one of lower priority (autodoc exec.library/AddPort)
abbrev pub keyed : ℕ → List ℕ → ℤ → List KeyData → List KeyData
keyed p name pri keys = slice_set keys p (record { pri = pri; name = Some name })

abbrev pub made_public : ℕ → List ℕ → ℤ → MessagePorts → MessagePorts
made_public p name pri s = record s { keys = keyed p name pri s.keys; public = enqueue (pri_of (keyed p name pri s.keys)) s.public p }

-- port p is not public any more (autodoc exec.library/RemPort)
abbrev pub made_private : ℕ → MessagePorts → MessagePorts
made_private p s = record s { public = without_item p s.public }

-- ---- what always holds

-- What the code keeps: one list of public ports and one of held messages, and what is linked lives. The listings say
-- which port is in the first, the holdings which message is in the second.
pub record KeepsPorts (lists : ℕ) (listings : List (Option ℕ)) (stores : ℕ) (holdings : List (Option ℕ)) (s : MessagePorts) : Type 0 where
  pub one_list : lists ≡ 1
  pub one_store : stores ≡ 1
  pub each_queue : length s.queues ≡ length s.ports.slots
  pub each_listing : length listings ≡ length s.ports.slots
  pub each_place : length s.places ≡ length s.messages.slots
  pub each_holding : length holdings ≡ length s.messages.slots
  pub apart : (m h : ℕ) → home holdings m ≡ Some h → home s.places m ≡ None
  pub live_held : (m h : ℕ) → home holdings m ≡ Some h → IsTrue (is_message m s)
  pub live_message : (m p : ℕ) → home s.places m ≡ Some p → IsTrue (is_message m s)
  pub live_port : (m p : ℕ) → home s.places m ≡ Some p → IsTrue (is_port p s)
  pub live_listed : (p h : ℕ) → home listings p ≡ Some h → IsTrue (is_port p s)

-- A message that is queued is once in the port that has it and in no other, one that is held is once among those, and
-- in no port, and a public port is once among the public ones. What is linked lives.
pub record IsSoundPorts (s : MessagePorts) : Type 0 where
  pub stands : (p m : ℕ) → times m (messages_of p s) ≡ (if is_at (home s.places m) p then 1 else 0)
  pub stands_held : (m : ℕ) → times m s.holding ≡ (if is_held m s then 1 else 0)
  pub apart : (m : ℕ) → IsTrue (is_held m s) → home s.places m ≡ None
  pub live_held : (m : ℕ) → IsTrue (is_held m s) → IsTrue (is_message m s)
  pub stands_public : (p : ℕ) → times p s.public ≡ (if is_public p s then 1 else 0)
  pub live_message : (m p : ℕ) → home s.places m ≡ Some p → IsTrue (is_message m s)
  pub live_port : (m p : ℕ) → home s.places m ≡ Some p → IsTrue (is_port p s)
  pub live_public : (p : ℕ) → IsTrue (is_public p s) → IsTrue (is_port p s)
  pub each_queue : length s.queues ≡ length s.ports.slots
  pub each_place : length s.places ≡ length s.messages.slots
  pub each_key : length s.keys ≡ length s.ports.slots
