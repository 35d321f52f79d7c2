-- What C is shown of a request, and of the messages of a port.
use Rattle.std.specs.Prelude.{ℕ, ◌-◌, ◌^◌, Bool, true, false, if◌then◌else◌, nat_eq, Option, None, Some, option_map, option_and_then}
use Rattle.execlist.specs.{Lists.part_from, Order.first}
use Rattle.iorequest.specs.declared.request.ReqState.TheVariants.{Idle, UnderWay, Quick, Replied}
use Rattle.iorequest.specs.{declared.request.Request.Request, declared.request.ReqState.ReqState}
use Rattle.execheap.specs.{BlockViews.block_view, declared.view.BlockView.BlockView, declared.view.ObjectView.ObjectView}
use Rattle.execheap.specs.declared.view.ObjectView.TheVariants as variant
use Rattle.execmodel.specs.{Memory.block_at, Ports.messages_of}
use Rattle.execsim.specs.Agreement.{Seen}
use Rattle.execsim_c.specs.{Shown.bit, declared.objects.RequestShown.RequestShown}

-- ---- requests

abbrev pub request_state_shown : ReqState → ℕ
request_state_shown Idle = 0
request_state_shown UnderWay = 1
request_state_shown Quick = 2
request_state_shown Replied = 3

-- the unit that a request is open for; the greatest number of 32 bits for none
abbrev pub unit_shown : Option ℕ → ℕ
unit_shown None = 2 ^ 32 - 1
unit_shown (Some unit) = unit

abbrev pub request_shown : Request → RequestShown
request_shown request = record {
  reply_port = request.port;
  state = request_state_shown request.state;
  unit = unit_shown request.unit;
  command = request.command;
  seconds = request.secs;
  micros = request.micros;
  error = request.error;
  quick = bit request.quick;
}

-- the request that is seen at a block, if it is one
abbrev pub request_in : ObjectView → Option Request
request_in (variant.Request request) = Some request
request_in _ = None

-- the request that begins at an address, if one does
abbrev pub request_seen : ℕ → Seen → Option Request
request_seen address seen =
    option_and_then (λ (view : BlockView). request_in view.object) (option_map block_view (block_at address seen.memory.heap))

-- ---- messages

-- the message of an address; none of 0
abbrev pub address_asked : ℕ → Option ℕ
address_asked address = if nat_eq address 0 then None else Some address

-- an address; 0 for none
abbrev pub address_shown : Option ℕ → ℕ
address_shown None = 0
address_shown (Some address) = address

-- the message after one, or the first, in the port that begins at an address, in order of arrival
abbrev pub next_message : (port after : ℕ) → Seen → Option ℕ
next_message port after seen = first (part_from (address_asked after) (messages_of port seen.memory.heap))
