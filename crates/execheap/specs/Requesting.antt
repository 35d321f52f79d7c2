-- What the calls on requests by number make of the objects.
use Rattle.std.specs.Prelude.{ℕ, ℤ, pos, Bool, if◌then◌else◌, Option, None, Some}
use Rattle.execlist.specs.Pool.{Pooled}
use Rattle.iorequest.specs.declared.request.Begun.TheVariants.{Finish, NewTime, Queue, Until}
use Rattle.iorequest.specs.declared.request.ReqState.TheVariants.{Idle, UnderWay, Quick, Replied}
use Rattle.iorequest.specs.{declared.request.Begun.Begun, declared.request.Request.Request, declared.request.ReqState.ReqState, Request.in_progress, Request.finished, Request.is_under_way, Request.outcome, Request.reply_port, Requests.request_at, Requests.with_request}
use Rattle.msgport.specs.{declared.action.Action.Action, Port.arrival_action, Ports.MessagePorts, Ports.held, Ports.let_go, Ports.nt_replymsg, Ports.port_at, Ports.posted, Ports.taken_out}
use Rattle.msgport.specs.declared.action.Action.TheVariants as action
use Rattle.timerdev.specs.{Held.on_timer, Timing.AtClock, Timing.AtSystem, Timing.Due, Timing.Timer, Timing.begins_to_wait, Timing.system_set, Timing.waits_no_more}
use Rattle.execheap.specs.{declared.awaited.Awaited.Awaited, Table.Tabled, Table.number_at, Numbered.Numbered, Numbered.message_of_request}
use Rattle.execheap.specs.declared.awaited.Awaited.TheVariants as awaited
use Rattle.execheap.specs.declared.tag.Kind.TheVariants as variant

-- an action on the requests
abbrev pub on_requests : (Pooled Request → Pooled Request) → Numbered → Numbered
on_requests f s = record s { requests = f s.requests }

-- an action on the timer
abbrev pub on_timing : (Timer → Timer) → Numbered → Numbered
on_timing f s = record s { timing = on_timer f s.timing }

-- ---- replies

-- the number of the port that begins at an address, if there is one and a port does
abbrev pub port_number : Option ℕ → Tabled → Option ℕ
port_number None table = None
port_number (Some address) table = number_at variant.Port address table

-- message m is held no more, and is last in a port, if there is one
abbrev pub put_at : Option ℕ → ℕ → MessagePorts → MessagePorts
put_at None m ports = let_go m ports
put_at (Some p) m ports = posted nt_replymsg p m (let_go m ports)

-- what is to be done when a reply arrives at a port; nothing if no port is given
abbrev pub acting_at : Option ℕ → MessagePorts → Action
acting_at None ports = action.Nothing
acting_at (Some p) ports = arrival_action (port_at p ports)

-- the port where the reply of a request is put when it finishes
abbrev pub answering : Request → Numbered → Option ℕ
answering q s = port_number (reply_port q) s.table

-- request r, which holds that, is done, with an error, and its reply is put
abbrev pub done_with : ℤ → Request → ℕ → Numbered → Numbered
done_with error q r s = record s {
  requests = with_request r (finished error q) s.requests;
  ports = put_at (answering q s) (message_of_request r s) s.ports;
}

-- ---- begun

-- request r as it is begun
abbrev pub begun_as : Bool → ℕ → Numbered → Request
begun_as quick r s = in_progress quick s.timing.timer.system (request_at r s.requests)

-- how request r goes on that is begun now
abbrev pub goes_on : ℕ → Numbered → Begun
goes_on r s = outcome s.timing.timer.clock s.timing.timer.system (request_at r s.requests)

-- request r is begun, is held, and waits for that time
abbrev pub begun_until : Due → Bool → ℕ → Numbered → Numbered
begun_until due quick r s = record s {
  requests = with_request r (begun_as quick r s) s.requests;
  ports = held (message_of_request r s) s.ports;
  timing = on_timer (begins_to_wait r due) s.timing;
}

-- request r is begun: it is in progress, or it is done at once, if system time may become another
abbrev pub begun_so : Begun → Bool → ℕ → Numbered → Numbered
begun_so (Queue due) quick r s = begun_until (AtClock due) quick r s
begun_so (Until time) quick r s = begun_until (AtSystem time) quick r s
begun_so (Finish error) quick r s = done_with error (begun_as quick r s) r s
begun_so (NewTime time) quick r s = on_timing (system_set time) (done_with (pos 0) (begun_as quick r s) r s)

abbrev pub begun_now : Bool → ℕ → Numbered → Numbered
begun_now quick r s = begun_so (goes_on r s) quick r s

-- what is to be done for the reply of a request that is begun so
abbrev pub acting_so : Begun → Bool → ℕ → Numbered → Action
acting_so (Queue due) quick r s = action.Nothing
acting_so (Until time) quick r s = action.Nothing
acting_so (Finish error) quick r s = acting_at (answering (begun_as quick r s) s) s.ports
acting_so (NewTime time) quick r s = acting_at (answering (begun_as quick r s) s) s.ports

-- ---- finished

-- request r, which is in progress, is done, with an error, and waits no more
abbrev pub ended : ℤ → ℕ → Numbered → Numbered
ended error r s = on_timing (waits_no_more r) (done_with error (request_at r s.requests) r s)

-- what is to be done for the reply of request r when it is done
abbrev pub acting_ended : ℕ → Numbered → Action
acting_ended r s = acting_at (answering (request_at r s.requests) s) s.ports

-- a request, if there is one, is done with error 0
abbrev pub ended_if : Option ℕ → Numbered → Numbered
ended_if None s = s
ended_if (Some r) s = ended (pos 0) r s

-- the reply of request r is taken out of its port, if it is replied
abbrev pub reply_out : ReqState → ℕ → Numbered → Numbered
reply_out Idle r s = s
reply_out UnderWay r s = s
reply_out Quick r s = s
reply_out Replied r s = record s { ports = taken_out (message_of_request r s) s.ports }

-- what a task gets that looks for a request whose reply port signals by the signal of that number
abbrev pub looked_for : Request → ℕ → Awaited
looked_for q bit = if is_under_way q then awaited.UnderWay bit else awaited.Done q.error
