-- One timer request: how it begins and how it is finished (RKM Devices, Timer Device).
use Rattle.std.specs.Prelude.{ℕ, ◌+◌, ◌*◌, ◌%◌, ◌/◌, ◌^◌, ℤ, pos, negsuc, nat_eq, nat_lt, Bool, true, false, not, ◌&&◌, is_some, if◌then◌else◌, Option, Some, None}
use Rattle.iorequest.specs.declared.request.ReqState.TheVariants.{Idle, UnderWay, Quick, Replied}
use Rattle.iorequest.specs.declared.request.Begun.TheVariants.{Finish, Queue, Until, NewTime}
use Rattle.iorequest.specs.{declared.request.Request.Request, declared.request.ReqState.ReqState, declared.request.Begun.Begun}

-- a request with this reply port that was never begun: it is not open, and its other fields are 0
abbrev pub idle_request : ℕ → Request
idle_request port =
    record { port = port; state = Idle; unit = None; command = 0; secs = 0; micros = 0; error = pos 0; quick = false }

-- the state of a request that is in progress: begun, and not finished
abbrev pub is_way : ReqState → Bool
is_way UnderWay = true
is_way _ = false

-- the request is in progress: it was begun, and is not finished
abbrev pub is_under_way : Request → Bool
is_under_way q = is_way q.state

-- the request is open, for some unit
abbrev pub is_opened : Request → Bool
is_opened q = is_some q.unit

-- ---- time

-- the number of microseconds in a second
abbrev pub second : ℕ
second = 1000000

-- the time field of a request, in microseconds
abbrev pub time_of : Request → ℕ
time_of q = q.secs * second + q.micros

-- ---- the commands of the timer

-- the command is 9, TR_ADDREQUEST
abbrev pub adds : Request → Bool
adds q = nat_eq q.command 9

-- the command is 10, TR_GETSYSTIME
abbrev pub asks_time : Request → Bool
asks_time q = nat_eq q.command 10

-- the command is 11, TR_SETSYSTIME
abbrev pub sets_time : Request → Bool
sets_time q = nat_eq q.command 11

-- the request is open for the unit whose requests name a system time, UNIT_WAITUNTIL
abbrev pub is_until : Request → Bool
is_until q = is_unit_until q.unit where
  -- the unit is 3, UNIT_WAITUNTIL
  is_unit_until : Option ℕ → Bool
  is_unit_until None = false
  is_unit_until (Some unit) = nat_eq unit 3

-- the request is not done at once: it is a TR_ADDREQUEST, and its time field is not 0, or, for UNIT_WAITUNTIL, is later
-- than system time
abbrev pub is_to_wait : (system : ℕ) → Request → Bool
is_to_wait system q = adds q && (if is_until q then nat_lt system (time_of q) else not (nat_eq (time_of q) 0))

-- the time of the clock at which a request is due, if it begins when the clock is at `now`
abbrev pub due_of : ℕ → Request → ℕ
due_of now q = now + time_of q

-- the error of a request that is done at once: IOERR_NOCMD (-3) for a command that the timer does not know, else 0
abbrev pub error_of : Request → ℤ
error_of q = if adds q then pos 0 else (if asks_time q then pos 0 else (if sets_time q then pos 0 else negsuc 2))

-- what comes of a request that begins at this time of the clock and this system time: it sets system time, it waits for
-- a time of one or the other, or it is finished at once
abbrev pub outcome : (now system : ℕ) → Request → Begun
outcome now system q =
    if sets_time q then NewTime (time_of q)
    else (if is_to_wait system q then (if is_until q then Until (time_of q) else Queue (due_of now q)) else Finish (error_of q))

-- the request with system time in its time field, if it asks for that; the seconds are modulo 2 to the power 32
-- (project rule)
abbrev pub with_system_time : (system : ℕ) → Request → Request
with_system_time system q = if asks_time q then record q { secs = system / second % 2 ^ 32; micros = system % second } else q

-- the request in progress: its error is 0, and IOF_QUICK is as the caller asked, but cleared if the request is to wait
abbrev pub in_progress : Bool → (system : ℕ) → Request → Request
in_progress quick system q = record (with_system_time system q) { state = UnderWay; error = pos 0; quick = quick && not (is_to_wait system q) }

-- ---- finishing

-- the state of a request that is done: Quick if IOF_QUICK is set, else Replied
abbrev pub done_state : Bool → ReqState
done_state true = Quick
done_state false = Replied

-- the request that is done, with this error
abbrev pub finished : ℤ → Request → Request
finished error q = record q { state = done_state q.quick; error = error }

-- the port to which the finished request is replied; none if it is done quick
abbrev pub reply_port : Request → Option ℕ
reply_port q = if q.quick then None else Some q.port
