-- What calls on timer requests see: each request by its number (RKM Devices, Timer Device).
use Rattle.std.specs.Prelude.{ℕ, ℤ, pos, negsuc, nat_eq, nat_le, Bool, false, ◌&&◌, ◌||◌, is_some, if◌then◌else◌, Option, Some, None, unwrap_or}
use Rattle.execlist.specs.Pool.{Pooled, given, released, slot, written}
use Rattle.iorequest.specs.declared.fault.ReqFault.TheVariants.{InUse, NotOpen}
use Rattle.iorequest.specs.{declared.fault.ReqFault.ReqFault, declared.request.Request.Request, Request.idle_request, Request.is_under_way, Request.is_opened}

-- ---- parts

-- there is a request of number r
abbrev pub is_request : ℕ → Pooled Request → Bool
is_request r m = is_some (slot m.slots r)

-- request r
abbrev pub request_at : ℕ → Pooled Request → Request
request_at r m = unwrap_or (slot m.slots r) (idle_request 0)

-- a number holds a request with that reply port that is in progress
abbrev pub is_under_way_at : ℕ → Option Request → Bool
is_under_way_at port None = false
is_under_way_at port (Some q) = nat_eq q.port port && is_under_way q

-- ---- refusals

-- request r is not to be in progress (project rule)
abbrev pub in_use_fault : ℕ → Pooled Request → Option ReqFault
in_use_fault r m = if is_under_way (request_at r m) then Some InUse else None

-- request r is to begin: it is not to be in progress, and is to be open (project rule)
abbrev pub begin_fault : ℕ → Pooled Request → Option ReqFault
begin_fault r m =
    if is_under_way (request_at r m) then Some InUse else (if is_opened (request_at r m) then None else Some NotOpen)

-- ---- changes

-- the next number, if there is one, is that of an idle request
abbrev pub request_made : ℕ → Pooled Request → Pooled Request
request_made port m = given (idle_request port) m

-- the number of a request is free again
abbrev pub request_freed : ℕ → Pooled Request → Pooled Request
request_freed r m = released r m

-- request r is another one
abbrev pub with_request : ℕ → Request → Pooled Request → Pooled Request
with_request r q m = written r q m

-- the timer has this unit: UNIT_MICROHZ (0), UNIT_VBLANK (1) or UNIT_WAITUNTIL (3)
abbrev pub is_unit : Option ℕ → Bool
is_unit None = false
is_unit (Some unit) = nat_le unit 1 || nat_eq unit 3

-- the error of opening a unit: 0 if the timer has it, else IOERR_OPENFAIL (-1)
abbrev pub unit_error : Option ℕ → ℤ
unit_error unit = if is_unit unit then pos 0 else negsuc 0

-- request r is open for the unit if the timer has it, and else not open, with the error of that
abbrev pub opened : ℕ → Option ℕ → Pooled Request → Pooled Request
opened r unit m = with_request r (record (request_at r m) { unit = if is_unit unit then unit else None; error = unit_error unit }) m

-- request r is not open
abbrev pub closed : ℕ → Pooled Request → Pooled Request
closed r m = with_request r (record (request_at r m) { unit = None }) m

-- request r has that command and time
abbrev pub written_with : (command secs micros r : ℕ) → Pooled Request → Pooled Request
written_with command secs micros r m =
    with_request r (record (request_at r m) { command = command; secs = secs; micros = micros }) m
