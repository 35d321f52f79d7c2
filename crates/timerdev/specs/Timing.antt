-- What timer.device keeps: its clock, system time, and the requests that wait, each for a time of the clock or for a
-- system time (Devices, timer device). Each request has a number: in the abstract machine this is its address. The
-- requests that wait are kept in the order in which they were begun, and are never sorted: of those whose time has
-- come, the next to finish is the one that is due first, and of those that are due at one time the one that was begun
-- first.
use Rattle.std.specs.Prelude.{ℕ, ℤ, pos, neg_ℤ, ◌+◌, ◌-ℤ◌, ◌==◌, nat_le, Bool, true, false, not, ◌&&◌, List, [], ◌∷◌, ◌++◌, filter, Option, option_map}
use Rattle.std.specs.List.{list_any}
use Rattle.execlist.specs.Order.{chosen}

-- the time that a request waits for, in microseconds
pub data Due : Type 0 where
  -- a time of the clock (UNIT_MICROHZ, UNIT_VBLANK)
  AtClock : (time : ℕ) → Due
  -- a system time (UNIT_WAITUNTIL)
  AtSystem : (time : ℕ) → Due

-- a request that waits, and the time that it waits for
pub record Waiting : Type 0 where
  pub request : ℕ
  pub due : Due

-- The clock, system time, and what both gain at each tick, in microseconds; whether system time was set and the
-- requests that wait for it were not looked at since; and the requests that wait, in the order in which they were
-- begun. (RKM Devices, Timer Device)
pub record Timer : Type 0 where
  pub clock : ℕ
  pub system : ℕ
  pub tick_micros : ℕ
  pub is_set : Bool
  pub waiting : List Waiting

-- a timer before its first tick: no request waits, and clock and system time begin at 0 (project rule)
abbrev pub new_timer : ℕ → Timer
new_timer tick_micros = record { clock = 0; system = 0; tick_micros = tick_micros; is_set = false; waiting = [] }

-- ---- the clock, and system time

-- how far system time is ahead of the clock; negative if it is behind
abbrev pub offset : Timer → ℤ
offset timer = pos timer.system -ℤ pos timer.clock

-- clock and system time gain one tick
abbrev pub clock_ticked : Timer → Timer
clock_ticked timer = record timer { clock = timer.clock + timer.tick_micros; system = timer.system + timer.tick_micros }

-- system time becomes this time; the clock stays (autodoc timer.device TR_SETSYSTIME)
abbrev pub system_set : ℕ → Timer → Timer
system_set time timer = record timer { system = time; is_set = true }

-- the requests that wait for system time were looked at
abbrev pub looked_at : Timer → Timer
looked_at timer = record timer { is_set = false }

-- ---- one request that waits

-- the time of the clock at which a due time comes; for a system time, this depends on the offset
abbrev pub moment : Timer → Due → ℤ
moment timer (AtClock time) = pos time
moment timer (AtSystem time) = pos time -ℤ offset timer

-- a due time has come (RKM Devices, Timer Device)
abbrev pub is_due : Timer → Due → Bool
is_due timer (AtClock time) = nat_le time timer.clock
is_due timer (AtSystem time) = nat_le time timer.system

-- the due time is a system time
abbrev pub is_system : Due → Bool
is_system (AtClock time) = false
is_system (AtSystem time) = true

-- the priority of a request among those that wait: the sooner it is due, the greater
abbrev pub sooner : Timer → Waiting → ℤ
sooner timer waiting = neg_ℤ (moment timer waiting.due)

-- ---- those that wait

-- a request waits, after those that were begun before
abbrev pub begins_to_wait : ℕ → Due → Timer → Timer
begins_to_wait request due timer = record timer { waiting = timer.waiting ++ record { request = request; due = due } ∷ [] }

-- a request does not wait any more
abbrev pub waits_no_more : ℕ → Timer → Timer
waits_no_more request timer = record timer { waiting = filter (λ (w : Waiting). not (w.request == request)) timer.waiting }

-- a request waits
abbrev pub is_waiting : ℕ → Timer → Bool
is_waiting request timer = list_any (λ (w : Waiting). w.request == request) timer.waiting

-- of the requests that pass a test, the one that finishes next, if there is one: the one that is due first, and of
-- those that are due at one time the one that was begun first
unfoldable pub next_of : (Waiting → Bool) → Timer → Option ℕ
next_of passes timer = option_map (λ (w : Waiting). w.request) (chosen (sooner timer) (filter passes timer.waiting))

-- of all requests that wait, the one that finishes next, if the time of one has come (RKM Devices, Timer Device)
unfoldable pub due_next : Timer → Option ℕ
due_next timer = next_of (λ (w : Waiting). is_due timer w.due) timer

-- of the requests that wait for a system time, the one that finishes next, if the time of one has come
unfoldable pub until_next : Timer → Option ℕ
until_next timer = next_of (λ (w : Waiting). is_system w.due && is_due timer w.due) timer
