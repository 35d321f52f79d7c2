-- When a schedule is settled: no switch is due, and no quantum begins anew.
use Rattle.std.specs.Prelude.{ℕ, Bool, true, false, not, ◌&&◌, Option, None, Some}
use Rattle.execlist.specs.Disciplines.{by_priority}
use Rattle.scheduler.specs.{Schedule.Schedule, Schedule.is_switching_allowed, Schedule.is_quantum_over, Dispatch.switch_of, declared.Switch.Switch}

-- the quantum of the running task, if any, begins anew if no switch is made
abbrev pub begins_anew : Option ℕ → Schedule → Bool
begins_anew None s = false
begins_anew (Some r) s = is_switching_allowed (Some r) s && is_quantum_over s

-- there is no switch
abbrev pub is_none : Option Switch → Bool
is_none None = true
is_none (Some w) = false

-- a reschedule changes nothing, if this switch is due
abbrev pub stays : Option Switch → Schedule → Bool
stays w s = is_none w && not (begins_anew s.running s)

-- a reschedule changes nothing
unfoldable pub is_settled : Schedule → Bool
is_settled s = stays (switch_of by_priority s) s
