-- Signals of tasks (RKM Libraries, Exec Signals).
use Rattle.std.specs.Prelude.{ℕ, ◌-◌, Bool, not, ◌&&◌, if◌then◌else◌, nat_eq, nat_lt, nat_le, bit_and, length, codes, List, Option, None, Some, ⊤}
use Rattle.std.specs.Int.{cast_signed, cast_unsigned, w32}
use Rattle.execlist.specs.Disciplines.{by_arrival}
use Rattle.signals.specs.Signals.{grant, grant_number, is_own_signal}
use Rattle.scheduler.specs.{Schedule.signals_of, Schedule.come_for, Schedule.after_wait, Schedule.allocates_signal, Schedule.frees_signal, Schedule.sets_signals, Dispatch.signalled}
use Rattle.script.specs.declared.word.task_signals.SignalWord.{SignalWord}
use Rattle.script.specs.declared.word.task_signals.SignalWord.TheVariants as word
use Rattle.execmodel.specs.{State.Call, State.Scripts, State.State, State.Outcome, State.on_schedule, Calls.Caller, Calls.ByTask, Calls.argument, Calls.done, Calls.done_by, Calls.answered, Calls.waiting, Calls.unless, Calls.unless_by}
use Rattle.script.specs.declared.alert.Alert.TheVariants as an_alert
use Rattle.script.specs.declared.alert.Alert.{Alert}

-- there is a task of that number; the first one has number 1
abbrev pub is_task : ℕ → Scripts → Bool
is_task number scripts = nat_lt 0 number && nat_le number (length scripts.programs)

-- a mask that scripts may name: signals 12 to 31 alone, as Exec itself uses the others (project rule)
abbrev pub is_mask : ℕ → Bool
is_mask mask = nat_eq (bit_and mask 0xfff) 0

-- the alert of a mask: MASK if it has a signal that scripts may not name
abbrev pub mask_alert : ℕ → Option Alert
mask_alert mask = if not (is_mask mask) then Some an_alert.Mask else None

-- ---- allocating signals

-- AllocSignal a: signal a, from 16 to 31, or for -1 the highest free one, is allocated and cleared, and its number is
-- returned; -1 is returned if no signal is free, signal a is allocated already, or a is another number (autodoc
-- exec.library/AllocSignal; the highest one, and -1 for other numbers: project rule)
unfoldable pub does_alloc_signal : ℕ → Call → State → Outcome
does_alloc_signal t call s =
    let n = cast_signed w32 (argument 0 call) in
    answered t call (cast_unsigned w32 (grant_number (grant n (signals_of s.schedule t)))) (on_schedule (allocates_signal t n) s)

-- the alert of FreeSignal: MASK if the number is not that of a signal that a task may allocate
abbrev pub free_signal_alert : ℕ → Option Alert
free_signal_alert n = if not (is_own_signal n) then Some an_alert.Mask else None

-- FreeSignal a: signal a is no longer allocated; -1 does nothing (autodoc exec.library/FreeSignal; the alert: project
-- rule)
unfoldable pub does_free_signal : ℕ → Call → State → Outcome
does_free_signal t call s =
    let n = argument 0 call in
    if nat_eq n 0xffffffff then done t call s
    else unless (free_signal_alert n) t call (λ s. done t call (on_schedule (frees_signal t n) s)) s

-- SetSignal new mask: returns the signals that were received; then those of the mask become as in new (autodoc
-- exec.library/SetSignal; the alert: project rule)
unfoldable pub does_set_signal : ℕ → Call → State → Outcome
does_set_signal t call s =
    let new = argument 0 call in
    let mask = argument 1 call in
    unless (mask_alert mask) t call
    (λ s. answered t call (signals_of s.schedule t).received (on_schedule (sets_signals t new mask) s)) s

-- ---- signalling and waiting

-- the alert of Signal: HANDLE if there is no task of that number, and else that of the mask
abbrev pub signal_alert : ℕ → ℕ → Scripts → Option Alert
signal_alert number mask scripts = if not (is_task number scripts) then Some an_alert.Handle else mask_alert mask

-- Signal t mask: the task of that number, which is 1 for the first one, receives the signals of the mask; if it waits
-- for one of them, it becomes ready (autodoc exec.library/Signal; the alerts: project rule)
abbrev pub does_signal_by : Caller → Call → State → Outcome
does_signal_by c call s =
    let other = argument 0 call in
    let mask = argument 1 call in
    unless_by (signal_alert other mask s.scripts) c call
    (λ s. done_by c call (on_schedule (signalled by_arrival (other - 1) mask) s)) s

-- Signal, called by task t (autodoc Signal)
unfoldable pub does_signal : ℕ → Call → State → Outcome
does_signal t call s = does_signal_by (ByTask t) call s

-- how a Wait ends: it returns the signals that have come, or its task waits if none has
abbrev pub waited : ℕ → Call → Option ℕ → State → Outcome
waited t call None s = waiting t call s
waited t call (Some signals) s = answered t call signals s

-- Wait mask: returns the signals of the mask that were received, and clears them; if there are none, the task waits for
-- them and tries again when it next runs (autodoc exec.library/Wait; the retry, and the alert: project rule)
unfoldable pub does_wait : ℕ → Call → State → Outcome
does_wait t call s =
    let mask = argument 0 call in
    unless (mask_alert mask) t call
    (λ s. waited t call (come_for mask (signals_of s.schedule t)) (on_schedule (after_wait t mask) s)) s

-- ---- the words of this group

-- a call of task t on signals, by its word
abbrev pub does_signals : SignalWord → ℕ → Call → State → Outcome
does_signals word.AllocSignal t call s = does_alloc_signal t call s
does_signals word.FreeSignal t call s = does_free_signal t call s
does_signals word.SetSignal t call s = does_set_signal t call s
does_signals word.Signal t call s = does_signal t call s
does_signals word.Wait t call s = does_wait t call s

-- the rules of this group, where all of them are to unfold
unfoldable pub signal_rules : ⊤
unfolding does_alloc_signal does_free_signal does_set_signal does_signal does_wait
signal_rules = tt
