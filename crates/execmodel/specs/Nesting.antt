-- Forbid and Disable (RKM Libraries, Exec Tasks: forbidding task switching). Each task has two counts of its own, which
-- hold while it runs: while it waits, other tasks may run and interrupts may be served. A count that would leave its
-- range is the alert NEST (project rule).
use Rattle.std.specs.Prelude.{ℕ, Bool, not, if◌then◌else◌, codes, List, Option, None, Some, ⊤, is_some}
use Rattle.forbid.specs.Nesting.{Nesting, after_forbid, after_permit, after_disable, after_enable}
use Rattle.scheduler.specs.Schedule.{nesting_of, nested}
use Rattle.script.specs.declared.word.nesting.NestingWord.{NestingWord}
use Rattle.script.specs.declared.word.nesting.NestingWord.TheVariants as word
use Rattle.execmodel.specs.{State.Call, State.State, State.Outcome, State.on_schedule, Calls.done, Calls.unless}
use Rattle.script.specs.declared.alert.Alert.TheVariants as an_alert
use Rattle.script.specs.declared.alert.Alert.{Alert}

-- the alert of Forbid, Permit, Disable and Enable: NEST if the count would leave its range, -1 to 127
abbrev pub nest_alert : Bool → Option Alert
nest_alert fits = if not fits then Some an_alert.Nest else None

-- Forbid, Permit, Disable or Enable is done, or is refused if the count would leave its range
abbrev pub done_or_nest : Bool → ℕ → Call → State → Outcome
done_or_nest fits t call s = unless (nest_alert fits) t call (done t call) s

-- Forbid, Permit, Disable or Enable of task t: the task gets that nesting, or the call is refused if none is given
abbrev pub gives_nesting : ℕ → Call → Option Nesting → State → Outcome
gives_nesting t call nesting s = done_or_nest (is_some nesting) t call (on_schedule (nested t nesting) s)

-- Forbid: no other task runs until the caller has called Permit as often as Forbid, except while it waits (autodoc
-- exec.library/Forbid)
unfoldable pub does_forbid : ℕ → Call → State → Outcome
does_forbid t call s = gives_nesting t call (after_forbid (nesting_of s.schedule t)) s

-- Permit: takes back one Forbid (autodoc exec.library/Permit)
unfoldable pub does_permit : ℕ → Call → State → Outcome
does_permit t call s = gives_nesting t call (after_permit (nesting_of s.schedule t)) s

-- Disable: no other task runs and no interrupt is served until the caller has called Enable as often as Disable, except
-- while it waits (autodoc exec.library/Disable)
unfoldable pub does_disable : ℕ → Call → State → Outcome
does_disable t call s = gives_nesting t call (after_disable (nesting_of s.schedule t)) s

-- Enable: takes back one Disable (autodoc exec.library/Enable)
unfoldable pub does_enable : ℕ → Call → State → Outcome
does_enable t call s = gives_nesting t call (after_enable (nesting_of s.schedule t)) s

-- ---- the words of this group

-- a call of task t on nesting, by its word
abbrev pub does_nesting : NestingWord → ℕ → Call → State → Outcome
does_nesting word.Forbid t call s = does_forbid t call s
does_nesting word.Permit t call s = does_permit t call s
does_nesting word.Disable t call s = does_disable t call s
does_nesting word.Enable t call s = does_enable t call s

-- the rules of this group, where all of them are to unfold
unfoldable pub nesting_rules : ⊤
unfolding does_disable does_enable does_forbid does_permit
nesting_rules = tt
