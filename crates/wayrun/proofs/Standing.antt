-- How the tasks of a machine are, by the state that it agrees with.
use Rattle.std.proofs.Common.{◌≡◌, ◌∙◌, ℕ, zero, suc, Bool, true, false, Option, None, Some, List, ◌++◌, refl, ap, ap₂}
use Rattle.scheduler.specs.Schedule.{Schedule, task_count}
use Rattle.execmodel.specs.State.{Scripts, State}
use Rattle.execsim.specs.{Agreement.Agrees, Agreement.Seen, Agreement.in_order, Headline.flow_of, declared.machine.Flow.Flow, WaitingLines.runs_text, WaitingLines.standing_text, WaitingLines.wait_text, WaitingLines.waits_text}
use Rattle.wayrun.specs.Seen.{ending, stops}

-- in which order the ready tasks are kept makes no difference
waits_in_order : (n : ℕ) (s : Schedule) (scripts : Scripts) → waits_text n (in_order s) scripts ≡ waits_text n s scripts
waits_in_order zero s scripts = refl
waits_in_order (suc n) s scripts = ap (λ t. t ++ wait_text n s scripts) (waits_in_order n s scripts)

runs_in_order : (running : Option ℕ) (s : Schedule) → runs_text running (in_order s) ≡ runs_text running s
runs_in_order None s = refl
runs_in_order (Some t) s = refl

standing_in_order : (s : Schedule) (scripts : Scripts) → standing_text (in_order s) scripts ≡ standing_text s scripts
standing_in_order s scripts = ap₂ (λ (a b : List ℕ). a ++ b) (runs_in_order s.running s) (waits_in_order (task_count s) s scripts)

standing_agrees : (seen : Seen) (s : State) → Agrees seen s → standing_text seen.schedule seen.scripts ≡ standing_text s.schedule s.scripts
standing_agrees seen s agrees = ap₂ standing_text agrees.schedule agrees.scripts ∙ standing_in_order s.schedule s.scripts

same : (b : Bool) (seen : Seen) (s : State) → Agrees seen s → ending b seen.schedule seen.scripts ≡ ending b s.schedule s.scripts
same true seen s agrees = refl
same false seen s agrees = standing_agrees seen s agrees

stops_flow : (b : Bool) → stops (flow_of b) ≡ b
stops_flow true = refl
stops_flow false = refl

-- how a run ends, as its machine reports it
pub ending_is : (flow : Flow) (seen : Seen) (s : State) → flow ≡ flow_of seen.stopped → Agrees seen s
    → ending (stops flow) seen.schedule seen.scripts ≡ ending s.stopped s.schedule s.scripts
ending_is flow seen s is agrees =
    ap (λ (b : Bool). ending b seen.schedule seen.scripts) (ap stops is ∙ stops_flow seen.stopped ∙ agrees.stopped) ∙ same s.stopped seen s agrees
