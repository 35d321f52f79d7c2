-- How the machine follows the end of a call.
use Rattle.std.proofs.Common.{◌≡◌, ℕ, List, true, refl, ap, ◌∙◌, ◌∷◌, []}
use Rattle.exectrace.specs.Trace.{Done, Answers, Waits}
use Rattle.exectrace.specs.Trace as trace
use Rattle.script.specs.{Alerts.alert_text, Words.word_text}
use Rattle.scheduler.specs.Schedule.{task_name}
use Rattle.execmodel.specs.{State.Call, State.State, Calls.stored, Calls.goes_on, Calls.keeps, Calls.line_of_call, Calls.done, Calls.answered, Calls.waiting, Calls.silent, Calls.alerted}
use Rattle.execsim.specs.Agreement.{Seen, Agrees, Follows, Quietly, line_seen}
use Rattle.execsim.proofs.Following.{reads_schedule, moves_scripts, moves_stopped, follows_saying, quietly_moves}
use Rattle.exectrace.specs.Hearing.{Hearing}
use Rattle.script.specs.declared.alert.Alert.{Alert}

name_same : {m : Seen} (t : ℕ) (s : State) → Agrees m s → task_name s.schedule t ≡ task_name m.schedule t
name_same t s a = reads_schedule (λ y. task_name y t) (λ y. refl) refl s a

line_same : {m : Seen} (t : ℕ) (call : Call) (outcome : trace.CallEnd) (s : State) → Agrees m s → line_of_call t call outcome s ≡ line_seen t call outcome m
line_same t call outcome s a = ap (λ name. trace.Call name (word_text call.word) call.arguments outcome) (name_same t s a)

pub follows_done : {H : Hearing} {m n : Seen} {a b : H.Told} (t : ℕ) (call : Call) → n ≡ record m { scripts = goes_on t call.next m.scripts }
    → H.hears a b ((line_seen t call Done m) ∷ []) → Follows H (done t call) m n a b
unfolding done
follows_done t call is puts = follows_saying _ (line_same t call Done) puts (moves_scripts (goes_on t call.next) is)

pub follows_answered : {H : Hearing} {m n o : Seen} {a b : H.Told} (t : ℕ) (call : Call) (value : ℕ) → n ≡ record m { scripts = stored t call.target value m.scripts }
    → o ≡ record n { scripts = goes_on t call.next n.scripts } → H.hears a b ((line_seen t call (Answers value) m) ∷ []) → Follows H (answered t call value) m o a b
unfolding answered
follows_answered t call value first is puts = follows_saying _ (line_same t call (Answers value)) puts
    (moves_scripts (λ scripts. goes_on t call.next (stored t call.target value scripts)) (is ∙ ap (λ (x : Seen). record x { scripts = goes_on t call.next x.scripts }) first))

pub follows_waiting : {H : Hearing} {m n : Seen} {a b : H.Told} (t : ℕ) (call : Call) → n ≡ record m { scripts = keeps t call m.scripts }
    → H.hears a b ((line_seen t call Waits m) ∷ []) → Follows H (waiting t call) m n a b
unfolding waiting
follows_waiting t call is puts = follows_saying _ (line_same t call Waits) puts (moves_scripts (keeps t call) is)

pub quietly_silent : {m n o : Seen} (t : ℕ) (call : Call) (value : ℕ) → n ≡ record m { scripts = stored t call.target value m.scripts }
    → o ≡ record n { scripts = goes_on t call.next n.scripts } → Quietly (silent t call value) m o
unfolding silent
quietly_silent t call value first is = quietly_moves
    (moves_scripts (λ scripts. goes_on t call.next (stored t call.target value scripts)) (is ∙ ap (λ (x : Seen). record x { scripts = goes_on t call.next x.scripts }) first))

pub follows_alerted : {H : Hearing} {m n : Seen} {a b : H.Told} (code : Alert) (t : ℕ) (call : Call) → n ≡ record m { stopped = true }
    → H.hears a b ((trace.Alert (alert_text code) (task_name m.schedule t) (word_text call.word)) ∷ []) → Follows H (alerted code t call) m n a b
unfolding alerted
follows_alerted code t call is puts = follows_saying _
    (λ s a. ap (λ name. trace.Alert (alert_text code) name (word_text call.word)) (name_same t s a)) puts (moves_stopped true is)
