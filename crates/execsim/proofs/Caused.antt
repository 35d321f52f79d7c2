-- How the machine follows the calls on interrupts.
use Rattle.std.proofs.Common.{◌≡◌, ℕ, List, [], ◌∷◌, Some, ap, map, subst, sym, take, ◌∙◌, codes, slice_get, unwrap_or}
use Rattle.exectrace.specs.{Short.short_argument, Trace.Done, Trace.Quoted, declared.lines.ShortArg.ShortArg}
use Rattle.exectrace.specs.Trace as trace
use Rattle.exectrace.specs.declared.lines.ShortArg.TheVariants as short
use Rattle.script.specs.{Words.word_text, declared.word.Word.TheVariants.Interrupts}
use Rattle.script.specs.declared.word.interrupts.InterruptWord.TheVariants as interrupts
use Rattle.scheduler.specs.Schedule.{task_name}
use Rattle.execmodel.specs.{State.Call, Calls.Caller, Calls.ByTask, Calls.done_by, Calls.goes_on, Calls.name_argument, Calls.name_in, Pending.causes, Pending.softint_number, Causing.does_cause_by}
use Rattle.execsim.specs.{Actions.caused, Agreement.Seen, Agreement.Follows, Agreement.line_seen, declared.call.Call.Call as Made, Views.call_view}
use Rattle.execsim.proofs.{Endings.follows_done, Following.reads_bodies, Following.moves_caused, Following.follows_as, Following.follows_change}
use Rattle.exectrace.specs.Hearing.{Hearing}

-- the software interrupt of a name is caused
pub caused_done : {H : Hearing} {m n o : Seen} {a b : H.Told} (c : Caller) (call : Call) (i : ℕ)
    → i ≡ softint_number (unwrap_or (name_argument 0 call) []) m.bodies.softints → n ≡ caused i m → Follows H (done_by c call) n o a b
    → Follows H (does_cause_by c call) m o a b
caused_done c call i named is follows = follows_as
    {g = λ s. done_by c call (causes i s)}
    (λ s e. ap (λ k. done_by c call (causes k s)) (reads_bodies (λ bodies. softint_number (unwrap_or (name_argument 0 call) []) bodies.softints) (sym named) s e))
    (follows_change (moves_caused i is) follows)

-- a list with no more than its first
pub one_only : {X : Type 0} (all : List X) (found : X) → slice_get (take 1 all) 0 ≡ Some found → take 1 all ≡ found ∷ []
one_only [] found none = absurd cc
one_only (x ∷ others) found some = ap (λ y. y ∷ []) cc

-- a call whose only argument is a name
pub quoted_alone : (call : Made) → call.count ≡ 1 → slice_get (take call.count call.arguments) 0 ≡ Some short.Quoted
    → (call_view call).arguments ≡ Quoted call.quoted.bytes ∷ []
quoted_alone call one is = ap (λ (l : List ShortArg). map (short_argument call.quoted.bytes) l)
    (ap (λ n. take n call.arguments) one
    ∙ one_only call.arguments short.Quoted (ap (λ n. slice_get (take n call.arguments) 0) (sym one) ∙ is))

-- Cause of a task, of a name alone, causes the software interrupt of that name, and the task goes on
pub caused_by_task : {H : Hearing} {m n o : Seen} {a b : H.Told} (t : ℕ) (call : Call) (i : ℕ) (own name : List ℕ) → call.word ≡ Interrupts interrupts.Cause
    → call.arguments ≡ Quoted own ∷ [] → i ≡ softint_number own m.bodies.softints → n ≡ caused i m → name ≡ task_name n.schedule t
    → H.hears a b ((trace.Call name (codes "Cause") (Quoted own ∷ []) Done) ∷ [])
    → o ≡ record n { scripts = goes_on t call.next n.scripts } → Follows H (does_cause_by (ByTask t) call) m o a b
caused_by_task {H} {m} {n} {o} {a} {b} t call i own name is alone named moved called puts gone = caused_done (ByTask t) call i
    (named ∙ ap (λ (l : List trace.Argument). softint_number (unwrap_or (name_in (slice_get l 0)) []) m.bodies.softints) (sym alone)) moved
    (follows_done t call gone (subst (λ (line : trace.TraceLine). H.hears a b (line ∷ [])) same puts))
  where
    same : trace.Call name (codes "Cause") (Quoted own ∷ []) Done ≡ line_seen t call Done n
    same = ap (λ (x : List ℕ). trace.Call x (codes "Cause") (Quoted own ∷ []) Done) called
        ∙ ap (λ w. trace.Call (task_name n.schedule t) (word_text w) (Quoted own ∷ []) Done) (sym is)
        ∙ ap (λ (l : List trace.Argument). trace.Call (task_name n.schedule t) (word_text call.word) l Done) (sym alone)
