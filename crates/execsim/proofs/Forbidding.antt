-- How the machine follows the words of Forbid and Disable.
use Rattle.std.proofs.Common.{◌≡◌, ℕ, Bool, Option, None, Some, refl, is_some}
use Rattle.forbid.specs.Nesting.{Nesting}
use Rattle.scheduler.specs.Schedule.{Schedule, nesting_of, nested}
use Rattle.execmodel.specs.{State.Call, State.on_schedule, Nesting.done_or_nest, Nesting.gives_nesting}
use Rattle.execsim.specs.Agreement.{Seen, Follows, in_order}
use Rattle.execsim.proofs.Following.{reads_schedule, moves_schedule, follows_as, follows_change}
use Rattle.exectrace.specs.Hearing.{Hearing}

nested-in_order : (t : ℕ) (nesting : Option Nesting) (y : Schedule) → nested t nesting (in_order y) ≡ in_order (nested t nesting y)
nested-in_order t None y = refl
nested-in_order t (Some nesting) y = refl

-- a call that gives task t the nesting that follows its own, or none
pub counts : {H : Hearing} {m n o : Seen} {a b : H.Told} (t : ℕ) (call : Call) (next : Nesting → Option Nesting) (fits : Bool)
    → fits ≡ is_some (next (nesting_of m.schedule t)) → n ≡ record m { schedule = nested t (next (nesting_of m.schedule t)) m.schedule }
    → Follows H (done_or_nest fits t call) n o a b → Follows H (λ s. gives_nesting t call (next (nesting_of s.schedule t)) s) m o a b
counts {H} {m} t call next fits fit is follows = follows_as
    {g = λ s. done_or_nest fits t call (on_schedule (nested t (next (nesting_of m.schedule t))) s)}
    (λ s e.
    let same : nesting_of s.schedule t ≡ nesting_of m.schedule t = reads_schedule (λ y. nesting_of y t) (λ y. refl) refl s e in
    rw (same, fit) refl)
    (follows_change (moves_schedule (nested t (next (nesting_of m.schedule t))) (nested t (next (nesting_of m.schedule t)))
    (nested-in_order t (next (nesting_of m.schedule t))) is) follows)
