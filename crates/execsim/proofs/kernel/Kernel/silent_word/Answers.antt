-- The proof of `Kernel::silent_word`: task t does what it does next, if that is a plain word that prints nothing.
use Rattle.execsim.proofs.Changing.{changed_as, tasks_after}
use Rattle.execsim.proofs.kernel.Kernel.silent_word.Goals as goal

pub returns-in-Some-clause-follows : goal.returns-in-Some-clause-follows
returns-in-Some-clause-follows g c = λ done. changed_as c.args.t _ (rw c.in-Some.is at c.next_change.ensures) c.change.ensures.follows

pub returns-in-Some-clause-changes : goal.returns-in-Some-clause-changes
returns-in-Some-clause-changes g c =
    let change = c.in-Some.change in
    λ done. record { scripts = _; is = c.change.ensures.next; tasks = tasks_after c.args.t change.target change.value change.next c.args.self.now.scripts }
