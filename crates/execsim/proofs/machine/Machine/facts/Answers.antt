-- The proof of `Machine::facts`: does nothing: its clause is what always holds of a machine that has not failed.
use Rattle.std.proofs.Common.{ap, subst, ◌∙◌}
use Rattle.execsim.specs.{Headline.Shown, Reached.QueuesAgree}
use Rattle.execsim.proofs.Reached.{in_order_there}
use Rattle.execsim.proofs.machine.Machine.facts.Goals as goal

pub returns : goal.returns
returns g c = λ going. subst (λ (x : Shown). QueuesAgree x.seen) c.self.view_is
    (in_order_there c.self.inside.kernel (c.self.invariant.0 (ap (λ (x : Shown). x.failed) c.self.view_is ∙ going))).queues
