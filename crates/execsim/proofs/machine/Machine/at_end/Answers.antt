-- The proof of `Machine::at_end`: it is the end that the abstract machine comes to.
use Rattle.std.proofs.Common.{sym, subst, ◌∙◌}
use Rattle.execsim.specs.{Agreement.Agrees, Headline.Shown}
use Rattle.execsim.proofs.Fed.{end_same}
use Rattle.execsim.proofs.machine.Machine.at_end.Goals as goal

pub returns : goal.returns
returns g c = λ s agrees. c.at_end.ensures ∙ end_same _ s (subst (λ (x : Shown). Agrees x.seen s) (sym c.self.view_is) agrees)
