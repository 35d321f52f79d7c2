-- The proof of `execsim_at_end`: the task at the end of its body is shown, and the machine stays as it is.
use Rattle.std.proofs.Common.{◌∙◌, ap, sym, subst}
use Rattle.execsim.specs.Agreement.{Agrees}
use Rattle.execsim_c.specs.{Shown.number_shown, declared.session.Session.Session}
use Rattle.execsim_c.proofs.feeding.execsim_at_end.Goals as goal

pub returns-clause-shown : goal.returns-clause-shown
returns-clause-shown c = λ _. record {
  session = c.in-Some.session.value;
  held = sym c.in-Some.ensures.taken;
  same = c.put.ensures ∙ c.in-Some.ensures.taken;
  shown = λ s agrees. c.number_of.ensures ∙ ap number_shown (c.at_end.ensures s (subst (λ (x : Session). Agrees x.machine.seen s) (sym c.deref.ensures) agrees));
}
