-- The proof of `Kernel::silent_steps`: steps of a settled machine that print nothing.
use Rattle.std.proofs.Common.{ap, sym, ◌∙◌, is_some}
use Rattle.execlist.specs.Order.{first}
use Rattle.execsim.specs.Agreement.{Seen}
use Rattle.execsim.proofs.{Advancing.goes_idly, Advancing.goes_nowhere, Settling.none_caused}
use Rattle.execsim.proofs.kernel.Kernel.silent_steps.Goals as goal

pub returns-then-any_caused-clause-goes : goal.returns-then-any_caused-clause-goes
returns-then-any_caused-clause-goes g c = goes_nowhere c.args.self.now

pub returns-in-None-clause-goes : goal.returns-in-None-clause-goes
returns-in-None-clause-goes g c = goes_idly c.args.most c.requires
    (none_caused c.args.self.now (ap (λ (m : Seen). is_some (first m.pending.caused)) (sym c.self.view_is) ∙ sym c.any_caused.ensures ∙ c.if-any_caused.false))
    (sym c.running.ensures.value ∙ c.in-None.is)

pub silent_words-requires : goal.silent_words-requires
silent_words-requires g c = record {
  known = rw c.in-Some.is at c.running.ensures.known;
  runs = sym c.running.ensures.value ∙ c.in-Some.is;
  settled = c.requires;
  uncaused = none_caused c.args.self.now (ap (λ (m : Seen). is_some (first m.pending.caused)) (sym c.self.view_is) ∙ sym c.any_caused.ensures ∙ c.if-any_caused.false);
}
