-- The proof of `Kernel::plain_steps`: steps of a settled machine that ask nothing of Exec.
use Rattle.std.proofs.Common.{ap, sym, ◌∙◌, is_some}
use Rattle.execlist.specs.Order.{first}
use Rattle.execsim.specs.Agreement.{Seen}
use Rattle.execsim.proofs.Settling.{idle_steps, no_step, none_caused}
use Rattle.execsim.proofs.kernel.Kernel.plain_steps.Goals as goal

pub returns-then-any_caused-clause-follows : goal.returns-then-any_caused-clause-follows
returns-then-any_caused-clause-follows g c = no_step c.args.self.now (g.W.Witness.told c.args.out.now)

pub returns-in-None-clause-follows : goal.returns-in-None-clause-follows
returns-in-None-clause-follows g c = idle_steps c.args.most (g.W.Witness.told c.args.out.now) c.requires
    (none_caused c.args.self.now (ap (λ (m : Seen). is_some (first m.pending.caused)) (sym c.self.view_is) ∙ sym c.any_caused.ensures ∙ c.if-any_caused.false))
    (sym c.running.ensures.value ∙ c.in-None.is)

pub plain_words-requires : goal.plain_words-requires
plain_words-requires g c = record {
  known = rw c.in-Some.is at c.running.ensures.known;
  runs = sym c.running.ensures.value ∙ c.in-Some.is;
  settled = c.requires;
  uncaused = none_caused c.args.self.now (ap (λ (m : Seen). is_some (first m.pending.caused)) (sym c.self.view_is) ∙ sym c.any_caused.ensures ∙ c.if-any_caused.false);
}

pub returns-else-is_plain_next-clause-follows : goal.returns-else-is_plain_next-clause-follows
returns-else-is_plain_next-clause-follows g c = no_step c.args.self.now (g.W.Witness.told c.args.out.now)
