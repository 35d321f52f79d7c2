-- The proof of `Kernel::plain_step`: a step of a settled machine, if it is a plain word or if the machine is idle.
use Rattle.std.proofs.Common.{Some, ap, subst, sym, ◌∙◌, is_some}
use Rattle.execlist.specs.Order.{first}
use Rattle.execmodel.specs.Step.{step, task_step}
use Rattle.execsim.specs.Agreement.{Follows, Seen}
use Rattle.execsim.proofs.Following.{follows_silence}
use Rattle.execsim.proofs.Settling.{idle_step, none_caused, settled_scripts, word_step}
use Rattle.execsim.proofs.kernel.Kernel.plain_step.Goals as goal

pub returns-in-None-clause-follows : goal.returns-in-None-clause-follows
returns-in-None-clause-follows g c = λ done. idle_step c.requires (g.W.Witness.told c.args.out.now)
    (none_caused c.args.self.now (ap (λ (m : Seen). is_some (first m.pending.caused)) (sym c.self.view_is) ∙ sym c.any_caused.ensures ∙ c.if-any_caused.false))
    (sym c.running.ensures.value ∙ c.in-None.is)

pub returns-then-print_word-clause-follows : goal.returns-then-print_word-clause-follows
returns-then-print_word-clause-follows g c = λ done.
    word_step c.in-Some.t c.requires
    (none_caused c.args.self.now (ap (λ (m : Seen). is_some (first m.pending.caused)) (sym c.self.view_is) ∙ sym c.any_caused.ensures ∙ c.if-any_caused.false))
    (sym c.running.ensures.value ∙ c.in-Some.is) (c.print_word.ensures.follows c.if-print_word.true)
    (settled_scripts c.requires _ (c.print_word.ensures.changes c.if-print_word.true).is)

pub returns-else-print_word-clause-follows : goal.returns-else-print_word-clause-follows
returns-else-print_word-clause-follows g c = λ done.
    let tape : g.W.Witness.hearing.Told = g.W.Witness.told c.args.out.now in
    let same = c.print_word.ensures.same c.if-print_word.false in
    let does = subst (λ (m : Seen). Follows g.W.Witness.hearing (task_step (Some c.in-Some.t)) m c.silent_word.new.self tape tape) same (follows_silence tape (c.silent_word.ensures.follows done)) in
    subst (λ (after : g.W.Witness.hearing.Told). Follows g.W.Witness.hearing step c.args.self.now c.silent_word.new.self tape after) (sym (c.print_word.ensures.nothing c.if-print_word.false))
    (word_step c.in-Some.t c.requires
    (none_caused c.args.self.now (ap (λ (m : Seen). is_some (first m.pending.caused)) (sym c.self.view_is) ∙ sym c.any_caused.ensures ∙ c.if-any_caused.false))
    (sym c.running.ensures.value ∙ c.in-Some.is) does
    (settled_scripts c.requires _ ((c.silent_word.ensures.changes done).is ∙ ap (λ (m : Seen). record m { scripts = (c.silent_word.ensures.changes done).scripts }) same)))
