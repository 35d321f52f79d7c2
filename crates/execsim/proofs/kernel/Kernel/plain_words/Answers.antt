-- The proof of `Kernel::plain_words`: a task does plain words in a settled machine.
use Rattle.std.proofs.Common.{◌≡◌, ℕ, subst, arith}
use Rattle.execmodel.specs.Step.{steps}
use Rattle.execsim.specs.Agreement.{Follows}
use Rattle.execsim.proofs.{Advancing.rests_after, Settling.no_step, Settling.then_step, Settling.word_step}
use Rattle.execsim.proofs.kernel.Kernel.plain_words.Goals as goal

pub loop-done-init : goal.loop-done-init
loop-done-init g c = record { rests = c.requires; follows = no_step c.args.self.now (g.W.Witness.told c.args.out.now) }

pub plain_word-requires : goal.plain_word-requires
plain_word-requires g c = c.loop-done.invariant.rests.known

pub loop-done-preserved : goal.loop-done-preserved
loop-done-preserved g c =
    let before = c.loop-done.invariant.rests in
    let after = rests_after (c.plain_word.ensures.changes c.if-not-plain_word.false) before in
    record {
      rests = after;
      follows = then_step c.loop-done.done c.loop-done.invariant.follows
          (word_step c.args.t before.settled before.uncaused before.runs (c.plain_word.ensures.follows c.if-not-plain_word.false) after.settled);
    }

pub returns-clause-follows : goal.returns-clause-follows
returns-clause-follows g c =
    let all : c.loop-done.done ≡ c.args.most = omega (arith, c.loop-done-test.false, c.loop-done.auto) in
    subst (λ (n : ℕ). Follows g.W.Witness.hearing (steps n) c.args.self.now c.loop-done.self (g.W.Witness.told c.args.out.now) (g.W.Witness.told c.loop-done.out)) all
    c.loop-done.invariant.follows
