-- The proof of `Kernel::silent_words`: a task does plain words that print nothing in a settled machine.
use Rattle.std.proofs.Common.{◌≡◌, ℕ, subst, arith}
use Rattle.execsim.specs.Advancing.{GoesSilently}
use Rattle.execsim.proofs.{Advancing.goes_nowhere, Advancing.goes_then, Advancing.in_silence, Advancing.quietly_by, Advancing.rests_after, Settling.word_step}
use Rattle.execsim.proofs.kernel.Kernel.silent_words.Goals as goal

pub loop-done-init : goal.loop-done-init
loop-done-init g c = record {
  rests = c.requires;
  goes = goes_nowhere c.args.self.now;
}

pub silent_word-requires : goal.silent_word-requires
silent_word-requires g c = c.loop-done.invariant.rests.known

pub loop-done-preserved : goal.loop-done-preserved
loop-done-preserved g c =
    let before = c.loop-done.invariant.rests in
    let changed = c.silent_word.ensures.changes c.if-not-silent_word.false in
    let after = rests_after changed before in
    record {
      rests = after;
      goes = goes_then c.loop-done.done c.loop-done.invariant.goes changed
          (quietly_by (word_step c.args.t before.settled before.uncaused before.runs (in_silence (c.silent_word.ensures.follows c.if-not-silent_word.false)) after.settled));
    }

pub returns-clause-goes : goal.returns-clause-goes
returns-clause-goes g c =
    let all : c.loop-done.done ≡ c.args.most = omega (arith, c.loop-done-test.false, c.loop-done.auto) in
    subst (λ (n : ℕ). GoesSilently n c.args.self.now c.loop-done.self) all c.loop-done.invariant.goes
