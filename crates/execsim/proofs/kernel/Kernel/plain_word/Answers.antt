-- The proof of `Kernel::plain_word`: task t does what it does next, if that is a plain word.
use Rattle.execsim.proofs.Following.{follows_silence}
use Rattle.execsim.proofs.kernel.Kernel.plain_word.Goals as goal

pub returns-then-silent_word-clause-follows : goal.returns-then-silent_word-clause-follows
returns-then-silent_word-clause-follows g c = λ done. follows_silence _ (c.silent_word.ensures.follows c.if-silent_word.true)
