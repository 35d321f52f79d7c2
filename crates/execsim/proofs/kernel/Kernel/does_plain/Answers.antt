-- The proof of `Kernel::does_plain`: a call of task t, by its word: a plain one.
use Rattle.std.proofs.Common.{◌≡◌, ℕ, subst, sym}
use Rattle.script.specs.declared.word.plain.PlainWord.{PlainWord}
use Rattle.execmodel.specs.{State.Call, Plain.does_plain, Plain.does_set, Plain.does_add, Plain.does_sub, Plain.does_and, Plain.does_or}
use Rattle.execsim.specs.Agreement.{Seen, Follows}
use Rattle.execsim.proofs.Following.{follows_silence}
use Rattle.exectrace.specs.Hearing.{Hearing}
use Rattle.execsim.proofs.kernel.Kernel.does_plain.Goals as goal

-- a plain call is done as its word says
plain_as : {H : Hearing} {m n : Seen} {a b : H.Told} (t : ℕ) (call : Call) (word is : PlainWord) → word ≡ is → Follows H (does_plain is t call) m n a b → Follows H (does_plain word t call) m n a b
plain_as {H} {m} {n} {a} {b} t call word is same follows = subst (λ w. Follows H (does_plain w t call) m n a b) (sym same) follows

pub returns-in-Set : goal.returns-in-Set
unfolding does_set
returns-in-Set g c = plain_as _ _ _ _ c.in-Set.is (follows_silence _ c.set.ensures)

pub returns-in-Add : goal.returns-in-Add
unfolding does_add
returns-in-Add g c = plain_as _ _ _ _ c.in-Add.is (follows_silence _ c.add_words.ensures)

pub returns-in-Sub : goal.returns-in-Sub
unfolding does_sub
returns-in-Sub g c = plain_as _ _ _ _ c.in-Sub.is (follows_silence _ c.sub_words.ensures)

pub returns-in-And : goal.returns-in-And
unfolding does_and
returns-in-And g c = plain_as _ _ _ _ c.in-And.is (follows_silence _ c.and_words.ensures)

pub returns-in-Or : goal.returns-in-Or
unfolding does_or
returns-in-Or g c = plain_as _ _ _ _ c.in-Or.is (follows_silence _ c.or_words.ensures)

pub returns-in-Jump : goal.returns-in-Jump
returns-in-Jump g c = plain_as _ _ _ _ c.in-Jump.is (follows_silence _ c.jump.ensures)

pub returns-in-JumpZ : goal.returns-in-JumpZ
returns-in-JumpZ g c = plain_as _ _ _ _ c.in-JumpZ.is (follows_silence _ c.jump_zero.ensures)

pub returns-in-JumpNZ : goal.returns-in-JumpNZ
returns-in-JumpNZ g c = plain_as _ _ _ _ c.in-JumpNZ.is (follows_silence _ c.jump_not_zero.ensures)
