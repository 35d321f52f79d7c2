-- The proof of `Kernel::does_plain_in_body`.
use Rattle.std.proofs.Common.{◌≡◌, subst, sym}
use Rattle.script.specs.declared.word.plain.PlainWord.{PlainWord}
use Rattle.execmodel.specs.{State.Call, Bodies.does_plain_by, Calls.Caller}
use Rattle.execsim.specs.Agreement.{Seen, Follows}
use Rattle.execsim.proofs.Following.{follows_silence}
use Rattle.exectrace.specs.Hearing.{Hearing}
use Rattle.execsim.proofs.kernel.Kernel.does_plain_in_body.Goals as goal

-- a plain call is done as its word says
plain_as : {H : Hearing} {m n : Seen} {a b : H.Told} (by : Caller) (call : Call) (word is : PlainWord) → word ≡ is → Follows H (does_plain_by is by call) m n a b → Follows H (does_plain_by word by call) m n a b
plain_as {H} {m} {n} {a} {b} by call word is same follows = subst (λ w. Follows H (does_plain_by w by call) m n a b) (sym same) follows

pub returns-in-Set : goal.returns-in-Set
returns-in-Set g c = plain_as _ _ _ _ c.in-Set.is (follows_silence _ c.set.ensures)

pub returns-in-Add : goal.returns-in-Add
returns-in-Add g c = plain_as _ _ _ _ c.in-Add.is (follows_silence _ c.add_words.ensures)

pub returns-in-Sub : goal.returns-in-Sub
returns-in-Sub g c = plain_as _ _ _ _ c.in-Sub.is (follows_silence _ c.sub_words.ensures)

pub returns-in-And : goal.returns-in-And
returns-in-And g c = plain_as _ _ _ _ c.in-And.is (follows_silence _ c.and_words.ensures)

pub returns-in-Or : goal.returns-in-Or
returns-in-Or g c = plain_as _ _ _ _ c.in-Or.is (follows_silence _ c.or_words.ensures)
