-- The proof of `Kernel::find`: the address of the first node of that name in a list, or after a linked node, or 0.
use Rattle.execsim.proofs.kernel.Kernel.find.Goals as goal

pub returns-in-Some-clause-answer : goal.returns-in-Some-clause-answer
returns-in-Some-clause-answer g c =
    rw (c.in-Some.is, ← c.self.view_is) (rw c.as_str.ensures.value at c.find_name-in-Some.ensures.answer)
