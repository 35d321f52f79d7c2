-- The proof of `FreeSpace::words`: the words, the first of which represents the lowest address.
use Rattle.std.proofs.Common.{arith, ap, subst, sym, length}
use Rattle.memlist.specs.Chain.{IsLinked, Space, chain}
use Rattle.memlist.proofs.space.FreeSpace.words.Goals as goal

pub returns-clause-len : goal.returns-clause-len
returns-clause-len c =
    let base = ap (λ (s : Space). s.base) c.self.view_is in
    let end = ap (λ (s : Space). s.end) c.self.view_is in
    let same = ap length c.deref.ensures.value in
    omega (arith, base, end, same)

pub returns-clause-linked : goal.returns-clause-linked
returns-clause-linked c =
    subst (λ (s : Space). IsLinked s.base c.deref.result.now s.gaps 0) c.self.view_is
    (subst (λ ws. IsLinked c.self.inside.base ws (chain (length c.self.inside.words.items) c.self.inside.base c.self.inside.words.items c.self.inside.head) 0) (sym c.deref.ensures.value) c.self.invariant.0.linked)
