-- There are as many messages as numbers fit.
use Rattle.std.proofs.Common.{sym, subst, arith, IsTrue}
use Rattle.iorequest.specs.Requests.{is_request}
use Rattle.execheap.specs.Numbered.{IsKnown, Numbered}
use Rattle.execheap.proofs.KeptRequests.{request_small}
use Rattle.execheap.proofs.objects.Objects.message_of.Goals as goal

pub overflow_add-result : goal.overflow_add-result
overflow_add-result g c =
    let known = subst IsKnown (sym c.self.view_is) c.facts.ensures in
    let lives = subst (λ (s : Numbered). IsTrue (is_request c.args.r s.requests)) (sym c.self.view_is) c.requires in
    omega (arith, c.pool.ensures, request_small known.sound c.args.r lives, known.sound.table.small)
