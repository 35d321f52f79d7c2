-- The proof of `check_firsts`: each first way is that of its entry.
use Rattle.std.proofs.Common.{List, ℕ, string_bytes, sym, subst}
use Rattle.std.proofs.lemmas.Result.{err_from_is_err_and}
use Rattle.wayreport.specs.{Written.IsWrittenWay, declared.report.Found.Found}
use Rattle.wayreport.proofs.Lining.{entry_at}
use Rattle.wayreport.proofs.reading.check_firsts.Goals as goal

pub returns-in_err-check_first-clause-err : goal.returns-in_err-check_first-clause-err
returns-in_err-check_first-clause-err c = λ each.
    let p = err_from_is_err_and c.from_residual.result c.from_residual.ensures.1 in
    let way = (entry_at c.args.found.now c.loop-i.i c.index-found-i.result c.loop-i-test.true c.index-found-i.is each).way in
    let read = subst (λ (f : Found). IsWrittenWay (string_bytes f.first)) c.index-found-i.is way in
    rw (p.1, p.2) (c.in_err-check_first.ensures.err (subst (λ (t : List ℕ). IsWrittenWay t) (sym c.as_str.ensures.value) read))
