-- The proof of `merge`: what is counted so far, and by the next outcome, is no more than all.
use Rattle.std.proofs.Common.{◌≡◌, ◌∙◌, ◌+◌, ◌∷◌, drop, map, ap, sym, arith}
use Rattle.std.proofs.lemmas.{List.drop_more, Result.err_from_is_err_and}
use Rattle.ways.specs.Tables.{total}
use Rattle.wayreport.specs.{Reports.found_view, declared.report.Found.Found}
use Rattle.wayreport.proofs.Totalling.{total-merged}
use Rattle.wayreport.proofs.sum.merge.Goals as goal

pub returns-in_err-add-clause-err : goal.returns-in_err-add-clause-err
returns-in_err-add-clause-err c =
    let p = err_from_is_err_and c.from_residual.result c.from_residual.ensures.1 in
    let more = c.args.more.now in
    let i = c.loop-one.one-index in
    let one = c.one-item.result in
    let here : drop i more ≡ one ∷ drop (i + 1) more = drop_more more i one c.loop-one-test.true ∙ ap (λ (x : Found). x ∷ drop (i + 1) more) (sym c.one-item.is) in
    let sums = sym (total-merged c.loop-one.total (map found_view (drop i more))) ∙ (ap total c.loop-one.invariant ∙ total-merged c.args.total.now (map found_view more)) in
    rw (p.1, p.2) (λ other. omega (arith, c.in_err-add.ensures.err other, sums, ap (λ l. total (map found_view l)) here))
