-- The proof of `check_counts`: what holds of each outcome holds of each entry.
use Rattle.std.proofs.Common.{◌≡◌, ◌∙◌, ℕ, ◌<◌, List, length, map, get_or, ap, sym, arith, rules}
use Rattle.std.proofs.lemmas.{Bool.Decides.nat_tests, List.get_or-map, List.length-map}
use Rattle.ways.specs.Tables.{Entry}
use Rattle.wayreport.specs.Reports.{found_view}
use Rattle.wayreport.proofs.Distinct.{all_some}
use Rattle.wayreport.proofs.right.check_counts.Goals as goal

pub returns-clause-ok : goal.returns-clause-ok
returns-clause-ok c = all_some c.args.found.now (search rules)

pub returns-then-found-i-eq0-clause-err : goal.returns-then-found-i-eq0-clause-err
returns-then-found-i-eq0-clause-err c = λ _ each.
    let found = c.args.found.now in
    let one = c.index-found-i.result in
    let at : get_or (map found_view found) c.loop-i.i (found_view one) ≡ found_view one =
    get_or-map found_view found c.loop-i.i one (found_view one) c.loop-i-test.true ∙ ap found_view (sym c.index-found-i.is) in
    let within : c.loop-i.i < length (map found_view found) = omega (arith, c.loop-i-test.true, length-map found found_view) in
    let some = each c.loop-i.i (found_view one) within in
    let none : one.count ≡ 0 = grind (arith, nat_tests, c.if-found-i-eq0.true) in
    omega (arith, some, none, ap (λ (e : Entry (List ℕ)). e.count) at)
