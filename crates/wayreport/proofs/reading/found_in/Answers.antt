-- The proof of `found_in`: line after line.
use Rattle.std.proofs.Common.{◌≡◌, ◌<◌, length, map, arith, rules}
use Rattle.std.proofs.lemmas.{Bool.Decides.nat_tests, Result.err_from_is_err_and}
use Rattle.wayreport.specs.{Reports.found_view, Written.line_text, Written.lines_text}
use Rattle.wayreport.proofs.Lining.{after_line, at_end, next_line, one_line}
use Rattle.wayreport.proofs.reading.found_in.Goals as goal

pub returns-in_err-line : goal.returns-in_err-line
returns-in_err-line c = λ entries made.
    let p = err_from_is_err_and c.from_residual.result c.from_residual.ensures.1 in
    let some : 0 < length c.loop-rest.rest.now = grind (arith, nat_tests, c.is_empty.ensures, c.loop-rest-test.true) in
    let n = next_line (map found_view c.loop-rest.found.items) entries c.loop-rest.rest.now (c.loop-rest.invariant.1 entries made) some in
    rw (p.1, p.2) (c.in_err-line.ensures.parts (line_text n.line) (lines_text n.left) (one_line n.line n.good) n.is)

pub returns-in_err-push_line : goal.returns-in_err-push_line
returns-in_err-push_line c = λ entries made.
    let p = err_from_is_err_and c.from_residual-in_err-push_line.result c.from_residual-in_err-push_line.ensures.1 in
    let some : 0 < length c.loop-rest.rest.now = grind (arith, nat_tests, c.is_empty.ensures, c.loop-rest-test.true) in
    let n = next_line (map found_view c.loop-rest.found.items) entries c.loop-rest.rest.now (c.loop-rest.invariant.1 entries made) some in
    let line = c.in_ok-line.ensures.parts (line_text n.line) (lines_text n.left) (one_line n.line n.good) n.is in
    rw (p.1, p.2) (c.in_err-push_line.ensures n.line n.good n.below line.0)

pub loop-rest-preserved : goal.loop-rest-preserved
loop-rest-preserved c = (
  search rules,
  λ entries made.
      let some : 0 < length c.loop-rest.rest.now = grind (arith, nat_tests, c.is_empty.ensures, c.loop-rest-test.true) in
      let es = map found_view c.loop-rest.found.items in
      let n = next_line es entries c.loop-rest.rest.now (c.loop-rest.invariant.1 entries made) some in
      let line = c.in_ok-line.ensures.parts (line_text n.line) (lines_text n.left) (one_line n.line n.good) n.is in
      after_line es (map found_view c.push_line.new.found.items) entries c.loop-rest.rest.now c.in_ok-line.later.now n (c.in_ok-push_line.ensures n.line n.good n.below line.0) line.1,
)

pub returns : goal.returns
returns c = λ entries made.
    let none : length c.loop-rest.rest.now ≡ 0 = grind (arith, nat_tests, c.is_empty.ensures, c.loop-rest-test.false) in
    at_end (map found_view c.loop-rest.found.items) entries c.loop-rest.rest.now (c.loop-rest.invariant.1 entries made) none
