-- The proof of `part_before`: only the line of a part begins as one.
use Rattle.std.proofs.Common.{◌∙◌, true, false, Some, ap, sym, ◌++◌}
use Rattle.std.proofs.lemmas.Result.{err_from_is_err_and}
use Rattle.wayreport.specs.{Reports.part_text, Reports.program_line}
use Rattle.wayreport.proofs.Heads.{after_next, as_given, as_none, next_apart, next_of, one_next, tested}
use Rattle.wayreport.proofs.reading.part_before.Goals as goal

pub returns-in_err-line : goal.returns-in_err-line
returns-in_err-line c = λ part later fits is.
    let p = err_from_is_err_and c.from_residual.result c.from_residual.ensures.1 in
    rw (p.1, p.2) (c.in_err-line.ensures.parts (next_of part) (after_next part later) (one_next part fits) (is ∙ next_apart part later))

pub returns-in_err-part_in : goal.returns-in_err-part_in
returns-in_err-part_in c = λ part later fits is.
    let p = err_from_is_err_and c.from_residual-in_err-part_in.result c.from_residual-in_err-part_in.ensures.1 in
    let line = c.in_ok-line.ensures.parts (next_of part) (after_next part later) (one_next part fits) (is ∙ next_apart part later) in
    let given = as_given part fits (tested part c.in_ok-line.line.now c.starts_with.result true c.starts_with.ensures.cases line.0 c.if-starts_with.true) in
    rw (p.1, p.2) (c.in_err-part_in.ensures given.one given.fits (line.0 ∙ ap next_of given.is))

pub returns-in_ok-part_in : goal.returns-in_ok-part_in
returns-in_ok-part_in c = λ part later fits is.
    let line = c.in_ok-line.ensures.parts (next_of part) (after_next part later) (one_next part fits) (is ∙ next_apart part later) in
    let given = as_given part fits (tested part c.in_ok-line.line.now c.starts_with.result true c.starts_with.ensures.cases line.0 c.if-starts_with.true) in
    let one = c.in_ok-part_in.ensures given.one given.fits (line.0 ∙ ap next_of given.is) in
    (ap Some one ∙ sym given.is, line.1 ∙ ap (λ x. after_next x later) given.is)

pub returns-else-starts_with : goal.returns-else-starts_with
returns-else-starts_with c = λ part later fits is.
    let line = c.in_ok-line.ensures.parts (next_of part) (after_next part later) (one_next part fits) (is ∙ next_apart part later) in
    let none = as_none part (tested part c.in_ok-line.line.now c.starts_with.result false c.starts_with.ensures.cases line.0 c.if-starts_with.false) in
    (none, is ∙ sym (ap (λ x. part_text x ++ (program_line ++ later)) none))
