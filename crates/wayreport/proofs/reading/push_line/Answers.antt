-- The proof of `push_line`: the line is of the kind that its front says.
use Rattle.std.proofs.Common.{◌≡◌, ◌∙◌, ◌<◌, true, false, length, map, ap, sym, subst, arith}
use Rattle.std.proofs.lemmas.{Bool.Decides.nat_tests, List.length-map, Result.err_from_is_err_and}
use Rattle.wayreport.specs.{Reports.found_view, Written.IsBelow, Written.IsLine, Written.Line, Written.line_text, Written.with_line}
use Rattle.wayreport.proofs.Lining.{as_blank, as_heading, as_shown, pushed, tested}
use Rattle.wayreport.proofs.reading.push_line.Goals as goal

pub returns-in_err-found_on : goal.returns-in_err-found_on
returns-in_err-found_on c = λ said good below is.
    let p = err_from_is_err_and c.from_residual.result c.from_residual.ensures.1 in
    let h = as_heading said (tested said c.args.line.now c.starts_with.result true c.starts_with.ensures.cases is c.if-starts_with.true) in
    let fits = subst (λ (x : Line). IsLine x) h.is good in
    rw (p.1, p.2) (c.in_err-found_on.ensures h.number h.count h.first fits.0 fits.1 (is ∙ ap line_text h.is))

pub returns-in_ok-push : goal.returns-in_ok-push
returns-in_ok-push c = λ said good below is.
    let h = as_heading said (tested said c.args.line.now c.starts_with.result true c.starts_with.ensures.cases is c.if-starts_with.true) in
    let fits = subst (λ (x : Line). IsLine x) h.is good in
    let view = c.in_ok-found_on.ensures h.number h.count h.first fits.0 fits.1 (is ∙ ap line_text h.is) in
    pushed c.args.found.now.items c.push.new.self.items c.in_ok-found_on.field-0 said h c.in_ok-push.ensures.items view

pub returns-in_err-push_seen : goal.returns-in_err-push_seen
returns-in_err-push_seen c = λ said good below is.
    let p = err_from_is_err_and c.from_residual-in_err-push_seen.result c.from_residual-in_err-push_seen.ensures.1 in
    let some : 0 < length c.args.line.now = grind (arith, nat_tests, c.is_empty.ensures, c.if-not-is_empty.true) in
    let other = tested said c.args.line.now c.starts_with.result false c.starts_with.ensures.cases is c.if-starts_with.false in
    let s = as_shown said other (subst (λ t. 0 < length t) is some) in
    let has : 0 < length (map found_view c.args.found.now.items) = subst (λ (x : Line). IsBelow (map found_view c.args.found.now.items) x) s.is below in
    let few : 0 < length c.args.found.now.items = omega (arith, has, length-map c.args.found.now.items found_view) in
    rw (p.1, p.2) (c.in_err-push_seen.ensures s.text few (is ∙ ap line_text s.is))

pub returns-in_ok-push_seen : goal.returns-in_ok-push_seen
returns-in_ok-push_seen c = λ said good below is.
    let some : 0 < length c.args.line.now = grind (arith, nat_tests, c.is_empty.ensures, c.if-not-is_empty.true) in
    let other = tested said c.args.line.now c.starts_with.result false c.starts_with.ensures.cases is c.if-starts_with.false in
    let s = as_shown said other (subst (λ t. 0 < length t) is some) in
    let has : 0 < length (map found_view c.args.found.now.items) = subst (λ (x : Line). IsBelow (map found_view c.args.found.now.items) x) s.is below in
    let few : 0 < length c.args.found.now.items = omega (arith, has, length-map c.args.found.now.items found_view) in
    c.in_ok-push_seen.ensures s.text few (is ∙ ap line_text s.is) ∙ sym (ap (with_line (map found_view c.args.found.now.items)) s.is)

pub returns-else-not-is_empty : goal.returns-else-not-is_empty
returns-else-not-is_empty c = λ said good below is.
    let none : length c.args.line.now ≡ 0 = grind (arith, nat_tests, c.is_empty.ensures, c.if-not-is_empty.false) in
    let other = tested said c.args.line.now c.starts_with.result false c.starts_with.ensures.cases is c.if-starts_with.false in
    sym (ap (with_line (map found_view c.args.found.now.items)) (as_blank said other (sym (ap length is) ∙ none)))
