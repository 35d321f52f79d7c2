-- The proof of `head_in`: each line is cut off in turn.
use Rattle.std.proofs.Common.{◌≡◌, ◌∙◌, ◌++◌, length, decimal, ap, sym, refl, true, false, not, bytes_eq}
use Rattle.std.proofs.lemmas.Result.{err_from_is_err_and}
use Rattle.wayreport.specs.{Reports.seen_lines, declared.text.TheConstants.VERSION}
use Rattle.wayreport.proofs.{Heads.after_machine, Heads.after_program, Heads.after_see, Heads.after_title, Heads.digests_apart, Heads.head_apart, Heads.one_title, Heads.seen_apart, Heads.title_of}
use Rattle.wayreport.proofs.Wording.{feed_other, lacks-decimal}
use Rattle.wayreport.proofs.reading.head_in.Goals as goal

pub returns-in_err-line : goal.returns-in_err-line
returns-in_err-line c = λ r later w is.
    let p = err_from_is_err_and c.from_residual.result c.from_residual.ensures.1 in
    rw (p.1, p.2) (c.in_err-line.ensures.parts (title_of r) (after_title r later) (one_title r w.title w.all w.outcomes) (is ∙ head_apart r later))

pub returns-in_err-title : goal.returns-in_err-title
returns-in_err-title c = λ r later w is.
    let p = err_from_is_err_and c.from_residual-in_err-title.result c.from_residual-in_err-title.ensures.1 in
    let line = c.in_ok-line.ensures.parts (title_of r) (after_title r later) (one_title r w.title w.all w.outcomes) (is ∙ head_apart r later) in
    rw (p.1, p.2) (c.in_err-title.ensures r.title r.all (length r.entries) w.all w.outcomes line.0)

pub returns-in_err-part : goal.returns-in_err-part
returns-in_err-part c = λ r later w is.
    let p = err_from_is_err_and c.from_residual-in_err-part.result c.from_residual-in_err-part.ensures.1 in
    let line = c.in_ok-line.ensures.parts (title_of r) (after_title r later) (one_title r w.title w.all w.outcomes) (is ∙ head_apart r later) in
    rw (p.1, p.2) (c.in_err-part.ensures r.part (after_program r later) w.part line.1)

pub returns-in_err-version : goal.returns-in_err-version
returns-in_err-version c = λ r later w is.
    let p = err_from_is_err_and c.from_residual-in_err-version.result c.from_residual-in_err-version.ensures.1 in
    let line = c.in_ok-line.ensures.parts (title_of r) (after_title r later) (one_title r w.title w.all w.outcomes) (is ∙ head_apart r later) in
    let part = c.in_ok-part.ensures r.part (after_program r later) w.part line.1 in
    rw (p.1, p.2) (c.in_err-version.ensures VERSION.now (after_program r later) refl part.1)

pub returns-in_err-machine : goal.returns-in_err-machine
returns-in_err-machine c = λ r later w is.
    let p = err_from_is_err_and c.from_residual-in_err-machine.result c.from_residual-in_err-machine.ensures.1 in
    let line = c.in_ok-line.ensures.parts (title_of r) (after_title r later) (one_title r w.title w.all w.outcomes) (is ∙ head_apart r later) in
    let part = c.in_ok-part.ensures r.part (after_program r later) w.part line.1 in
    let version = c.in_ok-version.ensures VERSION.now (after_program r later) refl part.1 in
    rw (p.1, p.2) (c.in_err-machine.ensures r.machine (after_machine r later) w.machine (version.1 ∙ digests_apart r later))

pub returns-in_err-events : goal.returns-in_err-events
returns-in_err-events c = λ r later w is.
    let p = err_from_is_err_and c.from_residual-in_err-events.result c.from_residual-in_err-events.ensures.1 in
    let line = c.in_ok-line.ensures.parts (title_of r) (after_title r later) (one_title r w.title w.all w.outcomes) (is ∙ head_apart r later) in
    let part = c.in_ok-part.ensures r.part (after_program r later) w.part line.1 in
    let version = c.in_ok-version.ensures VERSION.now (after_program r later) refl part.1 in
    let machine = c.in_ok-machine.ensures r.machine (after_machine r later) w.machine (version.1 ∙ digests_apart r later) in
    rw (p.1, p.2) (c.in_err-events.ensures r.events (seen_lines r ++ later) w.events machine.1)

pub returns-in_err-see : goal.returns-in_err-see
returns-in_err-see c = λ r later w is.
    let p = err_from_is_err_and c.from_residual-in_err-see.result c.from_residual-in_err-see.ensures.1 in
    let line = c.in_ok-line.ensures.parts (title_of r) (after_title r later) (one_title r w.title w.all w.outcomes) (is ∙ head_apart r later) in
    let part = c.in_ok-part.ensures r.part (after_program r later) w.part line.1 in
    let version = c.in_ok-version.ensures VERSION.now (after_program r later) refl part.1 in
    let machine = c.in_ok-machine.ensures r.machine (after_machine r later) w.machine (version.1 ∙ digests_apart r later) in
    let events = c.in_ok-events.ensures r.events (seen_lines r ++ later) w.events machine.1 in
    rw (p.1, p.2) (c.in_err-see.ensures r.see (after_see r later) w.see (events.1 ∙ seen_apart r later))

pub returns-in_err-alerts : goal.returns-in_err-alerts
returns-in_err-alerts c = λ r later w is.
    let p = err_from_is_err_and c.from_residual-in_err-alerts.result c.from_residual-in_err-alerts.ensures.1 in
    let line = c.in_ok-line.ensures.parts (title_of r) (after_title r later) (one_title r w.title w.all w.outcomes) (is ∙ head_apart r later) in
    let part = c.in_ok-part.ensures r.part (after_program r later) w.part line.1 in
    let version = c.in_ok-version.ensures VERSION.now (after_program r later) refl part.1 in
    let machine = c.in_ok-machine.ensures r.machine (after_machine r later) w.machine (version.1 ∙ digests_apart r later) in
    let events = c.in_ok-events.ensures r.events (seen_lines r ++ later) w.events machine.1 in
    let see = c.in_ok-see.ensures r.see (after_see r later) w.see (events.1 ∙ seen_apart r later) in
    rw (p.1, p.2) (c.in_err-alerts.ensures (decimal r.alerts) later (lacks-decimal 10 feed_other r.alerts w.alerts) see.1)

pub returns-in_err-number_in : goal.returns-in_err-number_in
returns-in_err-number_in c = λ r later w is.
    let p = err_from_is_err_and c.from_residual-in_err-number_in.result c.from_residual-in_err-number_in.ensures.1 in
    let line = c.in_ok-line.ensures.parts (title_of r) (after_title r later) (one_title r w.title w.all w.outcomes) (is ∙ head_apart r later) in
    let part = c.in_ok-part.ensures r.part (after_program r later) w.part line.1 in
    let version = c.in_ok-version.ensures VERSION.now (after_program r later) refl part.1 in
    let machine = c.in_ok-machine.ensures r.machine (after_machine r later) w.machine (version.1 ∙ digests_apart r later) in
    let events = c.in_ok-events.ensures r.events (seen_lines r ++ later) w.events machine.1 in
    let see = c.in_ok-see.ensures r.see (after_see r later) w.see (events.1 ∙ seen_apart r later) in
    let alerts = c.in_ok-alerts.ensures (decimal r.alerts) later (lacks-decimal 10 feed_other r.alerts w.alerts) see.1 in
    rw (p.1, p.2) (c.in_err-number_in.ensures r.alerts w.alerts alerts.0)

pub returns-then-ne : goal.returns-then-ne
returns-then-ne c = λ r later w is.
    let line = c.in_ok-line.ensures.parts (title_of r) (after_title r later) (one_title r w.title w.all w.outcomes) (is ∙ head_apart r later) in
    let part = c.in_ok-part.ensures r.part (after_program r later) w.part line.1 in
    let version = c.in_ok-version.ensures VERSION.now (after_program r later) refl part.1 in
    let no : true ≡ false = sym c.if-ne.true ∙ (c.ne.ensures ∙ ap (λ v. not (bytes_eq v VERSION.now)) version.0) in
    absurd cc

pub returns : goal.returns
returns c = λ r later w is.
    let line = c.in_ok-line.ensures.parts (title_of r) (after_title r later) (one_title r w.title w.all w.outcomes) (is ∙ head_apart r later) in
    let title = c.in_ok-title.ensures r.title r.all (length r.entries) w.all w.outcomes line.0 in
    let part = c.in_ok-part.ensures r.part (after_program r later) w.part line.1 in
    let version = c.in_ok-version.ensures VERSION.now (after_program r later) refl part.1 in
    let machine = c.in_ok-machine.ensures r.machine (after_machine r later) w.machine (version.1 ∙ digests_apart r later) in
    let events = c.in_ok-events.ensures r.events (seen_lines r ++ later) w.events machine.1 in
    let see = c.in_ok-see.ensures r.see (after_see r later) w.see (events.1 ∙ seen_apart r later) in
    let alerts = c.in_ok-alerts.ensures (decimal r.alerts) later (lacks-decimal 10 feed_other r.alerts w.alerts) see.1 in
    (title.0, title.1, part.0, machine.0, events.0, see.0, c.in_ok-number_in.ensures r.alerts w.alerts alerts.0, alerts.1)
