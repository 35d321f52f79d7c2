-- A library is open if it is by number.
use Rattle.std.proofs.Common.{sym, ◌∙◌}
use Rattle.execheap.proofs.LibraryCalls.{close_found, close_refused, close_refused_closed}
use Rattle.execheap.proofs.objects.Objects.open_library_at.Goals as goal

pub returns-in-None-clause-alert : goal.returns-in-None-clause-alert
returns-in-None-clause-alert g c = sym (close_refused c.args.self.now c.args.base (sym c.in-None.ensures.value))

pub returns-then-library_count-eq0-clause-alert : goal.returns-then-library_count-eq0-clause-alert
returns-then-library_count-eq0-clause-alert g c =
    let known = c.in-Some.ensures.known in
    sym (close_refused_closed known.sound.kept known.sound.table known.memory c.in-Some.i c.args.base c.in-Some.ensures.live
    (sym c.library_count.ensures ∙ c.if-library_count-eq0.true))

pub returns-else-library_count-eq0-clause-alert : goal.returns-else-library_count-eq0-clause-alert
returns-else-library_count-eq0-clause-alert g c =
    let known = c.in-Some.ensures.known in
    sym (close_found known.sound.kept known.sound.table known.memory c.in-Some.i c.args.base c.in-Some.ensures.live
    (λ none. c.if-library_count-eq0.false (c.library_count.ensures ∙ none)))
