-- The rows so far, and after them those of the rest.
use Rattle.std.proofs.Common.{length}
use Rattle.execlog.specs.Books.{ShowsAll}
use Rattle.execlog.proofs.Laying.{Goes}
use Rattle.execlog.proofs.plain.Plain.push_lines.Given as goal

abbrev pub invariant-loop-line : goal.invariant-loop-line
invariant-loop-line l = Goes (ShowsAll l.self.filter) l.heading.moment l.fn.text l.rest l.initial.page l.page

abbrev pub decreases-loop-line : goal.decreases-loop-line
decreases-loop-line l = length l.rest
