-- The proof of `reported`: the text of the report of what a search found.
use Rattle.std.proofs.Common.{◌∙◌, ap}
use Rattle.wayreport.specs.Reports.{text_of}
use Rattle.execexplore.proofs.whole.reported.Goals as goal

pub returns : goal.returns
returns c = c.in_ok-text.ensures ∙ ap text_of c.in_ok-report.ensures
