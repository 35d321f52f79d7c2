-- The rows are added to the page at once.
use Rattle.execlog.proofs.Logging.{whole_then}
use Rattle.logforms.proofs.Pages.{gains_any}
use Rattle.logforms.proofs.json.JsonForm.push_entry.Goals as goal

pub returns : goal.returns
returns c = whole_then c.extend_from_slice.result (λ added. gains_any _ added) c.extend_from_slice.ensures
