-- An entry that printed nothing has no row.
use Rattle.execlog.proofs.Laying.{lays_empty}
use Rattle.execlog.proofs.plain.PlainForm.shows_silent.Goals as goal

pub returns : goal.returns
returns c = λ same moment. lays_empty
