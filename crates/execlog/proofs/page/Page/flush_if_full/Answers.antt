-- Nothing is put yet.
use Rattle.exectrace.proofs.Pieces.{adds_none}
use Rattle.execlog.proofs.page.Page.flush_if_full.Goals as goal

pub returns-else-self : goal.returns-else-self
returns-else-self g c = adds_none _ _
