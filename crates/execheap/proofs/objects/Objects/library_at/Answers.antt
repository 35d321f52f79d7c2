-- No library begins there if the blocks have no number of one.
use Rattle.std.proofs.Common.{sym}
use Rattle.execheap.proofs.LibraryCalls.{library_found, library_refused}
use Rattle.execheap.proofs.objects.Objects.library_at.Goals as goal

pub returns-in-Some-clause-alert : goal.returns-in-Some-clause-alert
returns-in-Some-clause-alert g c =
    let known = c.in-Some.ensures.known in
    sym (library_found known.sound.kept known.sound.table known.memory c.in-Some.i c.args.base c.in-Some.ensures.live)

pub returns-in-None-clause-alert : goal.returns-in-None-clause-alert
returns-in-None-clause-alert g c = sym (library_refused c.args.self.now c.args.base (sym c.in-None.ensures.value))
