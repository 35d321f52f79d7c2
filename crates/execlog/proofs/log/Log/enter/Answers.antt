-- The bytes that show the entry are after what is kept, and all of it may be put.
use Rattle.std.proofs.Common.{ℕ, List, subst}
use Rattle.execlog.specs.Runs.{Extends, Wrote}
use Rattle.execlog.proofs.Logging.{page_gains}
use Rattle.execlog.proofs.log.Log.enter.Goals as goal

pub returns-clause-shows : goal.returns-clause-shows
returns-clause-shows g c =
    subst (λ (t : List ℕ). Wrote
    (Extends (record { tape = g.W.Sink.tape c.args.out.now; page = c.args.self.now.page }) (record { tape = g.W.Sink.tape c.flush_if_full.new.out; page = c.flush_if_full.new.self }))
    (g.F.Form.shows c.args.self.now.form.now (record { moment = record { number = c.args.self.now.number; clock = c.args.clock; actor = c.args.actor }; text = t })))
    c.as_slice.ensures (page_gains c.in_ok-push_entry.ensures c.flush_if_full.ensures)
