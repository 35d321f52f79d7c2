-- The rows of the start, and then those of the events.
use Rattle.std.proofs.Common.{ap}
use Rattle.execlog.proofs.Logging.{logged, logs_next, whole_then}
use Rattle.execlog.proofs.log.log_all.Goals as goal

pub returns : goal.returns
returns g c = whole_then c.advance_all.result
    (λ logs m h. logged (g.F.Form.shows c.args.log.now.form.now) m c.args.list.now (c.in_ok-begin.ensures.rows m h) (c.in_ok-begin.ensures.agrees m h)
    (logs_next g.F.Form.shows (ap (λ l. l.now) c.in_ok-begin.ensures.form) c.in_ok-begin.ensures.number logs))
    c.advance_all.ensures
