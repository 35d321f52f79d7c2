-- The proof of `logs_tell_the_trace`: the texts of a log, one after another, are the trace of the run.
use Rattle.execlog.proofs.Logging as logging
use Rattle.execlog.proofs.laws.logs_tell_the_trace.Goals as goal

pub returns : goal.returns
returns c = logging.logs_tell_the_trace
