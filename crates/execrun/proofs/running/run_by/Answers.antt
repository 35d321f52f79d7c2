-- The proof of `run_by`: runs the program over any texts on the words of its command line, without its own name, and
-- answers the status with which it ends.
use Rattle.std.proofs.Common.{◌∙◌, ap}
use Rattle.clap.specs.Walk.{texts}
use Rattle.execrun.specs.Ending.{code_of}
use Rattle.execrun.proofs.RunLemmas.{ends_run, kept_at_refused, whole_at_alerted, whole_at_done}
use Rattle.execrun.proofs.running.run_by.Goals as goal

pub returns-clause-ran : goal.returns-clause-ran
returns-clause-ran g c right =
    whole_at_done _ _ _ _ _ (ends_run _ (texts c.args.words.now) _ _ _ _ (c.code.ensures ∙ ap code_of c.report.ensures.status) (c.ending_of.ensures.runs right))

pub returns-clause-alerted : goal.returns-clause-alerted
returns-clause-alerted g c right =
    whole_at_alerted _ _ _ _ _ (ends_run _ (texts c.args.words.now) _ _ _ _ (c.code.ensures ∙ ap code_of c.report.ensures.status) (c.ending_of.ensures.runs right))

pub returns-clause-refused_text : goal.returns-clause-refused_text
returns-clause-refused_text g c right =
    kept_at_refused _ _ _ _ _ (ends_run _ (texts c.args.words.now) _ _ _ _ (c.code.ensures ∙ ap code_of c.report.ensures.status) (c.ending_of.ensures.runs right))
