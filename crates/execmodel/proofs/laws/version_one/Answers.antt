-- The proof of two clauses of `version_one`: each word that takes memory takes it as it is, where no library is asked,
-- and so in every run of version 1.
use Rattle.execmodel.proofs.VersionOne.{unasked_words_take_memory_as_it_is, version_one_takes_memory_as_it_is}
use Rattle.execmodel.proofs.laws.version_one.Goals as goal

pub returns-clause-words : goal.returns-clause-words
returns-clause-words c = unasked_words_take_memory_as_it_is

pub returns-clause-runs : goal.returns-clause-runs
returns-clause-runs c = version_one_takes_memory_as_it_is
