-- The proof of `lines_of`: the lines of what has a `code`, or none.
use Rattle.std.proofs.Common.{◌==◌, rules}
use Rattle.std.proofs.lemmas.{Iterator.Consumers.map_from_collect, Iterator.Splits.YieldsList-from_slice_split}
use Rattle.taskscript.proofs.events.lines_of.Goals as goal

pub returns : goal.returns
returns c = map_from_collect _ c.collect.ensures.ran (YieldsList-from_slice_split _ (λ b. b == 10) c.args.text.now c.split.ensures.rest c.split.ensures.done c.split.ensures.closure (λ x b q h. search (rules, h)))
