-- The proof of `has_word`: whether fields from the word on are a command, with that target or none.
use Rattle.execadvice.proofs.Reading.{target_is, target_is_not}
use Rattle.execadvice.proofs.reads.has_word.Goals as goal

pub returns-then-is_target : goal.returns-then-is_target
returns-then-is_target c =
    target_is _ c.args.fields.now _ c.word_of.result c.in-Some.word c.answers.result c.is_target.result c.are_arguments.result c.kinds.result.now
    c.in-len1-up.len_at_least c.word_of.ensures c.in-Some.is c.answers.ensures c.is_target.ensures c.if-is_target.true c.kinds.ensures c.are_arguments.ensures

pub returns-else-is_target : goal.returns-else-is_target
returns-else-is_target c =
    target_is_not _ c.args.fields.now _ c.word_of.result c.in-Some.word c.answers.result c.is_target.result
    c.in-len1-up.len_at_least c.word_of.ensures c.in-Some.is c.answers.ensures c.is_target.ensures c.if-is_target.false
