-- The proof of `are_arguments`: whether there is one field for each kind, and it is an argument of it.
use Rattle.std.proofs.Common.{◌∙◌}
use Rattle.execadvice.proofs.Reading.{none_left, no_field, first_is, first_is_not}
use Rattle.execadvice.proofs.reads.+are_arguments.Goals as goal

pub returns-in-empty : goal.returns-in-empty
returns-in-empty t c = c.is_empty.ensures ∙ none_left c.args.kinds.now c.args.fields.now c.in-empty.len_below

pub returns-in-empty-fields : goal.returns-in-empty-fields
returns-in-empty-fields t c = no_field c.args.kinds.now c.args.fields.now c.in-len1-up.len_at_least c.in-empty-fields.len_below

pub returns-then-is_argument : goal.returns-then-is_argument
returns-then-is_argument t c =
    first_is c.args.kinds.now c.args.fields.now _ _ c.is_argument.result c.are_arguments.result
    c.in-len1-up.len_at_least c.in-len1-up-fields.len_at_least c.is_argument.ensures c.if-is_argument.true c.are_arguments.ensures

pub returns-else-is_argument : goal.returns-else-is_argument
returns-else-is_argument t c =
    first_is_not c.args.kinds.now c.args.fields.now _ _ c.is_argument.result
    c.in-len1-up.len_at_least c.in-len1-up-fields.len_at_least c.is_argument.ensures c.if-is_argument.false
