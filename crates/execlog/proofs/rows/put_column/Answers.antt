-- The spaces before the digits are there.
use Rattle.std.proofs.Common.{refl, arith, decimal}
use Rattle.execlog.proofs.Laying.{blank_before, column_put}
use Rattle.execlog.proofs.rows.put_column.Goals as goal

pub returns-clause-put : goal.returns-clause-put
returns-clause-put c =
    column_put c.saturating_sub.result c.put_digits-start.result c.args.width (decimal c.args.n) _ c.put_digits-start.new.room
    (omega (arith, c.saturating_sub.ensures, c.put_digits-start.ensures.at)) (omega (arith, c.saturating_sub.ensures, c.put_digits-start.ensures.few, c.requires.within.0))
    c.put_digits-start.ensures.blank c.put_digits-start.ensures.put

pub returns-clause-blank : goal.returns-clause-blank
returns-clause-blank c = blank_before _ c.put_digits-start.result c.put_digits-start.new.room c.put_digits-start.new.room (omega arith) refl c.put_digits-start.ensures.blank
