-- The spaces before the colon are there.
use Rattle.std.proofs.Common.{refl, arith, decimal}
use Rattle.execlog.proofs.Laying.{blank_before, colon_put}
use Rattle.execlog.proofs.rows.put_number.Goals as goal

pub returns-clause-put : goal.returns-clause-put
returns-clause-put c =
    colon_put c.saturating_sub.result c.put_byte-colon.result c.put_digits-start.result (decimal c.args.line) _ c.put_digits-start.new.room c.put_byte-colon.new.room
    (omega (arith, c.saturating_sub.ensures, c.put_digits-start.ensures.at))
    (omega (arith, c.saturating_sub.ensures, c.put_digits-start.ensures.few, c.put_byte-colon.ensures.at, c.requires.within.0))
    c.put_byte-colon.ensures.blank c.put_byte-colon.ensures.put c.put_digits-start.ensures.put

pub returns-clause-blank : goal.returns-clause-blank
returns-clause-blank c = blank_before _ c.put_byte-colon.result c.put_byte-colon.new.room c.put_byte-colon.new.room (omega arith) refl c.put_byte-colon.ensures.blank
