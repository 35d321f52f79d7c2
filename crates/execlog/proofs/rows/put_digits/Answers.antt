-- The digits have room, and what is before them is left as it was.
use Rattle.std.proofs.Common.{arith}
use Rattle.execlog.proofs.Laying.{blank_before, digits_fit}
use Rattle.execlog.proofs.rows.put_digits.Goals as goal

pub write_digits-requires : goal.write_digits-requires
write_digits-requires c = (omega (arith, digits_fit c.args.n c.ranges.n.fits, c.requires.within.0), c.requires.within.1)

pub returns-clause-few : goal.returns-clause-few
returns-clause-few c = omega (arith, digits_fit c.args.n c.ranges.n.fits, c.write_digits.ensures.start)

pub returns-clause-blank : goal.returns-clause-blank
returns-clause-blank c = blank_before c.write_digits.result c.args.end c.args.room.now c.write_digits.new.buf (omega (arith, c.write_digits.ensures.start)) c.write_digits.ensures.before c.requires.blank
