-- The proof of `below_word`.
use Rattle.std.proofs.Common.{◌≡◌, ◌+◌, arith, take, ◌*◌}
use Rattle.std.specs.Str.Parse.{digits_value}
use Rattle.std.proofs.lemmas.{Int.Digits.digits_value_more, Str.Parse.digits_value-take-le}
use Rattle.taskscript.proofs.Below.{not_below}
use Rattle.taskscript.proofs.number.below_word.Goals as goal

pub returns-then-total-gt4294967295 : goal.returns-then-total-gt4294967295
returns-then-total-gt4294967295 c =
    let more = digits_value_more c.args.radix c.args.bytes.now c.loop-b.b-index c.loop-b-test.true in
    let same : c.loop-b.total * c.args.radix + c.from.result ≡ digits_value c.args.radix (take (c.loop-b.b-index + 1) c.args.bytes.now) = grind (arith, more, c.loop-b.invariant.so_far) in
    not_below (digits_value c.args.radix c.args.bytes.now) (c.loop-b.total * c.args.radix + c.from.result) c.if-total-gt4294967295.true (rw same (digits_value-take-le c.args.radix c.args.bytes.now (c.loop-b.b-index + 1) c.requires.low))

pub loop-b-preserved : goal.loop-b-preserved
loop-b-preserved c =
    let more = digits_value_more c.args.radix c.args.bytes.now c.loop-b.b-index c.loop-b-test.true in
    record { so_far = grind (arith, more, c.loop-b.invariant.so_far); small = omega arith }
