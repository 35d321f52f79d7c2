-- What is after the text is kept.
use Rattle.std.proofs.Common.{◌+◌, ◌-◌, length, ap, arith}
use Rattle.std.proofs.lemmas.Slice.{drop-put_mid}
use Rattle.execlog.proofs.moves.write_over.Goals as goal

pub returns-clause-after : goal.returns-clause-after
returns-clause-after c =
    drop-put_mid c.args.at (c.args.at + length c.args.text.now - c.args.at) c.args.room.now c.copy_from_slice.new.self (c.args.at + length c.args.text.now)
    (omega arith) (omega (arith, c.requires)) (omega (arith, ap length c.copy_from_slice.ensures.after))
