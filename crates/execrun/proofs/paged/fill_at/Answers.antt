-- The proof of `fill_at`: what was written in the middle, after what was there before it.
use Rattle.std.proofs.Common.{◌≡◌, ◌+◌, ◌≤◌, ◌-◌, length, rules, arith}
use Rattle.execrun.proofs.PageLemmas.{filled_mid}
use Rattle.execrun.proofs.paged.fill_at.Goals as goal

pub returns-in-Some-clause-filled : goal.returns-in-Some-clause-filled
returns-in-Some-clause-filled g c =
    let at = c.args.at in
    let long : length c.fill.new.room ≡ at + 160 - at = search rules in
    let told = c.in-Some.ensures in
    let within : at + c.in-Some.count ≤ length c.args.cells.now = omega (arith, told.0, c.if-cells-at-lt-ROOM.false, c.requires) in
    let few : c.in-Some.count ≤ at + 160 - at = omega (arith, told.0) in
    (within, filled_mid c.args.cells.now c.fill.new.room (g.T.Text.bytes c.args.text.now) at (at + 160 - at) c.in-Some.count c.requires long few told.1)
