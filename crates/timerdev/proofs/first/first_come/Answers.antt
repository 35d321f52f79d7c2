-- If the first is not due, none is.
use Rattle.std.proofs.Common.{rules, ◌<◌, arith, length, sym}
use Rattle.execlist.specs.Lists.{sequence}
use Rattle.execlist.proofs.PlainLemmas.{home_known}
use Rattle.timerdev.specs.Held.{due_at}
use Rattle.timerdev.proofs.Keeping.{none_found}
use Rattle.timerdev.proofs.first.first_come.Goals as goal

pub returns-then-dues-r-clause-value : goal.returns-then-dues-r-clause-value
returns-then-dues-r-clause-value g c =
    let space = c.args.space.now in
    let r = c.in_ok-r.r in
    let dues = c.args.dues.now in
    let seq = sequence (g.S.ListSpace.sequences space) c.args.h in
    let known : r < length dues = omega (
      arith,
      c.requires.each,
      home_known (g.S.ListSpace.homes space) r c.args.h
          c.in_ok-r.ensures.home,
    ) in
    let late : c.args.time < due_at dues r = search rules in
    sym (none_found dues c.args.time r seq c.requires.sorted c.in_ok-r.ensures.value late)
