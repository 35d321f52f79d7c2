-- The proof of `push_entries`: adds the outcomes, numbered from 1.
use Rattle.wayreport.proofs.Entering.{next_entry}
use Rattle.wayreport.proofs.text.push_entries.Goals as goal

pub loop-i-preserved : goal.loop-i-preserved
loop-i-preserved c =
    next_entry c.args.found.now c.loop-i.i c.index-found-i.result c.loop-i.out.items c.push_entry.new.out.items _
    c.loop-i-test.true c.index-found-i.is c.in_ok-push_entry.ensures c.loop-i.invariant
