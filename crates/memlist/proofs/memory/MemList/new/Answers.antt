-- The proof of `MemList::new`: the memory of a machine with these regions, in the order of its file, which may have
-- `total` bytes in all, with nothing allocated.
use Rattle.std.proofs.Common.{arith}
use Rattle.memlist.proofs.Memories.{new_memory, new_shown, small_reach, sound_regions}
use Rattle.memlist.proofs.memory.MemList.new.Goals as goal

pub headers-requires-clause-aligned : goal.headers-requires-clause-aligned
headers-requires-clause-aligned c = (sound_regions c.args.total c.args.regions.now c.in_ok-check_regions.ensures).aligned

pub headers-requires-clause-in_reach : goal.headers-requires-clause-in_reach
headers-requires-clause-in_reach c = small_reach c.args.total c.args.regions.now (sound_regions c.args.total c.args.regions.now c.in_ok-check_regions.ensures).small

pub invariant_of-result : goal.invariant_of-result
invariant_of-result c = new_memory c.in-Ok.headers.items c.args.regions.now c.args.total (omega (arith, c.ranges.total)) c.in-Ok.ensures c.in_ok-check_regions.ensures

pub returns-in-Ok-clause-value : goal.returns-in-Ok-clause-value
returns-in-Ok-clause-value c = new_shown c.in-Ok.headers.items c.args.regions.now c.in-Ok.ensures
