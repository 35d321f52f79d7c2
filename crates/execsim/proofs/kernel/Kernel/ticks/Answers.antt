-- The proof of `Kernel::ticks`: that many ticks.
use Rattle.execsim.proofs.{Clock.time_for_tick, Stepping.no_ticks, Stepping.more_ticks}
use Rattle.execsim.proofs.kernel.Kernel.ticks.Goals as goal

pub loop-tick-init : goal.loop-tick-init
loop-tick-init g c = no_ticks _ _

pub loop-tick-preserved : goal.loop-tick-preserved
loop-tick-preserved g c = more_ticks _ c.loop-tick.invariant c.tick_while_good.ensures

pub tick_while_good-requires : goal.tick_while_good-requires
tick_while_good-requires g c = λ good. (time_for_tick _ c.args.n c.loop-tick-test.true c.requires c.loop-tick.invariant good).time
