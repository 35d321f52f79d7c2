-- The clock and the system time that are shown gain a tick.
use Rattle.std.proofs.Common.{ap, refl, ◌∙◌}
use Rattle.timerdev.specs.Timing.{clock_ticked}
use Rattle.execmodel.specs.State.{on_timer}
use Rattle.execheap.specs.Numbered.{shown_memory}
use Rattle.execheap.proofs.Ticked.{times_shown}
use Rattle.execheap.proofs.heap.Heap.tick.Goals as goal

pub returns : goal.returns
returns g c = ap shown_memory c.tick.ensures ∙ times_shown clock_ticked c.self.inside.objects refl ∙ ap (on_timer clock_ticked) c.self.view_is
