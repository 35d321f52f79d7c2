-- The setting that is shown is taken.
use Rattle.std.proofs.Common.{ap, refl, ◌∙◌}
use Rattle.timerdev.specs.Timing.{looked_at}
use Rattle.execmodel.specs.State.{Memory, on_timer}
use Rattle.execheap.specs.Numbered.{shown_memory}
use Rattle.execheap.proofs.Ticked.{times_shown}
use Rattle.execheap.proofs.heap.Heap.take_setting.Goals as goal

pub returns-clause-answer : goal.returns-clause-answer
returns-clause-answer g c = c.take_setting.ensures.value ∙ ap (λ (m : Memory). m.timer.is_set) c.self.view_is

pub returns-clause-next : goal.returns-clause-next
returns-clause-next g c =
    ap shown_memory c.take_setting.ensures.next ∙ times_shown looked_at c.self.inside.objects refl ∙ ap (on_timer looked_at) c.self.view_is
