-- A request waits by its number for the time for which it is shown to wait.
use Rattle.std.proofs.Common.{ap, sym, ◌∙◌}
use Rattle.timerdev.specs.DueTimes.{due_of}
use Rattle.execheap.specs.Numbered.{Numbered}
use Rattle.execheap.proofs.Queues.{due_none, due_shown}
use Rattle.execheap.proofs.objects.Objects.due.Goals as goal

pub returns-in-None : goal.returns-in-None
returns-in-None g c = sym (due_none c.in-None.ensures.known.sound c.args.request (sym c.in-None.ensures.value))

pub returns-in-Some : goal.returns-in-Some
returns-in-Some g c =
    c.due_of.ensures ∙ ap (λ (x : Numbered). due_of c.in-Some.r x.timing.timer) c.self.view_is
    ∙ sym (due_shown c.in-Some.ensures.known.sound c.args.request c.in-Some.r c.in-Some.ensures.live)
