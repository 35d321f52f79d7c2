-- The time for which a request waits.
use Rattle.std.specs.Prelude.{ℕ, ◌==◌, Option, find, option_map}
use Rattle.timerdev.specs.{Timing.AtClock, Timing.AtSystem, Timing.Due, Timing.Timer, Timing.Waiting, declared.timer.readers.DueTime.DueTime}
use Rattle.timerdev.specs.declared.timer.readers.DueTime.TheVariants as due

abbrev pub due_view : DueTime → Due
due_view (due.Clock time) = AtClock time
due_view (due.System time) = AtSystem time

-- what request r waits for, if it waits
unfoldable pub due_of : ℕ → Timer → Option Due
due_of r timer = option_map (λ (w : Waiting). w.due) (find (λ (w : Waiting). w.request == r) timer.waiting)
