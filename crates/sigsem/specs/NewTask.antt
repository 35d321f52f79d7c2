-- Semaphores at which one more task may wait.
use Rattle.std.specs.Prelude.{List, [], ◌∷◌, ◌++◌, None}
use Rattle.sigsem.specs.Semaphores.{Semaphores}

-- there is room for one more task, which waits nowhere
abbrev pub with_new_task : Semaphores → Semaphores
with_new_task m = record m { places = m.places ++ None ∷ [] }
