-- Objects at whose semaphores one more task may wait.
use Rattle.std.specs.Prelude.{suc}
use Rattle.sigsem.specs.NewTask.{with_new_task}
use Rattle.execheap.specs.Numbered.{Numbered}

-- one more task may wait at semaphores
abbrev pub with_one_more_task : Numbered → Numbered
with_one_more_task s = record s { sems = with_new_task s.sems; tasks = suc s.tasks }
