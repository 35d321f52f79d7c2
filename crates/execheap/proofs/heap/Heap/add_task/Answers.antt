-- The memory shows one more task, or it is as it was.
use Rattle.execheap.proofs.NewTask.{memory_joined, memory_kept}
use Rattle.execheap.proofs.heap.Heap.add_task.Goals as goal

pub returns-clause-added : goal.returns-clause-added
returns-clause-added g c = memory_joined c.self.inside.objects c.add_task.new.self c.args.self.now c.self.view_is c.add_task.result c.add_task.ensures.added

pub returns-clause-kept : goal.returns-clause-kept
returns-clause-kept g c = memory_kept c.self.inside.objects c.add_task.new.self c.args.self.now c.self.view_is c.add_task.result c.add_task.ensures.kept
