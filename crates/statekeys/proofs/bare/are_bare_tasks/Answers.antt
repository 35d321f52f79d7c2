-- One more is bare, and then all are.
use Rattle.std.proofs.Common.{rules, arith, ◌≡◌, All, map, true, sym, subst}
use Rattle.script.specs.{Commands.command_view, File.TaskData, Records.task_view, declared.file.TaskRecord.TaskRecord}
use Rattle.statekeys.specs.Fits.{HasBareWord}
use Rattle.statekeys.proofs.BareLemmas.{all_more, all_end}
use Rattle.statekeys.proofs.bare.are_bare_tasks.Goals as goal

pub loop-task-preserved : goal.loop-task-preserved
loop-task-preserved c =
    let code = c.is_bare_code.ensures c.if-not-is_bare_code.false in
    let one : All HasBareWord (map command_view c.task-item.result.code.items) = search rules in
    all_more (λ (it : TaskData). All HasBareWord it.code) task_view c.args.tasks.now c.loop-task.task-index c.task-item.result c.loop-task-test.true c.loop-task.invariant
    (subst (λ (x : TaskRecord). All HasBareWord (task_view x).code) c.task-item.is one)

pub returns : goal.returns
returns c = λ is. all_end (λ (it : TaskData). All HasBareWord it.code) task_view c.args.tasks.now c.loop-task.task-index (omega arith) c.loop-task.invariant
