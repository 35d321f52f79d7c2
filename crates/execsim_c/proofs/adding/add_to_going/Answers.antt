-- The proof of `add_to_going`: the task is the last one of the machine.
use Rattle.std.proofs.Common.{rules, w8}
use Rattle.std.proofs.lemmas.Int.{to_z-of_z}
use mir.Val.{SFits}
use Rattle.execsim.specs.Adding.{new_task}
use Rattle.execsim_c.proofs.Added.{task_added}
use Rattle.execsim_c.proofs.adding.add_to_going.Goals as goal

pub returns-in-Ok-clause-added : goal.returns-in-Ok-clause-added
returns-in-Ok-clause-added c = λ _.
    let fits : SFits w8 c.args.pri = search rules in
    let same = to_z-of_z w8 c.args.pri fits in
    task_added (new_task c.args.name.bytes c.args.pri) _ _ c.requires (rw (c.in-Ok.is, same) at c.add_task.ensures.added)
    (rw (c.in-Ok.is, same) at c.add_task.ensures.moves)
