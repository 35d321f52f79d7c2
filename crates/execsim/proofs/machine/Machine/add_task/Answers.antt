-- The proof of `Machine::add_task`: there is one more task, or the machine is as it was.
use Rattle.std.proofs.Common.{rules, w8}
use Rattle.std.proofs.lemmas.Int.{to_z-of_z}
use mir.Val.{SFits}
use Rattle.execsim.specs.Adding.{new_task}
use Rattle.execsim.proofs.{Added.known_after_adding, Added.moves_after_adding, Added.none_ready, Advancing.not_known}
use Rattle.execsim.proofs.machine.Machine.add_task.Goals as goal

-- (until it has failed it shows a state with the task)
pub invariant_of-self : goal.invariant_of-self
invariant_of-self g c =
    let fits : SFits w8 c.args.pri = search rules in
    let none = none_ready c.self.inside.kernel.schedule c.append_task.ensures.ready c.append_task.ensures.pris in
    let joined = rw (to_z-of_z w8 c.args.pri fits) at c.append_task.ensures.joined in (
      λ going. known_after_adding (new_task c.args.name.bytes c.args.pri) c.self.inside.kernel none _ c.append_task.result joined
          c.append_task.ensures.kept (c.self.invariant.0 going),
      not_known,
    )

pub returns-clause-moves : goal.returns-clause-moves
returns-clause-moves g c =
    let fits : SFits w8 c.args.pri = search rules in
    let none = none_ready c.self.inside.kernel.schedule c.append_task.ensures.ready c.append_task.ensures.pris in
    let joined = rw (to_z-of_z w8 c.args.pri fits) at c.append_task.ensures.joined in
    rw (← c.self.view_is) (moves_after_adding (new_task c.args.name.bytes c.args.pri) c.self.inside.kernel none _ c.append_task.result joined)
