-- The proof of `Kernel::join_task`: the schedule, the programs and the memory have one more task each.
use Rattle.std.proofs.Common.{◌≡◌, ◌∙◌, ◌∷◌, ◌++◌, [], false, map, ap}
use Rattle.script.specs.Commands.{command_view}
use Rattle.execmodel.specs.State.{begun_with}
use Rattle.execsim.specs.Adding.{new_task, seen_with_new}
use Rattle.execsim.specs.Agreement.{Seen}
use Rattle.execsim.proofs.Added.{parts_joined}
use Rattle.execsim.proofs.kernel.Kernel.join_task.Goals as goal

pub returns-clause-joined : goal.returns-clause-joined
returns-clause-joined g c =
    let own = c.self.inside in
    let seen : Seen = record {
      schedule = own.sched;
      scripts = record { programs = own.programs.items; shared = own.shared };
      memory = own.memory;
      bodies = own.bodies;
      pending = record { caused = own.ints.caused; latches = own.ints.latches };
      stopped = own.stopped;
    } in
    let put : c.push.new.self.items ≡ c.reserve.new.self.items ++ c.new-2.result ∷ [] = rw c.unwrap.ensures at c.push.ensures.items in
    parts_joined c.args.init.name.bytes c.args.init.pri seen c.in_ok-sched.sched c.push.new.self.items c.reserve.new.self.items c.new-2.result c.add_task.new.self
    c.in_ok-sched.ensures put c.in_ok-reserve.ensures.items
    (c.new-2.ensures ∙ ap (λ cs. begun_with (map command_view cs) false) c.new.ensures.items) c.in_ok-add_task.ensures.added
    ∙ ap (seen_with_new (new_task c.args.init.name.bytes c.args.init.pri)) c.self.view_is
