-- The proof of `Kernel::feed_task`: the body of task t has one more command at its end.
use Rattle.script.specs.Commands.{command_view}
use Rattle.execsim.proofs.Fed.{seen_fed}
use Rattle.execsim.proofs.kernel.Kernel.feed_task.Goals as goal

pub returns-clause-fed : goal.returns-clause-fed
returns-clause-fed g c =
    let own = c.self.inside in
    rw (← c.self.view_is) (seen_fed c.args.t (command_view c.args.command) (record {
      schedule = own.sched;
      scripts = record { programs = own.programs.items; shared = own.shared };
      memory = own.memory;
      bodies = own.bodies;
      pending = record { caused = own.ints.caused; latches = own.ints.latches };
      stopped = own.stopped;
    }) c.index_mut.result.now c.feed.new.self c.feed.result c.index_mut.ensures.value c.feed.ensures.fed)
