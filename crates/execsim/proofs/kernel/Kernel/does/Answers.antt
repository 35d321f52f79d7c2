-- The proof of `Kernel::does`: a call of task t, by the group of its word.
use Rattle.execsim.specs.Views.{call_view}
use Rattle.execsim.proofs.Stepping.{asks_and_sets}
use Rattle.execsim.proofs.kernel.Kernel.does.Goals as goal

pub returns-in-Requests : goal.returns-in-Requests
returns-in-Requests g c =
    asks_and_sets c.in-Requests.word _ (call_view c.args.call.now) c.in-Requests.is c.does_requests.ensures c.finish_set.ensures

pub does_tasks-requires-clause-room : goal.does_tasks-requires-clause-room
does_tasks-requires-clause-room g c = c.requires.agree.room
