-- The proof of `Machine::feed`: the body of a task has one more command at its end, or the machine is as it was.
use Rattle.std.proofs.Common.{ap, ◌∙◌}
use Rattle.script.specs.Commands.{command_view}
use Rattle.execsim.specs.Headline.{Shown}
use Rattle.execsim.proofs.{Advancing.not_known, Fed.known_after_feeding, Fed.moves_after_feeding, Fed.shown_fed, Fed.shown_kept}
use Rattle.execsim.proofs.machine.Machine.feed.Goals as goal

-- (until it has failed it shows a state with the command)
pub invariant_of-self : goal.invariant_of-self
invariant_of-self g c = (
  λ going. known_after_feeding _ _ c.args.t (command_view c.args.command) c.feed.result c.feed.ensures.fed c.feed.ensures.kept
      (c.self.invariant.0 going),
  not_known,
)

pub returns-clause-fed : goal.returns-clause-fed
returns-clause-fed g c = rw (← c.self.view_is) (shown_fed _ _ c.args.t (command_view c.args.command) _ c.feed.result c.feed.ensures.fed)

pub returns-clause-moves : goal.returns-clause-moves
returns-clause-moves g c = rw (← c.self.view_is) (moves_after_feeding _ _ c.args.t (command_view c.args.command) c.feed.result c.feed.ensures.fed)

pub returns-clause-kept : goal.returns-clause-kept
returns-clause-kept g c = rw (← c.self.view_is) (shown_kept _ _ _ c.feed.result c.feed.ensures.kept)
