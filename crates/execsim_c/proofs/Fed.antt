-- What becomes of a machine of which a task is fed.
use Rattle.std.proofs.Common.{◌≡◌, ℕ, List, Some, refl, sym, subst, IsSome}
use Rattle.exectrace.specs.Putting.{Appends-none}
use Rattle.script.specs.Commands.{CommandData}
use Rattle.execmodel.specs.{Feeding.fed_to, Feeding.does_input}
use Rattle.execmodel.specs.Feeding as model
use Rattle.execsim.specs.{Headline.Shown, Readers.task_seen}
use Rattle.execsim.proofs.Fed.{moves_fed}
use Rattle.execsim_c.specs.{Feeding.FeedsCommand, Stepping.Does, declared.session.Session.Session}

-- a machine with the command at the end of the body of a task
abbrev pub grown : ℕ → CommandData → Shown → Shown
grown task command m = record m { seen = record m.seen { scripts = fed_to task command m.seen.scripts } }

grown_does : (task : ℕ) (command : CommandData) (m : Shown) (lines : List ℕ)
    → Does (does_input (model.Feeds task command)) m.seen (grown task command m).seen (Some lines) (Some lines)
grown_does task command m lines = record {
  agrees = (moves_fed task command m.seen).agrees;
  prints = λ s there. Appends-none (Some lines);
}

pub command_fed : (task : ℕ) (command : CommandData) (old new : Session) → IsSome (task_seen task old.machine.seen)
    → new ≡ record old { machine = grown task command old.machine } → FeedsCommand task command old new
command_fed task command old new there is = subst (λ (s : Session). FeedsCommand task command old s) (sym is) (record {
  there = there;
  machine = refl;
  lines = refl;
  does = grown_does task command old.machine old.lines.items;
})
