-- What becomes of a machine to which a task is added.
use Rattle.std.proofs.Common.{◌≡◌, ℕ, false, List, Some, ap, sym, subst}
use Rattle.exectrace.specs.Putting.{Appends-none}
use Rattle.script.specs.File.{TaskData}
use Rattle.execmodel.specs.Feeding.{Adds, does_input, with_new}
use Rattle.execsim.specs.{Adding.seen_with_new, Agreement.Moves, Agreement.Seen, Headline.Shown}
use Rattle.execsim_c.specs.{Adding.AddsTask, Stepping.Does, declared.session.Session.Session}

-- a machine with a new task
abbrev pub joined : TaskData → Shown → Shown
joined task m = record m { seen = seen_with_new task m.seen }

-- a machine to which a task is added has done that, and printed nothing
joined_does : (task : TaskData) (old new : Seen) (lines : List ℕ) → Moves (with_new task) old new → Does (does_input (Adds task)) old new (Some lines) (Some lines)
joined_does task old new lines moves = record {
  agrees = moves.agrees;
  prints = λ s there. Appends-none (Some lines);
}

pub task_added : (task : TaskData) (old new : Session) → old.machine.seen.stopped ≡ false → new ≡ record old { machine = joined task old.machine }
    → Moves (with_new task) old.machine.seen new.machine.seen → AddsTask task old new
task_added task old new going is moves =
    let same = ap (λ (s : Session). s.lines.items) is in
    record {
      going = going;
      machine = ap (λ (s : Session). s.machine) is;
      lines = ap (λ (s : Session). s.lines) is;
      does = subst (λ (lines : List ℕ). Does (does_input (Adds task)) old.machine.seen new.machine.seen (Some old.lines.items) (Some lines)) (sym same)
          (joined_does task old.machine.seen new.machine.seen old.lines.items moves);
    }
