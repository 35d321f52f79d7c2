-- One task more is added.
use Rattle.std.proofs.Common.{arith, ◌∙◌, ◌<◌, ◌++◌, ℕ, List, length, sym, ap, append_assoc}
use Rattle.execsim.specs.Readers.{task_view}
use Rattle.statekeys.specs.Numbers.{task_numbers, tasks_numbers}
use Rattle.statekeys.proofs.Walks.{task_there, tasks_more}
use Rattle.statekeys.proofs.key.push_tasks.Goals as goal

pub loop-t-preserved : goal.loop-t-preserved
loop-t-preserved c =
    let seen = c.args.machine.now.seen in
    let t = c.loop-t.t in
    let there : t < length seen.scripts.programs = task_there t (length seen.scripts.programs) (task_view t seen) c.in-Some.view c.in-Some.ensures in
    record {
      some = omega (arith, there);
      numbers =
          c.in_ok-push_task.ensures
          ∙ (ap (λ (l : List ℕ). l ++ task_numbers t seen.schedule seen.scripts) c.loop-t.invariant.numbers
          ∙ (append_assoc c.args.numbers.now.items (tasks_numbers t seen.schedule seen.scripts) (task_numbers t seen.schedule seen.scripts)
          ∙ ap (λ (l : List ℕ). c.args.numbers.now.items ++ l) (sym (tasks_more t seen.schedule seen.scripts))));
    }
