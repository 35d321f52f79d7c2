-- With all priorities set, the tasks are as they were given.
use Rattle.std.proofs.Common.{rules, ◌≡◌, length, map, replicate, sym, ap, ◌∙◌}
use Rattle.std.proofs.lemmas.List.{length-map, length-replicate}
use Rattle.taskq.proofs.TaskLemmas.{homes_absent}
use Rattle.taskq.specs.{declared.TaskState.TheVariants.Absent, Tasks.home_for}
use Rattle.taskq.proofs.TaskQ.new.Goals as goal

pub invariant_of-result : goal.invariant_of-result
invariant_of-result g c =
    let n = length c.args.tasks.now in
    let absent : c.in_ok-states.states.items ≡ replicate n Absent = search rules in
    let homes = c.set_pris.ensures.unlinked ∙ sym (homes_absent n) ∙ ap (map home_for) (sym absent) in
    record {
      one_header = ap length c.set_pris.ensures.empty;
      ready_held = homes;
      all_named = ap length c.in_ok-names.ensures ∙ length-map c.args.tasks.now (λ t. t.name.bytes)
          ∙ sym (ap length absent ∙ length-replicate n Absent);
    }
