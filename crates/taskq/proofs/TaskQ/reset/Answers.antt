-- With all priorities and names set anew, the tasks are as they were given.
use Rattle.std.proofs.Common.{◌≡◌, length, map, replicate, sym, ap, ◌∙◌}
use Rattle.std.proofs.lemmas.List.{length-map, length-replicate}
use Rattle.taskq.proofs.TaskLemmas.{homes_absent}
use Rattle.taskq.specs.{declared.TaskState.TheVariants.Absent, Tasks.Tasks, Tasks.home_for}
use Rattle.taskq.proofs.TaskQ.reset.Goals as goal

pub invariant_of-self : goal.invariant_of-self
invariant_of-self g c =
    let n = length c.args.tasks.now in
    let many : length c.self.inside.states.items ≡ n = ap (λ (q : Tasks). length q.states) c.self.view_is ∙ sym c.requires in
    let absent : c.fill.new.self.items ≡ replicate n Absent =
    c.fill.ensures.items (λ y h. h) ∙ ap (λ k. replicate k Absent) (c.self.inside.states.ok.0 ∙ many) in
    record {
      one_header = ap length c.set_pris.ensures.empty;
      ready_held = c.set_pris.ensures.unlinked ∙ sym (homes_absent n) ∙ ap (map home_for) (sym absent);
      all_named = ap length c.set.ensures ∙ length-map c.args.tasks.now (λ t. t.name.bytes) ∙ sym (ap length absent ∙ length-replicate n Absent);
    }
