-- The tasks are the same, in the same order, and one more is absent.
use Rattle.std.proofs.Common.{◌≡◌, ◌+◌, ℕ, List, ◌++◌, ◌∷◌, [], ◌∙◌, length, map, replicate, ap, sym, None}
use Rattle.std.proofs.lemmas.List.{length-map, length-replicate}
use Rattle.execlist.specs.Lists.{sequence}
use Rattle.taskq.specs.declared.TaskState.TheVariants.{Absent}
use Rattle.taskq.specs.declared.TaskInit.{TaskInit}
use Rattle.taskq.specs.Tasks.{Tasks, home_for, pris_of}
use Rattle.taskq.proofs.NewTask.{map_last, one_longer}
use Rattle.taskq.proofs.TaskQ.with_new_task.Goals as goal

abbrev names_of : List TaskInit → List (List ℕ)
names_of = map (λ (t : TaskInit). t.name.bytes)

pub copy_sequences-requires-clause-headers : goal.copy_sequences-requires-clause-headers
copy_sequences-requires-clause-headers g c = sym c.self.invariant.one_header

pub copy_sequences-requires-clause-nodes : goal.copy_sequences-requires-clause-nodes
copy_sequences-requires-clause-nodes g c =
    let states = c.self.inside.states.items in
    let tasks = ap (λ (q : Tasks). length q.states) c.self.view_is in
    ap length c.set_pris.ensures.unlinked ∙ length-replicate (length c.deref-2.result.now) None ∙ ap (λ (ts : List TaskInit). length ts) c.deref-2.ensures.value
    ∙ c.in_ok-inits.ensures.count ∙ ap (λ n. n + 1) (sym (ap length c.self.invariant.ready_held ∙ length-map states home_for ∙ tasks))

pub invariant_of-result : goal.invariant_of-result
invariant_of-result g c =
    let states = c.self.inside.states.items in
    let more = c.in_ok-states.ensures ∙ ap (λ (q : Tasks). q.states ++ Absent ∷ []) (sym c.self.view_is) in
    record {
      one_header = ap length c.copy_sequences.ensures.sequences ∙ c.self.invariant.one_header;
      ready_held = c.copy_sequences.ensures.homes ∙ ap (λ homes. homes ++ None ∷ []) c.self.invariant.ready_held ∙ sym (map_last home_for states Absent) ∙ ap (map home_for) (sym more);
      all_named = ap length (c.in_ok-names.ensures ∙ ap names_of c.deref.ensures.value ∙ c.in_ok-inits.ensures.names) ∙ one_longer c.args.task.name.bytes c.args.self.now.names
          ∙ ap (λ n. n + 1) (ap (λ (q : Tasks). length q.names) (sym c.self.view_is) ∙ c.self.invariant.all_named)
          ∙ sym (ap length more ∙ one_longer Absent states);
    }

pub returns-clause-ready : goal.returns-clause-ready
returns-clause-ready g c = ap (λ all. sequence all 0) c.copy_sequences.ensures.sequences ∙ ap (λ (q : Tasks). q.ready) c.self.view_is

pub returns-clause-pris : goal.returns-clause-pris
returns-clause-pris g c = ap pris_of c.copy_sequences.ensures.keys ∙ c.set_pris.ensures.pris ∙ ap (λ (ts : List TaskInit). map (λ (t : TaskInit). t.pri) ts) c.deref-2.ensures.value ∙ c.in_ok-inits.ensures.pris

pub returns-clause-names : goal.returns-clause-names
returns-clause-names g c = c.in_ok-names.ensures ∙ ap names_of c.deref.ensures.value ∙ c.in_ok-inits.ensures.names
