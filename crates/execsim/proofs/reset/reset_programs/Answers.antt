-- One more program is that of its task, and has as many commands as before.
use Rattle.std.proofs.Common.{◌≡◌, ◌<◌, ◌≤◌, true, false, length, map, ap, arith, refl, sym, ◌∙◌, slice_index_or, List, ℕ, length-set}
use Rattle.std.proofs.lemmas.{List.get_or-map, List.length-map, Simd.map-map}
use Rattle.script.specs.{declared.file.TaskRecord.TaskRecord, Commands.command_view, File.TaskData, Records.task_view}
use Rattle.execmodel.specs.State.{Program, new_program, begun_with}
use Rattle.execsim.specs.Resetting.{command_count, task_command_count}
use Rattle.execsim.proofs.Written.{all_same, one_kept, one_more, same_there}
use Rattle.execsim.proofs.reset.reset_programs.Goals as goal

-- the program of a task of some tasks
program_at : (tasks : List TaskRecord) (t : ℕ) (d : TaskRecord) → t < length tasks → slice_index_or (map new_program (map task_view tasks)) t (new_program (task_view d)) ≡ new_program (task_view (slice_index_or tasks t d))
program_at tasks t d within = get_or-map new_program (map task_view tasks) t (task_view d) (new_program (task_view d)) (omega (arith, within, length-map tasks task_view))
    ∙ ap new_program (get_or-map task_view tasks t d (task_view d) within)

pub loop-t-preserved : goal.loop-t-preserved
loop-t-preserved c =
    let tasks = c.args.tasks.now in
    let programs = c.loop-t.programs.items in
    let t = c.loop-t.t in
    let x = c.index-tasks-t.result in
    let new = c.reset.new.self in
    let listed : t < length (map new_program (map task_view tasks)) = omega (arith, c.loop-t-test.true, length-map (map task_view tasks) new_program, length-map tasks task_view) in
    let within : t < length programs = omega (arith, c.loop-t-test.true, c.loop-t.invariant.count, c.if-len-tasks.false) in
    let is = c.reset.ensures.same c.if-not-reset.false ∙ ap (λ code. begun_with (map command_view code) x.start) c.deref.ensures.value in
    record {
      same = one_more programs (map new_program (map task_view tasks)) t new (new_program (task_view x)) within listed c.loop-t.invariant.same (is ∙ ap (λ (r : TaskRecord). new_program (task_view r)) c.index-tasks-t.is ∙ sym (program_at tasks t x c.loop-t-test.true));
      counts = one_kept command_count programs t new c.index_mut.result.now (c.reset.ensures.kept ∙ ap command_count c.index_mut.ensures.value) ∙ c.loop-t.invariant.counts;
      count = length-set programs t new ∙ c.loop-t.invariant.count;
    }

-- as many commands as the body of the task has
counted : (r : TaskRecord) → task_command_count (task_view r) ≡ length r.code.items
counted r = length-map r.code.items command_view

-- one that has another number of commands: then not all have as many
pub returns-then-not-reset-clause-answer : goal.returns-then-not-reset-clause-answer
returns-then-not-reset-clause-answer c = (
  λ e. cc,
  λ same.
      let tasks = c.args.tasks.now in
      let programs = c.loop-t.programs.items in
      let t = c.loop-t.t in
      let stated = λ (r : TaskRecord). task_command_count (task_view r) in
      let within : t < length programs = omega (arith, c.loop-t-test.true, c.loop-t.invariant.count, c.if-len-tasks.false) in
      let all : map command_count programs ≡ map stated tasks = c.loop-t.invariant.counts ∙ same ∙ map-map task_command_count task_view tasks in
      let bad : true ≡ false = sym (c.reset.ensures.answer.1 (same_there command_count stated programs tasks t c.index_mut.result.now c.index-tasks-t.result
      within c.loop-t-test.true c.index_mut.ensures.value c.index-tasks-t.is all ∙ counted c.index-tasks-t.result ∙ sym (ap length c.deref.ensures.value))) ∙ c.if-not-reset.true in cc,
)

-- a program that was made of a task has as many commands as the task
pub returns-clause-answer : goal.returns-clause-answer
returns-clause-answer c = (
  λ _.
      let tasks = c.args.tasks.now in
      let programs = c.loop-t.programs.items in
      let t = c.loop-t.t in
      let made = map new_program (map task_view tasks) in
      let ends_programs : length programs ≤ t = omega (arith, c.loop-t-test.false, c.loop-t.invariant.count, c.if-len-tasks.false) in
      let ends_tasks : length made ≤ t = omega (arith, c.loop-t-test.false, length-map (map task_view tasks) new_program, length-map tasks task_view) in
      sym c.loop-t.invariant.counts ∙ ap (map command_count) (all_same programs made t ends_programs ends_tasks c.loop-t.invariant.same)
      ∙ map-map command_count new_program (map task_view tasks),
  λ _. refl,
)
