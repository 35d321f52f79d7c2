-- The proof of `heap_of`: the memory of a file: nothing is allocated, and no library is loaded; libraries are asked for
-- memory if the file is of version 2.
use Rattle.std.proofs.Common.{◌≡◌, length, sym, ap, ◌∙◌}
use Rattle.std.proofs.lemmas.List.{length-map}
use Rattle.script.specs.Records.{task_view}
use Rattle.execsim.proofs.boot.heap_of.Goals as goal

pub returns : goal.returns
returns g c =
    let many : length c.tasks.result.now ≡ length c.args.file.now.tasks = sym (length-map c.tasks.result.now task_view) ∙ ap length c.tasks.ensures.tasks in
    rw (
      c.deref.ensures.value,
      c.in_ok-inits.ensures.libraries,
      c.libraries.ensures.libraries,
      c.regions.ensures.regions,
      c.version.ensures.version,
      c.pool.ensures.pool,
      many,
      c.tick_micros.ensures.tick_micros,
    ) at c.new.ensures
