-- The proof of `read_placed`: reads a machine file as `read_listed` does, and says of its fault where it is.
use Rattle.std.proofs.lemmas.Result.{err_from_is_err_and}
use Rattle.toml.specs.View.{table_view}
use Rattle.taskscript.proofs.Whole.{refused, decided, listed}
use Rattle.taskscript.proofs.reading.read_placed.Goals as goal

pub returns-in_err-table-clause-machine : goal.returns-in_err-table-clause-machine
returns-in_err-table-clause-machine c =
    let p = err_from_is_err_and c.from_residual.result c.from_residual.ensures.1 in
    rw (p.1, p.2) (refused c.args.bytes.now c.in_err-table.field-0.0 c.in_err-table.ensures.err)

pub returns-clause-machine : goal.returns-clause-machine
returns-clause-machine c = decided c.args.bytes.now (table_view c.in_ok-table.table) c.read_tree.result c.in_ok-table.ensures.ok c.read_tree.ensures

pub returns-clause-listing : goal.returns-clause-listing
returns-clause-listing c = listed c.args.bytes.now (table_view c.in_ok-table.table) c.read_tree.result c.in_ok-table.ensures.ok c.read_tree.ensures
