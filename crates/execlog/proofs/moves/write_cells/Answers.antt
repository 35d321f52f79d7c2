-- The two parts are all cells.
use Rattle.std.proofs.Common.{◌≡◌, ◌-◌, List, ℕ, take, drop, arith, length-drop, take_all}
use Rattle.execlog.proofs.Sheets.{two_parts}
use Rattle.execlog.proofs.moves.write_cells.Goals as goal

pub returns-clause-before : goal.returns-clause-before
returns-clause-before c =
    let cells : List ℕ = c.args.cells.now in
    let rest : List ℕ = take (96 - 64) (drop 64 cells) in
    let all : rest ≡ drop 64 cells = take_all (96 - 64) (drop 64 cells) (omega (arith, c.told-cells, length-drop 64 cells)) in
    two_parts c.args.room.now c.write_block.new.room c.write_block-2.new.room cells rest c.args.at 64 (omega (arith, c.told-cells)) all
    c.write_block.ensures.before c.write_block-2.ensures.before
