-- The line is over the spaces of the sheet.
use Rattle.std.proofs.Common.{◌≤◌, ◌+◌, List, ℕ, length, ap, ◌++◌, ◌∙◌, arith}
use Rattle.execlog.proofs.{Logging.whole_then, Sheets.sheet_row}
use Rattle.execlog.specs.Rows.{columns}
use Rattle.execlog.proofs.rows.push_on_sheet.Goals as goal

pub returns : goal.returns
returns c =
    let s = c.args.sheet.now in
    let n : ℕ = length c.args.text.now in
    let cols : List ℕ = columns c.args.head.now.number c.args.head.now.clock in
    let few : n ≤ c.args.frame.now.gap = omega (arith, c.requires.short, c.requires.sheet.0) in
    let within : s.at + n ≤ s.len = omega (arith, c.requires.short, s.fits) in
    whole_then c.push_cells.result
    (λ e. e ∙ ap (λ (l : List ℕ). c.args.page.now ++ (cols ++ l)) (sheet_row c.args.frame.now.gap c.args.text.now c.requires.sheet.1 few within))
    c.push_cells.ensures
