-- The columns, the cells, and the text over them.
use Rattle.std.proofs.Common.{◌≡◌, ◌≤◌, ◌++◌, ◌+◌, ◌-◌, ℕ, List, length, take, drop, ap, ◌∙◌, append-nil, append_assoc, arith}
use Rattle.execlog.proofs.Sheets.{row_written}
use Rattle.execlog.specs.Rows.{columns}
use Rattle.execlog.proofs.head.Head.write_row.Goals as goal

pub returns-clause-written : goal.returns-clause-written
returns-clause-written c =
    let h = c.args.self.now in
    let text : List ℕ = c.args.text.now in
    let cells : List ℕ = c.args.cells.now in
    let end : ℕ = c.args.at + length text in
    let over : List ℕ = take c.args.at cells ++ (text ++ take (c.args.len - end) (drop end cells)) in
    let cols : List ℕ = columns h.number h.clock in
    let wide : ℕ = 64 - h.start in
    let row : List ℕ = c.write.new.room in
    let old : List ℕ = take c.args.from c.args.room.now in
    let none : c.args.from + wide ≡ c.args.from + (wide + 0) = omega arith in
    let narrow : wide + 0 ≤ 32 = omega (arith, c.requires.narrow) in
    let head : take (c.args.from + wide) row ≡ old ++ cols =
    ap (λ (i : ℕ). take i row) none ∙ c.write.ensures.written 0 narrow ∙ ap (λ (l : List ℕ). old ++ l) (append-nil cols) in
    row_written row c.write_cells.new.room c.write_text.new.room cells text (c.args.from + wide) c.args.at c.args.len
    (omega (arith, c.write.ensures.room, c.requires.room, c.requires.narrow)) c.told-cells c.requires.within c.requires.few
    c.write_cells.ensures.before c.write_text.ensures.before c.write_text.ensures.after
    ∙ ap (λ (l : List ℕ). l ++ over) head
    ∙ append_assoc old cols over
