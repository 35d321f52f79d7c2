-- The text and the line feed are after the empty column.
use Rattle.std.proofs.Common.{◌≡◌, ◌≤◌, ◌++◌, ◌+◌, ◌-◌, ℕ, List, take, replicate, ap, ◌∙◌, arith}
use Rattle.execlog.proofs.Sheets.{bare_written}
use Rattle.execlog.specs.Rows.{columns}
use Rattle.execlog.proofs.head.Head.write_bare.Goals as goal

pub returns-clause-written : goal.returns-clause-written
returns-clause-written c =
    let h = c.args.self.now in
    let cols : List ℕ = columns h.number h.clock in
    let wide : ℕ = 64 - h.start in
    let from : ℕ = c.args.from in
    let at : ℕ = from + wide + 8 in
    let row : List ℕ = c.write.new.room in
    let after : at ≡ from + (wide + 8) = omega arith in
    let narrow : wide + 8 ≤ 64 = omega (arith, c.requires.narrow) in
    let head : take at row ≡ take from c.args.room.now ++ (cols ++ replicate {A = ℕ} 8 32) = ap (λ (i : ℕ). take i row) after ∙ c.write.ensures.written 8 narrow in
    bare_written (take from c.args.room.now) row c.write_text.new.room c.replace.new.room cols c.args.text.now at
    (omega (arith, c.write_text.ensures.room, c.write.ensures.room, c.requires.room, c.requires.narrow, c.requires.few)) head c.write_text.ensures.before c.replace.ensures
