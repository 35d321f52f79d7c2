-- The two moves write the text, and what is after it is kept.
use Rattle.std.proofs.Common.{◌≡◌, ◌≤◌, ◌+◌, ◌-◌, ℕ, length, take, drop, refl, ap, sym, ◌∙◌, length-drop, arith, length-take-le}
use Rattle.exectrace.proofs.Drafts.{both_ends}
use Rattle.execlog.proofs.Sheets.{kept_after}
use Rattle.execlog.proofs.moves.write_ends.Goals as goal

pub returns-clause-before : goal.returns-clause-before
returns-clause-before g c =
    let inside : c.args.at ≤ length c.args.room.now = omega (arith, c.requires.within) in
    both_ends c.args.room.now c.write_block.new.room c.write_block-2.new.room c.args.text.now c.args.at g.row.WIDTH _ inside c.requires.wide c.requires.narrow refl
    c.write_block.ensures.before c.write_block-2.ensures.before

pub returns-clause-after : goal.returns-clause-after
returns-clause-after g c =
    let text = c.args.text.now in
    let width : ℕ = g.row.WIDTH in
    let rest : ℕ = length text - width in
    let first : length (take width text) ≡ width = length-take-le width text c.requires.wide in
    let others : length (drop rest text) ≡ length text - rest = length-drop rest text in
    let many : length text - rest ≤ length (drop rest text) = omega (arith, others) in
    let last : length (take (length text - rest) (drop rest text)) ≡ length text - rest = length-take-le (length text - rest) (drop rest text) many in
    let end : c.args.at + length text ≡ c.args.at + rest + length (take (length text - rest) (drop rest text)) = omega (arith, last, c.requires.wide) in
    let below : c.args.at + length (take width text) ≤ c.args.at + length text = omega (arith, first, c.requires.wide) in
    ap (λ (k : ℕ). drop k c.write_block-2.new.room) end
    ∙ c.write_block-2.ensures.after
    ∙ ap (λ (k : ℕ). drop k c.write_block.new.room) (sym end)
    ∙ kept_after (c.args.at + length (take width text)) (c.args.at + length text) c.write_block.new.room c.args.room.now below c.write_block.ensures.after
