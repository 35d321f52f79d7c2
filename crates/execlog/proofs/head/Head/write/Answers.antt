-- The columns are copied, and some of the spaces after them.
use Rattle.std.proofs.Common.{◌≡◌, ◌≤◌, ◌++◌, ◌+◌, ◌-◌, ℕ, List, length, take, drop, replicate, ap, sym, ◌∙◌, arith}
use Rattle.std.proofs.lemmas.List.{length-replicate}
use Rattle.execlog.proofs.{Laying.columns_room, Sheets.columns_length, Sheets.columns_written}
use Rattle.execlog.specs.Rows.{columns}
use Rattle.execlog.proofs.head.Head.write.Goals as goal

pub returns-clause-written : goal.returns-clause-written
returns-clause-written g c = λ k within.
    let h = c.args.self.now in
    let n : ℕ = g.row.N in
    let spaces : List ℕ = replicate {A = ℕ} 128 32 in
    let cols : List ℕ = columns h.number h.clock in
    let shows : drop h.start h.room ≡ cols ++ spaces = h.is_head.shows ∙ sym (columns_room h.number h.clock spaces h.is_head.small) in
    let long : length cols ≡ 64 - h.start =
    columns_length h.room cols spaces h.start shows 64 (omega (arith, h.is_head.roomy, length-replicate {A = ℕ} 128 32)) h.is_head.starts in
    let same : h.start + n - h.start ≡ n = omega arith in
    let inside : c.args.from ≤ length c.args.room.now = omega (arith, c.requires.room) in
    columns_written c.args.room.now c.write_block.new.room cols (take (h.start + n - h.start) (drop h.start h.room)) c.args.from (64 - h.start) k n inside long
    c.requires.few within (ap (λ (i : ℕ). take i (drop h.start h.room)) same ∙ ap (take n) shows) c.write_block.ensures.before
