-- The columns are what is before the spaces.
use Rattle.std.proofs.Common.{◌≡◌, ◌-◌, ℕ, List, length, replicate, sym, ◌∙◌, arith}
use Rattle.std.proofs.lemmas.List.{length-replicate}
use Rattle.execlog.proofs.{Laying.columns_room, Sheets.columns_length, Sheets.columns_taken}
use Rattle.execlog.specs.Rows.{columns}
use Rattle.execlog.proofs.head.Head.columns.Goals as goal

pub returns : goal.returns
returns c =
    let h = c.args.self.now in
    let spaces : List ℕ = replicate {A = ℕ} 128 32 in
    let cols : List ℕ = columns h.number h.clock in
    let shows = h.is_head.shows ∙ sym (columns_room h.number h.clock spaces h.is_head.small) in
    let long : length cols ≡ 64 - h.start =
    columns_length h.room cols spaces h.start shows 64 (omega (arith, h.is_head.roomy, length-replicate {A = ℕ} 128 32)) h.is_head.starts in
    columns_taken h.room cols spaces h.start shows (64 - h.start) long
