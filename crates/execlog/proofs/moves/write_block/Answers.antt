-- What is stored is the text.
use Rattle.std.proofs.Common.{◌≡◌, ◌≤◌, ◌+◌, ◌++◌, ℕ, List, length, take, drop, ap, sym, ◌∙◌, arith, take_all}
use Rattle.std.proofs.lemmas.Simd.{length-put_chunk, take_more_put_chunk}
use Rattle.execlog.proofs.Sheets.{kept_after_store}
use Rattle.execlog.proofs.moves.write_block.Goals as goal
use lib.Lanes.{put_chunk}

pub returns-clause-before : goal.returns-clause-before
returns-clause-before g c =
    let text : List ℕ = c.args.text.now in
    let stored : List ℕ = take g.row.WIDTH text in
    let same : stored ≡ text = take_all g.row.WIDTH text (omega (arith, c.requires.whole)) in
    take_more_put_chunk c.args.at c.args.room.now stored (c.args.at + length text) (omega (arith, ap length same)) c.requires.within
    ∙ ap (λ (l : List ℕ). take c.args.at c.args.room.now ++ l) same

pub returns-clause-after : goal.returns-clause-after
returns-clause-after g c =
    let text : List ℕ = c.args.text.now in
    let stored : List ℕ = take g.row.WIDTH text in
    let long : length stored ≡ length text = ap length (take_all g.row.WIDTH text (omega (arith, c.requires.whole))) in
    let end : c.args.at + length text ≡ c.args.at + length stored = omega (arith, long) in
    ap (λ (k : ℕ). drop k (put_chunk c.args.at c.args.room.now stored)) end
    ∙ kept_after_store c.args.at c.args.room.now stored (omega (arith, long, c.requires.within))
    ∙ ap (λ (k : ℕ). drop k c.args.room.now) (sym end)

pub returns-clause-room : goal.returns-clause-room
returns-clause-room g c = length-put_chunk c.args.at c.args.room.now (take g.row.WIDTH c.args.text.now)
