-- The first bytes and the last ones before the line feed are all bytes before it.
use Rattle.std.proofs.Common.{◌≡◌, ◌-◌, ◌≤◌, ℕ, length, arith}
use Rattle.execlog.proofs.Feeds.{part_goes_on}
use Rattle.execlog.specs.Rows.{IsPartTo}
use Rattle.execlog.proofs.feed.is_line_by.Goals as goal

pub returns : goal.returns
returns g c = λ same.
    let text = c.args.text.now in
    let n : ℕ = g.row.N in
    let end : ℕ = length text - 1 in
    let front : IsPartTo n text =
    part_goes_on text 0 n n (λ k l. absurd (omega (arith, l))) (λ k l m. c.has_feed.ensures c.if-has_feed.false k l) n (omega arith) (omega arith) in (
      omega (arith, c.if-len.false),
      c.if-text-end-ne10.false,
      part_goes_on text (end - n) n n (λ k l. front k (omega (arith, l, c.if-len-2.false))) (λ k l m. c.has_feed-2.ensures c.if-has_feed-2.false k l) end
          (omega (arith, c.if-len.false)) (omega (arith, c.if-len.false)),
    )
