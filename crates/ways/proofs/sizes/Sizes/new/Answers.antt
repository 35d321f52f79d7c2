-- The proof of `Sizes::new`: the numbers for up to that many extras of that many kinds among up to that many actions,
-- or none if one is beyond 64 bits.
use Rattle.std.proofs.Common.{◌≡◌, ◌∙◌, suc, ◌+◌, ◌++◌, List, ℕ, length, ap, sym, subst, arith, length-append}
use Rattle.ways.specs.Rows.{IsRow, AreRows}
use Rattle.ways.proofs.Rows.{rows_more}
use Rattle.ways.proofs.sizes.Sizes.new.Goals as goal

pub loop-extras-preserved : goal.loop-extras-preserved
loop-extras-preserved c =
    let before = c.loop-extras.invariant in
    let wide : length c.in-Some.next.items ≡ c.args.places + 1 = rw c.in-Some.is at c.in_ok-next_row.ensures.length ∙ (ap length c.as_slice-in-loop-extras.ensures.value ∙ before.wide) in
    let row : IsRow c.args.kinds (suc c.loop-extras.extras) c.in-Some.next.items = rw c.in-Some.is at c.in_ok-next_row.ensures.row in
    let next : suc c.loop-extras.extras ≡ c.loop-extras.extras + 1 = omega arith in
    let row_next : IsRow c.args.kinds (c.loop-extras.extras + 1) c.in-Some.next.items = subst (λ k. IsRow c.args.kinds k c.in-Some.next.items) next row in
    let grown : c.extend_from_slice-in-loop-extras.new.self.items ≡ c.loop-extras.numbers.items ++ c.in-Some.next.items =
    c.in_ok-extend_from_slice-2.ensures.items ∙ ap (λ (l : List ℕ). c.loop-extras.numbers.items ++ l) c.as_slice-in-loop-extras-2.ensures.value in
    let longer : length c.extend_from_slice-in-loop-extras.new.self.items ≡ length c.loop-extras.numbers.items + length c.in-Some.next.items =
    ap length grown ∙ length-append c.loop-extras.numbers.items c.in-Some.next.items in
    record {
      wide = wide;
      row = row_next;
      long = omega (arith, longer, before.long, wide);
      rows = subst (AreRows c.args.kinds (c.args.places + 1) (c.loop-extras.extras + 1 + 1)) (sym grown)
          (rows_more c.args.kinds (c.args.places + 1) (c.loop-extras.extras + 1) c.loop-extras.numbers.items c.in-Some.next.items before.long wide before.rows row_next);
    }
