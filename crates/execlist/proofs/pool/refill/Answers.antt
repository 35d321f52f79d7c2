-- The stack has room for one number more, and then holds it.
use Rattle.std.proofs.Common.{◌≡◌, ◌+◌, [], ◌∷◌, ◌++◌, length, ap, ◌∙◌, arith, is_ok, if◌then◌else◌}
use Rattle.std.specs.List.{range_with_len}
use Rattle.std.proofs.lemmas.List.FromFn.{length-range_with_len}
use Rattle.execlist.proofs.Pools.{range_pushed}
use Rattle.execlist.proofs.pool.refill.Goals as goal

pub unwrap-requires : goal.unwrap-requires
unwrap-requires c =
    let long : length c.loop-n.free.items ≡ c.loop-n.n = ap length c.loop-n.invariant.numbers ∙ length-range_with_len 0 c.loop-n.n in
    c.push.ensures.succeeds (omega (arith, c.loop-n.free.ok.0, long, c.loop-n-test.true, c.requires.room, c.loop-n.invariant.capacity))

pub loop-n-preserved : goal.loop-n-preserved
loop-n-preserved c =
    let n = c.loop-n.n in let before = c.loop-n.free.items in let same : n ≡ 0 + n = omega arith in
    record {
      numbers =
          c.push.ensures.items ∙ ap (λ r. if is_ok r then before ++ n ∷ [] else before) c.unwrap.ensures
          ∙ ap (λ xs. xs ++ n ∷ []) c.loop-n.invariant.numbers ∙ ap (λ k. range_with_len 0 n ++ k ∷ []) same ∙ range_pushed 0 n;
      capacity = omega (arith, c.loop-n.invariant.capacity, c.push.ensures.capacity);
      within = omega (arith, c.loop-n-test.true);
    }
