-- The proof of `write_rest`: writes these bytes, at least one, in as many writes as it needs, to a sink whose last 16
-- writes did not all take none.
use Rattle.exectrace.proofs.Pieces.{Appends-rest, rest_fits, good_at_end, Breaks-exhausted}
use Rattle.std.proofs.Common.{◌≡◌, ◌<◌, ◌≤◌, refl, false, true, arith}
use Rattle.exectrace.specs.Sink.{empties}
use Rattle.exectrace.proofs.sinks.write_rest.Goals as goal

pub returns-then-is_exhausted : goal.returns-then-is_exhausted
returns-then-is_exhausted g c =
    let taken = c.in-Ok.ensures in
    let before = c.loop-done.invariant in
    let full : 16 ≤ empties c.state.result = c.if-is_exhausted.ensures.0 refl in
    Breaks-exhausted _ (g.W.Sink.tape c.loop-done.out) _ _ _ _ c.loop-done-test.true before.few_empty before.took taken.1 taken.2 (rw c.state.ensures at full)

pub loop-done-preserved : goal.loop-done-preserved
loop-done-preserved g c =
    let taken = c.in-Ok.ensures in
    let before = c.loop-done.invariant in
    let not_full : 16 ≤ empties c.state.result → ⊥ = (λ h. let bad : false ≡ true = c.if-is_exhausted.ensures.1 h in cc) in
    let few : empties c.state.result < 16 = omega (arith, not_full) in
    record {
      in_range = rest_fits _ _ _ c.loop-done-test.true taken.0;
      took = Appends-rest _ _ _ _ _ _ before.took taken.1;
      few_empty = rw c.state.ensures at few;
      good_at_end = good_at_end (g.W.Sink.tape c.loop-done.out).state _ _ _ _ c.loop-done-test.true taken.2;
    }
