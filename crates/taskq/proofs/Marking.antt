-- How the first task of each mark is noted, from the last task to the first.
use Rattle.std.proofs.Common.{◌≡◌, ◌≢◌, ℕ, ◌<◌, ◌≤◌, ◌+◌, List, length, slice_index_or, slice_set, ap, ◌∙◌, arith, length-set}
use Rattle.std.proofs.lemmas.Grind.{common_steps}
use Rattle.taskq.specs.{Marks.mark, Marks.AreFirstsFrom, Tasks.name_at}

-- after t is written at m, what is at n is at most u, if that is so of t, and of what was at any other place
entry : (firsts : List ℕ) (m n t u : ℕ) → m < length firsts → t ≤ u → (n ≢ m → slice_index_or firsts n 0 ≤ u) → slice_index_or (slice_set firsts m t) n 0 ≤ u
entry firsts m n t u there least others = grind (arith, common_steps)

later : (t u : ℕ) → t ≤ u → u ≢ t → t + 1 ≤ u
later t u least other = grind (arith, common_steps)

-- the task before those that are noted is noted by its mark
pub noted : (firsts : List ℕ) (names : List (List ℕ)) (from to t m : ℕ) → from ≡ t → to ≡ t + 1 → t < length names → m < 1024 → mark (name_at names t) ≡ m
    → AreFirstsFrom to firsts names → AreFirstsFrom from (slice_set firsts m t) names
noted firsts names from to t m is after there few own old = record {
  many = length-set firsts m t ∙ old.many;
  below = λ u begins known.
      let least : t ≤ u = omega (arith, is, begins) in
      entry firsts m (mark (name_at names u)) t u (omega (arith, few, old.many)) least
      (λ other. let next : t + 1 ≤ u = later t u least (λ e. other (ap (λ k. mark (name_at names k)) e ∙ own)) in old.below u (omega (arith, after, next)) known);
}
