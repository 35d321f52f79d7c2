-- How many blocks have a tag of some sort, and what holds of every block, where a block is put or freed.
use Rattle.std.proofs.Common.{◌≡◌, ◌≢◌, ℕ, ◌+◌, [], ◌∷◌, Bool, true, false, cond, length, ap, sym, ◌∙◌, subst, arith, Some, None, is_some, nat_eq, not, if◌then◌else◌, filter, nat_cmp}
use Rattle.std.specs.{List.AllByRecursion, Ordering.eq_by_cmp, FinMap.put}
use Rattle.memlist.specs.Blocks.{Blocks, block_at, freed}
use Rattle.memlist.proofs.{Answered.cases_eq, Answered.found_here, Answered.found_later, Answered.key_same, Answered.nat_eq-same, Answered.put_after, Answered.put_before, Gaps.freed_later, Merged.IsRising, Merged.cases_order, Merged.put_same, Slots.AllFrom, Slots.freed_none}

module _ (p : ℕ → Bool) where
  -- how many blocks have a tag that passes
  abbrev pub passing : Blocks → ℕ
  passing es = length (filter (λ (e : ℕ × (ℕ × ℕ)). p e.1.1) es)

  abbrev pub tally : ℕ → ℕ
  tally tag = if p tag then 1 else 0

  passing_more : (e : ℕ × (ℕ × ℕ)) (es : Blocks) → passing (e ∷ es) ≡ tally e.1.1 + passing es
  passing_more e es = by_test (p e.1.1) where
    rest : Blocks
    rest = filter (λ (f : ℕ × (ℕ × ℕ)). p f.1.1) es

    by_test : (b : Bool) → length (cond b (e ∷ rest) rest) ≡ cond b 1 0 + length rest
    by_test true = omega arith
    by_test false = omega arith

here_found : (a : ℕ) (e : ℕ × (ℕ × ℕ)) (es : Blocks) → a ≡ e.0 → block_at a (e ∷ es) ≡ Some e.1
here_found a e es same = ap (λ b. cond b (Some e.1) (block_at a es)) (ap (λ k. eq_by_cmp nat_cmp a k) (sym same) ∙ key_same a)

freed_here : (a : ℕ) (e : ℕ × (ℕ × ℕ)) (es : Blocks) → e.0 ≡ a → freed a (e ∷ es) ≡ freed a es
freed_here a e es same = ap (λ b. cond (not b) (e ∷ freed a es) (freed a es)) (ap (λ k. nat_eq k a) same ∙ nat_eq-same a)

module _ (p : ℕ → Bool) where
  -- a block that is put where none begins
  pub passing_put : (a : ℕ) (v : ℕ × ℕ) (es : Blocks) → block_at a es ≡ None → passing p (put nat_cmp a v es) ≡ tally p v.1 + passing p es
  passing_put a v [] fresh = passing_more p (a, v) []
  passing_put a v (e ∷ es) fresh = cases_order a e.0
      (λ less. ap (passing p) (put_before a v e es less) ∙ passing_more p (a, v) (e ∷ es))
      (λ same. let bad : true ≡ false = ap is_some (sym (here_found a e es same) ∙ fresh) in cc)
      (λ more. omega (
        arith,
        ap (passing p) (put_after a v e es more),
        passing_more p e (put nat_cmp a v es),
        passing_more p e es,
        passing_put a v es (found_later a e None es (λ same. omega (arith, more, same)) fresh),
      ))

  -- a block that is freed
  pub passing_freed : (a : ℕ) (block : ℕ × ℕ) (es : Blocks) → IsRising es → block_at a es ≡ Some block
      → tally p block.1 + passing p (freed a es) ≡ passing p es
  passing_freed a block [] rising found = let bad : false ≡ true = ap is_some found in cc
  passing_freed a block (e ∷ es) rising found = cases_eq e.0 a
      (λ same. ap (λ bs. tally p block.1 + passing p bs)
      (freed_here a e es same ∙ freed_none a es (subst (λ k. AllFrom (k + 1) es) same rising.0))
      ∙ ap (λ (v : ℕ × ℕ). tally p v.1 + passing p es) (sym (found_here a e block es same found)) ∙ sym (passing_more p e es))
      (λ other. omega (
        arith,
        ap (passing p) (freed_later a e es other),
        passing_more p e (freed a es),
        passing_more p e es,
        passing_freed a block es rising.1 (found_later a e (Some block) es other found),
      ))

-- ---- what holds of every block

module _ (P : ℕ × (ℕ × ℕ) → Type 0) where
  pub all_placed : (a : ℕ) (v : ℕ × ℕ) (es : Blocks) → P (a, v) → AllByRecursion P es → AllByRecursion P (put nat_cmp a v es)
  all_placed a v [] here all = (here, tt)
  all_placed a v (e ∷ es) here all = cases_order a e.0
      (λ less. subst (AllByRecursion P) (sym (put_before a v e es less)) (here, all))
      (λ same. subst (AllByRecursion P) (sym (put_same a v e es same)) (subst (λ k. P (k, v)) same here, all.1))
      (λ more. subst (AllByRecursion P) (sym (put_after a v e es more)) (all.0, all_placed a v es here all.1))

module _ {P Q : ℕ × (ℕ × ℕ) → Type 0} where
  pub all_freed : (a : ℕ) (es : Blocks) → ((e : ℕ × (ℕ × ℕ)) → e.0 ≢ a → P e → Q e)
      → AllByRecursion P es → AllByRecursion Q (freed a es)
  all_freed a [] f all = tt
  all_freed a (e ∷ es) f all = cases_eq e.0 a
      (λ same. subst (AllByRecursion Q) (sym (freed_here a e es same)) (all_freed a es f all.1))
      (λ other. subst (AllByRecursion Q) (sym (freed_later a e es other)) (f e other all.0, all_freed a es f all.1))
