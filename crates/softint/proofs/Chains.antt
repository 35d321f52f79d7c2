-- The servers of a source, put into its chain one after another.
use Rattle.std.proofs.Common.{◌≡◌, ℕ, zero, suc, ◌+◌, ◌<◌, Bool, true, false, cond, List, [], ◌∷◌, ◌++◌, length, refl, sym, ap, ◌∙◌, subst, arith, Option, Some, None, All, IfSome, ℤ, filter, slice_get}
use Rattle.std.specs.List.{range_with_len}
use Rattle.std.proofs.lemmas.List.Elements.{All-cons, All-nil, All-head, All-tail, filter-append}
use Rattle.execlist.specs.Order.{enqueue, order, is_lower}
use Rattle.execlist.proofs.{OrderLaws.order_takes, PlainLemmas.one_more}
use Rattle.softint.specs.{declared.source.Source.Source, declared.interrupt.Server.Server, Interrupts.chain, Interrupts.server_pri, Interrupts.serves}

module _ (key : ℕ → ℤ) (test : ℕ → Bool) where
  -- those of the first n numbers that pass, by key
  abbrev pub chain_to : ℕ → List ℕ
  chain_to n = order key (filter test (range_with_len 0 n))

  pub chain_begins : chain_to 0 ≡ []
  unfolding order
  chain_begins = refl

  one_more_passes : (n : ℕ) (b : Bool) → test n ≡ b → filter test (range_with_len 0 (n + 1)) ≡ filter test (range_with_len 0 n) ++ cond b (n ∷ []) []
  one_more_passes n b e = ap (filter test) (one_more n) ∙ filter-append test (range_with_len 0 n) (n ∷ []) ∙ ap (λ c. filter test (range_with_len 0 n) ++ cond c (n ∷ []) []) e

  -- a number that passes is put in by its key
  pub chain_takes : (n : ℕ) → test n ≡ true → chain_to (n + 1) ≡ enqueue key (chain_to n) n
  chain_takes n e = ap (order key) (one_more_passes n true e) ∙ order_takes ℕ key (filter test (range_with_len 0 n)) n

  -- one that does not pass is left out
  pub chain_skips : (n : ℕ) → test n ≡ false → chain_to (n + 1) ≡ chain_to n
  chain_skips n e = ap (order key) (one_more_passes n false e ∙ nothing_more (filter test (range_with_len 0 n))) where
    nothing_more : (xs : List ℕ) → xs ++ [] ≡ xs
    nothing_more [] = refl
    nothing_more (x ∷ xs) = ap (λ l. x ∷ l) (nothing_more xs)

-- ---- the numbers of a chain

All-enqueue : (key : ℕ → ℤ) (P : ℕ → Type 0) (x : ℕ) (xs : List ℕ) → P x → All P xs → All P (enqueue key xs x)
All-enqueue key P x [] p ps = All-cons P x [] p (All-nil P)
All-enqueue key P x (y ∷ ys) p ps = by_case (is_lower key y x) (All-enqueue key P x ys p (All-tail P y ys ps)) where
  by_case : (b : Bool) → All P (enqueue key ys x) → All P (cond b (x ∷ y ∷ ys) (y ∷ enqueue key ys x))
  by_case true ih = All-cons P x (y ∷ ys) p ps
  by_case false ih = All-cons P y (enqueue key ys x) (All-head P y ys ps) ih

-- one more number
grows : (key : ℕ → ℤ) (test : ℕ → Bool) (n : ℕ) → All (λ k. k < n) (chain_to key test n) → All (λ k. k < n + 1) (chain_to key test (n + 1))
grows key test n known = by_case (test n) refl where
  before : All (λ k. k < n + 1) (chain_to key test n)
  before = λ k d within. omega (arith, known k d within)

  by_case : (b : Bool) → test n ≡ b → All (λ k. k < n + 1) (chain_to key test (n + 1))
  by_case true e = subst (All (λ k. k < n + 1)) (sym (chain_takes key test n e)) (All-enqueue key (λ k. k < n + 1) n (chain_to key test n) (omega arith) before)
  by_case false e = subst (All (λ k. k < n + 1)) (sym (chain_skips key test n e)) before

-- they are among the numbers that were tried
pub chain_known : (key : ℕ → ℤ) (test : ℕ → Bool) (n : ℕ) → All (λ k. k < n) (chain_to key test n)
chain_known key test zero = subst (All (λ k. k < 0)) (sym (chain_begins key test)) (All-nil (λ k. k < 0))
chain_known key test (suc n) =
    let more : n + 1 ≡ suc n = omega arith in
    subst (λ m. All (λ k. k < m) (chain_to key test m)) more (grows key test n (chain_known key test n))

known_at : (xs : List ℕ) (n k s : ℕ) → All (λ x. x < n) xs → slice_get xs k ≡ Some s → s < n
known_at [] n k s all e = cc
known_at (x ∷ xs) n zero s all e = let same : x ≡ s = cc in subst (λ y. y < n) same (All-head (λ y. y < n) x xs all)
known_at (x ∷ xs) n (suc k) s all e = known_at xs n k s (All-tail (λ y. y < n) x xs all) e

-- what a chain has at a place is a server
pub server_known : (source : Source) (servers : List Server) (k : ℕ) (o : Option ℕ) → o ≡ slice_get (chain source servers) k → IfSome o (λ s. s < length servers)
server_known source servers k None e = tt
server_known source servers k (Some s) e =
    known_at (chain source servers) (length servers) k s (chain_known (server_pri servers) (serves source servers) (length servers)) (sym e)
