-- Where a request is, reported by its home.
use Rattle.std.proofs.Common.{◌≡◌, ℕ, zero, suc, ◌<◌, ◌≤◌, cond, not, eqb, List, length, refl, sym, ap, ◌∙◌, arith, Option, Some, None, is_some, IsSome, eq-eqb}
use Rattle.std.proofs.lemmas.Bool.{cond-true}
use Rattle.execlist.specs.Lists.{home, sequence, times, is_at}
use Rattle.execlist.proofs.PlainLemmas.{home_header, home_known}

-- each request is in the header that is its home, once, and in no other
abbrev pub Stands : List (List ℕ) → List (Option ℕ) → Type 0
Stands all homes = (h r : ℕ) → times r (sequence all h) ≡ cond (is_at (home homes r) h) 1 0

pub some_known : (homes : List (Option ℕ)) (i : ℕ) → IsSome (home homes i) → i < length homes
some_known homes i some = at (home homes i) refl some where
  at : (o : Option ℕ) → home homes i ≡ o → IsSome o → i < length homes
  at None e some = cc
  at (Some h) e some = home_known homes i h e

-- a home is a header that there is
pub home_there : (all : List (List ℕ)) (homes : List (Option ℕ)) (r h : ℕ) → Stands all homes → home homes r ≡ Some h → h < length all
home_there all homes r h stands e = home_header all homes r h (stands h r) e

-- with one header, a request is in it if it has a home
pub only_header : (all : List (List ℕ)) (homes : List (Option ℕ)) (r : ℕ) → length all ≡ 1 → Stands all homes
    → times r (sequence all 0) ≡ cond (is_some (home homes r)) 1 0
only_header all homes r one stands = stands 0 r ∙ at (home homes r) refl where
  at : (o : Option ℕ) → home homes r ≡ o → cond {A = ℕ} (is_at o 0) 1 0 ≡ cond {A = ℕ} (is_some o) 1 0
  at None e = refl
  at (Some zero) e = refl
  at (Some (suc h)) e = absurd (omega (arith, one, home_there all homes r (suc h) stands e))

pub home_zero : (all : List (List ℕ)) (homes : List (Option ℕ)) (r : ℕ) → length all ≡ 1 → Stands all homes → 1 ≤ times r (sequence all 0)
    → home homes r ≡ Some 0
home_zero all homes r one stands here = at (home homes r) refl where
  at : (o : Option ℕ) → home homes r ≡ o → home homes r ≡ Some 0
  at None e = absurd (omega (arith, here, stands 0 r, ap {B = ℕ} (λ o. cond (is_at o 0) 1 0) e))
  at (Some zero) e = e
  at (Some (suc h)) e = absurd (omega (arith, one, home_there all homes r (suc h) stands e))

-- ---- a request that has a home, or none

pub has_home : (o : Option ℕ) (n : ℕ) → n ≡ cond (is_some o) 1 0 → 1 ≤ n → IsSome o
has_home None n e here = absurd (omega (arith, e, here))
has_home (Some h) n e here = refl

pub homeless : (o : Option ℕ) (n : ℕ) → n ≡ cond (is_some o) 1 0 → n ≡ 0 → o ≡ None
homeless None n e none = refl
homeless (Some h) n e none = absurd (omega (arith, e, none))

pub stands_once : (o : Option ℕ) (n h : ℕ) → n ≡ cond (is_at o h) 1 0 → o ≡ Some h → 1 ≤ n
stands_once o n h e own = omega (arith, e, ap {B = ℕ} (λ k. cond (is_at k h) 1 0) own, cond-true {A = ℕ} (eqb h h) 1 0 (eq-eqb h h refl))

pub is_some_stands : (o : Option ℕ) (n : ℕ) → n ≡ cond (is_some o) 1 0 → is_some o ≡ not (eqb n 0)
is_some_stands None n e = sym (ap (λ k. not (eqb k 0)) e)
is_some_stands (Some h) n e = sym (ap (λ k. not (eqb k 0)) e)
