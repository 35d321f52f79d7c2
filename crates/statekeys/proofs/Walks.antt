-- A walk along a list in which each item is once, and along the tasks of a machine.
use Rattle.std.proofs.Common.{◌≡◌, ◌∙◌, ◌<◌, ◌+◌, ℕ, suc, Bool, true, false, List, [], ◌∷◌, ◌++◌, ◌==◌, ◌||◌, Option, None, Some, refl, sym, ap, arith, nat_lt, append_assoc, if◌then◌else◌}
use Rattle.std.specs.List.{list_any}
use Rattle.std.proofs.lemmas.Bool.Decides.{nat_tests}
use Rattle.execlist.specs.{Lists.part_after, Lists.part_from, Order.first}
use Rattle.scheduler.specs.Schedule.{Schedule}
use Rattle.execmodel.specs.State.{Scripts}
use Rattle.execmodel.proofs.Heaps.{true_is_not_false}
use Rattle.statekeys.specs.Numbers.{task_numbers, tasks_numbers}

-- ---- lists

is_itself : (n : ℕ) → (n == n) ≡ true
is_itself n = grind (arith, nat_tests)

-- what is after an item that is nowhere before
after_it : (t : ℕ) (list rest : List ℕ) → list_any (λ y. y == t) list ≡ false → part_after t (list ++ (t ∷ rest)) ≡ rest
after_it t [] rest none = ap (λ (test : Bool). if test then rest else part_after t rest) (is_itself t)
after_it t (x ∷ list) rest none = by_test (after_it t list rest) (x == t) none
  where
    by_test : (list_any (λ y. y == t) list ≡ false → part_after t (list ++ (t ∷ rest)) ≡ rest) → (test : Bool)
        → (test || list_any (λ y. y == t) list) ≡ false
        → (if test then list ++ (t ∷ rest) else part_after t (list ++ (t ∷ rest))) ≡ rest
    by_test others true e = true_is_not_false e
    by_test others false e = others e

-- one item more
pub walked_more : (after : Option ℕ) (xs list : List ℕ) (t : ℕ) (new : List ℕ) → xs ≡ list ++ part_from after xs → Some t ≡ first (part_from after xs)
    → list_any (λ y. y == t) list ≡ false → new ≡ list ++ t ∷ [] → xs ≡ new ++ part_after t xs
walked_more after xs list t new is found none grown = by_rest (part_from after xs) is found
  where
    by_rest : (rest : List ℕ) → xs ≡ list ++ rest → Some t ≡ first rest → xs ≡ new ++ part_after t xs
    by_rest [] whole e = absurd cc
    by_rest (x ∷ rest) whole e =
        let same : x ≡ t = cc in
        let here : xs ≡ list ++ (t ∷ rest) = whole ∙ ap (λ (y : ℕ). list ++ (y ∷ rest)) same in
        let behind : part_after t xs ≡ rest = ap (part_after t) here ∙ after_it t list rest none in
        here ∙ (sym (append_assoc list (t ∷ []) rest)
        ∙ (ap (λ (l : List ℕ). l ++ rest) (sym grown) ∙ ap (λ (r : List ℕ). new ++ r) (sym behind)))

-- ---- tasks

pub task_there : {A : Type 0} (t n : ℕ) (view other : A) → Some other ≡ (if nat_lt t n then Some view else None) → t < n
task_there {A} t n view other e = by_test (nat_lt t n) refl e
  where
    less : nat_lt t n ≡ true → t < n
    less is = grind (arith, nat_tests)

    by_test : (test : Bool) → nat_lt t n ≡ test → Some other ≡ (if test then Some view else None) → t < n
    by_test true is e = less is
    by_test false is e = absurd cc

-- one task more
pub tasks_more : (t : ℕ) (s : Schedule) (p : Scripts) → tasks_numbers (t + 1) s p ≡ tasks_numbers t s p ++ task_numbers t s p
tasks_more t s p = let one : t + 1 ≡ suc t = omega arith in ap (λ (k : ℕ). tasks_numbers k s p) one
