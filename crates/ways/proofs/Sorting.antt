-- The ways are in the order of a dictionary: the kinds by number, and the actions after them.
use Rattle.std.proofs.Common.{◌≡◌, ◌∙◌, ◌<◌, ◌≤◌, ◌+◌, ℕ, zero, suc, List, [], ◌∷◌, ◌++◌, refl, ap, ap₂, arith, map, replicate}
use Rattle.std.specs.List.{range_with_len}
use Rattle.ways.specs.{Ways.exactly, Ways.with_before, Ways.with_each, Sorted.here, Sorted.later, Sorted.IsBeforeAll, Sorted.AreInOrder}

-- ---- two lists of lists

before_both : (xs : List ℕ) (some others : List (List ℕ)) → IsBeforeAll xs some → IsBeforeAll xs others → IsBeforeAll xs (some ++ others)
before_both xs [] others one two = two
before_both xs (ys ∷ some) others one two = (one.0, before_both xs some others one.1 two)

-- each of some is before each of others
abbrev AreBefore : (some others : List (List ℕ)) → Type 0
AreBefore [] others = Unit {0}
AreBefore (xs ∷ some) others = IsBeforeAll xs others × AreBefore some others

in_order_both : (some others : List (List ℕ)) → AreInOrder some → AreInOrder others → AreBefore some others → AreInOrder (some ++ others)
in_order_both [] others one two apart = two
in_order_both (xs ∷ some) others one two apart =
    (before_both xs some others one.0 apart.0, in_order_both some others one.1 two apart.1)

-- ---- a number before each

later_all : (x : ℕ) (xs : List ℕ) (others : List (List ℕ)) → IsBeforeAll xs others → IsBeforeAll (x ∷ xs) (with_before x others)
later_all x xs [] all = tt
later_all x xs (ys ∷ others) all = (later x xs ys all.0, later_all x xs others all.1)

before_in_order : (x : ℕ) (some : List (List ℕ)) → AreInOrder some → AreInOrder (with_before x some)
before_in_order x [] order = tt
before_in_order x (xs ∷ some) order = (later_all x xs some order.0, before_in_order x some order.1)

here_all : (x y : ℕ) (xs : List ℕ) (others : List (List ℕ)) → x < y → IsBeforeAll (x ∷ xs) (with_before y others)
here_all x y xs [] less = tt
here_all x y xs (ys ∷ others) less = (here x y xs ys less, here_all x y xs others less)

smaller_before : (x y : ℕ) (some others : List (List ℕ)) → x < y → AreBefore (with_before x some) (with_before y others)
smaller_before x y [] others less = tt
smaller_before x y (xs ∷ some) others less = (here_all x y xs others less, smaller_before x y some others less)

-- ---- each of some numbers before each

-- the numbers from one on
from_each : (x low many : ℕ) (xs : List ℕ) (others : List (List ℕ)) → x < low → IsBeforeAll (x ∷ xs) (with_each (range_with_len low many) others)
from_each x low zero xs others less = tt
from_each x low (suc many) xs others less =
    before_both (x ∷ xs) (with_before low others) (with_each (range_with_len (low + 1) many) others) (here_all x low xs others less)
    (from_each x (low + 1) many xs others (omega (arith, less)))

each_after : (x low many : ℕ) (some others : List (List ℕ)) → x < low → AreBefore (with_before x some) (with_each (range_with_len low many) others)
each_after x low many [] others less = tt
each_after x low many (xs ∷ some) others less = (from_each x low many xs others less, each_after x low many some others less)

each_in_order : (low many : ℕ) (some : List (List ℕ)) → AreInOrder some → AreInOrder (with_each (range_with_len low many) some)
each_in_order low zero some order = tt
each_in_order low (suc many) some order =
    in_order_both (with_before low some) (with_each (range_with_len (low + 1) many) some) (before_in_order low some order)
    (each_in_order (low + 1) many some order) (each_after low (low + 1) many some some (omega arith))

all_both : (some more others : List (List ℕ)) → AreBefore some others → AreBefore more others → AreBefore (some ++ more) others
all_both [] more others one two = two
all_both (xs ∷ some) more others one two = (one.0, all_both some more others one.1 two)

each_smaller : (low many y : ℕ) (some others : List (List ℕ)) → low + many ≤ y → AreBefore (with_each (range_with_len low many) some) (with_before y others)
each_smaller low zero y some others less = tt
each_smaller low (suc many) y some others less =
    all_both (with_before low some) (with_each (range_with_len (low + 1) many) some) (with_before y others)
    (smaller_before low y some others (omega (arith, less))) (each_smaller (low + 1) many y some others (omega (arith, less)))

-- ---- the ways

pub ways_in_order : (many j actions : ℕ) → AreInOrder (exactly (range_with_len 0 many) j (replicate actions many))
ways_in_order many zero actions = (tt, tt)
ways_in_order many (suc j) zero = each_in_order 0 many (exactly (range_with_len 0 many) j []) (ways_in_order many j zero)
ways_in_order many (suc j) (suc actions) =
    let kinds = range_with_len 0 many in
    let all = replicate actions many in
    in_order_both (with_each kinds (exactly kinds j (many ∷ all))) (with_before many (exactly kinds (suc j) all))
    (each_in_order 0 many (exactly kinds j (many ∷ all)) (ways_in_order many j (suc actions)))
    (before_in_order many (exactly kinds (suc j) all) (ways_in_order many (suc j) actions))
    (each_smaller 0 many many (exactly kinds j (many ∷ all)) (exactly kinds (suc j) all) (omega arith))

-- ---- other names for kinds and actions

module _ {A B : Type 0} (f : A → B) where
  map_both : (xs ys : List (List A)) → map (map f) (xs ++ ys) ≡ map (map f) xs ++ map (map f) ys
  map_both [] ys = refl
  map_both (x ∷ xs) ys = ap (λ (l : List (List B)). map f x ∷ l) (map_both xs ys)

  map_before : (a : A) (ws : List (List A)) → map (map f) (with_before a ws) ≡ with_before (f a) (map (map f) ws)
  map_before a [] = refl
  map_before a (w ∷ ws) = ap (λ (l : List (List B)). (f a ∷ map f w) ∷ l) (map_before a ws)

  map_each : (kinds : List A) (ws : List (List A)) → map (map f) (with_each kinds ws) ≡ with_each (map f kinds) (map (map f) ws)
  map_each [] ws = refl
  map_each (k ∷ kinds) ws =
      map_both (with_before k ws) (with_each kinds ws) ∙ ap₂ (λ (l r : List (List B)). l ++ r) (map_before k ws) (map_each kinds ws)

  pub map_ways : (kinds : List A) (j : ℕ) (acts : List A) → map (map f) (exactly kinds j acts) ≡ exactly (map f kinds) j (map f acts)
  map_ways kinds zero acts = refl
  map_ways kinds (suc j) [] =
      map_each kinds (exactly kinds j []) ∙ ap (λ (ws : List (List B)). with_each (map f kinds) ws) (map_ways kinds j [])
  map_ways kinds (suc j) (a ∷ acts) =
      map_both (with_each kinds (exactly kinds j (a ∷ acts))) (with_before a (exactly kinds (suc j) acts))
      ∙ ap₂ (λ (l r : List (List B)). l ++ r)
      (map_each kinds (exactly kinds j (a ∷ acts)) ∙ ap (λ (ws : List (List B)). with_each (map f kinds) ws) (map_ways kinds j (a ∷ acts)))
      (map_before a (exactly kinds (suc j) acts) ∙ ap (λ (ws : List (List B)). with_before (f a) ws) (map_ways kinds (suc j) acts))
