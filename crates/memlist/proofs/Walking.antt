-- Walks along the chain: what has been looked at, and what that says once the walk ends.
use Rattle.std.proofs.Common.{◌≡◌, ◌≢◌, ℕ, ◌+◌, ◌<◌, ◌≤◌, cond, max, List, [], ◌∷◌, ◌++◌, map, refl, sym, ◌∙◌, ap, subst, arith, append_assoc, append-nil, None, Option, Some, nat_eq, slice_get}
use Rattle.std.specs.List.{AllByRecursion}
use Rattle.memlist.specs.{declared.gap.Gap.Gap, Fit.greatest, Fit.lowest_gap, Chain.IsLastBelow, Chain.IsPassed, Chain.IsSpot, Chain.IsWalked, Chain.first_or, Chain.last_or, Chain.upper_next, Chain.upper_size, Joins.Around}
use Rattle.memlist.proofs.{Answered.nat_eq-same, Answered.nat_eq-other, Edits.back, Edits.back_above, Edits.front, Edits.front_back, Edits.front_below, Choices.lowest_after, Choices.lowest_nowhere, Writing.last_append}

abbrev pub passed_walk : {P : Gap → Type 0} {gaps : List Gap} {before : ℕ} → IsPassed P gaps before → IsWalked gaps before
passed_walk p = record { below = p.below; above = p.above; is = p.is; last = p.last }

-- the gaps up to an address are looked at, and a number is made of them
pub record IsCounted (f : List Gap → ℕ) (gaps : List Gap) (before n : ℕ) : Type 0 where
  pub below : List Gap
  pub above : List Gap
  pub is : gaps ≡ below ++ above
  pub last : before ≡ last_or 0 below
  pub count : n ≡ f below

abbrev pub counted_walk : {f : List Gap → ℕ} {gaps : List Gap} {before n : ℕ} → IsCounted f gaps before n → IsWalked gaps before
counted_walk p = record { below = p.below; above = p.above; is = p.is; last = p.last }

pub record IsAhead (above : List Gap) (gap : Gap) : Type 0 where
  pub rest : List Gap
  pub is : above ≡ gap ∷ rest

pub ahead : (above : List Gap) (gap : Gap) → Some gap ≡ slice_get above 0 → IsAhead above gap
ahead [] gap at = cc
ahead (y ∷ ys) gap at = let same : y ≡ gap = cc in record { rest = ys; is = ap (λ (g : Gap). g ∷ ys) same }

pub nothing_ahead : (above : List Gap) → None ≡ slice_get above 0 → above ≡ []
nothing_ahead [] at = refl
nothing_ahead (y ∷ ys) at = cc

pub one_more : (gaps below above : List Gap) (gap : Gap) (a : IsAhead above gap) → gaps ≡ below ++ above → gaps ≡ (below ++ gap ∷ []) ++ a.rest
one_more gaps below above gap a is = is ∙ ap (λ gs. below ++ gs) a.is ∙ sym (append_assoc below (gap ∷ []) a.rest)

by_append : (P : Gap → Type 0) (xs : List Gap) (gap : Gap) → AllByRecursion P xs → P gap → AllByRecursion P (xs ++ gap ∷ [])
by_append P [] gap all h = (h, tt)
by_append P (x ∷ xs) gap all h = (all.0, by_append P xs gap all.1 h)

pub pass_start : (P : Gap → Type 0) (gaps : List Gap) → IsPassed P gaps 0
pass_start P gaps = record { below = []; above = gaps; is = refl; last = refl; passed = tt }

pub pass : (P : Gap → Type 0) (gaps : List Gap) (before : ℕ) (gap : Gap) (p : IsPassed P gaps before) → Some gap ≡ slice_get p.above 0 → P gap → IsPassed P gaps gap.address
pass P gaps before gap p at h =
    let a = ahead p.above gap at in
    record { below = p.below ++ gap ∷ []; above = a.rest; is = one_more gaps p.below p.above gap a p.is; last = sym (last_append 0 p.below gap); passed = by_append P p.below gap p.passed h }

pub count_start : (f : List Gap → ℕ) (gaps : List Gap) → 0 ≡ f [] → IsCounted f gaps 0 0
count_start f gaps is = record { below = []; above = gaps; is = refl; last = refl; count = is }

pub count : (f : List Gap → ℕ) (gaps : List Gap) (before n m : ℕ) (gap : Gap) (p : IsCounted f gaps before n) → Some gap ≡ slice_get p.above 0 → m ≡ f (p.below ++ gap ∷ []) → IsCounted f gaps gap.address m
count f gaps before n m gap p at h =
    let a = ahead p.above gap at in
    record { below = p.below ++ gap ∷ []; above = a.rest; is = one_more gaps p.below p.above gap a p.is; last = sym (last_append 0 p.below gap); count = h }

pub counted : (f : List Gap → ℕ) (gaps : List Gap) (before n : ℕ) (p : IsCounted f gaps before n) → None ≡ slice_get p.above 0 → n ≡ f gaps
counted f gaps before n p at = p.count ∙ ap f (sym (p.is ∙ ap (λ gs. p.below ++ gs) (nothing_ahead p.above at) ∙ append-nil p.below))

-- The lowest gap that is large enough

pub found_spot : (size : ℕ) (gaps : List Gap) (before : ℕ) (gap : Gap) (p : IsPassed (λ gap. gap.size < size) gaps before) → Some gap ≡ slice_get p.above 0 → size ≤ gap.size → IsSpot size gaps before
found_spot size gaps before gap p at fits =
    let a = ahead p.above gap at in
    let is = p.is ∙ ap (λ gs. p.below ++ gs) a.is in
    record { below = p.below; gap = gap; above = a.rest; is = is; last = p.last; lowest = ap (lowest_gap size) is ∙ lowest_after size p.below gap a.rest p.passed fits; fits = fits }

pub found_nothing : (size : ℕ) (gaps : List Gap) (before : ℕ) (p : IsPassed (λ gap. gap.size < size) gaps before) → None ≡ slice_get p.above 0 → lowest_gap size gaps ≡ None
found_nothing size gaps before p at =
    ap (lowest_gap size) (p.is ∙ ap (λ gs. p.below ++ gs) (nothing_ahead p.above at) ∙ append-nil p.below) ∙ lowest_nowhere size p.below p.passed

-- The chunk below an address

-- two ways to part gaps at an address are one
pub same_part : (address : ℕ) (xs ys us vs : List Gap) → xs ++ ys ≡ us ++ vs → AllByRecursion (λ (gap : Gap). gap.address < address) xs → AllByRecursion (λ (gap : Gap). address ≤ gap.address) ys
    → AllByRecursion (λ (gap : Gap). gap.address < address) us → AllByRecursion (λ (gap : Gap). address ≤ gap.address) vs → xs ≡ us
same_part address [] ys [] vs is a b c d = refl
same_part address [] [] (u ∷ us) vs is a b c d = cc
same_part address [] (y ∷ ys) (u ∷ us) vs is a b c d =
    let same : y ≡ u = cc in let at = ap (λ (g : Gap). g.address) same in absurd (omega (arith, at, b.0, c.0))
same_part address (x ∷ xs) ys [] [] is a b c d = cc
same_part address (x ∷ xs) ys [] (v ∷ vs) is a b c d =
    let same : x ≡ v = cc in let at = ap (λ (g : Gap). g.address) same in absurd (omega (arith, at, a.0, d.0))
same_part address (x ∷ xs) ys (u ∷ us) vs is a b c d =
    let same : x ≡ u = cc in
    let rest : xs ++ ys ≡ us ++ vs = cc in
    ap (λ (g : Gap). g ∷ xs) same ∙ ap (λ gs. u ∷ gs) (same_part address xs ys us vs rest a.1 b c.1 d)

pub parted_here : (address : ℕ) (gaps : List Gap) (before : ℕ) (p : IsPassed (λ gap. gap.address < address) gaps before) (below above : List Gap) → gaps ≡ below ++ above
    → AllByRecursion (λ (gap : Gap). gap.address < address) below → AllByRecursion (λ (gap : Gap). address ≤ gap.address) above
    → AllByRecursion (λ (gap : Gap). address ≤ gap.address) p.above → before ≡ last_or 0 below
parted_here address gaps before p below above is low high rest =
    p.last ∙ ap (last_or 0) (same_part address p.below p.above below above (sym p.is ∙ is) p.passed rest low high)

-- if one gap that is not below an address is met, none is below it that has not been met
rest_above : (address : ℕ) (xs : List Gap) (gap : Gap) (rest us vs : List Gap) → xs ++ gap ∷ rest ≡ us ++ vs → AllByRecursion (λ (gap : Gap). gap.address < address) xs → address ≤ gap.address
    → AllByRecursion (λ (gap : Gap). gap.address < address) us → AllByRecursion (λ (gap : Gap). address ≤ gap.address) vs → xs ≡ us
rest_above address [] gap rest [] vs is a b c d = refl
rest_above address [] gap rest (u ∷ us) vs is a b c d =
    let same : gap ≡ u = cc in let at = ap (λ (g : Gap). g.address) same in absurd (omega (arith, at, b, c.0))
rest_above address (x ∷ xs) gap rest [] [] is a b c d = cc
rest_above address (x ∷ xs) gap rest [] (v ∷ vs) is a b c d =
    let same : x ≡ v = cc in let at = ap (λ (g : Gap). g.address) same in absurd (omega (arith, at, a.0, d.0))
rest_above address (x ∷ xs) gap rest (u ∷ us) vs is a b c d =
    let same : x ≡ u = cc in
    let later : xs ++ gap ∷ rest ≡ us ++ vs = cc in
    ap (λ (g : Gap). g ∷ xs) same ∙ ap (λ gs. u ∷ gs) (rest_above address xs gap rest us vs later a.1 b c.1 d)

pub parted_before : (address : ℕ) (gaps : List Gap) (before : ℕ) (gap : Gap) (p : IsPassed (λ gap. gap.address < address) gaps before) (below above : List Gap) → Some gap ≡ slice_get p.above 0 → address ≤ gap.address
    → gaps ≡ below ++ above → AllByRecursion (λ (gap : Gap). gap.address < address) below → AllByRecursion (λ (gap : Gap). address ≤ gap.address) above → before ≡ last_or 0 below
parted_before address gaps before gap p below above at from is low high =
    let a = ahead p.above gap at in
    p.last ∙ ap (last_or 0) (rest_above address p.below gap a.rest below above (sym (p.is ∙ ap (λ gs. p.below ++ gs) a.is) ∙ is) p.passed from low high)

pub parted_end : (address : ℕ) (gaps : List Gap) (before : ℕ) (p : IsPassed (λ gap. gap.address < address) gaps before) (below above : List Gap) → None ≡ slice_get p.above 0
    → gaps ≡ below ++ above → AllByRecursion (λ (gap : Gap). gap.address < address) below → AllByRecursion (λ (gap : Gap). address ≤ gap.address) above → before ≡ last_or 0 below
parted_end address gaps before p below above at is low high =
    parted_here address gaps before p below above is low high (subst (AllByRecursion (λ (gap : Gap). address ≤ gap.address)) (sym (nothing_ahead p.above at)) tt)

-- Numbers

pub greatest_more : (xs : List Gap) (gap : Gap) → greatest (map (λ (gap : Gap). gap.size) (xs ++ gap ∷ [])) ≡ max gap.size (greatest (map (λ (gap : Gap). gap.size) xs))
greatest_more [] gap = refl
greatest_more (x ∷ xs) gap = let later = greatest_more xs gap in omega (arith, later)

-- A step of a walk

abbrev pub step : (gaps : List Gap) (before : ℕ) (gap : Gap) (w : IsWalked gaps before) → Some gap ≡ slice_get w.above 0 → IsWalked gaps gap.address
step gaps before gap w at = record {
  below = w.below ++ gap ∷ [];
  above = (ahead w.above gap at).rest;
  is = one_more gaps w.below w.above gap (ahead w.above gap at) w.is;
  last = sym (last_append 0 w.below gap);
}

pub next_alone : (end : ℕ) (above : List Gap) → None ≡ slice_get above 0 → 0 ≡ upper_next end above
next_alone end above at = sym (ap (upper_next end) (nothing_ahead above at))

pub size_alone : (end n : ℕ) (above : List Gap) → None ≡ slice_get above 0 → n ≡ upper_size end n above
size_alone end n above at = sym (ap (upper_size end n) (nothing_ahead above at))

pub next_touching : (end : ℕ) (above : List Gap) (gap : Gap) (at : Some gap ≡ slice_get above 0) → gap.address ≡ end → first_or 0 (ahead above gap at).rest ≡ upper_next end above
next_touching end above gap at touches =
    let a = ahead above gap at in
    sym (ap (upper_next end) a.is ∙ ap (λ b. cond b (first_or 0 a.rest) gap.address) (ap (λ k. nat_eq k end) touches ∙ nat_eq-same end))

pub size_touching : (end n : ℕ) (above : List Gap) (gap : Gap) (at : Some gap ≡ slice_get above 0) → gap.address ≡ end → n + gap.size ≡ upper_size end n above
size_touching end n above gap at touches =
    let a = ahead above gap at in
    sym (ap (upper_size end n) a.is ∙ ap (λ b. cond b (n + gap.size) n) (ap (λ k. nat_eq k end) touches ∙ nat_eq-same end))

pub next_apart : (end : ℕ) (above : List Gap) (gap : Gap) (at : Some gap ≡ slice_get above 0) → gap.address ≢ end → gap.address ≡ upper_next end above
next_apart end above gap at other =
    let a = ahead above gap at in
    sym (ap (upper_next end) a.is ∙ ap (λ b. cond b (first_or 0 a.rest) gap.address) (nat_eq-other gap.address end other))

pub size_apart : (end n : ℕ) (above : List Gap) (gap : Gap) (at : Some gap ≡ slice_get above 0) → gap.address ≢ end → n ≡ upper_size end n above
size_apart end n above gap at other =
    let a = ahead above gap at in
    sym (ap (upper_size end n) a.is ∙ ap (λ b. cond b (n + gap.size) n) (nat_eq-other gap.address end other))

-- the walk up to a spot, and the one past its gap
abbrev pub up_to : {size : ℕ} {gaps : List Gap} {before : ℕ} → IsSpot size gaps before → IsWalked gaps before
up_to spot = record { below = spot.below; above = spot.gap ∷ spot.above; is = spot.is; last = spot.last }

abbrev pub past : {size : ℕ} {gaps : List Gap} {before : ℕ} → (spot : IsSpot size gaps before) (gap : Gap) → gap ≡ spot.gap → IsWalked gaps gap.address
past spot gap same = record {
  below = spot.below ++ spot.gap ∷ [];
  above = spot.above;
  is = spot.is ∙ sym (append_assoc spot.below (spot.gap ∷ []) spot.above);
  last = ap (λ (g : Gap). g.address) same ∙ sym (last_append 0 spot.below spot.gap);
}

pub same_gap : (o : Option Gap) (a b : Gap) → o ≡ Some a → o ≡ Some b → a ≡ b
same_gap o a b here there = cc

abbrev pub seen_spot : {size : ℕ} {gaps gaps' : List Gap} {before : ℕ} → gaps ≡ gaps' → IsSpot size gaps' before → IsSpot size gaps before
seen_spot {size} e spot = record { below = spot.below; gap = spot.gap; above = spot.above; is = e ∙ spot.is; last = spot.last; lowest = ap (lowest_gap size) e ∙ spot.lowest; fits = spot.fits }

-- the walk up to a block that is not free
abbrev pub up_to_block : {gaps : List Gap} {address n before : ℕ} → Around gaps address n → IsLastBelow address gaps before → IsWalked gaps before
up_to_block around last = record {
  below = front around;
  above = back around;
  is = front_back around;
  last = last (front around) (back around) (front_back around) (front_below around) (back_above around);
}
