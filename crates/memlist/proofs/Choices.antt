-- Searches of the headers: for a gap, for the chosen region, for the home of an address, and for sizes.
use Rattle.std.proofs.Common.{◌≡◌, ℕ, zero, suc, ◌+◌, ◌<◌, ◌≤◌, max, Bool, true, false, cond, List, [], ◌∷◌, ◌++◌, length, drop, get_or, map, refl, sym, ◌∙◌, ap, subst, arith, ◌&&◌, nat_le, Option, Some, None, is_some, IsSomeAnd, slice_get, filter, flat_map, sum_by}
use Rattle.std.specs.List.{AllByRecursion}
use Rattle.std.proofs.lemmas.{Bool.Decides.nat_tests, List.Sums.sum_by-append, List.Sums.sum_by-cons, Option.slice_get-get_or}
use Rattle.execlist.specs.Order.{chosen, chosen_or}
use Rattle.memlist.specs.{declared.gap.Gap.Gap, declared.memory.Offer.Offer, declared.region.Region.Region, Fit.greatest, Fit.is_suitable, Fit.lowest_gap, Fit.region_pri, Areas.Area, Areas.area_gaps, Areas.regions_of, Choice.IsLowest, Choice.IsOffer, Choice.chosen_of, Choice.free_of, Choice.is_below, Choice.is_outranked, Choice.largest_of, Choice.offers, Choice.sizes_of, Choice.suitable_of}

-- The lowest gap

-- the lowest gap that is large enough is the first after those that are not
pub lowest_after : (size : ℕ) (xs : List Gap) (gap : Gap) (ys : List Gap) → AllByRecursion (λ (gap : Gap). gap.size < size) xs → size ≤ gap.size → lowest_gap size (xs ++ gap ∷ ys) ≡ Some gap
lowest_after size [] gap ys all fits = ap (λ b. cond b (Some gap) (lowest_gap size ys)) (let e : nat_le size gap.size ≡ true = grind (arith, nat_tests, fits) in e)
lowest_after size (x ∷ xs) gap ys all fits =
    ap (λ b. cond b (Some x) (lowest_gap size (xs ++ gap ∷ ys))) (let small = all.0 in let e : nat_le size x.size ≡ false = grind (arith, nat_tests, small) in e)
    ∙ lowest_after size xs gap ys all.1 fits

pub lowest_nowhere : (size : ℕ) (xs : List Gap) → AllByRecursion (λ (gap : Gap). gap.size < size) xs → lowest_gap size xs ≡ None
lowest_nowhere size [] all = refl
lowest_nowhere size (x ∷ xs) all =
    ap (λ b. cond b (Some x) (lowest_gap size xs)) (let small = all.0 in let e : nat_le size x.size ≡ false = grind (arith, nat_tests, small) in e) ∙ lowest_nowhere size xs all.1

-- The chosen region

chosen_without : (size reqs : ℕ) (area : Area) (rest : List Area) → offers size reqs area ≡ false → chosen_of size reqs (area ∷ rest) ≡ chosen_of size reqs rest
chosen_without size reqs area rest e = ap (λ b. chosen region_pri (regions_of (cond b (area ∷ filter (offers size reqs) rest) (filter (offers size reqs) rest)))) e

chosen_with : (size reqs : ℕ) (area : Area) (rest : List Area) → offers size reqs area ≡ true → chosen_of size reqs (area ∷ rest) ≡ chosen_or region_pri area.region (chosen_of size reqs rest)
chosen_with size reqs area rest e = ap (λ b. chosen region_pri (regions_of (cond b (area ∷ filter (offers size reqs) rest) (filter (offers size reqs) rest)))) e

same_offer : (areas : List Area) (size reqs : ℕ) (some other : List Area) (offer : Offer) → chosen_of size reqs other ≡ chosen_of size reqs some
    → IsOffer areas size reqs some (Some offer) → IsOffer areas size reqs other (Some offer)
same_offer areas size reqs some other offer is h =
    subst (λ (o : Option Region). IsSomeAnd (slice_get areas offer.header) (λ area. (o ≡ Some area.region) × IsLowest size (area_gaps area) (Some offer.before))) (sym is) h

-- nor does one that an offer outranks
outranked_by : (areas : List Area) (size reqs : ℕ) (area : Area) (rest some : List Area) (offer : Offer) (other : Option Area) → some ≡ area ∷ rest
    → IsSomeAnd other (λ area. (chosen_of size reqs rest ≡ Some area.region) × IsLowest size (area_gaps area) (Some offer.before)) → is_below (Some area) other ≡ true
    → chosen_of size reqs some ≡ chosen_of size reqs rest
outranked_by areas size reqs area rest some offer None is h below = cc
outranked_by areas size reqs area rest some offer (Some other) is h below =
    ap (chosen_of size reqs) is
    ∙ elim (offers size reqs area) as (λ b. offers size reqs area ≡ b → chosen_of size reqs (area ∷ rest) ≡ chosen_of size reqs rest) [
      | true ↦ λ e. chosen_with size reqs area rest e ∙ ap (chosen_or region_pri area.region) h.0 ∙ ap (λ b. cond b (Some other.region) (Some area.region)) below ∙ sym h.0
      | false ↦ λ e. chosen_without size reqs area rest e
    ] refl

pub offer_outranked : (areas : List Area) (size reqs place : ℕ) (area : Area) (rest some : List Area) (later : Option Offer) → some ≡ area ∷ rest → slice_get areas place ≡ Some area
    → is_outranked areas place later ≡ true → IsOffer areas size reqs rest later → IsOffer areas size reqs some later
offer_outranked areas size reqs place area rest some None is at below h = cc
offer_outranked areas size reqs place area rest some (Some offer) is at below h =
    let under : is_below (Some area) (slice_get areas offer.header) ≡ true = ap (λ o. is_below o (slice_get areas offer.header)) (sym at) ∙ below in
    same_offer areas size reqs rest some offer (outranked_by areas size reqs area rest some offer (slice_get areas offer.header) is h under) h

-- an area that offers a gap is chosen unless it is outranked
better_than : (size reqs : ℕ) (area : Area) (rest : List Area) (gap : ℕ) (other : Option Area)
    → IsSomeAnd other (λ area. (chosen_of size reqs rest ≡ Some area.region) × IsLowest size (area_gaps area) (Some gap)) → is_below (Some area) other ≡ false
    → chosen_or region_pri area.region (chosen_of size reqs rest) ≡ Some area.region
better_than size reqs area rest gap None h above = absurd h
better_than size reqs area rest gap (Some other) h above = ap (chosen_or region_pri area.region) h.0 ∙ ap (λ b. cond b (Some other.region) (Some area.region)) above

pub offer_chosen : (areas : List Area) (size reqs place : ℕ) (area : Area) (rest some : List Area) (later : Option Offer) → some ≡ area ∷ rest → slice_get areas place ≡ Some area
    → is_outranked areas place later ≡ false → offers size reqs area ≡ true → IsOffer areas size reqs rest later → chosen_of size reqs some ≡ Some area.region
offer_chosen areas size reqs place area rest some None is at above e h = ap (chosen_of size reqs) is ∙ chosen_with size reqs area rest e ∙ ap (chosen_or region_pri area.region) h
offer_chosen areas size reqs place area rest some (Some offer) is at above e h =
    let over : is_below (Some area) (slice_get areas offer.header) ≡ false = ap (λ o. is_below o (slice_get areas offer.header)) (sym at) ∙ above in
    ap (chosen_of size reqs) is ∙ chosen_with size reqs area rest e ∙ better_than size reqs area rest offer.before (slice_get areas offer.header) h over

-- whether an area offers a gap, by what was found there
pub offers_by : (size reqs : ℕ) (area : Area) (gap : ℕ) → is_suitable reqs area.region ≡ true → IsLowest size (area_gaps area) (Some gap) → offers size reqs area ≡ true
offers_by size reqs area gap fits h = ap (λ b. b && is_some (lowest_gap size (area_gaps area))) fits ∙ ap is_some h.lowest

-- Sizes

sizes_append : (xs ys : List Gap) → map (λ (gap : Gap). gap.size) (xs ++ ys) ≡ map (λ (gap : Gap). gap.size) xs ++ map (λ (gap : Gap). gap.size) ys
sizes_append [] ys = refl
sizes_append (x ∷ xs) ys = ap (λ ns. x.size ∷ ns) (sizes_append xs ys)

pub sizes-cons : (reqs : ℕ) (area : Area) (rest : List Area) → sizes_of reqs (area ∷ rest) ≡ cond (is_suitable reqs area.region) (map (λ (gap : Gap). gap.size) (area_gaps area) ++ sizes_of reqs rest) (sizes_of reqs rest)
sizes-cons reqs area rest =
    elim (is_suitable reqs area.region) as (λ b. map (λ (gap : Gap). gap.size) (flat_map area_gaps (cond b (area ∷ suitable_of reqs rest) (suitable_of reqs rest)))
    ≡ cond b (map (λ (gap : Gap). gap.size) (area_gaps area) ++ sizes_of reqs rest) (sizes_of reqs rest)) [
      | true ↦ sizes_append (area_gaps area) (flat_map area_gaps (suitable_of reqs rest))
      | false ↦ refl
    ]

sum_sizes : (free : List Gap) → sum_by (λ n. n) (map (λ (gap : Gap). gap.size) free) ≡ sum_by (λ (gap : Gap). gap.size) free
sum_sizes [] = refl
sum_sizes (gap ∷ rest) =
    let a = sum_by-cons (λ (n : ℕ). n) gap.size (map (λ (gap : Gap). gap.size) rest) in
    let b = sum_by-cons (λ (gap : Gap). gap.size) gap rest in
    let c = sum_sizes rest in
    omega (arith, a, b, c)

pub free-cons : (reqs : ℕ) (area : Area) (rest : List Area) → free_of reqs (area ∷ rest) ≡ cond (is_suitable reqs area.region) (sum_by (λ (gap : Gap). gap.size) (area_gaps area) + free_of reqs rest) (free_of reqs rest)
free-cons reqs area rest =
    ap (sum_by (λ n. n)) (sizes-cons reqs area rest)
    ∙ elim (is_suitable reqs area.region) as (λ b. sum_by (λ n. n) (cond b (map (λ (gap : Gap). gap.size) (area_gaps area) ++ sizes_of reqs rest) (sizes_of reqs rest))
    ≡ cond b (sum_by (λ (gap : Gap). gap.size) (area_gaps area) + free_of reqs rest) (free_of reqs rest)) [
      | true ↦ sum_by-append (λ n. n) (map (λ (gap : Gap). gap.size) (area_gaps area)) (sizes_of reqs rest) ∙ ap (λ n. n + free_of reqs rest) (sum_sizes (area_gaps area))
      | false ↦ refl
    ]

greatest-append : (xs ys : List ℕ) → greatest (xs ++ ys) ≡ max (greatest xs) (greatest ys)
greatest-append [] ys = omega arith
greatest-append (x ∷ xs) ys = let rest = greatest-append xs ys in omega (arith, rest)

pub largest-cons : (reqs : ℕ) (area : Area) (rest : List Area) → largest_of reqs (area ∷ rest)
    ≡ cond (is_suitable reqs area.region) (max (greatest (map (λ (gap : Gap). gap.size) (area_gaps area))) (largest_of reqs rest)) (largest_of reqs rest)
largest-cons reqs area rest =
    ap greatest (sizes-cons reqs area rest)
    ∙ elim (is_suitable reqs area.region) as (λ b. greatest (cond b (map (λ (gap : Gap). gap.size) (area_gaps area) ++ sizes_of reqs rest) (sizes_of reqs rest))
    ≡ cond b (max (greatest (map (λ (gap : Gap). gap.size) (area_gaps area))) (largest_of reqs rest)) (largest_of reqs rest)) [
      | true ↦ greatest-append (map (λ (gap : Gap). gap.size) (area_gaps area)) (sizes_of reqs rest)
      | false ↦ refl
    ]

-- the area at a place comes first of those from there on
pub drop_area : (areas : List Area) (place : ℕ) (area : Area) → slice_get areas place ≡ Some area → drop place areas ≡ area ∷ drop (place + 1) areas
drop_area [] place area at = cc
drop_area (x ∷ rest) zero area at = let here : x ≡ area = cc in ap (λ (a : Area). a ∷ rest) here
drop_area (x ∷ rest) (suc place) area at =
    let next : suc place + 1 ≡ suc (place + 1) = omega arith in
    drop_area rest place area at ∙ ap (λ k. area ∷ drop k (x ∷ rest)) (sym next)

pub area_at : (areas : List Area) (place : ℕ) (area : Area) → place < length areas → area ≡ get_or areas place area → slice_get areas place ≡ Some area
area_at areas place area within is = slice_get-get_or areas place area within ∙ ap (λ (a : Area). Some a) (sym is)

-- one step of a loop over the headers
pub free_more : (reqs : ℕ) (areas : List Area) (place : ℕ) (area : Area) (suitable : Bool) → place < length areas → area ≡ get_or areas place area → is_suitable reqs area.region ≡ suitable
    → free_of reqs (drop place areas) ≡ cond suitable (sum_by (λ (gap : Gap). gap.size) (area_gaps area) + free_of reqs (drop (place + 1) areas)) (free_of reqs (drop (place + 1) areas))
free_more reqs areas place area suitable within is fits =
    ap (free_of reqs) (drop_area areas place area (area_at areas place area within is)) ∙ free-cons reqs area (drop (place + 1) areas)
    ∙ ap (λ b. cond b (sum_by (λ (gap : Gap). gap.size) (area_gaps area) + free_of reqs (drop (place + 1) areas)) (free_of reqs (drop (place + 1) areas))) fits

pub largest_more : (reqs : ℕ) (areas : List Area) (place : ℕ) (area : Area) (suitable : Bool) → place < length areas → area ≡ get_or areas place area → is_suitable reqs area.region ≡ suitable
    → largest_of reqs (drop place areas) ≡ cond suitable (max (greatest (map (λ (gap : Gap). gap.size) (area_gaps area))) (largest_of reqs (drop (place + 1) areas))) (largest_of reqs (drop (place + 1) areas))
largest_more reqs areas place area suitable within is fits =
    ap (largest_of reqs) (drop_area areas place area (area_at areas place area within is)) ∙ largest-cons reqs area (drop (place + 1) areas)
    ∙ ap (λ b. cond b (max (greatest (map (λ (gap : Gap). gap.size) (area_gaps area))) (largest_of reqs (drop (place + 1) areas))) (largest_of reqs (drop (place + 1) areas))) fits
