-- A memory as a whole: what its headers keep, if a block fits, and what a change of one header does to its value.
use Rattle.std.proofs.Common.{◌≡◌, ◌≢◌, ℕ, zero, suc, ◌+◌, ◌*◌, ◌^◌, ◌<◌, ◌≤◌, Bool, true, false, cond, List, [], ◌∷◌, ◌++◌, length, set, get_or, map, refl, sym, ◌∙◌, ap, subst, arith, bit_and, nat_eq, nat_le, not, ◌&&◌, Option, Some, None, is_some, slice_get, IsSome, IsSomeAnd, IfSome, filter, flat_map, sum_by, option_map, option_and_then, nat_cmp}
use Rattle.std.specs.{List.AllByRecursion, List.list_all, FinMap.put}
use Rattle.std.proofs.lemmas.{List.Elements.recursion_from_All, List.Sums.sum_by-cons, Option.slice_get-get_or, Option.slice_get-map, Bool.and_parts}
use Rattle.execlist.specs.Order.{chosen}
use Rattle.memlist.specs.declared.region.MemFault.TheVariants.{Misaligned, Overlap, TooLarge}
use Rattle.memlist.specs.{declared.gap.Gap.Gap, declared.memory.Offer.Offer, declared.region.MemFault.MemFault, declared.region.Region.Region, Regions.are_apart, Regions.are_small, Regions.is_aligned, Regions.is_in_reach, Regions.region_end, Regions.regions_fault, Regions.total_size, Blocks.Blocks, Blocks.block_at, Blocks.freed, Blocks.gaps, Blocks.is_in, Fit.asks, Fit.avail, Fit.fit, Fit.free_sizes, Fit.front, Fit.greatest, Fit.has_room, Fit.is_suitable, Fit.lowest_gap, Fit.region_pri, Fit.round, Memory.Memory, Memory.without_block, Chain.IsLinked, Chain.first_or, Areas.Area, Areas.AreMemory, Areas.IsFreeChain, Areas.IsLaidArea, Areas.area_gaps, Areas.empty_area, Areas.greatest_total, Areas.memory_of, Areas.merged, Areas.regions_of, Choice.IsHome, Choice.IsLowest, Choice.IsOffer, Choice.chosen_of, Choice.free_of, Choice.installed_of, Choice.largest_of, Choice.offers, Choice.sizes_of, Choice.suitable_of}
use Rattle.memlist.proofs.{Answered.nat_eq-other, Headers.IsAligned, Headers.IsGapWithin, Headers.aligned_region, Headers.among, Headers.end_aligned, Headers.from_le, Headers.gaps_within, Headers.sizes_fill, Chains.apart_count, Chains.gaps_apart, Chains.read_chain, Choices.free-cons, Merged.AreApart, Merged.apart_areas, Merged.at_place, Merged.found_in_none, Merged.found_of_area, Merged.gaps_of_area, Merged.is_in-true, Merged.merged-freed, Merged.merged-put, Tiling.nat_le-true}

-- Sound regions

pub record IsSoundMemory (total : ℕ) (regions : List Region) : Type 0 where
  pub aligned : list_all is_aligned regions ≡ true
  pub small : are_small total regions ≡ true
  pub apart : are_apart regions ≡ true

first_fault : Bool → Bool → Bool → Option MemFault
first_fault aligned small apart = cond (not aligned) (Some Misaligned) (cond (not small) (Some TooLarge) (cond (not apart) (Some Overlap) None))

no_fault : (aligned small apart : Bool) → first_fault aligned small apart ≡ None → (aligned ≡ true) × (small ≡ true) × (apart ≡ true)
unfolding first_fault
no_fault true true true e = (refl, refl, refl)
no_fault true true false e = cc
no_fault true false apart e = cc
no_fault false small apart e = cc

pub sound_regions : (total : ℕ) (regions : List Region) → regions_fault total regions ≡ None → IsSoundMemory total regions
unfolding regions_fault first_fault
sound_regions total regions e =
    let parts = no_fault (list_all is_aligned regions) (are_small total regions) (are_apart regions) e in
    record { aligned = parts.0; small = parts.1; apart = parts.2 }

pub small_total : (total : ℕ) (regions : List Region) → are_small total regions ≡ true → total_size regions ≤ total
small_total total regions e =
    from_le (total_size regions) total (and_parts (nat_le (length regions) 8) (nat_le (total_size regions) total)
    (and_parts (nat_le (length regions) 8 && nat_le (total_size regions) total) (list_all is_in_reach regions) e).0).1

pub small_reach : (total : ℕ) (regions : List Region) → are_small total regions ≡ true → list_all is_in_reach regions ≡ true
small_reach total regions e = (and_parts (nat_le (length regions) 8 && nat_le (total_size regions) total) (list_all is_in_reach regions) e).1

small_within : (total greater : ℕ) (regions : List Region) → total ≤ greater → are_small total regions ≡ true → are_small greater regions ≡ true
small_within total greater regions within e =
    let few = (and_parts (nat_le (length regions) 8) (nat_le (total_size regions) total)
    (and_parts (nat_le (length regions) 8 && nat_le (total_size regions) total) (list_all is_in_reach regions) e).0).0 in
    let room = nat_le-true (total_size regions) greater (omega (arith, within, small_total total regions e)) in
    ap (λ b. b && nat_le (total_size regions) greater && list_all is_in_reach regions) few
    ∙ ap (λ b. b && list_all is_in_reach regions) room
    ∙ small_reach total regions e

-- regions that are sound in a total are sound in a greater one
pub sound_within : (total greater : ℕ) (regions : List Region) → total ≤ greater → regions_fault total regions ≡ None → regions_fault greater regions ≡ None
unfolding regions_fault first_fault
sound_within total greater regions within e =
    let sound = sound_regions total regions e in
    ap (λ b. first_fault b (are_small greater regions) (are_apart regions)) sound.aligned
    ∙ ap (λ b. first_fault true b (are_apart regions)) (small_within total greater regions within sound.small)
    ∙ ap (λ b. first_fault true true b) sound.apart

pub apart_memory : (areas : List Area) → AreMemory areas → AreApart areas
apart_memory areas m = apart_areas areas (sound_regions greatest_total (regions_of areas) m.sound).apart

-- Elements

pub read_at : {X : Type 0} (P : X → Type 0) (xs : List X) (place : ℕ) (x : X) → IsSomeAnd (slice_get xs place) P → x ≡ get_or xs place x → (slice_get xs place ≡ Some x) × P x
read_at P [] place x h is = absurd h
read_at {X = X} P (y ∷ ys) zero x h is = (ap (λ (z : X). Some z) (sym is), subst P (sym is) h)
read_at P (y ∷ ys) (suc place) x h is = read_at P ys place x h is

list_all_at : (areas : List Area) (place : ℕ) (area : Area) → slice_get areas place ≡ Some area → list_all is_aligned (regions_of areas) ≡ true → is_aligned area.region ≡ true
list_all_at [] place area at e = cc
list_all_at (x ∷ rest) zero area at e = let here : x ≡ area = cc in subst (λ (a : Area). is_aligned a.region ≡ true) here (and_parts (is_aligned x.region) (list_all is_aligned (regions_of rest)) e).0
list_all_at (x ∷ rest) (suc place) area at e = list_all_at rest place area at (and_parts (is_aligned x.region) (list_all is_aligned (regions_of rest)) e).1

pub aligned_at : (areas : List Area) (place : ℕ) (area : Area) → AreMemory areas → slice_get areas place ≡ Some area → IsAligned area.region
aligned_at areas place area m at = aligned_region area.region (list_all_at areas place area at (sound_regions greatest_total (regions_of areas) m.sound).aligned)

-- a gap of an area lies in its region
pub gap_inside : (areas : List Area) (place : ℕ) (area : Area) (xs : List Gap) (gap : Gap) (ys : List Gap) → AreMemory areas → slice_get areas place ≡ Some area → area_gaps area ≡ xs ++ gap ∷ ys → is_in area.region gap.address ≡ true
gap_inside areas place area xs gap ys m at read =
    let a = aligned_at areas place area m at in
    let laid = at_place IsLaidArea areas place area at m.laid in
    let all = gaps_within area.region.base area.blocks (region_end area.region) a.base (end_aligned area.region a) laid in
    let w = among (IsGapWithin area.region.base (region_end area.region)) xs gap ys (subst (AllByRecursion (IsGapWithin area.region.base (region_end area.region))) read all) in
    is_in-true area.region gap.address w.low (omega (arith, w.high, w.some))

-- the gap of an offer, and the address at which it was taken
pub record IsOffered (size : ℕ) (free : List Gap) (taken : ℕ) : Type 0 where
  pub below : List Gap
  pub gap : Gap
  pub above : List Gap
  pub is : free ≡ below ++ gap ∷ above
  pub lowest : lowest_gap size free ≡ Some gap
  pub address : taken ≡ gap.address

pub offered_gap : (size : ℕ) (free : List Gap) (before address : ℕ) → IsLowest size free (Some before) → IfSome (lowest_gap size free) (λ gap. address ≡ gap.address) → IsOffered size free address
offered_gap size free before address h front = record {
  below = h.below;
  gap = h.gap;
  above = h.above;
  is = h.is;
  lowest = h.lowest;
  address = subst (λ o. IfSome o (λ gap. address ≡ gap.address)) h.lowest front;
}

some_within : {X : Type 0} (P : X → Type 0) (xs : List X) (place : ℕ) → IsSomeAnd (slice_get xs place) P → place < length xs
some_within P [] place h = absurd h
some_within P (x ∷ xs) zero h = omega arith
some_within P (x ∷ xs) (suc place) h = let later = some_within P xs place h in omega (arith, later)

record IsRead {X : Type 0} (P : X → Type 0) (xs : List X) (place : ℕ) : Type 0 where
  pub item : X
  pub at : slice_get xs place ≡ Some item
  pub holds : P item

some_read : {X : Type 0} (P : X → Type 0) (xs : List X) (place : ℕ) → IsSomeAnd (slice_get xs place) P → IsRead P xs place
some_read P [] place h = absurd h
some_read P (x ∷ xs) zero h = record { item = x; at = refl; holds = h }
some_read P (x ∷ xs) (suc place) h = let later = some_read P xs place h in record { item = later.item; at = later.at; holds = later.holds }

pub offer_within : (areas : List Area) (size reqs : ℕ) (some : List Area) (offer : Offer) → IsOffer areas size reqs some (Some offer) → offer.header < length areas
offer_within areas size reqs some offer h = some_within (λ (area : Area). (chosen_of size reqs some ≡ Some area.region) × IsLowest size (area_gaps area) (Some offer.before)) areas offer.header h

pub home_within : (areas : List Area) (place a : ℕ) → IsHome a areas (Some place) → place < length areas
home_within areas place a h = some_within (λ (area : Area). is_in area.region a ≡ true) areas place h

-- One area is changed

regions_set : (areas : List Area) (place : ℕ) (area new : Area) → slice_get areas place ≡ Some area → new.region ≡ area.region → regions_of (set areas place new) ≡ regions_of areas
regions_set [] place area new at same = cc
regions_set (x ∷ rest) zero area new at same =
    let here : x ≡ area = cc in ap (λ (r : Region). r ∷ regions_of rest) (same ∙ ap (λ (a : Area). a.region) (sym here))
regions_set (x ∷ rest) (suc place) area new at same = ap (λ rs. x.region ∷ rs) (regions_set rest place area new at same)

laid_set : (areas : List Area) (place : ℕ) (new : Area) → AllByRecursion IsLaidArea areas → IsLaidArea new → AllByRecursion IsLaidArea (set areas place new)
laid_set [] place new all laid = tt
laid_set (x ∷ rest) zero new all laid = (laid, all.1)
laid_set (x ∷ rest) (suc place) new all laid = (all.0, laid_set rest place new all.1 laid)

pub kept_memory : (areas : List Area) (place : ℕ) (area new : Area) → AreMemory areas → slice_get areas place ≡ Some area → new.region ≡ area.region → IsLaidArea new → AreMemory (set areas place new)
kept_memory areas place area new m at same laid = record {
  sound = ap (regions_fault greatest_total) (regions_set areas place area new at same) ∙ m.sound;
  laid = laid_set areas place new m.laid laid;
}

shown_memory : (areas : List Area) (regions : List Region) (blocks : Blocks) → regions_of areas ≡ regions → merged areas ≡ blocks → memory_of areas ≡ record { regions = regions; blocks = blocks }
shown_memory areas regions blocks r b =
    ap (λ rs. let m : Memory = record { regions = rs; blocks = merged areas } in m) r ∙ ap (λ bs. let m : Memory = record { regions = regions; blocks = bs } in m) b

pub memory_put : (areas : List Area) (place : ℕ) (area new : Area) (a : ℕ) (v : ℕ × ℕ) → AreMemory areas → slice_get areas place ≡ Some area → is_in area.region a ≡ true
    → new ≡ record { region = area.region; blocks = put nat_cmp a v area.blocks } → memory_of (set areas place new) ≡ record { regions = regions_of areas; blocks = put nat_cmp a v (merged areas) }
memory_put areas place area new a v m at inside is =
    shown_memory (set areas place new) (regions_of areas) (put nat_cmp a v (merged areas))
    (regions_set areas place area new at (ap (λ (x : Area). x.region) is))
    (ap (λ (x : Area). merged (set areas place x)) is ∙ merged-put areas place area a v (apart_memory areas m) m.laid at inside)

pub memory_freed : (areas : List Area) (place : ℕ) (area new : Area) (a : ℕ) → AreMemory areas → slice_get areas place ≡ Some area → is_in area.region a ≡ true
    → new ≡ record { region = area.region; blocks = freed a area.blocks } → memory_of (set areas place new) ≡ without_block a (memory_of areas)
memory_freed areas place area new a m at inside is =
    shown_memory (set areas place new) (regions_of areas) (freed a (merged areas))
    (regions_set areas place area new at (ap (λ (x : Area). x.region) is))
    (ap (λ (x : Area). merged (set areas place x)) is ∙ merged-freed areas place area a (apart_memory areas m) m.laid at inside)

-- Homes

pub home_live : (areas : List Area) (a : ℕ) (home : Option ℕ) → AreMemory areas → IsSome (block_at a (merged areas)) → IsHome a areas home → IsSome home
home_live areas a None m live all =
    let none = found_in_none areas a m.laid (recursion_from_All (λ (area : Area). is_in area.region a ≡ false) areas all) in
    let bad : false ≡ true = ap is_some (sym none) ∙ live in cc
home_live areas a (Some place) m live h = refl

pub found_home : (areas : List Area) (place : ℕ) (area : Area) (a : ℕ) → AreMemory areas → slice_get areas place ≡ Some area → is_in area.region a ≡ true → block_at a (merged areas) ≡ block_at a area.blocks
found_home areas place area a m at inside = found_of_area areas place area a (apart_memory areas m) m.laid at inside

pub found_homeless : (areas : List Area) (a : ℕ) → AreMemory areas → IsHome a areas None → block_at a (merged areas) ≡ None
found_homeless areas a m all = found_in_none areas a m.laid (recursion_from_All (λ (area : Area). is_in area.region a ≡ false) areas all)

-- The gaps of all regions

abbrev pub ShowsGaps : List Area → List Area → Type 0
ShowsGaps all areas = AllByRecursion (λ (area : Area). gaps area.region (merged all) ≡ area_gaps area) areas

pub shows_gaps : (areas : List Area) → AreMemory areas → ShowsGaps areas areas
shows_gaps areas m =
    recursion_from_All (λ (area : Area). gaps area.region (merged areas) ≡ area_gaps area) areas
    (λ k d within. gaps_of_area areas k (get_or areas k d) (apart_memory areas m) m.laid (slice_get-get_or areas k d within))

rooms : (all areas : List Area) (size reqs : ℕ) → ShowsGaps all areas → filter (has_room size reqs (merged all)) (regions_of areas) ≡ regions_of (filter (offers size reqs) areas)
rooms all [] size reqs shown = refl
rooms all (area ∷ rest) size reqs shown =
    ap (λ (free : List Gap). cond (is_suitable reqs area.region && is_some (lowest_gap size free)) (area.region ∷ filter (has_room size reqs (merged all)) (regions_of rest)) (filter (has_room size reqs (merged all)) (regions_of rest))) shown.0
    ∙ elim (offers size reqs area) as (λ b. cond b (area.region ∷ filter (has_room size reqs (merged all)) (regions_of rest)) (filter (has_room size reqs (merged all)) (regions_of rest))
    ≡ regions_of (cond b (area ∷ filter (offers size reqs) rest) (filter (offers size reqs) rest))) [
      | true ↦ ap (λ rs. area.region ∷ rs) (rooms all rest size reqs shown.1)
      | false ↦ rooms all rest size reqs shown.1
    ]

-- If a block fits

pub fit_nothing : (regions : List Region) (blocks : Blocks) (size reqs : ℕ) → size ≡ 0 → fit regions blocks size reqs ≡ None
unfolding fit
fit_nothing regions blocks size reqs e = rw e refl

pub fit_none : (areas : List Area) (size reqs : ℕ) → AreMemory areas → size ≢ 0 → chosen_of (round size) reqs areas ≡ None → fit (regions_of areas) (merged areas) size reqs ≡ None
unfolding fit
fit_none areas size reqs m some none =
    ap (λ b. cond b None (option_and_then (front (round size) (merged areas)) (chosen region_pri (filter (has_room (round size) reqs (merged areas)) (regions_of areas))))) (nat_eq-other size 0 some)
    ∙ ap (λ rs. option_and_then (front (round size) (merged areas)) (chosen region_pri rs)) (rooms areas areas (round size) reqs (shows_gaps areas m))
    ∙ ap (option_and_then (front (round size) (merged areas))) none

pub fit_some : (areas : List Area) (size reqs place : ℕ) (area : Area) (gap : Gap) → AreMemory areas → size ≢ 0 → slice_get areas place ≡ Some area
    → chosen_of (round size) reqs areas ≡ Some area.region → lowest_gap (round size) (area_gaps area) ≡ Some gap → fit (regions_of areas) (merged areas) size reqs ≡ Some gap.address
unfolding fit
fit_some areas size reqs place area gap m some at choice lowest =
    let shown = gaps_of_area areas place area (apart_memory areas m) m.laid at in
    ap (λ b. cond b None (option_and_then (front (round size) (merged areas)) (chosen region_pri (filter (has_room (round size) reqs (merged areas)) (regions_of areas))))) (nat_eq-other size 0 some)
    ∙ ap (λ rs. option_and_then (front (round size) (merged areas)) (chosen region_pri rs)) (rooms areas areas (round size) reqs (shows_gaps areas m))
    ∙ ap (option_and_then (front (round size) (merged areas))) choice
    ∙ ap (λ (free : List Gap). option_map (λ (gap : Gap). gap.address) (lowest_gap (round size) free)) shown
    ∙ ap (option_map (λ (gap : Gap). gap.address)) lowest

-- a block fits exactly if there is an offer for it
pub fit_offered : (areas : List Area) (size reqs : ℕ) (offer : Option Offer) → AreMemory areas → size ≢ 0 → IsOffer areas (round size) reqs areas offer
    → is_some offer ≡ is_some (fit (regions_of areas) (merged areas) size reqs)
fit_offered areas size reqs None m some none = ap is_some (sym (fit_none areas size reqs m some none))
fit_offered areas size reqs (Some offer) m some h =
    let read = some_read (λ (area : Area). (chosen_of (round size) reqs areas ≡ Some area.region) × IsLowest (round size) (area_gaps area) (Some offer.before)) areas offer.header h in
    ap is_some (sym (fit_some areas size reqs offer.header read.item read.holds.1.gap m some read.at read.holds.0 read.holds.1.lowest))

-- A new memory

regions_empty : (regions : List Region) → regions_of (map empty_area regions) ≡ regions
regions_empty [] = refl
regions_empty (region ∷ rest) = ap (λ rs. region ∷ rs) (regions_empty rest)

merged_empty : (regions : List Region) → merged (map empty_area regions) ≡ []
merged_empty [] = refl
merged_empty (region ∷ rest) = merged_empty rest

laid_empty : (regions : List Region) → AllByRecursion IsLaidArea (map empty_area regions)
laid_empty [] = tt
laid_empty (region ∷ rest) = (omega arith, laid_empty rest)

pub new_memory : (areas : List Area) (regions : List Region) (total : ℕ) → total ≤ greatest_total → areas ≡ map empty_area regions → regions_fault total regions ≡ None → AreMemory areas
new_memory areas regions total within is sound =
    subst AreMemory (sym is)
    record { sound = ap (regions_fault greatest_total) (regions_empty regions) ∙ sound_within total greatest_total regions within sound; laid = laid_empty regions }

pub new_shown : (areas : List Area) (regions : List Region) → areas ≡ map empty_area regions → memory_of areas ≡ record { regions = regions; blocks = [] }
new_shown areas regions is = ap memory_of is ∙ shown_memory (map empty_area regions) regions [] (regions_empty regions) (merged_empty regions)

-- Sizes

free_area : (area : Area) → IsLaidArea area → sum_by (λ (gap : Gap). gap.size) (area_gaps area) ≤ area.region.size
free_area area laid = omega (arith, sizes_fill area.region.base area.blocks (region_end area.region) laid)

total-cons : (area : Area) (rest : List Area) → total_size (regions_of (area ∷ rest)) ≡ area.region.size + total_size (regions_of rest)
total-cons area rest = sum_by-cons (λ (region : Region). region.size) area.region (regions_of rest)

pub free_bound_of : (reqs : ℕ) (areas : List Area) → AllByRecursion IsLaidArea areas → free_of reqs areas ≤ total_size (regions_of areas)
free_bound_of reqs [] laid = omega arith
free_bound_of reqs (area ∷ rest) laid =
    let later = free_bound_of reqs rest laid.1 in
    let total = total-cons area rest in
    let here = free_area area laid.0 in
    subst (λ n. n ≤ total_size (regions_of (area ∷ rest))) (sym (free-cons reqs area rest))
    (elim (is_suitable reqs area.region) as (λ b. cond b (sum_by (λ (gap : Gap). gap.size) (area_gaps area) + free_of reqs rest) (free_of reqs rest) ≤ total_size (regions_of (area ∷ rest))) [
      | true ↦ omega (arith, later, total, here)
      | false ↦ omega (arith, later, total)
    ])

pub installed_bound_of : (reqs : ℕ) (areas : List Area) → installed_of reqs areas ≤ total_size (regions_of areas)
installed_bound_of reqs [] = omega arith
installed_bound_of reqs (area ∷ rest) =
    let later = installed_bound_of reqs rest in
    let total = total-cons area rest in
    elim (is_suitable reqs area.region) as (λ b. total_size (regions_of (cond b (area ∷ suitable_of reqs rest) (suitable_of reqs rest))) ≤ total_size (regions_of (area ∷ rest))) [
      | true ↦ let here = total-cons area (suitable_of reqs rest) in omega (arith, later, total, here)
      | false ↦ omega (arith, later, total)
    ]

pub limit_memory : (areas : List Area) → AreMemory areas → total_size (regions_of areas) ≤ greatest_total
limit_memory areas m = small_total greatest_total (regions_of areas) (sound_regions greatest_total (regions_of areas) m.sound).small

suitable_regions : (reqs : ℕ) (areas : List Area) → filter (is_suitable reqs) (regions_of areas) ≡ regions_of (suitable_of reqs areas)
suitable_regions reqs [] = refl
suitable_regions reqs (area ∷ rest) =
    elim (is_suitable reqs area.region) as (λ b. cond b (area.region ∷ filter (is_suitable reqs) (regions_of rest)) (filter (is_suitable reqs) (regions_of rest))
    ≡ regions_of (cond b (area ∷ suitable_of reqs rest) (suitable_of reqs rest))) [
      | true ↦ ap (λ rs. area.region ∷ rs) (suitable_regions reqs rest)
      | false ↦ suitable_regions reqs rest
    ]

suitable_gaps : (reqs : ℕ) (all areas : List Area) → ShowsGaps all areas → flat_map (λ region. gaps region (merged all)) (filter (is_suitable reqs) (regions_of areas)) ≡ flat_map area_gaps (suitable_of reqs areas)
suitable_gaps reqs all [] shown = refl
suitable_gaps reqs all (area ∷ rest) shown =
    elim (is_suitable reqs area.region) as (λ b. flat_map (λ region. gaps region (merged all)) (cond b (area.region ∷ filter (is_suitable reqs) (regions_of rest)) (filter (is_suitable reqs) (regions_of rest)))
    ≡ flat_map area_gaps (cond b (area ∷ suitable_of reqs rest) (suitable_of reqs rest))) [
      | true ↦ ap (λ (free : List Gap). free ++ flat_map (λ region. gaps region (merged all)) (filter (is_suitable reqs) (regions_of rest))) shown.0 ∙ ap (λ (free : List Gap). area_gaps area ++ free) (suitable_gaps reqs all rest shown.1)
      | false ↦ suitable_gaps reqs all rest shown.1
    ]

pub free_sizes_of : (areas : List Area) (reqs : ℕ) → AreMemory areas → free_sizes (regions_of areas) (merged areas) reqs ≡ sizes_of reqs areas
free_sizes_of areas reqs m = ap (map (λ (gap : Gap). gap.size)) (suitable_gaps reqs areas areas (shows_gaps areas m))

pub installed_sizes_of : (areas : List Area) (reqs : ℕ) → total_size (filter (is_suitable reqs) (regions_of areas)) ≡ installed_of reqs areas
installed_sizes_of areas reqs = ap total_size (suitable_regions reqs areas)

-- AvailMem's three answers

pub asked : (reqs bit : ℕ) → bit_and reqs (2 ^ bit) ≢ 0 → asks bit reqs ≡ true
asked reqs bit h = ap not (nat_eq-other (bit_and reqs (2 ^ bit)) 0 h)

pub unasked : (reqs bit : ℕ) → bit_and reqs (2 ^ bit) ≡ 0 → asks bit reqs ≡ false
unasked reqs bit e = ap (λ n. not (nat_eq n 0)) e

avail_by : (largest total : Bool) (a b d : ℕ) → ℕ
avail_by largest total a b d = cond largest a (cond total b d)

module _ (areas : List Area) (reqs : ℕ) where
  pub avail_largest : AreMemory areas → asks 17 reqs ≡ true → avail (regions_of areas) (merged areas) reqs ≡ largest_of reqs areas
  unfolding avail avail_by
  avail_largest m e =
      ap (λ b. avail_by b (asks 19 reqs) (greatest (free_sizes (regions_of areas) (merged areas) reqs)) (total_size (filter (is_suitable reqs) (regions_of areas))) (sum_by (λ n. n) (free_sizes (regions_of areas) (merged areas) reqs))) e
      ∙ ap greatest (free_sizes_of areas reqs m)

  pub avail_installed : asks 17 reqs ≡ false → asks 19 reqs ≡ true → avail (regions_of areas) (merged areas) reqs ≡ installed_of reqs areas
  unfolding avail avail_by
  avail_installed e f =
      ap (λ b. avail_by b (asks 19 reqs) (greatest (free_sizes (regions_of areas) (merged areas) reqs)) (total_size (filter (is_suitable reqs) (regions_of areas))) (sum_by (λ n. n) (free_sizes (regions_of areas) (merged areas) reqs))) e
      ∙ ap (λ b. avail_by false b (greatest (free_sizes (regions_of areas) (merged areas) reqs)) (total_size (filter (is_suitable reqs) (regions_of areas))) (sum_by (λ n. n) (free_sizes (regions_of areas) (merged areas) reqs))) f
      ∙ installed_sizes_of areas reqs

  pub avail_free : AreMemory areas → asks 17 reqs ≡ false → asks 19 reqs ≡ false → avail (regions_of areas) (merged areas) reqs ≡ free_of reqs areas
  unfolding avail avail_by
  avail_free m e f =
      ap (λ b. avail_by b (asks 19 reqs) (greatest (free_sizes (regions_of areas) (merged areas) reqs)) (total_size (filter (is_suitable reqs) (regions_of areas))) (sum_by (λ n. n) (free_sizes (regions_of areas) (merged areas) reqs))) e
      ∙ ap (λ b. avail_by false b (greatest (free_sizes (regions_of areas) (merged areas) reqs)) (total_size (filter (is_suitable reqs) (regions_of areas))) (sum_by (λ n. n) (free_sizes (regions_of areas) (merged areas) reqs))) f
      ∙ ap (sum_by (λ n. n)) (free_sizes_of areas reqs m)

-- The words of a region

pub region_at : (areas : List Area) (k : ℕ) (area : Area) → slice_get areas k ≡ Some area → slice_get (regions_of areas) k ≡ Some area.region
region_at areas k area at = slice_get-map (λ (area : Area). area.region) areas k ∙ ap (option_map (λ (area : Area). area.region)) at

pub free_chain : (areas : List Area) (k : ℕ) (area : Area) (words : List ℕ) → AreMemory areas → slice_get areas k ≡ Some area → 4 * length words ≡ area.region.size
    → IsLinked area.region.base words (area_gaps area) 0 → IfSome (slice_get (regions_of areas) k) (λ region. IsFreeChain region words (gaps region (merged areas)))
free_chain areas k area words m at size linked =
    let a = aligned_at areas k area m at in
    let laid = at_place IsLaidArea areas k area at m.laid in
    let apart = gaps_apart area.region.base area.blocks (region_end area.region) a.base (end_aligned area.region a) laid in
    let count = apart_count area.region.base (area_gaps area) (region_end area.region) apart in
    let shown = gaps_of_area areas k area (apart_memory areas m) m.laid at in
    let chained : IsFreeChain area.region words (area_gaps area) = record {
      size = size;
      apart = apart;
      linked = linked;
      read = read_chain (length words) area.region.base words area.region.base (area_gaps area) (region_end area.region) (omega (arith, a.above)) (omega (arith, count, size)) apart linked;
    } in
    subst (λ o. IfSome o (λ region. IsFreeChain region words (gaps region (merged areas)))) (sym (region_at areas k area at))
    (subst (IsFreeChain area.region words) (sym shown) chained)

pub free_head : (areas : List Area) (k head : ℕ) (area : Area) → AreMemory areas → slice_get areas k ≡ Some area → head ≡ first_or 0 (area_gaps area)
    → IfSome (slice_get (regions_of areas) k) (λ region. head ≡ first_or 0 (gaps region (merged areas)))
free_head areas k head area m at is =
    let shown = gaps_of_area areas k area (apart_memory areas m) m.laid at in
    subst (λ o. IfSome o (λ region. head ≡ first_or 0 (gaps region (merged areas)))) (sym (region_at areas k area at)) (is ∙ ap (first_or 0) (sym shown))

-- the area at a place that was read
pub read_area : (areas : List Area) (k : ℕ) (area : Area) → k < length (regions_of areas) → area ≡ get_or areas k area → slice_get areas k ≡ Some area
read_area [] k area within is = absurd (omega arith)
read_area (x ∷ rest) zero area within is = ap (λ (a : Area). Some a) (sym is)
read_area (x ∷ rest) (suc k) area within is = read_area rest k area (omega arith) is

pub within_areas : (areas : List Area) (k : ℕ) → k < length (regions_of areas) → k < length areas
within_areas [] k h = absurd (omega arith)
within_areas (x ∷ rest) zero h = omega arith
within_areas (x ∷ rest) (suc k) h = let later = within_areas rest k (omega arith) in omega (arith, later)
