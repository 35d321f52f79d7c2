-- How the headers of a memory are searched: for the home of an address, for a gap, and for the sizes of gaps.
use Rattle.std.specs.Prelude.{◌≡◌, ℕ, Bool, true, false, ◌&&◌, int_lt, List, map, Option, None, Some, is_some, IsSomeAnd, slice_get, All, filter, flat_map, sum_by}
use Rattle.execlist.specs.Order.{chosen}
use Rattle.memlist.specs.{declared.gap.Gap.Gap, declared.memory.Offer.Offer, declared.region.Region.Region, Regions.total_size, Blocks.is_in, Chain.IsSpot, Fit.greatest, Fit.is_suitable, Fit.lowest_gap, Fit.region_pri, Areas.Area, Areas.area_gaps, Areas.regions_of}

-- the place of the area in whose region an address lies
abbrev pub IsHome : ℕ → List Area → Option ℕ → Type 0
IsHome address areas None = All (λ (area : Area). is_in area.region address ≡ false) areas
IsHome address areas (Some place) = IsSomeAnd (slice_get areas place) (λ area. is_in area.region address ≡ true)

-- after which chunk the lowest gap of at least a size comes
abbrev pub IsLowest : ℕ → List Gap → Option ℕ → Type 0
IsLowest size free None = lowest_gap size free ≡ None
IsLowest size free (Some before) = IsSpot size free before

-- whether an area is suitable and has a gap of at least a size
abbrev pub offers : ℕ → ℕ → Area → Bool
offers size reqs area = is_suitable reqs area.region && is_some (lowest_gap size (area_gaps area))

-- the region that is chosen among those that offer a gap
abbrev pub chosen_of : ℕ → ℕ → List Area → Option Region
chosen_of size reqs areas = chosen region_pri (regions_of (filter (offers size reqs) areas))

-- an offer names the chosen region among some of the areas, and its lowest gap
abbrev pub IsOffer : List Area → ℕ → ℕ → List Area → Option Offer → Type 0
IsOffer areas size reqs some None = chosen_of size reqs some ≡ None
IsOffer areas size reqs some (Some offer) =
    IsSomeAnd (slice_get areas offer.header) (λ area. (chosen_of size reqs some ≡ Some area.region) × IsLowest size (area_gaps area) (Some offer.before))

-- the suitable areas
abbrev pub suitable_of : ℕ → List Area → List Area
suitable_of reqs areas = filter (λ (area : Area). is_suitable reqs area.region) areas

-- the sizes of all gaps of the suitable areas
abbrev pub sizes_of : ℕ → List Area → List ℕ
sizes_of reqs areas = map (λ (gap : Gap). gap.size) (flat_map area_gaps (suitable_of reqs areas))

-- the bytes that are free in the suitable areas, and those that are installed
abbrev pub free_of : ℕ → List Area → ℕ
free_of reqs areas = sum_by (λ n. n) (sizes_of reqs areas)

abbrev pub installed_of : ℕ → List Area → ℕ
installed_of reqs areas = total_size (regions_of (suitable_of reqs areas))

abbrev pub largest_of : ℕ → List Area → ℕ
largest_of reqs areas = greatest (sizes_of reqs areas)

-- whether an offer is of a region of greater priority than the area at a place
abbrev pub is_below : Option Area → Option Area → Bool
is_below (Some area) (Some other) = int_lt area.region.pri other.region.pri
is_below (Some area) None = false
is_below None other = false

abbrev pub is_outranked : List Area → ℕ → Option Offer → Bool
is_outranked areas place None = false
is_outranked areas place (Some offer) = is_below (slice_get areas place) (slice_get areas offer.header)
