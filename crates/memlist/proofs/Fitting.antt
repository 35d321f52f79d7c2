-- What a fit is: the chosen region, its lowest large enough gap, and a memory that stays well formed.
use Rattle.std.proofs.Common.{◌≡◌, ◌≢◌, ℕ, zero, suc, ◌+◌, ◌<◌, ◌≤◌, Bool, true, false, cond, List, [], ◌∷◌, ◌++◌, get_or, refl, sym, ◌∙◌, ap, subst, arith, ⊎_elim, ◌-◌, MatchOption, nat_eq, nat_le, ◌||◌, Option, Some, None, slice_get, filter, option_map, option_and_then, nat_cmp}
use Rattle.std.specs.{List.AllByRecursion, List.list_all, FinMap.put, FinMap.nat_cmp-IsAntisymmetric, FinMap.Entries.where_key, FinMap.Entries.find-where_key}
use Rattle.std.proofs.lemmas.{Bool.cases_lt, Bool.and_parts, Option.slice_get-get_or, Option.slice_get_within, Option.get_or_from_slice_get}
use Rattle.execlist.specs.Order.{IsEarliestGreatest, chosen}
use Rattle.execlist.proofs.OrderLaws.{chosen_is_earliest}
use Rattle.memlist.specs.{declared.gap.Gap.Gap, declared.region.Region.Region, Regions.region_end, Regions.is_in_reach, Blocks.Blocks, Blocks.blocks_in, Blocks.gaps, Blocks.gaps_between, Blocks.is_in, Blocks.block_at, Fit.fit, Fit.front, Fit.has_room, Fit.lowest_gap, Fit.region_pri, Fit.round, Memory.IsLaid, Memory.IsWellFormed, Pieces.AreDisjoint, Pieces.IsPlaced, Joins.IsSpread}
use Rattle.memlist.proofs.{Gaps.taken, Gaps.spread_at, Gaps.spread_gaps, Gaps.stretch_cases, Headers.IsGapWithin, Headers.end_aligned, Headers.from_le, Headers.gaps_within, Headers.IsWithin, Headers.block_within, Headers.reach_region, Slots.AllFrom, Slots.found_none, Merged.AllAnswer, Merged.IsRising, Merged.cases_bool, Merged.rising_put, Merged.where_fail, Merged.where_pass, Merged.is_in-true, Merged.from_laid, Tiling.aligned_in, Tiling.laid_at, Keeping.are_laid_put, Keeping.answers_put, Keeping.from_home, Keeping.in_some, Keeping.in_some_at, Keeping.rising_sorted, Keeping.sorted_rising, Keeping.to_home, Answered.cases_eq, Answered.found_later, Answered.key_other, Chains.laid_ends}

-- The chosen region

chosen_one : (regions : List Region) (o : Option Region) → chosen region_pri regions ≡ o → MatchOption o (regions ≡ []) (IsEarliestGreatest region_pri regions)
chosen_one regions o is = subst (λ o. MatchOption o (regions ≡ []) (IsEarliestGreatest region_pri regions)) is (chosen_is_earliest Region region_pri regions)

pub chosen_none : (regions : List Region) → chosen region_pri regions ≡ None → regions ≡ []
chosen_none regions is = chosen_one regions None is

pub chosen_greatest : (regions : List Region) (region : Region) → chosen region_pri regions ≡ Some region → IsEarliestGreatest region_pri regions region
chosen_greatest regions region is = chosen_one regions (Some region) is

-- The parts of a fit

some_same : (x y : Gap) → Some x ≡ Some y → x ≡ y
some_same x y e = cc

some_number : (x y : ℕ) → Some x ≡ Some y → x ≡ y
some_number x y e = cc

not_zero : (n : ℕ) → nat_eq n 0 ≡ false → n ≢ 0
not_zero n f e = let bad : true ≡ false = sym (ap (λ k. nat_eq k 0) e) ∙ f in cc

record IsMember {X : Type 0} (p : X → Bool) (xs : List X) (x : X) : Type 0 where
  place : ℕ
  at : slice_get xs place ≡ Some x
  passes : p x ≡ true

member_later : {X : Type 0} (p : X → Bool) (y : X) (xs : List X) (x : X) → IsMember p xs x → IsMember p (y ∷ xs) x
member_later p y xs x m = record { place = suc m.place; at = m.at; passes = m.passes }

filtered_first : (p : Region → Bool) (y : Region) (ys : List Region) (k : ℕ) (x : Region) → p y ≡ true → ((k : ℕ) (x : Region) → slice_get (filter p ys) k ≡ Some x → IsMember p ys x)
    → slice_get (y ∷ filter p ys) k ≡ Some x → IsMember p (y ∷ ys) x
filtered_first p y ys zero x t later at = let here : y ≡ x = cc in record { place = 0; at = at; passes = subst (λ (r : Region). p r ≡ true) here t }
filtered_first p y ys (suc k) x t later at = member_later p y ys x (later k x at)

-- what is in a filtered list
filtered : (p : Region → Bool) (xs : List Region) (k : ℕ) (x : Region) → slice_get (filter p xs) k ≡ Some x → IsMember p xs x
filtered p [] k x at = cc
filtered p (y ∷ ys) k x at =
    cases_bool (p y)
    (λ t. filtered_first p y ys k x t (filtered p ys) (ap (λ b. slice_get (cond b (y ∷ filter p ys) (filter p ys)) k) (sym t) ∙ at))
    (λ f. member_later p y ys x (filtered p ys k x (ap (λ b. slice_get (cond b (y ∷ filter p ys) (filter p ys)) k) (sym f) ∙ at)))

-- the lowest large enough gap, with the gaps before and after it
pub record IsSplit (size : ℕ) (free : List Gap) (gap : Gap) : Type 0 where
  pub before : List Gap
  pub after : List Gap
  pub is : free ≡ before ++ gap ∷ after
  pub fits : size ≤ gap.size

pub split_lowest : (size : ℕ) (free : List Gap) (gap : Gap) → lowest_gap size free ≡ Some gap → IsSplit size free gap
split_lowest size [] gap e = cc
split_lowest size (x ∷ rest) gap e =
    cases_bool (nat_le size x.size)
    (λ t. let here : x ≡ gap = some_same x gap (ap (λ b. cond b (Some x) (lowest_gap size rest)) (sym t) ∙ e) in
    record { before = []; after = rest; is = ap (λ (g : Gap). g ∷ rest) here; fits = subst (λ (g : Gap). size ≤ g.size) here (from_le size x.size t) })
    (λ f. let later = split_lowest size rest gap (ap (λ b. cond b (Some x) (lowest_gap size rest)) (sym f) ∙ e) in
    record { before = x ∷ later.before; after = later.after; is = ap (λ gs. x ∷ gs) later.is; fits = later.fits })

pub within_split : (from to : ℕ) (before : List Gap) (gap : Gap) (after : List Gap) → AllByRecursion (IsGapWithin from to) (before ++ gap ∷ after) → IsGapWithin from to gap
within_split from to [] gap after all = all.0
within_split from to (x ∷ xs) gap after all = within_split from to xs gap after all.1

-- where a fit lies
pub record IsFit (regions : List Region) (blocks : Blocks) (size reqs address : ℕ) : Type 0 where
  pub some : size ≢ 0
  pub region : Region
  pub place : ℕ
  pub at : slice_get regions place ≡ Some region
  pub gap : Gap
  pub lowest : lowest_gap (round size) (gaps region blocks) ≡ Some gap
  pub front : gap.address ≡ address

fit_gap : (regions : List Region) (blocks : Blocks) (size reqs address : ℕ) (region : Region) (o : Option Gap) → size ≢ 0 → IsMember (has_room (round size) reqs blocks) regions region
    → lowest_gap (round size) (gaps region blocks) ≡ o → option_map (λ (gap : Gap). gap.address) o ≡ Some address → IsFit regions blocks size reqs address
fit_gap regions blocks size reqs address region None some m is e = cc
fit_gap regions blocks size reqs address region (Some gap) some m is e = record { some = some; region = region; place = m.place; at = m.at; gap = gap; lowest = is; front = some_number gap.address address e }

fit_region : (regions : List Region) (blocks : Blocks) (size reqs address : ℕ) (o : Option Region) → size ≢ 0 → chosen region_pri (filter (has_room (round size) reqs blocks) regions) ≡ o
    → option_and_then (front (round size) blocks) o ≡ Some address → IsFit regions blocks size reqs address
fit_region regions blocks size reqs address None some is e = cc
fit_region regions blocks size reqs address (Some region) some is e =
    let g = chosen_greatest (filter (has_room (round size) reqs blocks) regions) region is in
    fit_gap regions blocks size reqs address region (lowest_gap (round size) (gaps region blocks)) some
    (filtered (has_room (round size) reqs blocks) regions g.place region (slice_get-get_or (filter (has_room (round size) reqs blocks) regions) g.place region g.within ∙ ap (λ (r : Region). Some r) (g.there region))) refl e

pub fit_parts : (regions : List Region) (blocks : Blocks) (size reqs address : ℕ) → fit regions blocks size reqs ≡ Some address → IsFit regions blocks size reqs address
unfolding fit
fit_parts regions blocks size reqs address e =
    let inner = option_and_then (front (round size) blocks) (chosen region_pri (filter (has_room (round size) reqs blocks) regions)) in
    cases_bool (nat_eq size 0)
    (λ t. let bad : None ≡ Some address = ap (λ b. cond b None inner) (sym t) ∙ e in cc)
    (λ f. fit_region regions blocks size reqs address (chosen region_pri (filter (has_room (round size) reqs blocks) regions)) (not_zero size f) refl (ap (λ b. cond b None inner) (sym f) ∙ e))

pub fitted_well_formed : (regions : List Region) (blocks : Blocks) (size reqs tag address : ℕ) → IsWellFormed regions blocks → fit regions blocks size reqs ≡ Some address
    → IsWellFormed regions (put nat_cmp address (round size, tag) blocks)
unfolding gaps
fitted_well_formed regions blocks size reqs tag address w e =
    let f = fit_parts regions blocks size reqs address e in
    let a = aligned_in regions f.place f.region f.at w.aligned in
    let laid = laid_at regions blocks f.place f.region f.at w.laid in
    let mine = blocks_in f.region blocks in
    let end = region_end f.region in
    let s = split_lowest (round size) (gaps_between f.region.base mine end) f.gap f.lowest in
    let g = within_split f.region.base end s.before f.gap s.after (subst (AllByRecursion (IsGapWithin f.region.base end)) s.is (gaps_within f.region.base mine end a.base (end_aligned f.region a) laid)) in
    let inside = subst (λ k. is_in f.region k ≡ true) f.front (is_in-true f.region f.gap.address g.low (omega (arith, g.high, g.some))) in
    let some : size ≢ 0 = f.some in
    let t = taken f.region.base mine end (round size) tag s.before f.gap s.after (omega arith) (omega arith) a.base s.fits laid s.is in
    let new = subst (λ k. IsLaid f.region.base (put nat_cmp k (round size, tag) mine) end) f.front t.laid in
    let rising = rising_sorted blocks w.in_order in
    record {
      aligned = w.aligned;
      in_reach = w.in_reach;
      apart = w.apart;
      in_order = sorted_rising (put nat_cmp address (round size, tag) blocks) (rising_put address (round size, tag) blocks rising);
      at_home = to_home regions (put nat_cmp address (round size, tag) blocks)
          (answers_put (in_some regions) true address (round size, tag) blocks (in_some_at regions f.place f.region address f.at inside) (from_home regions blocks w.at_home));
      laid = are_laid_put regions blocks f.place f.region address (round size, tag) w.apart rising f.at inside new w.laid;
    }

-- Blocks that do not meet

pub record IsHomed (regions : List Region) (address : ℕ) : Type 0 where
  pub region : Region
  pub place : ℕ
  pub at : slice_get regions place ≡ Some region
  pub inside : is_in region address ≡ true

pub homed : (regions : List Region) (address : ℕ) → in_some regions address ≡ true → IsHomed regions address
homed [] address e = let bad : false ≡ true = e in cc
homed (x ∷ rest) address e =
    cases_bool (is_in x address)
    (λ t. record { region = x; place = 0; at = refl; inside = t })
    (λ f. let later = homed rest address (ap (λ b. b || in_some rest address) (sym f) ∙ e) in
    record { region = later.region; place = suc later.place; at = later.at; inside = later.inside })

answer_at : (p : ℕ → Bool) (blocks : Blocks) (k : ℕ) (block : ℕ × (ℕ × ℕ)) → AllAnswer p true blocks → slice_get blocks k ≡ Some block → p block.0 ≡ true
answer_at p [] k block all at = cc
answer_at p (x ∷ rest) zero block all at = let here : x ≡ block = cc in subst (λ (b : ℕ × (ℕ × ℕ)). p b.0 ≡ true) here all.0
answer_at p (x ∷ rest) (suc k) block all at = answer_at p rest k block all.1 at

from_at : (low : ℕ) (blocks : Blocks) (k : ℕ) (block : ℕ × (ℕ × ℕ)) → AllFrom low blocks → slice_get blocks k ≡ Some block → low ≤ block.0
from_at low [] k block all at = cc
from_at low (x ∷ rest) zero block all at = let here : x ≡ block = cc in subst (λ (b : ℕ × (ℕ × ℕ)). low ≤ b.0) here all.0
from_at low (x ∷ rest) (suc k) block all at = from_at low rest k block all.1 at

rising_at : (blocks : Blocks) (i j : ℕ) (a b : ℕ × (ℕ × ℕ)) → IsRising blocks → i < j → slice_get blocks i ≡ Some a → slice_get blocks j ≡ Some b → a.0 < b.0
rising_at [] i j a b h lt ai bj = cc
rising_at (x ∷ rest) i zero a b h lt ai bj = absurd (omega arith)
rising_at (x ∷ rest) zero (suc j) a b h lt ai bj =
    let here : x ≡ a = cc in
    let later = subst (λ (y : ℕ × (ℕ × ℕ)). y.0 + 1 ≤ b.0) here (from_at (x.0 + 1) rest j b h.0 bj) in omega (arith, later)
rising_at (x ∷ rest) (suc i) (suc j) a b h lt ai bj = rising_at rest i j a b h.1 (omega arith) ai bj

-- a block of a region lies between the addresses between which the region's blocks lie
laid_member : (p : ℕ → Bool) (from : ℕ) (blocks : Blocks) (to k : ℕ) (block : ℕ × (ℕ × ℕ)) → IsLaid from (where_key nat_cmp p blocks) to → slice_get blocks k ≡ Some block → p block.0 ≡ true
    → (from ≤ block.0) × (block.0 + block.1.0 ≤ to)
laid_member p from [] to k block laid at t = cc
laid_member p from (x ∷ rest) to zero block laid at t =
    let here : x ≡ block = cc in
    let tx = subst (λ (b : ℕ × (ℕ × ℕ)). p b.0 ≡ true) (sym here) t in
    let l = subst (λ bs. IsLaid from bs to) (where_pass p x rest tx) laid in
    subst (λ (b : ℕ × (ℕ × ℕ)). (from ≤ b.0) × (b.0 + b.1.0 ≤ to)) here (l.0, laid_ends (x.0 + x.1.0) (where_key nat_cmp p rest) to l.4)
laid_member p from (x ∷ rest) to (suc k) block laid at t =
    cases_bool (p x.0)
    (λ tx. let l = subst (λ bs. IsLaid from bs to) (where_pass p x rest tx) laid in
    let later = laid_member p (x.0 + x.1.0) rest to k block l.4 at t in (omega (arith, l.0, later.0), later.1))
    (λ fx. laid_member p from rest to k block (subst (λ bs. IsLaid from bs to) (where_fail p x rest fx) laid) at t)

laid_pair : (p : ℕ → Bool) (from : ℕ) (blocks : Blocks) (to i j : ℕ) (a b : ℕ × (ℕ × ℕ)) → IsLaid from (where_key nat_cmp p blocks) to → i < j
    → slice_get blocks i ≡ Some a → slice_get blocks j ≡ Some b → p a.0 ≡ true → p b.0 ≡ true → a.0 + a.1.0 ≤ b.0
laid_pair p from [] to i j a b laid lt ai bj ta tb = cc
laid_pair p from (x ∷ rest) to i zero a b laid lt ai bj ta tb = absurd (omega arith)
laid_pair p from (x ∷ rest) to zero (suc j) a b laid lt ai bj ta tb =
    let here : x ≡ a = cc in
    let tx = subst (λ (b : ℕ × (ℕ × ℕ)). p b.0 ≡ true) (sym here) ta in
    let l = subst (λ bs. IsLaid from bs to) (where_pass p x rest tx) laid in
    subst (λ (y : ℕ × (ℕ × ℕ)). y.0 + y.1.0 ≤ b.0) here (laid_member p (x.0 + x.1.0) rest to j b l.4 bj tb).0
laid_pair p from (x ∷ rest) to (suc i) (suc j) a b laid lt ai bj ta tb =
    cases_bool (p x.0)
    (λ tx. laid_pair p (x.0 + x.1.0) rest to i j a b (subst (λ bs. IsLaid from bs to) (where_pass p x rest tx) laid).4 (omega arith) ai bj ta tb)
    (λ fx. laid_pair p from rest to i j a b (subst (λ bs. IsLaid from bs to) (where_fail p x rest fx) laid) (omega arith) ai bj ta tb)

not_in : (region : Region) (address : ℕ) → is_in region address ≡ false → region.base ≤ address → region_end region ≤ address
not_in region address f low =
    ⊎_elim
    (λ (lt : address < region_end region). let bad : true ≡ false = sym (is_in-true region address low lt) ∙ f in cc)
    (λ (le : region_end region ≤ address). le)
    (cases_lt address (region_end region))

pub disjoint : (regions : List Region) (blocks : Blocks) → IsWellFormed regions blocks → AreDisjoint regions blocks
disjoint regions blocks w =
    let homes = from_home regions blocks w.at_home in
    let rising = rising_sorted blocks w.in_order in
    record {
      inside = λ k d within.
          let block = get_or blocks k d in
          let at = slice_get-get_or blocks k d within in
          let h = homed regions block.0 (answer_at (in_some regions) blocks k block homes at) in
          let m = laid_member (is_in h.region) h.region.base blocks (region_end h.region) k block (laid_at regions blocks h.place h.region h.at w.laid) at h.inside in
          (h.place, h.region, slice_get_within regions h.place h.region h.at, get_or_from_slice_get regions h.place h.region h.region h.at, m);
      apart = λ i j d lt within.
          let a = get_or blocks i d in
          let b = get_or blocks j d in
          let ai = slice_get-get_or blocks i d (omega arith) in
          let bj = slice_get-get_or blocks j d within in
          let h = homed regions a.0 (answer_at (in_some regions) blocks i a homes ai) in
          let laid = laid_at regions blocks h.place h.region h.at w.laid in
          let m = laid_member (is_in h.region) h.region.base blocks (region_end h.region) i a laid ai h.inside in
          let order = rising_at blocks i j a b rising lt ai bj in
          cases_bool (is_in h.region b.0)
          (λ t. laid_pair (is_in h.region) h.region.base blocks (region_end h.region) i j a b laid lt ai bj h.inside t)
          (λ f. let high = not_in h.region b.0 f (omega (arith, m.0, order)) in omega (arith, m.1, high));
    }

-- ---- where blocks are, and where a fit may be

-- No block begins where a gap does

-- a gap after a block
free_after : (block : ℕ × (ℕ × ℕ)) (rest : Blocks) (to : ℕ) (gap : Gap) (ys xs : List Gap) → 0 < block.1.0 → IsLaid (block.0 + block.1.0) rest to
    → ((zs : List Gap) → gaps_between (block.0 + block.1.0) rest to ≡ zs ++ gap ∷ ys → block_at gap.address rest ≡ None)
    → gaps_between (block.0 + block.1.0) rest to ≡ xs ++ gap ∷ ys → block_at gap.address (block ∷ rest) ≡ None
free_after block rest to gap ys xs some laid later e =
    let spread : IsSpread (block.0 + block.1.0) (xs ++ gap ∷ ys) = subst (IsSpread (block.0 + block.1.0)) e (spread_gaps (block.0 + block.1.0) rest to laid) in
    let low = spread_at (block.0 + block.1.0) xs gap ys spread in
    let other : gap.address ≢ block.0 = omega (arith, some, low) in
    ap (λ b. cond b (Some block.1) (block_at gap.address rest)) (key_other gap.address block.0 other) ∙ later xs e

free_before : (from : ℕ) (block : ℕ × (ℕ × ℕ)) (rest : Blocks) (to : ℕ) (gap : Gap) (ys xs : List Gap) → IsLaid from (block ∷ rest) to
    → ((zs : List Gap) → gaps_between (block.0 + block.1.0) rest to ≡ zs ++ gap ∷ ys → block_at gap.address rest ≡ None) → from < block.0
    → record { address = from; size = block.0 - from } ∷ gaps_between (block.0 + block.1.0) rest to ≡ xs ++ gap ∷ ys → block_at gap.address (block ∷ rest) ≡ None
free_before from block rest to gap ys [] laid later lt e =
    let here : record { address = from; size = block.0 - from } ≡ gap = cc in
    let others = from_laid (from + 1) (block.0 + block.1.0) rest to (omega arith) laid.4 in
    subst (λ (g : Gap). block_at g.address (block ∷ rest) ≡ None) here (found_none from (block ∷ rest) (omega arith, others))
free_before from block rest to gap ys (x ∷ xs) laid later lt e =
    let others : gaps_between (block.0 + block.1.0) rest to ≡ xs ++ gap ∷ ys = cc in
    free_after block rest to gap ys xs laid.1 laid.4 later others

free_between : (from : ℕ) (blocks : Blocks) (to : ℕ) (xs : List Gap) (gap : Gap) (ys : List Gap) → IsLaid from blocks to → gaps_between from blocks to ≡ xs ++ gap ∷ ys → block_at gap.address blocks ≡ None
free_between from [] to xs gap ys laid e = refl
free_between from (block ∷ rest) to xs gap ys laid e =
    let later = λ (zs : List Gap) (f : gaps_between (block.0 + block.1.0) rest to ≡ zs ++ gap ∷ ys). free_between (block.0 + block.1.0) rest to zs gap ys laid.4 f in
    stretch_cases (λ free. free ++ gaps_between (block.0 + block.1.0) rest to ≡ xs ++ gap ∷ ys → block_at gap.address (block ∷ rest) ≡ None) from block.0
    (λ lt f. free_before from block rest to gap ys xs laid later lt f)
    (λ le f. free_after block rest to gap ys xs laid.1 laid.4 later f) e

-- The blocks of one region

found_in : (region : Region) (address : ℕ) (blocks : Blocks) → is_in region address ≡ true → block_at address (blocks_in region blocks) ≡ block_at address blocks
found_in region address blocks inside =
    find-where_key nat_cmp (is_in region) address (λ x e. ap (is_in region) (sym (nat_cmp-IsAntisymmetric address x e))) blocks
    ∙ ap (λ b. cond b (block_at address blocks) None) inside

answer_found : (p : ℕ → Bool) (address : ℕ) (blocks : Blocks) (value : ℕ × ℕ) → AllAnswer p true blocks → block_at address blocks ≡ Some value → p address ≡ true
answer_found p address [] value all found = cc
answer_found p address (block ∷ rest) value all found =
    cases_eq block.0 address
    (λ same. subst (λ k. p k ≡ true) same all.0)
    (λ other. answer_found p address rest value all.1 (found_later address block (Some value) rest other found))

reach_in : (regions : List Region) (place : ℕ) (region : Region) → slice_get regions place ≡ Some region → list_all is_in_reach regions ≡ true → region_end region ≤ 2147483648
reach_in [] place region at e = cc
reach_in (x ∷ rest) zero region at e =
    let here : x ≡ region = cc in subst (λ (r : Region). region_end r ≤ 2147483648) here (reach_region x (and_parts (is_in_reach x) (list_all is_in_reach rest) e).0)
reach_in (x ∷ rest) (suc place) region at e = reach_in rest place region at (and_parts (is_in_reach x) (list_all is_in_reach rest) e).1

placed : (regions : List Region) (blocks : Blocks) (place : ℕ) (region : Region) (address size : ℕ) → IsWellFormed regions blocks → slice_get regions place ≡ Some region
    → IsWithin region.base (region_end region) address size → IsPlaced address size
placed regions blocks place region address size w at within =
    let a = aligned_in regions place region at w.aligned in
    let reach = reach_in regions place region at w.in_reach in
    record { low = omega (arith, a.above, within.low); high = omega (arith, reach, within.high); some = within.some; place = within.place; whole = within.whole }

pub live_placed : (regions : List Region) (blocks : Blocks) (address size tag : ℕ) → IsWellFormed regions blocks → block_at address blocks ≡ Some (size, tag) → IsPlaced address size
live_placed regions blocks address size tag w found =
    let h = homed regions address (answer_found (in_some regions) address blocks (size, tag) (from_home regions blocks w.at_home) found) in
    let mine = found_in h.region address blocks h.inside ∙ found in
    placed regions blocks h.place h.region address size w h.at
    (block_within h.region.base (blocks_in h.region blocks) (region_end h.region) address size tag (laid_at regions blocks h.place h.region h.at w.laid) mine)

-- If a block fits

pub fitted_placed : (regions : List Region) (blocks : Blocks) (size reqs address : ℕ) → IsWellFormed regions blocks → fit regions blocks size reqs ≡ Some address → IsPlaced address (round size)
unfolding gaps
fitted_placed regions blocks size reqs address w e =
    let f = fit_parts regions blocks size reqs address e in
    let a = aligned_in regions f.place f.region f.at w.aligned in
    let laid = laid_at regions blocks f.place f.region f.at w.laid in
    let free = gaps_between f.region.base (blocks_in f.region blocks) (region_end f.region) in
    let s = split_lowest (round size) free f.gap f.lowest in
    let g = within_split f.region.base (region_end f.region) s.before f.gap s.after
    (subst (AllByRecursion (IsGapWithin f.region.base (region_end f.region))) s.is (gaps_within f.region.base (blocks_in f.region blocks) (region_end f.region) a.base (end_aligned f.region a) laid)) in
    let some : size ≢ 0 = f.some in
    subst (λ k. IsPlaced k (round size)) f.front
    (placed regions blocks f.place f.region f.gap.address (round size) w f.at
    record { low = g.low; high = omega (arith, g.high, s.fits); some = omega arith; place = g.place; whole = omega arith })

pub fitted_fresh : (regions : List Region) (blocks : Blocks) (size reqs address : ℕ) → IsWellFormed regions blocks → fit regions blocks size reqs ≡ Some address → block_at address blocks ≡ None
unfolding gaps
fitted_fresh regions blocks size reqs address w e =
    let f = fit_parts regions blocks size reqs address e in
    let a = aligned_in regions f.place f.region f.at w.aligned in
    let laid = laid_at regions blocks f.place f.region f.at w.laid in
    let mine = blocks_in f.region blocks in
    let free = gaps_between f.region.base mine (region_end f.region) in
    let s = split_lowest (round size) free f.gap f.lowest in
    let g = within_split f.region.base (region_end f.region) s.before f.gap s.after
    (subst (AllByRecursion (IsGapWithin f.region.base (region_end f.region))) s.is (gaps_within f.region.base mine (region_end f.region) a.base (end_aligned f.region a) laid)) in
    let inside = is_in-true f.region f.gap.address g.low (omega (arith, g.high, g.some)) in
    subst (λ k. block_at k blocks ≡ None) f.front
    (sym (found_in f.region f.gap.address blocks inside) ∙ free_between f.region.base mine (region_end f.region) s.before f.gap s.after laid s.is)
