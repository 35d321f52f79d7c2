-- The gap below an address by the table of blocks: what a look at a unit says, and where the descent begins.
use Rattle.std.proofs.Common.{◌≡◌, ◌≢◌, ℕ, suc, ◌+◌, ◌-◌, ◌*◌, ◌/◌, ◌<◌, ◌≤◌, true, false, cond, List, [], ◌∷◌, ◌++◌, length, take, drop, get_or, refl, sym, ◌∙◌, ap, subst, arith, append_assoc, append-nil, nat_eq, Some, length-take-le, take-append-drop, take-suc}
use Rattle.std.specs.List.{AllByRecursion}
use Rattle.memlist.specs.declared.descent.Look.TheVariants.{Chunk, Below}
use Rattle.memlist.specs.{declared.gap.Gap.Gap, declared.slot.Slot.Slot, declared.region.Region.Region, Regions.region_end, Blocks.Blocks, Blocks.block_at, Blocks.stretch, Blocks.gaps_between, Memory.IsLaid, Chain.IsLastBelow, Chain.Space, Chain.last_or, Areas.IsHeader, Areas.entries, Descent.IsLook, Descent.last_left}
use Rattle.memlist.proofs.{Answered.nat_eq-other, Gaps.stretch_cases, Gaps.stretch_none, Gaps.stretch_some, Headers.aligned_region, Headers.live_within, Headers.place_of_unit, Headers.place_within, Walking.same_part, Writing.last_append, Chains.laid_ends}

-- Parts of a table

entries-append : (from : ℕ) (xs ys : List Slot) → entries from (xs ++ ys) ≡ entries from xs ++ entries (from + 8 * length xs) ys
entries-append from [] ys = ap (λ a. entries a ys) (omega arith)
entries-append from (x ∷ xs) ys =
    let further : from + 8 + 8 * length xs ≡ from + 8 * length (x ∷ xs) = omega arith in
    let later = entries-append (from + 8) xs ys ∙ ap (λ a. entries (from + 8) xs ++ entries a ys) further in
    elim (nat_eq x.size 0) as (λ b. cond b (entries (from + 8) (xs ++ ys)) ((from, (x.size, x.tag)) ∷ entries (from + 8) (xs ++ ys))
    ≡ cond b (entries (from + 8) xs) ((from, (x.size, x.tag)) ∷ entries (from + 8) xs) ++ entries (from + 8 * length (x ∷ xs)) ys) [
      | true ↦ later
      | false ↦ ap (λ bs. (from, (x.size, x.tag)) ∷ bs) later
    ]

gaps-part : (from : ℕ) (xs : Blocks) (block : ℕ × (ℕ × ℕ)) (ys : Blocks) (to : ℕ)
    → gaps_between from (xs ++ block ∷ ys) to ≡ gaps_between from xs block.0 ++ gaps_between (block.0 + block.1.0) ys to
gaps-part from [] block ys to = refl
gaps-part from (x ∷ xs) block ys to =
    ap (λ gs. stretch from x.0 ++ gs) (gaps-part (x.0 + x.1.0) xs block ys to)
    ∙ sym (append_assoc (stretch from x.0) (gaps_between (x.0 + x.1.0) xs block.0) (gaps_between (block.0 + block.1.0) ys to))

laid-lower : (from : ℕ) (xs : Blocks) (block : ℕ × (ℕ × ℕ)) (ys : Blocks) (to : ℕ) → IsLaid from (xs ++ block ∷ ys) to → IsLaid from xs block.0
laid-lower from [] block ys to laid = laid.0
laid-lower from (x ∷ xs) block ys to laid = (laid.0, laid.1, laid.2, laid.3, laid-lower (x.0 + x.1.0) xs block ys to laid.4)

laid-upper : (from : ℕ) (xs : Blocks) (block : ℕ × (ℕ × ℕ)) (ys : Blocks) (to : ℕ) → IsLaid from (xs ++ block ∷ ys) to → IsLaid (block.0 + block.1.0) ys to
laid-upper from [] block ys to laid = laid.4
laid-upper from (x ∷ xs) block ys to laid = laid-upper (x.0 + x.1.0) xs block ys to laid.4

gaps-below : (from : ℕ) (blocks : Blocks) (to : ℕ) → IsLaid from blocks to → AllByRecursion (λ (gap : Gap). gap.address < to) (gaps_between from blocks to)
gaps-below from [] to laid = stretch_cases (AllByRecursion (λ (gap : Gap). gap.address < to)) from to (λ lt. (lt, tt)) (λ le. tt)
gaps-below from (block ∷ rest) to laid =
    let later = gaps-below (block.0 + block.1.0) rest to laid.4 in
    let ends = laid_ends (block.0 + block.1.0) rest to laid.4 in
    stretch_cases (λ gs. AllByRecursion (λ (gap : Gap). gap.address < to) (gs ++ gaps_between (block.0 + block.1.0) rest to)) from block.0
    (λ lt. (omega (arith, lt, ends), later)) (λ le. later)

gaps-above : (address from : ℕ) (blocks : Blocks) (to : ℕ) → address ≤ from → IsLaid from blocks to → AllByRecursion (λ (gap : Gap). address ≤ gap.address) (gaps_between from blocks to)
gaps-above address from [] to low laid = stretch_cases (AllByRecursion (λ (gap : Gap). address ≤ gap.address)) from to (λ lt. (low, tt)) (λ le. tt)
gaps-above address from (block ∷ rest) to low laid =
    let later = gaps-above address (block.0 + block.1.0) rest to (omega (arith, low, laid.0)) laid.4 in
    stretch_cases (λ gs. AllByRecursion (λ (gap : Gap). address ≤ gap.address) (gs ++ gaps_between (block.0 + block.1.0) rest to)) from block.0
    (λ lt. (low, later)) (λ le. later)

-- A look at one more unit

more-empty : (base : ℕ) (slots : List Slot) (slot : Slot) → slot.size ≡ 0 → entries base (slots ++ slot ∷ []) ≡ entries base slots
more-empty base slots slot none =
    let unit = base + 8 * length slots in
    entries-append base slots (slot ∷ []) ∙ ap (λ b. entries base slots ++ cond b [] ((unit, (slot.size, slot.tag)) ∷ [])) (ap (λ n. nat_eq n 0) none) ∙ append-nil (entries base slots)

more-block : (base : ℕ) (slots : List Slot) (slot : Slot) (rest : List Slot) → slot.size ≢ 0
    → entries base (slots ++ slot ∷ rest) ≡ entries base slots ++ (base + 8 * length slots, (slot.size, slot.tag)) ∷ entries (base + 8 * length slots + 8) rest
more-block base slots slot rest some =
    let unit = base + 8 * length slots in
    entries-append base slots (slot ∷ rest)
    ∙ ap (λ b. entries base slots ++ cond b (entries (unit + 8) rest) ((unit, (slot.size, slot.tag)) ∷ entries (unit + 8) rest)) (nat_eq-other slot.size 0 some)

-- what a block leaves below an address, if it is the last one
behind : (base : ℕ) (slots : List Slot) (slot : Slot) (unit top : ℕ) → slot.size ≢ 0 → unit ≡ base + 8 * length slots
    → gaps_between base (entries base (slots ++ slot ∷ [])) top ≡ gaps_between base (entries base slots) unit ++ stretch (unit + slot.size) top
behind base slots slot unit top some at =
    ap (λ bs. gaps_between base bs top) (more-block base slots slot [] some)
    ∙ gaps-part base (entries base slots) (base + 8 * length slots, (slot.size, slot.tag)) [] top
    ∙ ap (λ a. gaps_between base (entries base slots) a ++ stretch (a + slot.size) top) (sym at)

pub look-empty : (base : ℕ) (slots : List Slot) (slot : Slot) (unit top : ℕ) → slot.size ≡ 0 → unit ≤ top → unit ≡ base + 8 * length slots → IsLook base slots slot top (Below top)
look-empty base slots slot unit top none le at =
    (sym (ap (λ bs. last_or 0 (gaps_between base bs top)) (more-empty base slots slot none)), omega (arith, le, at))

pub look-chunk : (base : ℕ) (slots : List Slot) (slot : Slot) (unit top : ℕ) → slot.size ≢ 0 → slot.size < top - unit → unit ≡ base + 8 * length slots
    → IsLook base slots slot top (Chunk (unit + slot.size))
look-chunk base slots slot unit top some lt at =
    let gap : Gap = record { address = unit + slot.size; size = top - (unit + slot.size) } in
    let left = gaps_between base (entries base slots) unit in
    sym (ap (last_or 0) (behind base slots slot unit top some at ∙ ap (λ gs. left ++ gs) (stretch_some (unit + slot.size) top (omega (arith, lt)))) ∙ last_append 0 left gap)

pub look-full : (base : ℕ) (slots : List Slot) (slot : Slot) (unit top : ℕ) → slot.size ≢ 0 → top - unit ≤ slot.size → unit ≡ base + 8 * length slots
    → IsLook base slots slot top (Below unit)
look-full base slots slot unit top some le at =
    let left = gaps_between base (entries base slots) unit in
    (sym (ap (last_or 0) (behind base slots slot unit top some at ∙ ap (λ gs. left ++ gs) (stretch_none (unit + slot.size) top (omega (arith, le))) ∙ append-nil left)), omega (arith, at))

-- If nothing begins any more

-- If the descent begins

parted : (slots : List Slot) (place : ℕ) (d : Slot) → place < length slots → slots ≡ take place slots ++ get_or slots place d ∷ drop (suc place) slots
parted slots place d within =
    sym (take-append-drop (suc place) slots) ∙ ap (λ (xs : List Slot). xs ++ drop (suc place) slots) (take-suc slots place d within)
    ∙ append_assoc (take place slots) (get_or slots place d ∷ []) (drop (suc place) slots)

pub unit-at : (base place : ℕ) (slots : List Slot) → 0 < place → place ≤ length slots → base + (place - 1) * 8 ≡ base + 8 * length (take (place - 1) slots)
unit-at base place slots some within =
    let count : length (take (place - 1) slots) ≡ place - 1 = length-take-le (place - 1) slots (omega (arith, within)) in
    omega (arith, count)

pub one-up : (slots : List Slot) (place : ℕ) (d : Slot) → 0 < place → place ≤ length slots → take (place - 1) slots ++ get_or slots (place - 1) d ∷ [] ≡ take place slots
one-up slots place d some within =
    let up : suc (place - 1) ≡ place = omega (arith, some) in
    sym (take-suc slots (place - 1) d (omega (arith, some, within))) ∙ ap (λ n. take n slots) up

module _ (region : Region) (slots : List Slot) (space : Space) (h : IsHeader region slots space) where
  -- the last gap below a block is what the blocks of the units below it leave
  block-left : (address place : ℕ) (d : Slot) → place < length slots → address ≡ region.base + 8 * place → (get_or slots place d).size ≢ 0
      → IsLastBelow address space.gaps (last_left region.base (take place slots) address)
  block-left address place d within at some below above is low high =
      let base = region.base in
      let lower = entries base (take place slots) in
      let slot = get_or slots place d in
      let upper = entries (address + 8) (drop (suc place) slots) in
      let block : ℕ × (ℕ × ℕ) = (address, (slot.size, slot.tag)) in
      let count : length (take place slots) ≡ place = length-take-le place slots (omega (arith, within)) in
      let here : base + 8 * length (take place slots) ≡ address = omega (arith, at, count) in
      let parts : entries base slots ≡ lower ++ block ∷ upper =
      ap (entries base) (parted slots place d within) ∙ more-block base (take place slots) slot (drop (suc place) slots) some
      ∙ ap (λ a. lower ++ (a, (slot.size, slot.tag)) ∷ entries (a + 8) (drop (suc place) slots)) here in
      let laid = subst (λ bs. IsLaid base bs (region_end region)) parts h.laid in
      let gaps = sym (h.free ∙ ap (λ bs. gaps_between base bs (region_end region)) parts ∙ gaps-part base lower block upper (region_end region)) ∙ is in
      ap (last_or 0) (same_part address (gaps_between base lower address) (gaps_between (address + slot.size) upper (region_end region)) below above gaps
      (gaps-below base lower address (laid-lower base lower block upper (region_end region) laid))
      (gaps-above address (address + slot.size) upper (region_end region) (omega arith) (laid-upper base lower block upper (region_end region) laid))
      low high)

  -- if a block begins, there is its unit
  pub unit_of : (address place n tag : ℕ) → block_at address (entries region.base slots) ≡ Some (n, tag) → place ≡ (address - region.base) / 8 → address ≡ region.base + 8 * place
  unit_of address place n tag found at =
      let w = live_within region slots space h address n tag found in
      place_of_unit region.base address (aligned_region region h.aligned).base w.place w.low ∙ ap (λ k. region.base + 8 * k) (sym at)

  pub live-left : (address place : ℕ) (slot : Slot) → block_at address (entries region.base slots) ≡ Some (slot.size, slot.tag) → slot ≡ get_or slots place slot → place ≡ (address - region.base) / 8
      → IsLastBelow address space.gaps (last_left region.base (take place slots) address)
  live-left address place slot found is at =
      let w = live_within region slots space h address slot.size slot.tag found in
      let inside = place_within region slots address h.units w.low (omega (arith, w.high, w.some)) in
      let size : slot.size ≡ (get_or slots place slot).size = ap (λ (s : Slot). s.size) is in
      block-left address place slot (omega (arith, inside, at)) (unit_of address place slot.size slot.tag found at) (omega (arith, size, w.some))
