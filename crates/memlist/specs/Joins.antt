-- The gaps round a block: what is there before it is freed, and what it joins.
use Rattle.std.specs.Prelude.{◌≡◌, ℕ, ◌+◌, ◌<◌, ◌≤◌, List, [], ◌∷◌, ◌++◌}
use Rattle.memlist.specs.{declared.gap.Gap.Gap, Blocks.stretch}

-- gaps in order, from an address on, none empty and no two touching
abbrev pub IsSpread : ℕ → List Gap → Type 0
IsSpread low [] = Unit {0}
IsSpread low (gap ∷ rest) = (low ≤ gap.address) × (0 < gap.size) × IsSpread (gap.address + gap.size + 1) rest

abbrev pub AllEndBefore : ℕ → List Gap → Type 0
AllEndBefore start [] = Unit {0}
AllEndBefore start (gap ∷ rest) = (gap.address + gap.size < start) × AllEndBefore start rest

-- The gaps on both sides of a block of n bytes: what is free right before it begins at start, what is free right after
-- it goes up to end, and the other gaps touch neither.
pub record Around (free : List Gap) (address n : ℕ) : Type 0 where
  pub below : List Gap
  pub start : ℕ
  pub end : ℕ
  pub above : List Gap
  pub is : free ≡ below ++ (stretch start address ++ (stretch (address + n) end ++ above))
  pub low : start ≤ address
  pub high : address + n ≤ end
  pub ended : AllEndBefore start below
  pub begun : IsSpread (end + 1) above
