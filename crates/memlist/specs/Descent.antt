-- The gap below an address by the table of blocks: it ends where the lowest block after it begins, or at that address.
use Rattle.std.specs.Prelude.{◌≡◌, ℕ, ◌+◌, ◌*◌, ◌≤◌, List, [], ◌∷◌, ◌++◌, length}
use Rattle.memlist.specs.declared.descent.Look.TheVariants.{Chunk, Below}
use Rattle.memlist.specs.{declared.descent.Look.Look, declared.slot.Slot.Slot, Blocks.gaps_between, Chain.last_or, Areas.entries}

-- if the last gap begins that the blocks of some units leave below an address, or 0 if there is none
abbrev pub last_left : ℕ → List Slot → ℕ → ℕ
last_left base slots top = last_or 0 (gaps_between base (entries base slots) top)

-- What the unit above some others says of the last gap below an address: where it begins, or that it is the last one
-- which those others leave below a lower address.
abbrev pub IsLook : ℕ → List Slot → Slot → ℕ → Look → Type 0
IsLook base slots slot top (Chunk address) = address ≡ last_left base (slots ++ slot ∷ []) top
IsLook base slots slot top (Below lower) = (last_left base slots lower ≡ last_left base (slots ++ slot ∷ []) top) × (base + 8 * length slots ≤ lower)
