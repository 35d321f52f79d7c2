-- Small runs of the definitions, computed.
use Rattle.std.specs.Prelude.{◌≡◌, ℕ, pos, [], ◌∷◌, Option, None, Some, refl}
use Rattle.memlist.specs.declared.region.MemFault.TheVariants.{Misaligned, Overlap, TooLarge}
use Rattle.memlist.specs.{declared.region.Region.Region, Regions.regions_fault, Blocks.gaps, Fit.avail, Fit.fit, Memory.Memory, Memory.allocated, Memory.untouched, Memory.without_block}

-- one region of a size at 4096 with attribute 1
abbrev plain : ℕ → Region
plain size = record { base = 4096; size = size; attrs = 1; pri = pos 0 }

abbrev fast : Region
fast = record { base = 8192; size = 16; attrs = 3; pri = pos 5 }

-- the memory after an allocation, and what is free then
abbrev taken : ℕ → ℕ → Memory → Memory
taken size reqs memory = allocated size 0 (fit memory.regions memory.blocks size reqs) memory

abbrev fits : ℕ → ℕ → Memory → Option ℕ
fits size reqs memory = fit memory.regions memory.blocks size reqs

abbrev free : ℕ → Memory → ℕ
free reqs memory = avail memory.regions memory.blocks reqs

-- sizes round up, and gaps are filled from the front
pub rounded : fits 9 1 (taken 8 1 (taken 7 1 (untouched (plain 32 ∷ [])))) ≡ Some 0x1010
unfolding fit gaps
rounded = refl

pub filled : free 1 (taken 9 1 (taken 8 1 (taken 7 1 (untouched (plain 32 ∷ []))))) ≡ 0
unfolding avail fit gaps
filled = refl

-- what is freed joins its neighbours
pub apart : free 0x2_0001 (without_block 0x1010 (without_block 0x1000 (taken 8 1 (taken 8 1 (taken 8 1 (untouched (plain 32 ∷ []))))))) ≡ 0x10
unfolding avail fit gaps
apart = refl

pub joined : free 0x2_0001 (without_block 0x1008 (without_block 0x1010 (without_block 0x1000 (taken 8 1 (taken 8 1 (taken 8 1 (untouched (plain 32 ∷ [])))))))) ≡ 0x20
unfolding avail fit gaps
joined = refl

-- the greater priority comes first, and attributes are required
pub preferred : fits 8 1 (untouched (plain 16 ∷ fast ∷ [])) ≡ Some 0x2000
unfolding fit gaps
preferred = refl

pub suited : fits 8 2 (taken 16 1 (taken 8 1 (untouched (plain 16 ∷ fast ∷ [])))) ≡ Some 0x2008
unfolding fit gaps
suited = refl

pub unsuited : fits 8 4 (untouched (plain 16 ∷ fast ∷ [])) ≡ None
unfolding fit gaps
unsuited = refl

-- the largest size fits nowhere
pub largest : fits 0xFFFF_FFFF 1 (untouched (plain 32 ∷ [])) ≡ None
unfolding fit gaps
largest = refl

pub installed : free 0x8_0002 (untouched (plain 16 ∷ fast ∷ [])) ≡ 0x10
unfolding avail gaps
installed = refl

-- faults of regions, in their order
pub overlapping : regions_fault 1048576 (plain 16 ∷ plain 8 ∷ []) ≡ Some Overlap
unfolding regions_fault
overlapping = refl

pub too_large : regions_fault 1048576 (plain 2000000 ∷ plain 8 ∷ []) ≡ Some TooLarge
unfolding regions_fault
too_large = refl

pub misaligned : regions_fault 1048576 (plain 2000000 ∷ plain 7 ∷ []) ≡ Some Misaligned
unfolding regions_fault
misaligned = refl
