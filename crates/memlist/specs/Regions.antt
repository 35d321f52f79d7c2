-- Which regions a machine may have, and the first fault of regions that it may not have.
use Rattle.std.specs.Prelude.{ℕ, ◌+◌, ◌%◌, Bool, true, not, ◌&&◌, nat_eq, nat_lt, nat_le, if◌then◌else◌, List, [], ◌∷◌, length, Option, None, Some, sum_by}
use Rattle.std.specs.List.{list_all, list_any}
use Rattle.memlist.specs.declared.region.MemFault.TheVariants.{Misaligned, Overlap, TooLarge, OutOfMemory}
use Rattle.memlist.specs.{declared.region.Region.Region, declared.region.MemFault.MemFault}

-- the number of a fault (project rule)
abbrev pub fault_number : MemFault → ℕ
fault_number Misaligned = 1
fault_number Overlap = 2
fault_number TooLarge = 3
fault_number OutOfMemory = 4

-- the address after a region's last byte
abbrev pub region_end : Region → ℕ
region_end region = region.base + region.size

-- base and size are multiples of 8, the size is not 0, and the lowest page, of 4096 bytes, is left free
abbrev pub is_aligned : Region → Bool
is_aligned region = nat_eq (region.base % 8) 0 && nat_eq (region.size % 8) 0 && nat_lt 0 region.size && nat_le 4096 region.base

-- a region ends at 2 GB at most
abbrev pub is_in_reach : Region → Bool
is_in_reach region = nat_le (region_end region) 2147483648

-- the bytes of all regions together
abbrev pub total_size : List Region → ℕ
total_size regions = sum_by (λ (region : Region). region.size) regions

-- there are at most 8 regions, they have at most that many bytes in all, and each ends at 2 GB at most
abbrev pub are_small : ℕ → List Region → Bool
are_small total regions = nat_le (length regions) 8 && nat_le (total_size regions) total && list_all is_in_reach regions

-- two regions overlap; those that only touch do not
abbrev pub overlaps : Region → Region → Bool
overlaps a b = nat_lt a.base (region_end b) && nat_lt b.base (region_end a)

-- no two regions overlap
abbrev pub are_apart : List Region → Bool
are_apart [] = true
are_apart (region ∷ rest) = not (list_any (overlaps region) rest) && are_apart rest

-- the first of the faults Misaligned, TooLarge and Overlap that the regions have, if they have one; `total` is the
-- number of bytes that they may have in all
unfoldable pub regions_fault : ℕ → List Region → Option MemFault
regions_fault total regions =
    if not (list_all is_aligned regions) then Some Misaligned
    else (if not (are_small total regions) then Some TooLarge
    else (if not (are_apart regions) then Some Overlap else None))
