-- The units of a table at which no block ever began, and headers whose blocks are all freed.
use Rattle.std.proofs.Common.{◌≡◌, ◌≢◌, ℕ, zero, suc, ◌+◌, ◌<◌, ◌≤◌, List, [], ◌∷◌, ◌++◌, length, take, drop, map, set, get_or, replicate, refl, ◌∙◌, ap, arith, length-set, get_or-set_other}
use Rattle.memlist.specs.{declared.slot.Slot.Slot, Areas.Area, Areas.IsUnused, Areas.empty_area, Areas.empty_slot, Areas.regions_of}

-- Units at which no block began

empty_everywhere : (n p : ℕ) → get_or (replicate n empty_slot) p empty_slot ≡ empty_slot
empty_everywhere zero p = refl
empty_everywhere (suc n) zero = refl
empty_everywhere (suc n) (suc p) = empty_everywhere n p

pub unused_none : (n : ℕ) (slots : List Slot) → slots ≡ replicate n empty_slot → IsUnused 0 slots
unused_none n slots is = record { inside = omega arith; empty = λ p l. ap (λ (all : List Slot). get_or all p empty_slot) is ∙ empty_everywhere n p }

-- a block is put
pub unused_put : (unused more : ℕ) (slots : List Slot) (place : ℕ) (slot : Slot) → IsUnused unused slots → unused ≤ more → place < more → more ≤ length slots
    → IsUnused more (set slots place slot)
unused_put unused more slots place slot u less before inside = record {
  inside = omega (arith, inside, length-set slots place slot);
  empty = λ p l. (let other : p ≢ place = omega (arith, l, before) in
      get_or-set_other slots place p slot empty_slot other ∙ u.empty p (omega (arith, l, less)));
}

set_empty : (slots : List Slot) (place p : ℕ) → get_or slots p empty_slot ≡ empty_slot → get_or (set slots place empty_slot) p empty_slot ≡ empty_slot
set_empty [] place p e = e
set_empty (slot ∷ rest) zero zero e = refl
set_empty (slot ∷ rest) zero (suc p) e = e
set_empty (slot ∷ rest) (suc place) zero e = e
set_empty (slot ∷ rest) (suc place) (suc p) e = set_empty rest place p e

-- a block is freed
pub unused_freed : (unused : ℕ) (slots : List Slot) (place : ℕ) → IsUnused unused slots → IsUnused unused (set slots place empty_slot)
unused_freed unused slots place u = record {
  inside = omega (arith, u.inside, length-set slots place empty_slot);
  empty = λ p l. set_empty slots place p (u.empty p l);
}

-- Tables that are emptied

-- one slot more is empty
pub slot_emptied : (n : ℕ) (slots : List Slot) → n < length slots → set (replicate n empty_slot ++ drop n slots) n empty_slot ≡ replicate (n + 1) empty_slot ++ drop (n + 1) slots
slot_emptied zero [] l = absurd (omega arith)
slot_emptied zero (slot ∷ rest) l = refl
slot_emptied (suc n) [] l = absurd (omega arith)
slot_emptied (suc n) (slot ∷ rest) l =
    ap (λ (xs : List Slot). empty_slot ∷ xs) (slot_emptied n rest (omega arith))
    ∙ ap (λ k. replicate k empty_slot ++ drop k (slot ∷ rest)) (let same : suc (n + 1) ≡ suc n + 1 = omega arith in same)

all_emptied : (n : ℕ) (slots : List Slot) → n ≤ length slots → ((p : ℕ) → n ≤ p → get_or slots p empty_slot ≡ empty_slot)
    → replicate n empty_slot ++ drop n slots ≡ replicate (length slots) empty_slot
all_emptied zero [] l empty = refl
all_emptied zero (slot ∷ rest) l empty =
    ap (λ (s : Slot). s ∷ rest) (empty 0 (omega arith)) ∙ ap (λ (xs : List Slot). empty_slot ∷ xs) (all_emptied zero rest (omega arith) (λ p h. empty (suc p) (omega arith)))
all_emptied (suc n) [] l empty = absurd (omega arith)
all_emptied (suc n) (slot ∷ rest) l empty = ap (λ (xs : List Slot). empty_slot ∷ xs) (all_emptied n rest (omega arith) (λ p h. empty (suc p) (omega arith)))

-- the slots of a table whose first ones were emptied
pub table_emptied : (unused units : ℕ) (slots new : List Slot) → IsUnused unused slots → length slots ≡ units → new ≡ replicate unused empty_slot ++ drop unused slots
    → new ≡ replicate units empty_slot
table_emptied unused units slots new u long is = is ∙ all_emptied unused slots u.inside u.empty ∙ ap (λ k. replicate k empty_slot) long

-- Headers whose blocks are all freed

-- the first headers are without blocks
abbrev pub reset_first : ℕ → List Area → List Area
reset_first n areas = map empty_area (regions_of (take n areas)) ++ drop n areas

pub header_reset : (n : ℕ) (areas : List Area) (area new : Area) → n < length areas → area ≡ get_or (reset_first n areas) n area → new ≡ empty_area area.region
    → set (reset_first n areas) n new ≡ reset_first (n + 1) areas
header_reset zero [] area new l read is = absurd (omega arith)
header_reset zero (x ∷ rest) area new l read is = ap (λ (a : Area). a ∷ rest) (is ∙ ap (λ (a : Area). empty_area a.region) read)
header_reset (suc n) [] area new l read is = absurd (omega arith)
header_reset (suc n) (x ∷ rest) area new l read is =
    ap (λ (others : List Area). empty_area x.region ∷ others) (header_reset n rest area new (omega arith) read is)
    ∙ ap (λ k. reset_first k (x ∷ rest)) (let same : suc (n + 1) ≡ suc n + 1 = omega arith in same)

pub length-reset_first : (n : ℕ) (areas : List Area) → length (reset_first n areas) ≡ length areas
length-reset_first zero areas = refl
length-reset_first (suc n) [] = refl
length-reset_first (suc n) (x ∷ rest) = ap suc (length-reset_first n rest)
