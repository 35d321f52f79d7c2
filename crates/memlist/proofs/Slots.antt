-- A table of slots as blocks by address: what a write to a slot does to them.
use Rattle.std.proofs.Common.{◌≡◌, ◌≢◌, ℕ, zero, suc, ◌+◌, ◌*◌, ◌%◌, ◌<◌, ◌≤◌, true, false, cond, List, [], ◌∷◌, length, set, get_or, refl, sym, ◌∙◌, ap, subst, arith, nat_eq, not, Some, None, nat_cmp}
use Rattle.std.specs.FinMap.{put}
use Rattle.memlist.specs.{declared.slot.Slot.Slot, Blocks.Blocks, Blocks.block_at, Blocks.freed, Memory.IsLaid, Areas.entries, Areas.block_of}
use Rattle.memlist.proofs.{Answered.nat_eq-same, Answered.nat_eq-other, Answered.key_same, Answered.key_other, Answered.put_before, Answered.put_after, Answered.put_at, Gaps.freed_later}

-- no block begins below an address
abbrev pub AllFrom : ℕ → Blocks → Type 0
AllFrom low [] = Unit {0}
AllFrom low (block ∷ rest) = (low ≤ block.0) × AllFrom low rest

pub all_from_lower : (low high : ℕ) (blocks : Blocks) → low ≤ high → AllFrom high blocks → AllFrom low blocks
all_from_lower low high [] h all = tt
all_from_lower low high (block ∷ rest) h all = (omega (arith, all.0), all_from_lower low high rest h all.1)

pub put_front : (a : ℕ) (v : ℕ × ℕ) (blocks : Blocks) → AllFrom (a + 1) blocks → put nat_cmp a v blocks ≡ (a, v) ∷ blocks
put_front a v [] all = refl
put_front a v (block ∷ rest) all = put_before a v block rest (omega (arith, all.0))

pub freed_none : (a : ℕ) (blocks : Blocks) → AllFrom (a + 1) blocks → freed a blocks ≡ blocks
freed_none a [] all = refl
freed_none a (block ∷ rest) all =
    let other : block.0 ≢ a = omega (arith, all.0) in
    freed_later a block rest other ∙ ap (λ bs. block ∷ bs) (freed_none a rest all.1)

pub found_none : (a : ℕ) (blocks : Blocks) → AllFrom (a + 1) blocks → block_at a blocks ≡ None
found_none a [] all = refl
found_none a (block ∷ rest) all =
    let other : a ≢ block.0 = omega (arith, all.0) in
    ap (λ b. cond b (Some block.1) (block_at a rest)) (key_other a block.0 other) ∙ found_none a rest all.1

freed_at : (a : ℕ) (v : ℕ × ℕ) (rest : Blocks) → AllFrom (a + 1) rest → freed a ((a, v) ∷ rest) ≡ rest
freed_at a v rest all = ap (λ b. cond (not b) ((a, v) ∷ freed a rest) (freed a rest)) (nat_eq-same a) ∙ freed_none a rest all

-- no block is at an address that is not a whole unit
pub found_between : (a from : ℕ) (blocks : Blocks) (to : ℕ) → a % 8 ≢ 0 → IsLaid from blocks to → block_at a blocks ≡ None
found_between a from [] to odd laid = refl
found_between a from (block ∷ rest) to odd laid =
    let other : a ≢ block.0 = λ e. odd (ap (λ n. n % 8) e ∙ laid.2) in
    ap (λ b. cond b (Some block.1) (block_at a rest)) (key_other a block.0 other) ∙ found_between a (block.0 + block.1.0) rest to odd laid.4

pub all_from_entries : (from : ℕ) (slots : List Slot) → AllFrom from (entries from slots)
all_from_entries from [] = tt
all_from_entries from (slot ∷ rest) =
    let later = all_from_lower from (from + 8) (entries (from + 8) rest) (omega arith) (all_from_entries (from + 8) rest) in
    elim (nat_eq slot.size 0) as (λ b. AllFrom from (cond b (entries (from + 8) rest) ((from, (slot.size, slot.tag)) ∷ entries (from + 8) rest))) [
      | true ↦ later
      | false ↦ (omega arith, later)
    ]

after_first : (from : ℕ) (rest : List Slot) → AllFrom (from + 1) (entries (from + 8) rest)
after_first from rest = all_from_lower (from + 1) (from + 8) (entries (from + 8) rest) (omega arith) (all_from_entries (from + 8) rest)

-- The slot at a place

put_first : (from : ℕ) (v : ℕ × ℕ) (slot : Slot) (rest : List Slot) → put nat_cmp from v (entries from (slot ∷ rest)) ≡ (from, v) ∷ entries (from + 8) rest
put_first from v slot rest =
    elim (nat_eq slot.size 0) as (λ b. put nat_cmp from v (cond b (entries (from + 8) rest) ((from, (slot.size, slot.tag)) ∷ entries (from + 8) rest)) ≡ (from, v) ∷ entries (from + 8) rest) [
      | true ↦ put_front from v (entries (from + 8) rest) (after_first from rest)
      | false ↦ put_at from v (slot.size, slot.tag) (entries (from + 8) rest)
    ]

put_rest : (from a : ℕ) (v : ℕ × ℕ) (slot : Slot) (rest : List Slot) (more : Blocks) → from < a → more ≡ put nat_cmp a v (entries (from + 8) rest)
    → cond (nat_eq slot.size 0) more ((from, (slot.size, slot.tag)) ∷ more) ≡ put nat_cmp a v (entries from (slot ∷ rest))
put_rest from a v slot rest more lt is =
    elim (nat_eq slot.size 0) as (λ b. cond b more ((from, (slot.size, slot.tag)) ∷ more) ≡ put nat_cmp a v (cond b (entries (from + 8) rest) ((from, (slot.size, slot.tag)) ∷ entries (from + 8) rest))) [
      | true ↦ is
      | false ↦ ap (λ bs. (from, (slot.size, slot.tag)) ∷ bs) is ∙ sym (put_after a v (from, (slot.size, slot.tag)) (entries (from + 8) rest) lt)
    ]

-- a block that is written into the table is one more block
pub entries-put : (from a : ℕ) (slots : List Slot) (place n tag : ℕ) → place < length slots → 0 < n → a ≡ from + 8 * place
    → entries from (set slots place (record { size = n; tag = tag })) ≡ put nat_cmp a (n, tag) (entries from slots)
entries-put from a [] place n tag within some at = absurd (omega arith)
entries-put from a (slot ∷ rest) zero n tag within some at =
    let here : from ≡ a = omega arith in
    let filled : n ≢ 0 = omega arith in
    subst (λ b. entries from (record { size = n; tag = tag } ∷ rest) ≡ put nat_cmp b (n, tag) (entries from (slot ∷ rest))) here
    (ap (λ b. cond b (entries (from + 8) rest) ((from, (n, tag)) ∷ entries (from + 8) rest)) (nat_eq-other n 0 filled) ∙ sym (put_first from (n, tag) slot rest))
entries-put from a (slot ∷ rest) (suc place) n tag within some at =
    put_rest from a (n, tag) slot rest (entries (from + 8) (set rest place (record { size = n; tag = tag }))) (omega arith)
    (entries-put (from + 8) a rest place n tag (omega arith) some (omega arith))

freed_start : (from : ℕ) (slot : Slot) (rest : List Slot) → freed from (entries from (slot ∷ rest)) ≡ entries (from + 8) rest
freed_start from slot rest =
    elim (nat_eq slot.size 0) as (λ b. freed from (cond b (entries (from + 8) rest) ((from, (slot.size, slot.tag)) ∷ entries (from + 8) rest)) ≡ entries (from + 8) rest) [
      | true ↦ freed_none from (entries (from + 8) rest) (after_first from rest)
      | false ↦ freed_at from (slot.size, slot.tag) (entries (from + 8) rest) (after_first from rest)
    ]

freed_rest : (from a : ℕ) (slot : Slot) (rest : List Slot) (more : Blocks) → from < a → more ≡ freed a (entries (from + 8) rest)
    → cond (nat_eq slot.size 0) more ((from, (slot.size, slot.tag)) ∷ more) ≡ freed a (entries from (slot ∷ rest))
freed_rest from a slot rest more lt is =
    let other : from ≢ a = omega arith in
    elim (nat_eq slot.size 0) as (λ b. cond b more ((from, (slot.size, slot.tag)) ∷ more) ≡ freed a (cond b (entries (from + 8) rest) ((from, (slot.size, slot.tag)) ∷ entries (from + 8) rest))) [
      | true ↦ is
      | false ↦ ap (λ bs. (from, (slot.size, slot.tag)) ∷ bs) is ∙ sym (freed_later a (from, (slot.size, slot.tag)) (entries (from + 8) rest) other)
    ]

-- a slot that is emptied is one block less
pub entries-freed : (from a : ℕ) (slots : List Slot) (place tag : ℕ) → place < length slots → a ≡ from + 8 * place
    → entries from (set slots place (record { size = 0; tag = tag })) ≡ freed a (entries from slots)
entries-freed from a [] place tag within at = absurd (omega arith)
entries-freed from a (slot ∷ rest) zero tag within at =
    let here : from ≡ a = omega arith in
    subst (λ b. entries from (record { size = 0; tag = tag } ∷ rest) ≡ freed b (entries from (slot ∷ rest))) here (sym (freed_start from slot rest))
entries-freed from a (slot ∷ rest) (suc place) tag within at =
    freed_rest from a slot rest (entries (from + 8) (set rest place (record { size = 0; tag = tag }))) (omega arith)
    (entries-freed (from + 8) a rest place tag (omega arith) (omega arith))

found_start : (from : ℕ) (slot : Slot) (rest : List Slot) → block_at from (entries from (slot ∷ rest)) ≡ block_of slot
found_start from slot rest =
    elim (nat_eq slot.size 0) as (λ b. block_at from (cond b (entries (from + 8) rest) ((from, (slot.size, slot.tag)) ∷ entries (from + 8) rest)) ≡ cond b None (Some (slot.size, slot.tag))) [
      | true ↦ found_none from (entries (from + 8) rest) (after_first from rest)
      | false ↦ ap (λ b. cond b (Some (slot.size, slot.tag)) (block_at from (entries (from + 8) rest))) (key_same from)
    ]

found_rest : (from a : ℕ) (slot : Slot) (rest : List Slot) → from < a → block_at a (entries from (slot ∷ rest)) ≡ block_at a (entries (from + 8) rest)
found_rest from a slot rest lt =
    let other : a ≢ from = omega arith in
    elim (nat_eq slot.size 0) as (λ b. block_at a (cond b (entries (from + 8) rest) ((from, (slot.size, slot.tag)) ∷ entries (from + 8) rest)) ≡ block_at a (entries (from + 8) rest)) [
      | true ↦ refl
      | false ↦ ap (λ b. cond b (Some (slot.size, slot.tag)) (block_at a (entries (from + 8) rest))) (key_other a from other)
    ]

-- the block at an address is what its slot says
pub found-entries : (from a : ℕ) (slots : List Slot) (place : ℕ) (d : Slot) → place < length slots → a ≡ from + 8 * place → block_at a (entries from slots) ≡ block_of (get_or slots place d)
found-entries from a [] place d within at = absurd (omega arith)
found-entries from a (slot ∷ rest) zero d within at =
    let here : from ≡ a = omega arith in
    subst (λ b. block_at b (entries from (slot ∷ rest)) ≡ block_of slot) here (found_start from slot rest)
found-entries from a (slot ∷ rest) (suc place) d within at =
    found_rest from a slot rest (omega arith) ∙ found-entries (from + 8) a rest place d (omega arith) (omega arith)
