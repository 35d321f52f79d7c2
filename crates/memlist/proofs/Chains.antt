-- What the words of a chain say, and what they say after a chunk was written.
use Rattle.std.proofs.Common.{◌≡◌, ◌≢◌, ℕ, zero, suc, ◌+◌, ◌-◌, ◌*◌, ◌/◌, ◌%◌, ◌<◌, ◌≤◌, false, cond, List, [], ◌∷◌, ◌++◌, length, set, get_or, refl, sym, ◌∙◌, ap, subst, arith, length-set, get_or-set_same, get_or-set_other, nat_eq, slice_get, None, Some, sum_by}
use Rattle.std.proofs.lemmas.List.Sums.{sum_by-append, sum_by-cons}
use Rattle.memlist.specs.{declared.gap.Gap.Gap, Blocks.Blocks, Blocks.stretch, Blocks.gaps_between, Memory.IsLaid, Chain.AreApart, Chain.IsChained, Chain.IsLinked, Chain.IsWalked, Chain.chain, Chain.ends_at, Chain.first_or, Chain.last_or, Chain.word_place, Chain.written}
use Rattle.memlist.proofs.{Answered.nat_eq-other, Gaps.stretch_cases}

-- Parts of a chain

pub first_append : (none : ℕ) (xs ys : List Gap) → first_or none (xs ++ ys) ≡ first_or (first_or none ys) xs
first_append none [] ys = refl
first_append none (x ∷ xs) ys = refl

pub linked_front : (base : ℕ) (words : List ℕ) (xs ys : List Gap) (next : ℕ) → IsLinked base words (xs ++ ys) next → IsLinked base words xs (first_or next ys)
linked_front base words [] ys next h = tt
linked_front base words (x ∷ xs) ys next h = (h.0 ∙ first_append next xs ys, h.1, linked_front base words xs ys next h.2)

pub linked_back : (base : ℕ) (words : List ℕ) (xs ys : List Gap) (next : ℕ) → IsLinked base words (xs ++ ys) next → IsLinked base words ys next
linked_back base words [] ys next h = h
linked_back base words (x ∷ xs) ys next h = linked_back base words xs ys next h.2

pub linked_both : (base : ℕ) (words : List ℕ) (xs ys : List Gap) (next : ℕ) → IsLinked base words xs (first_or next ys) → IsLinked base words ys next → IsLinked base words (xs ++ ys) next
linked_both base words [] ys next a b = b
linked_both base words (x ∷ xs) ys next a b = (a.0 ∙ sym (first_append next xs ys), a.1, linked_both base words xs ys next a.2 b)

-- Gaps that lie apart

pub apart_lower : (low least : ℕ) (gaps : List Gap) (high : ℕ) → least ≤ low → AreApart low gaps high → AreApart least gaps high
apart_lower low least [] high le a = tt
apart_lower low least (gap ∷ rest) high le a = (omega (arith, a.0), a.1, a.2, a.3, a.4, a.5)

pub apart_back : (low : ℕ) (xs ys : List Gap) (high : ℕ) → AreApart low (xs ++ ys) high → AreApart low ys high
apart_back low [] ys high a = a
apart_back low (x ∷ xs) ys high a = apart_lower (x.address + x.size + 1) low ys high (omega (arith, a.0)) (apart_back (x.address + x.size + 1) xs ys high a.5)

pub apart_whole : (low : ℕ) (xs ys : List Gap) (high : ℕ) → AreApart low (xs ++ ys) high → AreApart low xs high
apart_whole low [] ys high a = tt
apart_whole low (x ∷ xs) ys high a = (a.0, a.1, a.2, a.3, a.4, apart_whole (x.address + x.size + 1) xs ys high a.5)

pub apart_at : (low : ℕ) (xs : List Gap) (gap : Gap) (ys : List Gap) (high : ℕ) → AreApart low (xs ++ gap ∷ ys) high → low ≤ gap.address
apart_at low [] gap ys high a = a.0
apart_at low (x ∷ xs) gap ys high a = omega (arith, a.0, apart_at (x.address + x.size + 1) xs gap ys high a.5)

-- what is before a gap ends before it begins
pub apart_front : (low : ℕ) (xs : List Gap) (gap : Gap) (ys : List Gap) (high : ℕ) → AreApart low (xs ++ gap ∷ ys) high → AreApart low xs gap.address
apart_front low [] gap ys high a = tt
apart_front low (x ∷ xs) gap ys high a =
    (a.0, a.1, a.2, a.3, omega (arith, apart_at (x.address + x.size + 1) xs gap ys high a.5), apart_front (x.address + x.size + 1) xs gap ys high a.5)

pub apart_count : (low : ℕ) (gaps : List Gap) (high : ℕ) → AreApart low gaps high → 8 * length gaps ≤ high - low
apart_count low [] high a = omega arith
apart_count low (gap ∷ rest) high a = let later = apart_count (gap.address + gap.size + 1) rest high a.5 in omega (arith, later, a.0, a.1, a.2, a.3, a.4)

pub apart_sum : (low : ℕ) (gaps : List Gap) (high : ℕ) → AreApart low gaps high → sum_by (λ (gap : Gap). gap.size) gaps ≤ high - low
apart_sum low [] high a = omega arith
apart_sum low (gap ∷ rest) high a =
    let later = apart_sum (gap.address + gap.size + 1) rest high a.5 in
    let all = sum_by-cons (λ (gap : Gap). gap.size) gap rest in
    omega (arith, later, all, a.0, a.1, a.4)

-- the last of some gaps lies among them
pub record IsLast (low high last : ℕ) : Type 0 where
  pub begins : low ≤ last
  pub ends : last + 8 ≤ high

pub last_within : (low : ℕ) (gap : Gap) (rest : List Gap) (high : ℕ) → AreApart low (gap ∷ rest) high → IsLast low high (last_or gap.address rest)
last_within low gap [] high a = record { begins = a.0; ends = omega (arith, a.1, a.3, a.4) }
last_within low gap (other ∷ rest) high a =
    let later = last_within (gap.address + gap.size + 1) other rest high a.5 in
    record { begins = omega (arith, later.begins, a.0); ends = later.ends }

-- what lies between blocks lies apart
pub apart_stretch : (low from to next : ℕ) (free : List Gap) (high : ℕ) → low ≤ from → low ≤ next → to + 1 ≤ next → from % 8 ≡ 0 → to % 8 ≡ 0 → to ≤ high → AreApart next free high → AreApart low (stretch from to ++ free) high
apart_stretch low from to next free high h l k a b e s =
    stretch_cases (λ gap. AreApart low (gap ++ free) high) from to
    (λ lt. (h, omega arith, a, omega arith, omega arith, apart_lower next (from + (to - from) + 1) free high (omega arith) s))
    (λ le. apart_lower next low free high l s)

pub laid_ends : (from : ℕ) (blocks : Blocks) (to : ℕ) → IsLaid from blocks to → from ≤ to
laid_ends from [] to laid = laid
laid_ends from (block ∷ rest) to laid = omega (arith, laid.0, laid_ends (block.0 + block.1.0) rest to laid.4)

pub gaps_apart : (from : ℕ) (blocks : Blocks) (to : ℕ) → from % 8 ≡ 0 → to % 8 ≡ 0 → IsLaid from blocks to → AreApart from (gaps_between from blocks to) to
gaps_apart from [] to a b laid =
    stretch_cases (λ gap. AreApart from gap to) from to (λ lt. (omega arith, omega arith, a, omega arith, omega arith, tt)) (λ le. tt)
gaps_apart from (block ∷ rest) to a b laid =
    apart_stretch from from block.0 (block.0 + block.1.0) (gaps_between (block.0 + block.1.0) rest to) to (omega arith) (omega (arith, laid.0)) (omega (arith, laid.1)) a laid.2
    (omega (arith, laid_ends (block.0 + block.1.0) rest to laid.4))
    (gaps_apart (block.0 + block.1.0) rest to (omega (arith, laid.2, laid.3)) b laid.4)

-- A word that is written elsewhere

-- a word at a place above all chunks that end by an address
pub set_below : (base : ℕ) (words : List ℕ) (low : ℕ) (xs : List Gap) (address next place value : ℕ) → base ≤ low → (address - base) / 4 ≤ place
    → AreApart low xs address → IsLinked base words xs next → IsLinked base (set words place value) xs next
set_below base words low [] address next place value le p a h = tt
set_below base words low (x ∷ xs) address next place value le p a h =
    let size : 8 ≤ x.size = omega (arith, a.1, a.3) in
    let one : word_place base x.address ≢ place = omega (arith, a.0, a.4) in
    let two : word_place base x.address + 1 ≢ place = omega (arith, a.0, a.4) in (
      get_or-set_other words place (word_place base x.address) value 0 one ∙ h.0,
      get_or-set_other words place (word_place base x.address + 1) value 0 two ∙ h.1,
      set_below base words (x.address + x.size + 1) xs address next place value (omega (arith, a.0)) p a.5 h.2,
    )

-- a word at a place below all chunks from an address on
pub set_above : (base : ℕ) (words : List ℕ) (low : ℕ) (xs : List Gap) (high next place value : ℕ) → base ≤ low → place < (low - base) / 4
    → AreApart low xs high → IsLinked base words xs next → IsLinked base (set words place value) xs next
set_above base words low [] high next place value le p a h = tt
set_above base words low (x ∷ xs) high next place value le p a h =
    let one : word_place base x.address ≢ place = omega (arith, a.0) in
    let two : word_place base x.address + 1 ≢ place = omega (arith, a.0) in (
      get_or-set_other words place (word_place base x.address) value 0 one ∙ h.0,
      get_or-set_other words place (word_place base x.address + 1) value 0 two ∙ h.1,
      set_above base words (x.address + x.size + 1) xs high next place value (omega (arith, a.0)) (omega (arith, a.0)) a.5 h.2,
    )

pub written_below : (base : ℕ) (words : List ℕ) (low : ℕ) (xs : List Gap) (address next value size : ℕ) → base ≤ low
    → AreApart low xs address → IsLinked base words xs next → IsLinked base (written words (word_place base address) value size) xs next
written_below base words low xs address next value size le a h =
    set_below base (set words (word_place base address) value) low xs address next (word_place base address + 1) size le (omega arith) a
    (set_below base words low xs address next (word_place base address) value le (omega arith) a h)

pub written_above : (base : ℕ) (words : List ℕ) (address : ℕ) (xs : List Gap) (high next value size : ℕ) → base ≤ address
    → AreApart (address + 8) xs high → IsLinked base words xs next → IsLinked base (written words (word_place base address) value size) xs next
written_above base words address xs high next value size le a h =
    set_above base (set words (word_place base address) value) (address + 8) xs high next (word_place base address + 1) size (omega arith) (omega arith) a
    (set_above base words (address + 8) xs high next (word_place base address) value (omega arith) (omega arith) a h)

-- the chunk itself
pub written_here : (base : ℕ) (words : List ℕ) (address next size : ℕ) → word_place base address + 1 < length words
    → IsLinked base (written words (word_place base address) next size) (record { address = address; size = size } ∷ []) next
written_here base words address next size within =
    let place = word_place base address in
    let other : place ≢ place + 1 = omega arith in (
      get_or-set_other (set words place next) (place + 1) place size 0 other ∙ get_or-set_same words place next 0 (omega arith),
      get_or-set_same (set words place next) (place + 1) size 0 (omega (arith, length-set words place next)),
      tt,
    )

-- The last chunk, or the head, is made to name another

pub link_last : (base : ℕ) (words : List ℕ) (low : ℕ) (gap : Gap) (rest : List Gap) (high old next : ℕ) → base ≤ low → high ≤ base + 4 * length words
    → AreApart low (gap ∷ rest) high → IsLinked base words (gap ∷ rest) old → IsLinked base (set words (word_place base (last_or gap.address rest)) next) (gap ∷ rest) next
link_last base words low gap [] high old next le reach a h =
    let size : 8 ≤ gap.size = omega (arith, a.1, a.3) in
    let place = word_place base gap.address in
    let within : place < length words = omega (arith, a.0, a.4) in
    let other : place + 1 ≢ place = omega arith in
    (get_or-set_same words place next 0 within, get_or-set_other words place (place + 1) next 0 other ∙ h.1, tt)
link_last base words low gap (second ∷ rest) high old next le reach a h =
    let size : 8 ≤ gap.size = omega (arith, a.1, a.3) in
    let last = last_or second.address rest in
    let w = last_within (gap.address + gap.size + 1) second rest high a.5 in
    let one : word_place base gap.address ≢ word_place base last = omega (arith, a.0, w.begins) in
    let two : word_place base gap.address + 1 ≢ word_place base last = omega (arith, a.0, w.begins) in (
      get_or-set_other words (word_place base last) (word_place base gap.address) next 0 one ∙ h.0,
      get_or-set_other words (word_place base last) (word_place base gap.address + 1) next 0 two ∙ h.1,
      link_last base words (gap.address + gap.size + 1) second rest high old next (omega (arith, a.0)) reach a.5 h.2,
    )

-- the same walk of the same gaps
abbrev pub seen : {gaps gaps' : List Gap} {before : ℕ} → gaps ≡ gaps' → IsWalked gaps' before → IsWalked gaps before
seen e walk = record { below = walk.below; above = walk.above; is = e ∙ walk.is; last = walk.last }

-- What is read

-- the list that is read from the head is the list that is linked
pub read_chain : (most base : ℕ) (words : List ℕ) (low : ℕ) (gaps : List Gap) (high : ℕ) → 0 < low → length gaps ≤ most → AreApart low gaps high → IsLinked base words gaps 0
    → chain most base words (first_or 0 gaps) ≡ gaps
read_chain zero base words low [] high some enough a h = refl
read_chain zero base words low (gap ∷ rest) high some enough a h = absurd (omega arith)
read_chain (suc most) base words low [] high some enough a h = refl
read_chain (suc most) base words low (gap ∷ rest) high some enough a h =
    let other : gap.address ≢ 0 = omega (arith, a.0) in
    let place = word_place base gap.address in
    ap (λ b. cond b [] (record { address = gap.address; size = get_or words (place + 1) 0 } ∷ chain most base words (get_or words place 0))) (nat_eq-other gap.address 0 other)
    ∙ ap (λ n. record { address = gap.address; size = n } ∷ chain most base words (get_or words place 0)) h.1
    ∙ ap (λ n. gap ∷ chain most base words n) h.0
    ∙ ap (λ gaps. gap ∷ gaps) (read_chain most base words (gap.address + gap.size + 1) rest high (omega arith) (omega arith) a.5 h.2)

pub record IsShown (base : ℕ) (words : List ℕ) (head : ℕ) (gaps : List Gap) : Type 0 where
  pub is : chain (length words) base words head ≡ gaps
  pub kept : IsChained base words head (chain (length words) base words head)

pub shown : (base : ℕ) (words : List ℕ) (head : ℕ) (gaps : List Gap) → IsChained base words head gaps → IsShown base words head gaps
shown base words head gaps c =
    let count = apart_count base gaps (base + 4 * length words) c.apart in
    let is = ap (chain (length words) base words) c.first ∙ read_chain (length words) base words base gaps (base + 4 * length words) (omega (arith, c.low)) (omega (arith, count)) c.apart c.linked in
    record { is = is; kept = subst (IsChained base words head) (sym is) c }

-- what follows the last of some gaps
next_read : (base : ℕ) (words : List ℕ) (gap : Gap) (rest above : List Gap) (next : ℕ) → IsLinked base words ((gap ∷ rest) ++ above) next
    → get_or words (word_place base (last_or gap.address rest)) 0 ≡ first_or next above
next_read base words gap [] above next h = h.0
next_read base words gap (second ∷ rest) above next h = next_read base words second rest above next h.2

ends_read : (base : ℕ) (words : List ℕ) (address : ℕ) (gap : Gap) (rest above : List Gap) (next : ℕ) → IsLinked base words ((gap ∷ rest) ++ above) next
    → nat_eq (last_or gap.address rest + get_or words (word_place base (last_or gap.address rest) + 1) 0) address ≡ ends_at address (gap ∷ rest)
ends_read base words address gap [] above next h = ap (λ n. nat_eq (gap.address + n) address) h.1
ends_read base words address gap (second ∷ rest) above next h = ends_read base words address second rest above next h.2

module _ (base : ℕ) (words : List ℕ) (head : ℕ) (gaps : List Gap) (c : IsChained base words head gaps) where
  parts_linked : (below above : List Gap) → gaps ≡ below ++ above → IsLinked base words (below ++ above) 0
  parts_linked below above is = subst (λ gs. IsLinked base words gs 0) is c.linked

  parts_apart : (below above : List Gap) → gaps ≡ below ++ above → AreApart base (below ++ above) (base + 4 * length words)
  parts_apart below above is = subst (λ gs. AreApart base gs (base + 4 * length words)) is c.apart

  none_below : (below above : List Gap) → gaps ≡ below ++ above → 0 ≡ last_or 0 below → below ≡ []
  none_below [] above is last = refl
  none_below (x ∷ xs) above is last =
      let w = last_within base x xs (base + 4 * length words) (apart_whole base (x ∷ xs) above (base + 4 * length words) (parts_apart (x ∷ xs) above is)) in
      absurd (omega (arith, w.begins, c.low, last))

  -- if nothing was walked, the head is followed
  pub head_read : (before : ℕ) → before ≡ 0 → (walk : IsWalked gaps before) → head ≡ first_or 0 walk.above
  head_read before zero_is walk =
      let none = none_below walk.below walk.above walk.is (sym zero_is ∙ walk.last) in
      c.first ∙ ap (first_or 0) (walk.is ∙ ap (λ gs. gs ++ walk.above) none)

  pub ends_none : (before address : ℕ) → before ≡ 0 → (walk : IsWalked gaps before) → false ≡ ends_at address walk.below
  ends_none before address zero_is walk = sym (ap (ends_at address) (none_below walk.below walk.above walk.is (sym zero_is ∙ walk.last)))

  read_none : (address : ℕ) (below above : List Gap) → gaps ≡ below ++ above → address ≡ first_or 0 above → address ≡ 0 → None ≡ slice_get above 0
  read_none address below [] is at zero_is = refl
  read_none address below (y ∷ ys) is at zero_is =
      absurd (omega (arith, at, zero_is, c.low, (apart_back base below (y ∷ ys) (base + 4 * length words) (parts_apart below (y ∷ ys) is)).0))

  pub after_none : (before address : ℕ) (walk : IsWalked gaps before) → address ≡ first_or 0 walk.above → address ≡ 0 → None ≡ slice_get walk.above 0
  after_none before address walk at zero_is = read_none address walk.below walk.above walk.is at zero_is

  first_by : (address : ℕ) (below above : List Gap) → gaps ≡ below ++ above → address ≡ first_or 0 above → address ≢ 0 → IsLast base (base + 4 * length words) address
  first_by address below [] is at some = absurd (some at)
  first_by address below (y ∷ ys) is at some =
      let a = apart_back base below (y ∷ ys) (base + 4 * length words) (parts_apart below (y ∷ ys) is) in
      record { begins = omega (arith, at, a.0); ends = omega (arith, at, a.1, a.3, a.4) }

  pub first_within : (before address : ℕ) (walk : IsWalked gaps before) → address ≡ first_or 0 walk.above → address ≢ 0 → IsLast base (base + 4 * length words) address
  first_within before address walk at some = first_by address walk.below walk.above walk.is at some

  read_some : (address size : ℕ) (below above : List Gap) → gaps ≡ below ++ above → address ≡ first_or 0 above → address ≢ 0 → size ≡ get_or words (word_place base address + 1) 0
      → Some (let gap : Gap = record { address = address; size = size } in gap) ≡ slice_get above 0
  read_some address size below [] is at some size_is = absurd (some at)
  read_some address size below (y ∷ ys) is at some size_is =
      let linked = linked_back base words below (y ∷ ys) 0 (parts_linked below (y ∷ ys) is) in
      let size_y : size ≡ y.size = size_is ∙ ap (λ a. get_or words (word_place base a + 1) 0) at ∙ linked.1 in
      ap (λ a. Some (let gap : Gap = record { address = a; size = size } in gap)) at ∙ ap (λ n. Some (let gap : Gap = record { address = y.address; size = n } in gap)) size_y

  pub after_some : (before address size : ℕ) (walk : IsWalked gaps before) → address ≡ first_or 0 walk.above → address ≢ 0 → size ≡ get_or words (word_place base address + 1) 0
      → Some (let gap : Gap = record { address = address; size = size } in gap) ≡ slice_get walk.above 0
  after_some before address size walk at some size_is = read_some address size walk.below walk.above walk.is at some size_is

  word_by : (before : ℕ) (below above : List Gap) → 0 < before → gaps ≡ below ++ above → before ≡ last_or 0 below → get_or words (word_place base before) 0 ≡ first_or 0 above
  word_by before [] above some is last = absurd (omega arith)
  word_by before (x ∷ xs) above some is last =
      ap (λ a. get_or words (word_place base a) 0) last ∙ next_read base words x xs above 0 (parts_linked (x ∷ xs) above is)

  pub word_read : (before : ℕ) → 0 < before → (walk : IsWalked gaps before) → get_or words (word_place base before) 0 ≡ first_or 0 walk.above
  word_read before some walk = word_by before walk.below walk.above some walk.is walk.last

  end_by : (before address : ℕ) (below above : List Gap) → 0 < before → gaps ≡ below ++ above → before ≡ last_or 0 below
      → nat_eq (before + get_or words (word_place base before + 1) 0) address ≡ ends_at address below
  end_by before address [] above some is last = absurd (omega arith)
  end_by before address (x ∷ xs) above some is last =
      ap (λ a. nat_eq (a + get_or words (word_place base a + 1) 0) address) last ∙ ends_read base words address x xs above 0 (parts_linked (x ∷ xs) above is)

  pub end_read : (before address : ℕ) → 0 < before → (walk : IsWalked gaps before) → nat_eq (before + get_or words (word_place base before + 1) 0) address ≡ ends_at address walk.below
  end_read before address some walk = end_by before address walk.below walk.above some walk.is walk.last

  before_by : (before : ℕ) (below above : List Gap) → 0 < before → gaps ≡ below ++ above → before ≡ last_or 0 below → IsLast base (base + 4 * length words) before
  before_by before [] above some is last = absurd (omega arith)
  before_by before (x ∷ xs) above some is last =
      subst (IsLast base (base + 4 * length words)) (sym last)
      (last_within base x xs (base + 4 * length words) (apart_whole base (x ∷ xs) above (base + 4 * length words) (parts_apart (x ∷ xs) above is)))

  -- a chunk lies in the words
  pub before_within : (before : ℕ) → 0 < before → IsWalked gaps before → IsLast base (base + 4 * length words) before
  before_within before some walk = before_by before walk.below walk.above some walk.is walk.last

  order_by : (before address : ℕ) (below above : List Gap) → gaps ≡ below ++ above → before ≡ last_or 0 below → address ≡ first_or 0 above → address ≢ 0 → before < address
  order_by before address below [] is last at some = absurd (some at)
  order_by before address [] (y ∷ ys) is last at some = omega (arith, last, at, c.low, (parts_apart [] (y ∷ ys) is).0)
  order_by before address (x ∷ xs) (y ∷ ys) is last at some =
      let w = last_within base x xs y.address (apart_front base (x ∷ xs) y ys (base + 4 * length words) (parts_apart (x ∷ xs) (y ∷ ys) is)) in
      omega (arith, w.ends, last, at)

  -- the next chunk lies above
  pub next_above : (before address : ℕ) (walk : IsWalked gaps before) → address ≡ first_or 0 walk.above → address ≢ 0 → before < address
  next_above before address walk at some = order_by before address walk.below walk.above walk.is walk.last at some

  end_of : (address size : ℕ) (below above : List Gap) → gaps ≡ below ++ above → address ≡ first_or 0 above → address ≢ 0 → size ≡ get_or words (word_place base address + 1) 0 → address + size ≤ 2147483648
  end_of address size below [] is at some size_is = absurd (some at)
  end_of address size below (y ∷ ys) is at some size_is =
      let linked = linked_back base words below (y ∷ ys) 0 (parts_linked below (y ∷ ys) is) in
      let size_y : size ≡ y.size = size_is ∙ ap (λ a. get_or words (word_place base a + 1) 0) at ∙ linked.1 in
      omega (arith, at, size_y, (apart_back base below (y ∷ ys) (base + 4 * length words) (parts_apart below (y ∷ ys) is)).4, c.reach)

  pub next_reach : (before address size : ℕ) (walk : IsWalked gaps before) → address ≡ first_or 0 walk.above → address ≢ 0 → size ≡ get_or words (word_place base address + 1) 0 → address + size ≤ 2147483648
  next_reach before address size walk at some size_is = end_of address size walk.below walk.above walk.is at some size_is

  sum_of : (address size : ℕ) (below above : List Gap) → gaps ≡ below ++ above → address ≡ first_or 0 above → address ≢ 0 → size ≡ get_or words (word_place base address + 1) 0
      → sum_by (λ (gap : Gap). gap.size) below + size ≤ 2147483648
  sum_of address size below [] is at some size_is = absurd (some at)
  sum_of address size below (y ∷ ys) is at some size_is =
      let linked = linked_back base words below (y ∷ ys) 0 (parts_linked below (y ∷ ys) is) in
      let size_y : size ≡ y.size = size_is ∙ ap (λ a. get_or words (word_place base a + 1) 0) at ∙ linked.1 in
      let parts = sum_by-append (λ (gap : Gap). gap.size) below (y ∷ ys) in
      let first = sum_by-cons (λ (gap : Gap). gap.size) y ys in
      let all = apart_sum base (below ++ y ∷ ys) (base + 4 * length words) (parts_apart below (y ∷ ys) is) in
      omega (arith, size_y, parts, first, all, c.reach)

  pub next_sum : (before address size : ℕ) (walk : IsWalked gaps before) → address ≡ first_or 0 walk.above → address ≢ 0 → size ≡ get_or words (word_place base address + 1) 0
      → sum_by (λ (gap : Gap). gap.size) walk.below + size ≤ 2147483648
  next_sum before address size walk at some size_is = sum_of address size walk.below walk.above walk.is at some size_is
