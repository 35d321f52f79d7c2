-- The chain after bytes were taken off the front of a gap, and after a block was freed.
use Rattle.std.proofs.Common.{◌≡◌, ◌≢◌, ℕ, ◌+◌, ◌-◌, ◌*◌, ◌/◌, ◌%◌, ◌<◌, ◌≤◌, true, false, cond, List, [], ◌∷◌, ◌++◌, length, set, refl, sym, ◌∙◌, ap, subst, arith, length-set, append-nil, nat_eq, nat_lt, sum_by}
use Rattle.std.proofs.lemmas.{Bool.Decides.nat_tests, List.Sums.sum_by-append, List.Sums.sum_by-cons}
use Rattle.memlist.specs.Chain.{AreApart, IsChained, IsLinked, IsSpot, Space, chain, cut_rest, cut_words, ends_at, first_or, last_or, linked_head, linked_words, upper_next, upper_size, word_place, written, IsCount}
use Rattle.memlist.specs.{declared.gap.Gap.Gap, Blocks.stretch, Joins.AllEndBefore, Joins.Around, Joins.IsSpread}
use Rattle.memlist.proofs.Chains.{apart_at, apart_back, apart_front, apart_lower, apart_whole, first_append, last_within, link_last, linked_back, linked_both, IsShown, linked_front, set_above, shown, written_above, written_below, written_here}
use Rattle.memlist.proofs.{Answered.nat_eq-same, Answered.nat_eq-other, Answered.nat_lt-true, Answered.nat_lt-false, Edits.back, Edits.front, Edits.joined, Gaps.stretch_cases, Gaps.stretch_none, Gaps.stretch_some}

-- A chunk is made to name what now follows it

apart_after : (low : ℕ) (gap : Gap) (rest above : List Gap) (high : ℕ) → AreApart low ((gap ∷ rest) ++ above) high → AreApart (last_or gap.address rest + 8) above high
apart_after low gap [] above high a = apart_lower (gap.address + gap.size + 1) (gap.address + 8) above high (omega (arith, a.1, a.3)) a.5
apart_after low gap (other ∷ rest) above high a = apart_after (gap.address + gap.size + 1) other rest above high a.5

pub record IsRelinked (base : ℕ) (words : List ℕ) (head : ℕ) (gaps : List Gap) (count : ℕ) : Type 0 where
  pub linked : IsLinked base words gaps 0
  pub first : head ≡ first_or 0 gaps
  pub len : length words ≡ count

relinked_some : (base : ℕ) (words : List ℕ) (head : ℕ) (gap : Gap) (rest zs : List Gap) (old : ℕ) → 8 ≤ base → AreApart base ((gap ∷ rest) ++ zs) (base + 4 * length words)
    → IsLinked base words (gap ∷ rest) old → IsLinked base words zs 0 → head ≡ gap.address
    → IsRelinked base (set words (word_place base (last_or gap.address rest)) (first_or 0 zs)) head ((gap ∷ rest) ++ zs) (length words)
relinked_some base words head gap rest zs old low a front back is =
    let last = last_or gap.address rest in
    let high = base + 4 * length words in
    let w = last_within base gap rest high (apart_whole base (gap ∷ rest) zs high a) in
    record {
      linked = linked_both base (set words (word_place base last) (first_or 0 zs)) (gap ∷ rest) zs 0
          (link_last base words base gap rest high old (first_or 0 zs) (omega arith) (omega arith) (apart_whole base (gap ∷ rest) zs high a) front)
          (set_above base words (last + 8) zs high 0 (word_place base last) (first_or 0 zs) (omega (arith, w.begins)) (omega (arith, w.begins)) (apart_after base gap rest zs high a) back);
      first = is;
      len = length-set words (word_place base last) (first_or 0 zs);
    }

pub relinked : (base : ℕ) (words : List ℕ) (head : ℕ) (xs zs : List Gap) (before old : ℕ) → 8 ≤ base → before ≡ last_or 0 xs → AreApart base (xs ++ zs) (base + 4 * length words)
    → IsLinked base words xs old → IsLinked base words zs 0 → head ≡ first_or old xs
    → IsRelinked base (linked_words base words before (first_or 0 zs)) (linked_head head before (first_or 0 zs)) (xs ++ zs) (length words)
relinked base words head [] zs before old low last a front back is =
    subst (λ b. IsRelinked base (cond b words (set words (word_place base before) (first_or 0 zs))) (cond b (first_or 0 zs) head) zs (length words)) (sym (ap (λ n. nat_eq n 0) last))
    record { linked = back; first = refl; len = refl }
relinked base words head (gap ∷ rest) zs before old low last a front back is =
    let high = base + 4 * length words in
    let w = last_within base gap rest high (apart_whole base (gap ∷ rest) zs high a) in
    let other : before ≢ 0 = omega (arith, w.begins) in
    subst (λ b. IsRelinked base (cond b words (set words (word_place base before) (first_or 0 zs))) (cond b (first_or 0 zs) head) ((gap ∷ rest) ++ zs) (length words)) (sym (nat_eq-other before 0 other))
    (subst (λ n. IsRelinked base (set words (word_place base n) (first_or 0 zs)) head ((gap ∷ rest) ++ zs) (length words)) (sym last)
    (relinked_some base words head gap rest zs old low a front back is))

pub length-written : (words : List ℕ) (place next size : ℕ) → length (written words place next size) ≡ length words
length-written words place next size = length-set (set words place next) (place + 1) size ∙ length-set words place next

chained_by : (base : ℕ) (words words' : List ℕ) (head head' : ℕ) (gaps gaps' : List Gap) → IsChained base words head gaps → AreApart base gaps' (base + 4 * length words)
    → IsRelinked base words' head' gaps' (length words) → IsChained base words' head' gaps'
chained_by base words words' head head' gaps gaps' c apart r = record {
  place = c.place;
  low = c.low;
  reach = subst (λ n. base + 4 * n ≤ 2147483648) (sym r.len) c.reach;
  apart = subst (λ n. AreApart base gaps' (base + 4 * n)) (sym r.len) apart;
  first = r.first;
  linked = r.linked;
}

-- Taking the front of a gap

from_other : (a b : ℕ) → nat_eq a b ≡ false → a ≢ b
from_other a b e = grind (arith, nat_tests, e)

apart_higher : (low : ℕ) (gaps : List Gap) (high most : ℕ) → high ≤ most → AreApart low gaps high → AreApart low gaps most
apart_higher low [] high most le a = tt
apart_higher low (gap ∷ rest) high most le a = (a.0, a.1, a.2, a.3, omega (arith, a.4), apart_higher (gap.address + gap.size + 1) rest high most le a.5)

pub taken_apart : (low : ℕ) (xs : List Gap) (gap : Gap) (ys : List Gap) (high n : ℕ) → n ≤ gap.size → n % 8 ≡ 0 → AreApart low (xs ++ gap ∷ ys) high
    → AreApart low (xs ++ (stretch (gap.address + n) (gap.address + gap.size) ++ ys)) high
taken_apart low [] gap ys high n fits whole a =
    stretch_cases (λ gs. AreApart low (gs ++ ys) high) (gap.address + n) (gap.address + gap.size)
    (λ lt. (
      omega (arith, a.0),
      omega arith,
      omega (arith, a.2),
      omega (arith, a.3),
      omega (arith, a.4),
      apart_lower (gap.address + gap.size + 1) (gap.address + n + (gap.address + gap.size - (gap.address + n)) + 1) ys high (omega arith) a.5,
    ))
    (λ le. apart_lower (gap.address + gap.size + 1) low ys high (omega (arith, a.0)) a.5)
taken_apart low (x ∷ xs) gap ys high n fits whole a = (a.0, a.1, a.2, a.3, a.4, taken_apart (x.address + x.size + 1) xs gap ys high n fits whole a.5)

module _ (base : ℕ) (words : List ℕ) (head : ℕ) (gaps : List Gap) (c : IsChained base words head gaps) where
  -- what is left of the gap, and what follows it
  record IsCut (words' : List ℕ) (rest : ℕ) (below zs : List Gap) : Type 0 where
    front : (old : ℕ) → IsLinked base words below old → IsLinked base words' below old
    back : IsLinked base words' zs 0
    to : rest ≡ first_or 0 zs
    len : length words' ≡ length words

  cut_whole : (below above : List Gap) (gap : Gap) (n : ℕ) → IsLinked base words above 0 → n ≡ gap.size
      → IsCut words (first_or 0 above) below (stretch (gap.address + n) (gap.address + gap.size) ++ above)
  cut_whole below above gap n linked is =
      subst (λ gs. IsCut words (first_or 0 above) below (gs ++ above)) (sym (stretch_none (gap.address + n) (gap.address + gap.size) (omega arith)))
      record { front = λ old h. h; back = linked; to = refl; len = refl }

  cut_part : (below above : List Gap) (gap : Gap) (n : ℕ) → AreApart base (below ++ gap ∷ above) (base + 4 * length words) → IsLinked base words above 0 → n < gap.size → n % 8 ≡ 0
      → IsCut (written words (word_place base (gap.address + n)) (first_or 0 above) (gap.size - n)) (gap.address + n) below (stretch (gap.address + n) (gap.address + gap.size) ++ above)
  cut_part below above gap n apart linked lt whole =
      let high = base + 4 * length words in
      let at = apart_at base below gap above high apart in
      let part = apart_back base below (gap ∷ above) high apart in
      let less : gap.size - n ≡ gap.address + gap.size - (gap.address + n) = omega arith in
      let left = written words (word_place base (gap.address + n)) (first_or 0 above) (gap.size - n) in
      let whole_gap : n + 8 ≤ gap.size = omega (arith, part.3) in
      let low_next : gap.address + n + 8 ≤ gap.address + gap.size + 1 = omega arith in
      subst (λ gs. IsCut left (gap.address + n) below (gs ++ above)) (sym (stretch_some (gap.address + n) (gap.address + gap.size) (omega arith)))
      (subst (λ k. IsCut left (gap.address + n) below (record { address = gap.address + n; size = k } ∷ above)) less
      record {
        front = λ old h. written_below base words base below (gap.address + n) old (first_or 0 above) (gap.size - n) (omega arith)
            (apart_higher base below gap.address (gap.address + n) (omega arith) (apart_front base below gap above high apart)) h;
        back = linked_both base left (record { address = gap.address + n; size = gap.size - n } ∷ []) above 0
            (written_here base words (gap.address + n) (first_or 0 above) (gap.size - n) (omega (arith, part.4)))
            (written_above base words (gap.address + n) above high 0 (first_or 0 above) (gap.size - n) (omega arith)
            (apart_lower (gap.address + gap.size + 1) (gap.address + n + 8) above high low_next part.5) linked);
        to = refl;
        len = length-written words (word_place base (gap.address + n)) (first_or 0 above) (gap.size - n);
      })

  cut_left : (below above : List Gap) (gap : Gap) (n : ℕ) → AreApart base (below ++ gap ∷ above) (base + 4 * length words) → IsLinked base words above 0 → n ≤ gap.size → n % 8 ≡ 0
      → IsCut (cut_words base words gap n (first_or 0 above)) (cut_rest gap n (first_or 0 above)) below (stretch (gap.address + n) (gap.address + gap.size) ++ above)
  cut_left below above gap n apart linked fits whole =
      let left = written words (word_place base (gap.address + n)) (first_or 0 above) (gap.size - n) in
      let zs = stretch (gap.address + n) (gap.address + gap.size) ++ above in
      elim (nat_eq n gap.size) as (λ b. nat_eq n gap.size ≡ b → IsCut (cond b words left) (cond b (first_or 0 above) (gap.address + n)) below zs) [
        | true ↦ λ e. cut_whole below above gap n linked (let same : n ≡ gap.size = grind (arith, nat_tests, e) in same)
        | false ↦ λ e. cut_part below above gap n apart linked (omega (arith, fits, from_other n gap.size e)) whole
      ] refl

  pub taken_chain : (n before next rest : ℕ) (spot : IsSpot n gaps before) (words1 words2 : List ℕ) (head2 : ℕ) → n % 8 ≡ 0 → next ≡ first_or 0 spot.above
      → rest ≡ cut_rest spot.gap n next → words1 ≡ cut_words base words spot.gap n next → words2 ≡ linked_words base words1 before rest → head2 ≡ linked_head head before rest
      → IsChained base words2 head2 (spot.below ++ (stretch (spot.gap.address + n) (spot.gap.address + spot.gap.size) ++ spot.above))
  taken_chain n before next rest spot words1 words2 head2 whole next_is rest_is words1_is words2_is head2_is =
      let high = base + 4 * length words in
      let zs = stretch (spot.gap.address + n) (spot.gap.address + spot.gap.size) ++ spot.above in
      let apart = subst (λ gs. AreApart base gs high) spot.is c.apart in
      let linked = subst (λ gs. IsLinked base words gs 0) spot.is c.linked in
      let k = cut_left spot.below spot.above spot.gap n apart (linked_back base words spot.below (spot.gap ∷ spot.above) 0 linked).2 spot.fits whole in
      let cut = subst (λ m. IsCut (cut_words base words spot.gap n m) (cut_rest spot.gap n m) spot.below zs) (sym next_is) k in
      let one = subst (λ ws. IsCut ws (cut_rest spot.gap n next) spot.below zs) (sym words1_is) cut in
      let new_apart = taken_apart base spot.below spot.gap spot.above high n spot.fits whole apart in
      let r = relinked base words1 head spot.below zs before spot.gap.address c.low spot.last
      (subst (λ m. AreApart base (spot.below ++ zs) (base + 4 * m)) (sym one.len) new_apart)
      (one.front spot.gap.address (linked_front base words spot.below (spot.gap ∷ spot.above) 0 linked)) one.back
      (c.first ∙ ap (first_or 0) spot.is ∙ first_append 0 spot.below (spot.gap ∷ spot.above)) in
      let to : rest ≡ first_or 0 zs = rest_is ∙ one.to in
      chained_by base words words2 head head2 gaps (spot.below ++ zs) c new_apart
      (subst (λ m. IsRelinked base words2 head2 (spot.below ++ zs) m) one.len
      (subst (λ h. IsRelinked base words2 h (spot.below ++ zs) (length words1)) (sym (head2_is ∙ ap (linked_head head before) to))
      (subst (λ ws. IsRelinked base ws (linked_head head before (first_or 0 zs)) (spot.below ++ zs) (length words1)) (sym (words2_is ∙ ap (linked_words base words1 before) to)) r)))

-- Freeing a block

pub ends_alone : (address start : ℕ) (below : List Gap) → start ≤ address → AllEndBefore start below → ends_at address below ≡ false
ends_alone address start [] le all = refl
ends_alone address start (gap ∷ []) le all = let other : gap.address + gap.size ≢ address = omega (arith, all.0) in nat_eq-other (gap.address + gap.size) address other
ends_alone address start (gap ∷ other ∷ rest) le all = ends_alone address start (other ∷ rest) le all.1

ends_last : (address : ℕ) (below : List Gap) (gap : Gap) → gap.address + gap.size ≡ address → ends_at address (below ++ gap ∷ []) ≡ true
ends_last address [] gap is = ap (λ n. nat_eq n address) is ∙ nat_eq-same address
ends_last address (x ∷ []) gap is = ap (λ n. nat_eq n address) is ∙ nat_eq-same address
ends_last address (x ∷ y ∷ rest) gap is = ends_last address (y ∷ rest) gap is

pub last_append : (none : ℕ) (xs : List Gap) (gap : Gap) → last_or none (xs ++ gap ∷ []) ≡ gap.address
last_append none [] gap = refl
last_append none (x ∷ xs) gap = last_append x.address xs gap

-- the block touches the chunk below it exactly if the joined gap begins below it
pub ends_front : (below : List Gap) (start address : ℕ) → start ≤ address → AllEndBefore start below → ends_at address (below ++ stretch start address) ≡ nat_lt start address
ends_front below start address le all =
    stretch_cases (λ gs. ends_at address (below ++ gs) ≡ nat_lt start address) start address
    (λ lt. let whole : start + (address - start) ≡ address = omega arith in
    ends_last address below (record { address = start; size = address - start }) whole ∙ sym (nat_lt-true start address lt))
    (λ ge. ap (ends_at address) (append-nil below) ∙ ends_alone address start below le all ∙ sym (nat_lt-false start address ge))

upper_next_alone : (end : ℕ) (above : List Gap) → IsSpread (end + 1) above → upper_next end above ≡ first_or 0 above
upper_next_alone end [] s = refl
upper_next_alone end (y ∷ ys) s = let other : y.address ≢ end = omega (arith, s.0) in ap (λ b. cond b (first_or 0 ys) y.address) (nat_eq-other y.address end other)

upper_size_alone : (end n : ℕ) (above : List Gap) → IsSpread (end + 1) above → upper_size end n above ≡ n
upper_size_alone end n [] s = refl
upper_size_alone end n (y ∷ ys) s = let other : y.address ≢ end = omega (arith, s.0) in ap (λ b. cond b (n + y.size) n) (nat_eq-other y.address end other)

pub upper_next_is : (from end : ℕ) (above : List Gap) → from ≤ end → IsSpread (end + 1) above → upper_next from (stretch from end ++ above) ≡ first_or 0 above
upper_next_is from end above le s =
    stretch_cases (λ gs. upper_next from (gs ++ above) ≡ first_or 0 above) from end
    (λ lt. ap (λ b. cond b (first_or 0 above) from) (nat_eq-same from))
    (λ ge. let same : end ≡ from = omega arith in subst (λ e. upper_next e above ≡ first_or 0 above) same (upper_next_alone end above s))

pub upper_size_is : (from end n : ℕ) (above : List Gap) → from ≤ end → IsSpread (end + 1) above → upper_size from n (stretch from end ++ above) ≡ n + (end - from)
upper_size_is from end n above le s =
    stretch_cases (λ gs. upper_size from n (gs ++ above) ≡ n + (end - from)) from end
    (λ lt. ap (λ b. cond b (n + (end - from)) n) (nat_eq-same from))
    (λ ge. let same : end ≡ from = omega arith in let none : n ≡ n + (end - from) = omega arith in
    subst (λ e. upper_size e n above ≡ n) same (upper_size_alone end n above s) ∙ none)

-- what lies round a block of n bytes between two addresses
pub record IsRound (low high address n start end : ℕ) (below above : List Gap) : Type 0 where
  pub begins : low ≤ start
  pub ends : end ≤ high
  pub first : start % 8 ≡ 0
  pub last : end % 8 ≡ 0
  pub under : AreApart low below start
  pub over : AreApart (end + 1) above high

apart_ended : (low : ℕ) (xs : List Gap) (high start : ℕ) → AreApart low xs high → AllEndBefore start xs → AreApart low xs start
apart_ended low [] high start a all = tt
apart_ended low (x ∷ xs) high start a all = (a.0, a.1, a.2, a.3, omega (arith, all.0), apart_ended (x.address + x.size + 1) xs high start a.5 all.1)

apart_begun : (low : ℕ) (ys : List Gap) (high next : ℕ) → AreApart low ys high → IsSpread next ys → AreApart next ys high
apart_begun low [] high next a s = tt
apart_begun low (y ∷ ys) high next a s = (s.0, a.1, a.2, a.3, a.4, a.5)

record IsPart (low high from to : ℕ) : Type 0 where
  begins : low ≤ from
  ends : to ≤ high
  first : from % 8 ≡ 0
  last : to % 8 ≡ 0

-- a stretch that may be empty lies apart from the rest if one of its ends does
part_above : (low high from to : ℕ) → low ≤ from → from % 8 ≡ 0 → from ≤ high → from ≤ to → AreApart low (stretch from to) high → IsPart low high from to
part_above low high from to le place within up =
    stretch_cases (λ gs. AreApart low gs high → IsPart low high from to) from to
    (λ lt a. record { begins = le; ends = omega (arith, a.4); first = place; last = omega (arith, a.2, a.3) })
    (λ ge a. record { begins = le; ends = omega arith; first = place; last = omega arith })

part_below : (low high from to : ℕ) → to ≤ high → to % 8 ≡ 0 → low ≤ to → from ≤ to → AreApart low (stretch from to) high → IsPart low high from to
part_below low high from to le place within up =
    stretch_cases (λ gs. AreApart low gs high → IsPart low high from to) from to
    (λ lt a. record { begins = a.0; ends = le; first = a.2; last = place })
    (λ ge a. record { begins = omega arith; ends = le; first = omega arith; last = place })

pub round_apart : {gaps : List Gap} {address n : ℕ} (low high : ℕ) (around : Around gaps address n) → low ≤ address → address + n ≤ high → address % 8 ≡ 0 → n % 8 ≡ 0 → AreApart low gaps high
    → IsRound low high address n around.start around.end around.below around.above
round_apart {gaps} {address} {n} low high around le within place whole a =
    let all = subst (λ gs. AreApart low gs high) around.is a in
    let tail = apart_back low around.below (stretch around.start address ++ (stretch (address + n) around.end ++ around.above)) high all in
    let later = apart_back low (stretch around.start address) (stretch (address + n) around.end ++ around.above) high tail in
    let s = part_below low high around.start address (omega arith) place le around.low (apart_whole low (stretch around.start address) (stretch (address + n) around.end ++ around.above) high tail) in
    let e = part_above low high (address + n) around.end (omega arith) (omega arith) within around.high (apart_whole low (stretch (address + n) around.end) around.above high later) in
    record {
      begins = s.begins;
      ends = e.ends;
      first = s.first;
      last = e.last;
      under = apart_ended low around.below high around.start (apart_whole low around.below (stretch around.start address ++ (stretch (address + n) around.end ++ around.above)) high all) around.ended;
      over = apart_begun low around.above high (around.end + 1) (apart_back low (stretch (address + n) around.end) around.above high later) around.begun;
    }

joined_apart : (low high start end : ℕ) (below above : List Gap) → low ≤ start → start < end → end ≤ high → start % 8 ≡ 0 → end % 8 ≡ 0 → AllEndBefore start below
    → AreApart low below start → AreApart (end + 1) above high → AreApart low (below ++ record { address = start; size = end - start } ∷ above) high
joined_apart low high start end [] above le some within first last ended a b =
    (le, omega arith, first, omega arith, omega arith, apart_lower (end + 1) (start + (end - start) + 1) above high (omega arith) b)
joined_apart low high start end (x ∷ xs) above le some within first last ended a b =
    (a.0, a.1, a.2, a.3, omega (arith, ended.0), joined_apart (x.address + x.size + 1) high start end xs above (omega (arith, ended.0)) some within first last ended.1 a.5 b)

-- the words with the chunk that a freed block and the gaps that touch it become
abbrev joined_words : ℕ → List ℕ → {gaps : List Gap} {address n : ℕ} → Around gaps address n → List ℕ
joined_words base words around = written words (word_place base around.start) (first_or 0 around.above) (around.end - around.start)

module _ (base : ℕ) (words : List ℕ) (head : ℕ) (gaps : List Gap) (c : IsChained base words head gaps) (address n : ℕ) (around : Around gaps address n)
    (low : base ≤ address) (within : address + n ≤ base + 4 * length words) (place : address % 8 ≡ 0) (some : 0 < n) (whole : n % 8 ≡ 0) where
  around_round : IsRound base (base + 4 * length words) address n around.start around.end around.below around.above
  around_round = round_apart base (base + 4 * length words) around low within place whole c.apart

  long : 8 ≤ around.end - around.start
  long = omega (arith, around.low, around.high, some, whole)

  new_apart : AreApart base (joined around) (base + 4 * length words)
  new_apart =
      let r = around_round in
      joined_apart base (base + 4 * length words) around.start around.end around.below around.above r.begins (omega (arith, around.low, around.high, some)) r.ends r.first r.last around.ended r.under r.over

  above_linked : IsLinked base words around.above 0
  above_linked =
      linked_back base words (stretch (address + n) around.end) around.above 0
      (linked_back base words (stretch around.start address) (stretch (address + n) around.end ++ around.above) 0
      (linked_back base words around.below (stretch around.start address ++ (stretch (address + n) around.end ++ around.above)) 0 (subst (λ gs. IsLinked base words gs 0) around.is c.linked)))

  below_linked : (next : ℕ) → next ≡ first_or 0 (stretch around.start address ++ (stretch (address + n) around.end ++ around.above)) → IsLinked base words around.below next
  below_linked next is =
      subst (IsLinked base words around.below) (sym is)
      (linked_front base words around.below (stretch around.start address ++ (stretch (address + n) around.end ++ around.above)) 0 (subst (λ gs. IsLinked base words gs 0) around.is c.linked))

  head_front : (next : ℕ) → next ≡ first_or 0 (stretch around.start address ++ (stretch (address + n) around.end ++ around.above)) → head ≡ first_or next around.below
  head_front next is =
      c.first ∙ ap (first_or 0) around.is ∙ first_append 0 around.below (stretch around.start address ++ (stretch (address + n) around.end ++ around.above))
      ∙ ap (λ k. first_or k around.below) (sym is)

  back_linked : IsLinked base (joined_words base words around) (record { address = around.start; size = around.end - around.start } ∷ around.above) 0
  back_linked =
      let r = around_round in
      linked_both base (joined_words base words around) (record { address = around.start; size = around.end - around.start } ∷ []) around.above 0
      (written_here base words around.start (first_or 0 around.above) (around.end - around.start) (omega (arith, r.begins, r.ends, long)))
      (written_above base words around.start around.above (base + 4 * length words) 0 (first_or 0 around.above) (around.end - around.start) r.begins
      (apart_lower (around.end + 1) (around.start + 8) around.above (base + 4 * length words) (omega (arith, long)) r.over) above_linked)

  -- a block that touches the chunk below it becomes part of that chunk
  pub joined_lower : around.start < address
      → IsChained base (joined_words base words around) head (joined around)
  joined_lower lt =
      let r = around_round in
      let next : around.start ≡ first_or 0 (stretch around.start address ++ (stretch (address + n) around.end ++ around.above)) =
      sym (ap (λ gs. first_or 0 (gs ++ (stretch (address + n) around.end ++ around.above))) (stretch_some around.start address lt)) in
      chained_by base words (joined_words base words around) head head gaps
      (joined around) c new_apart
      record {
        linked = linked_both base (joined_words base words around) around.below (record { address = around.start; size = around.end - around.start } ∷ around.above) 0
            (written_below base words base around.below around.start around.start (first_or 0 around.above) (around.end - around.start) (omega arith) r.under (below_linked around.start next)) back_linked;
        first = head_front around.start next ∙ sym (first_append 0 around.below (record { address = around.start; size = around.end - around.start } ∷ around.above));
        len = length-written words (word_place base around.start) (first_or 0 around.above) (around.end - around.start);
      }

  -- one that does not becomes a chunk of its own, after what is before it
  pub joined_own : (before : ℕ) → around.start ≡ address → before ≡ last_or 0 around.below
      → IsChained base (linked_words base (joined_words base words around) before around.start) (linked_head head before around.start)
      (joined around)
  joined_own before same last =
      let r = around_round in
      let words1 = joined_words base words around in
      let zs : List Gap = record { address = around.start; size = around.end - around.start } ∷ around.above in
      let next = first_or 0 (stretch around.start address ++ (stretch (address + n) around.end ++ around.above)) in
      let len = length-written words (word_place base around.start) (first_or 0 around.above) (around.end - around.start) in
      let k = relinked base words1 head around.below zs before next c.low last (subst (λ m. AreApart base (around.below ++ zs) (base + 4 * m)) (sym len) new_apart)
      (written_below base words base around.below around.start next (first_or 0 around.above) (around.end - around.start) (omega arith) r.under (below_linked next refl)) back_linked (head_front next refl) in
      chained_by base words (linked_words base words1 before around.start) head (linked_head head before around.start) gaps (around.below ++ zs) c new_apart
      (subst (λ m. IsRelinked base (linked_words base words1 before around.start) (linked_head head before around.start) (around.below ++ zs) m) len k)

-- A space that is one gap

pub new_chain : (base size : ℕ) (words : List ℕ) → base % 8 ≡ 0 → 8 ≤ base → 0 < size → size % 8 ≡ 0 → base + size ≤ 2147483648 → length words ≡ size / 4
    → IsChained base (written words 0 0 size) base (stretch base (base + size))
new_chain base size words place low some whole reach len =
    let here : word_place base base ≡ 0 = omega arith in
    let left : base + size - base ≡ size = omega arith in
    let long = length-written words 0 0 size in
    subst (IsChained base (written words 0 0 size) base) (sym (stretch_some base (base + size) (omega arith) ∙ ap (λ n. record { address = base; size = n } ∷ []) left))
    record {
      place = place;
      low = low;
      reach = omega (arith, long, len);
      apart = (omega arith, some, place, whole, omega (arith, long, len), tt);
      first = refl;
      linked = subst (λ k. IsLinked base (written words k 0 size) (record { address = base; size = size } ∷ []) 0) here
          (written_here base words base 0 size (omega (arith, len)));
    }

-- if a spot's gap lies
pub record IsSpotIn (base count n : ℕ) (gap : Gap) : Type 0 where
  pub low : base ≤ gap.address
  pub reach : gap.address + gap.size ≤ 2147483648
  pub room : n < gap.size → word_place base (gap.address + n) + 1 < count

pub spot_in : (base : ℕ) (words : List ℕ) (head : ℕ) (gaps : List Gap) → IsChained base words head gaps → (n before : ℕ) → n % 8 ≡ 0 → (spot : IsSpot n gaps before) → (gap : Gap) → gap ≡ spot.gap → IsSpotIn base (length words) n gap
spot_in base words head gaps c n before whole spot gap same =
    let high = base + 4 * length words in
    let apart = subst (λ gs. AreApart base gs high) spot.is c.apart in
    let part = apart_back base spot.below (spot.gap ∷ spot.above) high apart in
    subst (IsSpotIn base (length words) n) (sym same)
    record { low = part.0; reach = omega (arith, part.4, c.reach); room = λ lt. omega (arith, lt, whole, part.0, part.3, part.4) }

pub cut_len : (base : ℕ) (words : List ℕ) (gap : Gap) (n next : ℕ) → length (cut_words base words gap n next) ≡ length words
cut_len base words gap n next =
    elim (nat_eq n gap.size) as (λ b. length (cond b words (written words (word_place base (gap.address + n)) next (gap.size - n))) ≡ length words) [
      | true ↦ refl
      | false ↦ length-written words (word_place base (gap.address + n)) next (gap.size - n)
    ]

pub link_len : (base : ℕ) (words : List ℕ) (before next : ℕ) → length (linked_words base words before next) ≡ length words
link_len base words before next =
    elim (nat_eq before 0) as (λ b. length (cond b words (set words (word_place base before) next)) ≡ length words) [
      | true ↦ refl
      | false ↦ length-set words (word_place base before) next
    ]

-- the space that the words of a chain show, and one that is one gap
abbrev pub space_of : ℕ → List ℕ → ℕ → Space
space_of base words head = record { base = base; end = base + 4 * length words; gaps = chain (length words) base words head }

-- what the space is after its words were written
pub space_written : (base : ℕ) (words words' : List ℕ) (head head' : ℕ) (gaps : List Gap) (space : Space) → IsShown base words' head' gaps → space_of base words head ≡ space
    → length words' ≡ length words → space_of base words' head' ≡ record space { gaps = gaps }
space_written base words words' head head' gaps space shown is len =
    (λ i. let s : Space = record { base = base; end = base + 4 * len i; gaps = shown.is i } in s)
    ∙ ap (λ (s : Space). let t : Space = record { base = s.base; end = s.end; gaps = gaps } in t) is

abbrev pub one_gap : ℕ → ℕ → Space
one_gap base size = record { base = base; end = base + size; gaps = stretch base (base + size) }

pub record IsNewSpace (base size : ℕ) (words : List ℕ) : Type 0 where
  pub kept : IsChained base words base (chain (length words) base words base)
  pub is : space_of base words base ≡ one_gap base size

pub new_space : (base size : ℕ) (words words' : List ℕ) → base % 8 ≡ 0 → 8 ≤ base → 0 < size → size % 8 ≡ 0 → base + size ≤ 2147483648 → length words ≡ size / 4
    → words' ≡ written words 0 0 size → IsNewSpace base size words'
new_space base size words words' place low some whole reach len is =
    let long = ap length is ∙ length-written words 0 0 size in
    let c = subst (λ ws. IsChained base ws base (stretch base (base + size))) (sym is) (new_chain base size words place low some whole reach len) in
    let s = shown base words' base (stretch base (base + size)) c in
    let end : base + 4 * length words' ≡ base + size = omega (arith, long, len, whole) in
    record {
      kept = s.kept;
      is = ap (λ gs. let t : Space = record { base = base; end = base + 4 * length words'; gaps = gs } in t) s.is ∙ ap (λ n. let t : Space = record { base = base; end = n; gaps = stretch base (base + size) } in t) end;
    }

-- What a block that is freed joins, by what is found round it

-- if the chunk lies that a block joins, and that the sum of their sizes is a number of 32 bits
pub record IsLower (base count address before size : ℕ) : Type 0 where
  pub above : before ≤ address
  pub fits : address - before + size ≤ 2147483648
  pub low : base ≤ before
  pub room : word_place base before + 1 < count

-- what becomes of the words if the block touches the chunk before it, and if it does not
pub record IsJoining (base : ℕ) (words : List ℕ) (head address : ℕ) (front joined : List Gap) (before next size : ℕ) : Type 0 where
  pub lower : true ≡ ends_at address front → IsLower base (length words) address before size
  pub into : (words' : List ℕ) → true ≡ ends_at address front → words' ≡ written words (word_place base before) next (address - before + size) → IsShown base words' head joined
  pub own : (words1 words' : List ℕ) (head' : ℕ) → false ≡ ends_at address front → words1 ≡ written words (word_place base address) next size
      → words' ≡ linked_words base words1 before address → head' ≡ linked_head head before address → IsShown base words' head' joined

abbrev pub seen_around : {gaps gaps' : List Gap} {address n : ℕ} → gaps ≡ gaps' → Around gaps' address n → Around gaps address n
seen_around e around = record {
  below = around.below;
  start = around.start;
  end = around.end;
  above = around.above;
  is = e ∙ around.is;
  low = around.low;
  high = around.high;
  ended = around.ended;
  begun = around.begun;
}

module _ (base : ℕ) (words : List ℕ) (head : ℕ) (gaps : List Gap) (c : IsChained base words head gaps) (address n : ℕ) (around : Around gaps address n)
    (low : base ≤ address) (within : address + n ≤ base + 4 * length words) (place : address % 8 ≡ 0) (some : 0 < n) (whole : n % 8 ≡ 0)
    (before next size : ℕ) (last : before ≡ last_or 0 (front around)) (next_is : next ≡ upper_next (address + n) (back around)) (size_is : size ≡ upper_size (address + n) n (back around)) where
  found_next : next ≡ first_or 0 around.above
  found_next = next_is ∙ upper_next_is (address + n) around.end around.above around.high around.begun

  found_size : size ≡ n + (around.end - (address + n))
  found_size = size_is ∙ upper_size_is (address + n) around.end n around.above around.high around.begun

  joins_lower : (words' : List ℕ) → true ≡ ends_at address (front around) → words' ≡ written words (word_place base before) next (address - before + size)
      → IsShown base words' head (joined around)
  joins_lower words' ends is =
      let touches : nat_lt around.start address ≡ true = sym (ends_front around.below around.start address around.low around.ended) ∙ sym ends in
      let lt : around.start < address = grind (arith, nat_tests, touches) in
      let at : before ≡ around.start = last ∙ ap (λ gs. last_or 0 (around.below ++ gs)) (stretch_some around.start address lt) ∙ last_append 0 around.below (record { address = around.start; size = address - around.start }) in
      let all : address - before + size ≡ around.end - around.start = omega (arith, at, found_size, around.high, around.low) in
      let to : words' ≡ joined_words base words around =
      is ∙ ap (λ a. written words (word_place base a) next (address - before + size)) at ∙ ap (λ m. written words (word_place base around.start) m (address - before + size)) found_next
      ∙ ap (λ m. written words (word_place base around.start) (first_or 0 around.above) m) all in
      let chained = joined_lower base words head gaps c address n around low within place some whole lt in
      shown base words' head (joined around)
      (subst (λ ws. IsChained base ws head (joined around)) (sym to) chained)

  lower_bounds : true ≡ ends_at address (front around) → IsLower base (length words) address before size
  lower_bounds ends =
      let touches : nat_lt around.start address ≡ true = sym (ends_front around.below around.start address around.low around.ended) ∙ sym ends in
      let lt : around.start < address = grind (arith, nat_tests, touches) in
      let at : before ≡ around.start = last ∙ ap (λ gs. last_or 0 (around.below ++ gs)) (stretch_some around.start address lt) ∙ last_append 0 around.below (record { address = around.start; size = address - around.start }) in
      let r = round_apart base (base + 4 * length words) around low within place whole c.apart in
      let reach = c.reach in
      let few = found_size in
      record {
        above = omega arith;
        fits = omega (arith, few, r.ends, around.high);
        low = omega (arith, r.begins);
        room = omega (arith, r.begins);
      }

  joins_own : (words1 words' : List ℕ) (head' : ℕ) → false ≡ ends_at address (front around) → words1 ≡ written words (word_place base address) next size
      → words' ≡ linked_words base words1 before address → head' ≡ linked_head head before address
      → IsShown base words' head' (joined around)
  joins_own words1 words' head' ends is1 is2 is3 =
      let apart : nat_lt around.start address ≡ false = sym (ends_front around.below around.start address around.low around.ended) ∙ sym ends in
      let ge : address ≤ around.start = grind (arith, nat_tests, apart) in
      let same : around.start ≡ address = omega (arith, around.low) in
      let alone : before ≡ last_or 0 around.below = last ∙ ap (λ gs. last_or 0 (around.below ++ gs)) (stretch_none around.start address ge) ∙ ap (last_or 0) (append-nil around.below) in
      let all : size ≡ around.end - around.start = omega (arith, same, found_size, around.high) in
      let one : words1 ≡ joined_words base words around =
      is1 ∙ ap (λ a. written words (word_place base a) next size) (sym same) ∙ ap (λ m. written words (word_place base around.start) m size) found_next
      ∙ ap (λ m. written words (word_place base around.start) (first_or 0 around.above) m) all in
      let two : words' ≡ linked_words base (joined_words base words around) before around.start =
      is2 ∙ ap (λ ws. linked_words base ws before address) one ∙ ap (λ a. linked_words base (joined_words base words around) before a) (sym same) in
      let three : head' ≡ linked_head head before around.start = is3 ∙ ap (linked_head head before) (sym same) in
      let chained = joined_own base words head gaps c address n around low within place some whole before same alone in
      shown base words' head' (joined around)
      (subst (λ h. IsChained base words' h (joined around)) (sym three)
      (subst (λ ws. IsChained base ws (linked_head head before around.start) (joined around)) (sym two) chained))

  pub joining : IsJoining base words head address (front around) (joined around) before next size
  joining = record { lower = lower_bounds; into = joins_lower; own = joins_own }

-- ---- how many bytes are free after a block is taken or freed

abbrev bytes : List Gap → ℕ
bytes gaps = sum_by (λ (gap : Gap). gap.size) gaps

bytes_stretch : (from to : ℕ) → from ≤ to → bytes (stretch from to) ≡ to - from
bytes_stretch from to order = stretch_cases (λ gaps. bytes gaps ≡ to - from) from to (λ lt. omega arith) (λ le. omega (arith, order))

bytes_split : (xs ys zs : List Gap) → bytes (xs ++ (ys ++ zs)) ≡ bytes xs + (bytes ys + bytes zs)
bytes_split xs ys zs =
    let outer = sum_by-append (λ (gap : Gap). gap.size) xs (ys ++ zs) in
    let inner = sum_by-append (λ (gap : Gap). gap.size) ys zs in
    omega (arith, outer, inner)

-- all of a space that is new
pub bytes_new : (base size : ℕ) (words : List ℕ) → IsNewSpace base size words → IsCount size (chain (length words) base words base)
bytes_new base size words new =
    let all = ap (λ (space : Space). bytes space.gaps) new.is in
    let one = bytes_stretch base (base + size) (omega arith) in
    omega (arith, all, one)

-- as many as were free before, without those that were taken
pub bytes_taken : (free n : ℕ) (gaps below : List Gap) (gap : Gap) (above : List Gap) → IsCount free gaps → gaps ≡ below ++ gap ∷ above → n ≤ gap.size
    → (n ≤ free) × IsCount (free - n) (below ++ (stretch (gap.address + n) (gap.address + gap.size) ++ above))
bytes_taken free n gaps below gap above count is fits =
    let before = count ∙ ap bytes is ∙ bytes_split below (gap ∷ []) above in
    let first = sum_by-cons (λ (gap : Gap). gap.size) gap [] in
    let after = bytes_split below (stretch (gap.address + n) (gap.address + gap.size)) above in
    let left = bytes_stretch (gap.address + n) (gap.address + gap.size) (omega (arith, fits)) in
    (omega (arith, before, first, fits), omega (arith, before, first, after, left, fits))

-- and with those of a block that was freed
pub bytes_joined : (free n address : ℕ) (gaps : List Gap) (around : Around gaps address n) → IsCount free gaps → IsCount (free + n) (joined around)
bytes_joined free n address gaps around count =
    let below = stretch around.start address in
    let above = stretch (address + n) around.end in
    let before = count ∙ ap bytes around.is ∙ bytes_split around.below below (above ++ around.above) in
    let split = sum_by-append (λ (gap : Gap). gap.size) above around.above in
    let low = bytes_stretch around.start address around.low in
    let high = bytes_stretch (address + n) around.end around.high in
    let after = bytes_split around.below (record { address = around.start; size = around.end - around.start } ∷ []) around.above in
    omega (arith, before, split, low, high, after, around.low, around.high)
