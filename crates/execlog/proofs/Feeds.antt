-- Line feeds that are found in many bytes together.
use Rattle.std.proofs.Common.{◌≡◌, ◌≢◌, ◌≤◌, ◌<◌, ◌+◌, ◌-◌, ◌%◌, ◌^◌, ℕ, zero, suc, Bool, not, cond, eqb, true≢false, List, length, map, replicate, get_or, slice_index, ap, sym, ◌∙◌, subst, w8, arith, eq-eqb, eqb-true}
use Rattle.std.specs.{List.prefix_len, Simd.Lanes.chunk, Simd.Lanes.mask_l, Simd.Lanes.top, Simd.Lanes.zip2}
use lib.Count.{count_trailing_zeros}
use Rattle.std.proofs.lemmas.{Bool.not-false, Bool.not-true, List.Sums.prefix_len_passes, List.Sums.prefix_len_stops, Simd.bitmask_splat, Simd.get_or-chunk, Simd.leading_from_mask_l, Simd.length-chunk, Simd.trailing_mask_l}
use Rattle.execlog.specs.Rows.{IsPartTo}

abbrev is_feed : ℕ → Bool
is_feed b = eqb b 10

-- how many bytes are before the first line feed
abbrev feed_place : List ℕ → ℕ
feed_place = prefix_len (λ b. not (is_feed b))

-- which bytes are line feeds, by bits
abbrev pub feeds : ℕ → ℕ → List ℕ → ℕ
feeds at n text = mask_l (map (top 7) (zip2 (λ a b. cond (eqb a b) 255 0) (chunk at n text) (replicate n 10))) % 2 ^ 64

-- What is known of that many bytes from a place on, of which that many are before the first line feed.
pub record IsPlace (text : List ℕ) (at n place : ℕ) : Type 0 where
  pub before : (k : ℕ) → k < n → k < place → slice_index text (at + k) ≢ 10
  pub feed : place < n → slice_index text (at + place) ≡ 10

module _ (text : List ℕ) (at n : ℕ) (within : at + n ≤ length text) where
  before_place : (k : ℕ) → k < n → k < feed_place (chunk at n text) → slice_index text (at + k) ≢ 10
  before_place k inside less is =
      let b = get_or (chunk at n text) k 0 in
      true≢false (sym (ap is_feed (get_or-chunk at n text k 0 inside) ∙ eq-eqb (get_or text (at + k) 0) 10 is)
      ∙ not-true (is_feed b) (prefix_len_passes (λ b. not (is_feed b)) (chunk at n text) k 0 less))

  at_place : feed_place (chunk at n text) < n → slice_index text (at + feed_place (chunk at n text)) ≡ 10
  at_place less =
      let place = feed_place (chunk at n text) in
      let b = get_or (chunk at n text) place 0 in
      sym (get_or-chunk at n text place 0 less)
      ∙ eqb-true b 10 (not-false (is_feed b) (prefix_len_stops (λ b. not (is_feed b)) (chunk at n text) 0 (omega (arith, less, length-chunk at n text within))))

  is_place : IsPlace text at n (feed_place (chunk at n text))
  is_place = record { before = before_place; feed = at_place }

  mask_is : n ≤ 64 → feeds at n text ≡ mask_l (map is_feed (chunk at n text))
  mask_is few = bitmask_splat w8 eqb (chunk at n text) n 10 (length-chunk at n text within) few

  -- no bit is set
  pub no_feed : n ≤ 64 → feeds at n text ≡ 0 → IsPlace text at n n
  no_feed few none = subst (IsPlace text at n) (leading_from_mask_l is_feed (chunk at n text) (sym (mask_is few) ∙ none) ∙ length-chunk at n text within) is_place

  -- the lowest bit that is set
  pub first_feed : n ≤ 64 → feeds at n text ≢ 0 → IsPlace text at n (count_trailing_zeros 64 (feeds at n text))
  first_feed few some =
      let e = mask_is few in
      subst (IsPlace text at n)
      (sym (ap (count_trailing_zeros 64) e ∙ trailing_mask_l is_feed 64 (chunk at n text) (omega (arith, few, length-chunk at n text within)) (omega (arith, e, some))))
      is_place

-- ---- bytes after others

add_back : (at k : ℕ) → at ≤ k → at + (k - at) ≡ k
add_back at k le = omega (arith, le)

by_place : (A : Type 0) (at k : ℕ) → (k < at → A) → (at ≤ k → A) → A
by_place A zero k low high = high (omega arith)
by_place A (suc at) zero low high = low (omega arith)
by_place A (suc at) (suc k) low high = by_place A at k (λ l. low (omega (arith, l))) (λ l. high (omega (arith, l)))

-- no line feed up to a place that is past those seen before
pub part_goes_on : (text : List ℕ) (at n len : ℕ) → IsPartTo at text → ((k : ℕ) → k < n → k < len → slice_index text (at + k) ≢ 10) → (to : ℕ)
    → to ≤ at + n → to ≤ at + len → IsPartTo to text
part_goes_on text at n len part before to low high k less =
    by_place (slice_index text k ≢ 10) at k (part k)
    (λ past. subst (λ (j : ℕ). slice_index text j ≢ 10) (add_back at k past) (before (k - at) (omega (arith, less, low, past)) (omega (arith, less, high, past))))
