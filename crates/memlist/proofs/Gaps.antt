-- How the gaps of a region change when a block is put into one of them, and when a block is freed.
use Rattle.std.proofs.Common.{◌≡◌, ◌≢◌, ℕ, ◌+◌, ◌-◌, ◌%◌, ◌<◌, ◌≤◌, true, false, cond, List, [], ◌∷◌, ◌++◌, refl, sym, ◌∙◌, ap, subst, arith, append_assoc, append-nil, nat_lt, not, Some, nat_cmp}
use Rattle.std.specs.FinMap.{put}
use Rattle.memlist.specs.{declared.gap.Gap.Gap, Blocks.Blocks, Blocks.block_at, Blocks.freed, Blocks.stretch, Blocks.gaps_between, Memory.IsLaid, Joins.IsSpread, Joins.AllEndBefore, Joins.Around}
use Rattle.memlist.proofs.Answered.{nat_lt-true, nat_lt-false, nat_eq-same, nat_eq-other, put_before, put_after, cases_eq, found_here, found_later}

pub stretch_some : (from to : ℕ) → from < to → stretch from to ≡ record { address = from; size = to - from } ∷ []
stretch_some from to h = ap (λ b. cond b (record { address = from; size = to - from } ∷ []) []) (nat_lt-true from to h)

pub stretch_none : (from to : ℕ) → to ≤ from → stretch from to ≡ []
stretch_none from to h = ap (λ b. cond b (record { address = from; size = to - from } ∷ []) []) (nat_lt-false from to h)

-- what holds of a stretch, by whether it is empty
pub stretch_cases : (P : List Gap → Type 0) (from to : ℕ) → (from < to → P (record { address = from; size = to - from } ∷ [])) → (to ≤ from → P []) → P (stretch from to)
stretch_cases P from to some none =
    elim (nat_lt from to) as (λ b. nat_lt from to ≡ b → P (cond b (record { address = from; size = to - from } ∷ []) [])) [
      | true ↦ λ e. some (grind (arith, e))
      | false ↦ λ e. none (grind (arith, e))
    ] refl

pub spread_lower : (low high : ℕ) (free : List Gap) → low ≤ high → IsSpread high free → IsSpread low free
spread_lower low high [] h s = tt
spread_lower low high (gap ∷ rest) h s = (omega arith, s.1, s.2)

pub spread_stretch : (low from to next : ℕ) (free : List Gap) → low ≤ from → low ≤ next → to + 1 ≤ next → IsSpread next free → IsSpread low (stretch from to ++ free)
spread_stretch low from to next free h l k s =
    stretch_cases (λ gap. IsSpread low (gap ++ free)) from to
    (λ lt. (h, omega arith, spread_lower (from + (to - from) + 1) next free (omega arith) s))
    (λ le. spread_lower low next free l s)

-- the gaps that blocks leave are spread
pub spread_gaps : (from : ℕ) (blocks : Blocks) (to : ℕ) → IsLaid from blocks to → IsSpread from (gaps_between from blocks to)
spread_gaps from [] to h = stretch_cases (λ gap. IsSpread from gap) from to (λ lt. (omega arith, omega arith, tt)) (λ le. tt)
spread_gaps from (block ∷ rest) to h =
    spread_stretch from from block.0 (block.0 + block.1.0) (gaps_between (block.0 + block.1.0) rest to) (omega arith) (omega arith) (omega arith) (spread_gaps (block.0 + block.1.0) rest to h.4)

pub spread_at : (low : ℕ) (xs : List Gap) (gap : Gap) (ys : List Gap) → IsSpread low (xs ++ gap ∷ ys) → low ≤ gap.address
spread_at low [] gap ys s = s.0
spread_at low (x ∷ xs) gap ys s = let rest = spread_at (x.address + x.size + 1) xs gap ys s.2 in omega (arith, s.0, rest)

-- Taking the front of a gap

no_gap : {A : Type 0} (xs : List Gap) (gap : Gap) (ys : List Gap) → [] ≡ xs ++ gap ∷ ys → A
no_gap [] gap ys e = cc
no_gap (x ∷ xs) gap ys e = cc

-- a block of n bytes at the front of a gap: that gap is shorter by n or gone, the others stay
pub record IsTaken (from : ℕ) (blocks : Blocks) (to n tag : ℕ) (xs : List Gap) (gap : Gap) (ys : List Gap) : Type 0 where
  pub gaps : gaps_between from (put nat_cmp gap.address (n, tag) blocks) to ≡ xs ++ (stretch (gap.address + n) (gap.address + gap.size) ++ ys)
  pub laid : IsLaid from (put nat_cmp gap.address (n, tag) blocks) to

Takes : ℕ → Blocks → ℕ → ℕ → ℕ → Gap → List Gap → Type 0
Takes from blocks to n tag gap ys = (xs : List Gap) → gaps_between from blocks to ≡ xs ++ gap ∷ ys → IsTaken from blocks to n tag xs gap ys

taken_in_last : (from to n tag : ℕ) (gap : Gap) (ys xs : List Gap) → 0 < n → n % 8 ≡ 0 → from % 8 ≡ 0 → n ≤ gap.size → from < to
    → record { address = from; size = to - from } ∷ [] ≡ xs ++ gap ∷ ys → IsTaken from [] to n tag xs gap ys
taken_in_last from to n tag gap ys [] some whole aligned fits lt e =
    let here : record { address = from; size = to - from } ≡ gap = cc in
    let none : [] ≡ ys = cc in
    let fits_here : n ≤ to - from = subst (λ (g : Gap). n ≤ g.size) (sym here) fits in
    let ends : to ≡ from + (to - from) = omega arith in
    subst (λ (g : Gap). IsTaken from [] to n tag [] g ys) here
    (subst (λ zs. IsTaken from [] to n tag [] (record { address = from; size = to - from }) zs) none
    record {
      gaps = ap (λ zs. zs ++ stretch (from + n) to) (stretch_none from from (omega arith)) ∙ ap (stretch (from + n)) ends ∙ sym (append-nil (stretch (from + n) (from + (to - from))));
      laid = (omega arith, some, aligned, whole, omega arith);
    })
taken_in_last from to n tag gap ys (x ∷ xs) some whole aligned fits lt e =
    let none : [] ≡ xs ++ gap ∷ ys = cc in no_gap xs gap ys none

-- in the gap before a block, or in one after it
taken_before : (from : ℕ) (block : ℕ × (ℕ × ℕ)) (rest : Blocks) (to n tag : ℕ) (gap : Gap) (ys xs : List Gap)
    → 0 < n → n % 8 ≡ 0 → from % 8 ≡ 0 → n ≤ gap.size → IsLaid from (block ∷ rest) to
    → Takes (block.0 + block.1.0) rest to n tag gap ys → from < block.0
    → record { address = from; size = block.0 - from } ∷ gaps_between (block.0 + block.1.0) rest to ≡ xs ++ gap ∷ ys → IsTaken from (block ∷ rest) to n tag xs gap ys
unfolding Takes
taken_before from block rest to n tag gap ys [] some whole aligned fits laid later lt e =
    let here : record { address = from; size = block.0 - from } ≡ gap = cc in
    let others : gaps_between (block.0 + block.1.0) rest to ≡ ys = cc in
    let fits_here : n ≤ block.0 - from = subst (λ (g : Gap). n ≤ g.size) (sym here) fits in
    let ends : block.0 ≡ from + (block.0 - from) = omega arith in
    let put_here = put_before from (n, tag) block rest lt in
    subst (λ (g : Gap). IsTaken from (block ∷ rest) to n tag [] g ys) here
    record {
      gaps = ap (λ bs. gaps_between from bs to) put_here
          ∙ ap (λ zs. zs ++ (stretch (from + n) block.0 ++ gaps_between (block.0 + block.1.0) rest to)) (stretch_none from from (omega arith))
          ∙ ap (λ zs. stretch (from + n) block.0 ++ zs) others
          ∙ ap (λ b. stretch (from + n) b ++ ys) ends;
      laid = subst (λ bs. IsLaid from bs to) (sym put_here) (omega arith, some, aligned, whole, (omega arith, laid.1, laid.2, laid.3, laid.4));
    }
taken_before from block rest to n tag gap ys (x ∷ xs) some whole aligned fits laid later lt e =
    let first : record { address = from; size = block.0 - from } ≡ x = cc in
    let others : gaps_between (block.0 + block.1.0) rest to ≡ xs ++ gap ∷ ys = cc in
    let spread : IsSpread (block.0 + block.1.0) (xs ++ gap ∷ ys) = subst (IsSpread (block.0 + block.1.0)) others (spread_gaps (block.0 + block.1.0) rest to laid.4) in
    let low = spread_at (block.0 + block.1.0) xs gap ys spread in
    let after : block.0 < gap.address = omega (arith, laid.1, low) in
    let put_later = put_after gap.address (n, tag) block rest after in
    let taken = later xs others in
    record {
      gaps = ap (λ bs. gaps_between from bs to) put_later
          ∙ ap (λ zs. zs ++ gaps_between (block.0 + block.1.0) (put nat_cmp gap.address (n, tag) rest) to) (stretch_some from block.0 lt)
          ∙ ap (λ (z : Gap). z ∷ gaps_between (block.0 + block.1.0) (put nat_cmp gap.address (n, tag) rest) to) first
          ∙ ap (λ zs. x ∷ zs) taken.gaps;
      laid = subst (λ bs. IsLaid from bs to) (sym put_later) (laid.0, laid.1, laid.2, laid.3, taken.laid);
    }

taken_after : (from : ℕ) (block : ℕ × (ℕ × ℕ)) (rest : Blocks) (to n tag : ℕ) (gap : Gap) (ys xs : List Gap)
    → IsLaid from (block ∷ rest) to → Takes (block.0 + block.1.0) rest to n tag gap ys → block.0 ≤ from
    → gaps_between (block.0 + block.1.0) rest to ≡ xs ++ gap ∷ ys → IsTaken from (block ∷ rest) to n tag xs gap ys
unfolding Takes
taken_after from block rest to n tag gap ys xs laid later le others =
    let spread : IsSpread (block.0 + block.1.0) (xs ++ gap ∷ ys) = subst (IsSpread (block.0 + block.1.0)) others (spread_gaps (block.0 + block.1.0) rest to laid.4) in
    let low = spread_at (block.0 + block.1.0) xs gap ys spread in
    let after : block.0 < gap.address = omega (arith, laid.1, low) in
    let put_later = put_after gap.address (n, tag) block rest after in
    let taken = later xs others in
    record {
      gaps = ap (λ bs. gaps_between from bs to) put_later
          ∙ ap (λ zs. zs ++ gaps_between (block.0 + block.1.0) (put nat_cmp gap.address (n, tag) rest) to) (stretch_none from block.0 le)
          ∙ taken.gaps;
      laid = subst (λ bs. IsLaid from bs to) (sym put_later) (laid.0, laid.1, laid.2, laid.3, taken.laid);
    }

takes : (from : ℕ) (blocks : Blocks) (to n tag : ℕ) (gap : Gap) (ys : List Gap)
    → 0 < n → n % 8 ≡ 0 → from % 8 ≡ 0 → n ≤ gap.size → IsLaid from blocks to → Takes from blocks to n tag gap ys
unfolding Takes
takes from [] to n tag gap ys some whole aligned fits laid xs e =
    stretch_cases (λ free. free ≡ xs ++ gap ∷ ys → IsTaken from [] to n tag xs gap ys) from to
    (λ lt f. taken_in_last from to n tag gap ys xs some whole aligned fits lt f)
    (λ le f. no_gap xs gap ys f) e
takes from (block ∷ rest) to n tag gap ys some whole aligned fits laid xs e =
    let later = takes (block.0 + block.1.0) rest to n tag gap ys some whole (omega (arith, laid.2, laid.3)) fits laid.4 in
    stretch_cases (λ free. free ++ gaps_between (block.0 + block.1.0) rest to ≡ xs ++ gap ∷ ys → IsTaken from (block ∷ rest) to n tag xs gap ys) from block.0
    (λ lt f. taken_before from block rest to n tag gap ys xs some whole aligned fits laid later lt f)
    (λ le f. taken_after from block rest to n tag gap ys xs laid later le f) e

pub taken : (from : ℕ) (blocks : Blocks) (to n tag : ℕ) (xs : List Gap) (gap : Gap) (ys : List Gap)
    → 0 < n → n % 8 ≡ 0 → from % 8 ≡ 0 → n ≤ gap.size → IsLaid from blocks to → gaps_between from blocks to ≡ xs ++ gap ∷ ys → IsTaken from blocks to n tag xs gap ys
unfolding Takes
taken from blocks to n tag xs gap ys some whole aligned fits laid e = takes from blocks to n tag gap ys some whole aligned fits laid xs e

-- Freeing a block

pub laid_lower : (low high : ℕ) (blocks : Blocks) (to : ℕ) → low ≤ high → IsLaid high blocks to → IsLaid low blocks to
laid_lower low high [] to h l = omega arith
laid_lower low high (block ∷ rest) to h l = (omega arith, l.1, l.2, l.3, l.4)

-- no block before an address is freed by freeing what begins below it
pub freed_below : (address low : ℕ) (blocks : Blocks) (to : ℕ) → address < low → IsLaid low blocks to → freed address blocks ≡ blocks
freed_below address low [] to h l = refl
freed_below address low (block ∷ rest) to h l =
    let other : block.0 ≢ address = omega (arith, l.0) in
    ap (λ b. cond (not b) (block ∷ freed address rest) (freed address rest)) (nat_eq-other block.0 address other)
    ∙ ap (λ bs. block ∷ bs) (freed_below address (block.0 + block.1.0) rest to (omega (arith, l.0, l.1)) l.4)

pub freed_first : (block : ℕ × (ℕ × ℕ)) (rest : Blocks) (to : ℕ) → 0 < block.1.0 → IsLaid (block.0 + block.1.0) rest to → freed block.0 (block ∷ rest) ≡ rest
freed_first block rest to some l =
    ap (λ b. cond (not b) (block ∷ freed block.0 rest) (freed block.0 rest)) (nat_eq-same block.0)
    ∙ freed_below block.0 (block.0 + block.1.0) rest to (omega arith) l

pub freed_later : (address : ℕ) (block : ℕ × (ℕ × ℕ)) (rest : Blocks) → block.0 ≢ address → freed address (block ∷ rest) ≡ block ∷ freed address rest
freed_later address block rest other =
    ap (λ b. cond (not b) (block ∷ freed address rest) (freed address rest)) (nat_eq-other block.0 address other)

-- what is freed joins the gaps that touch it
pub record IsFreed (from : ℕ) (blocks : Blocks) (to address n : ℕ) : Type 0 where
  pub around : Around (gaps_between from blocks to) address n
  pub low : from ≤ around.start
  pub after : gaps_between from (freed address blocks) to ≡ around.below ++ (record { address = around.start; size = around.end - around.start } ∷ around.above)
  pub laid : IsLaid from (freed address blocks) to

freed_here : (from : ℕ) (block : ℕ × (ℕ × ℕ)) (rest : Blocks) (to : ℕ) → IsLaid from (block ∷ rest) to → IsFreed from (block ∷ rest) to block.0 block.1.0
freed_here from block [] to l = record {
  around = record {
    below = [];
    start = from;
    end = to;
    above = [];
    is = ap (λ zs. stretch from block.0 ++ zs) (sym (append-nil (stretch (block.0 + block.1.0) to)));
    low = l.0;
    high = l.4;
    ended = tt;
    begun = tt;
  };
  low = omega arith;
  after = ap (λ bs. gaps_between from bs to) (freed_first block [] to l.1 l.4) ∙ stretch_some from to (omega (arith, l.0, l.1, l.4));
  laid = subst (λ bs. IsLaid from bs to) (sym (freed_first block [] to l.1 l.4)) (omega (arith, l.0, l.1, l.4));
}
freed_here from block (next ∷ rest) to l = record {
  around = record {
    below = [];
    start = from;
    end = next.0;
    above = gaps_between (next.0 + next.1.0) rest to;
    is = refl;
    low = l.0;
    high = l.4.0;
    ended = tt;
    begun = spread_lower (next.0 + 1) (next.0 + next.1.0) (gaps_between (next.0 + next.1.0) rest to) (omega (arith, l.4.1)) (spread_gaps (next.0 + next.1.0) rest to l.4.4);
  };
  low = omega arith;
  after = ap (λ bs. gaps_between from bs to) (freed_first block (next ∷ rest) to l.1 l.4)
      ∙ ap (λ zs. zs ++ gaps_between (next.0 + next.1.0) rest to) (stretch_some from next.0 (omega (arith, l.0, l.1, l.4.0)));
  laid = subst (λ bs. IsLaid from bs to) (sym (freed_first block (next ∷ rest) to l.1 l.4)) (laid_lower from (block.0 + block.1.0) (next ∷ rest) to (omega (arith, l.0)) l.4);
}

end_before : (from to start : ℕ) (below : List Gap) → to < start → AllEndBefore start below → AllEndBefore start (stretch from to ++ below)
end_before from to start below h all =
    stretch_cases (λ gap. AllEndBefore start (gap ++ below)) from to (λ lt. (omega arith, all)) (λ le. all)

freed_there : (from : ℕ) (block : ℕ × (ℕ × ℕ)) (rest : Blocks) (to address n : ℕ) → IsLaid from (block ∷ rest) to → block.0 ≢ address
    → IsFreed (block.0 + block.1.0) rest to address n → IsFreed from (block ∷ rest) to address n
freed_there from block rest to address n l other f = record {
  around = record {
    below = stretch from block.0 ++ f.around.below;
    start = f.around.start;
    end = f.around.end;
    above = f.around.above;
    is = ap (λ zs. stretch from block.0 ++ zs) f.around.is ∙ sym (append_assoc (stretch from block.0) f.around.below (stretch f.around.start address ++ (stretch (address + n) f.around.end ++ f.around.above)));
    low = f.around.low;
    high = f.around.high;
    ended = end_before from block.0 f.around.start f.around.below (omega (arith, f.low, l.1)) f.around.ended;
    begun = f.around.begun;
  };
  low = omega (arith, f.low, l.0);
  after = ap (λ bs. gaps_between from bs to) (freed_later address block rest other)
      ∙ ap (λ zs. stretch from block.0 ++ zs) f.after
      ∙ sym (append_assoc (stretch from block.0) f.around.below (record { address = f.around.start; size = f.around.end - f.around.start } ∷ f.around.above));
  laid = subst (λ bs. IsLaid from bs to) (sym (freed_later address block rest other)) (l.0, l.1, l.2, l.3, f.laid);
}

pub frees : (from : ℕ) (blocks : Blocks) (to address n tag : ℕ) → IsLaid from blocks to → block_at address blocks ≡ Some (n, tag) → IsFreed from blocks to address n
frees from [] to address n tag l found = cc
frees from (block ∷ rest) to address n tag l found =
    cases_eq block.0 address
    (λ same.
    let here : block.1 ≡ (n, tag) = found_here address block (n, tag) rest same found in
    subst (λ a. IsFreed from (block ∷ rest) to a n) same
    (subst (λ m. IsFreed from (block ∷ rest) to block.0 m) (ap (λ (v : ℕ × ℕ). v.0) here) (freed_here from block rest to l)))
    (λ other. freed_there from block rest to address n l other
    (frees (block.0 + block.1.0) rest to address n tag l.4 (found_later address block (Some (n, tag)) rest other found)))
