-- The counts of the requests in progress, after a number of the pool holds something else.
use Rattle.std.proofs.Common.{◌≡◌, ◌≢◌, ℕ, zero, suc, ◌+◌, ◌-◌, ◌<◌, ◌≤◌, Bool, true, false, List, [], ◌∷◌, length, slice_index_or, refl, sym, ap, ◌∙◌, subst, arith, inl, inr, Option, Some, None, get_or-set_same, get_or-set_other, length-set, ◌⊎◌, nat_eq, ◌&&◌, slice_set, sum_by, if◌then◌else◌, is_some, unwrap_or, eq-eqb, ne_eqb, eqb-true}
use Rattle.std.specs.List.{list_any}
use Rattle.std.proofs.lemmas.{Bool.cases_eq, List.Folds.list_any_none, List.Sums.get_or-le-sum_by, List.Sums.sum_by-le, List.Sums.sum_by-set}
use Rattle.execlist.specs.Pool.{slot}
use Rattle.iorequest.specs.{declared.request.Request.Request, Request.is_under_way, Requests.is_under_way_at, Counting.key_of, Counting.weight, Counting.IsCounted}

-- ---- weights

-- a request that is not in progress weighs nothing
idle_weight : (keys key : ℕ) (d : Request) (o : Option Request) → is_under_way (unwrap_or o d) ≡ false → weight keys key o ≡ 0
idle_weight keys key d None idle = refl
idle_weight keys key d (Some q) idle = ap (λ (b : Bool). if b && nat_eq (key_of keys q.port) key then 1 else 0) idle

-- one that is in progress weighs 1 for the key of its port, and nothing for any other
own_weight : (keys : ℕ) (d : Request) (o : Option Request) → is_some o ≡ true → is_under_way (unwrap_or o d) ≡ true
    → weight keys (key_of keys (unwrap_or o d).port) o ≡ 1
own_weight keys d None there under_way = absurd cc
own_weight keys d (Some q) there under_way =
    ap (λ (b : Bool). if b && nat_eq (key_of keys q.port) (key_of keys q.port) then 1 else 0) under_way
    ∙ ap (λ (b : Bool). if b then 1 else 0) (eq-eqb (key_of keys q.port) (key_of keys q.port) refl)

no_and : (b : Bool) → (b && false) ≡ false
no_and true = refl
no_and false = refl

other_weight : (keys key : ℕ) (d : Request) (o : Option Request) → key_of keys (unwrap_or o d).port ≢ key → weight keys key o ≡ 0
other_weight keys key d None other = refl
other_weight keys key d (Some q) other =
    ap (λ (b : Bool). if is_under_way q && b then 1 else 0) (ne_eqb (key_of keys q.port) key other)
    ∙ ap (λ (b : Bool). if b then 1 else 0) (no_and (is_under_way q))

at_most_one : (b : Bool) → (if b then 1 else 0) ≤ 1
at_most_one true = omega arith
at_most_one false = omega arith

small_weight : (keys key : ℕ) (o : Option Request) → weight keys key o ≤ 1
small_weight keys key None = omega arith
small_weight keys key (Some q) = at_most_one (is_under_way q && nat_eq (key_of keys q.port) key)

-- a number that holds a request is one of the pool's
pub known_number : (slots : List (Option Request)) (r : ℕ) → is_some (slot slots r) ≡ true → r < length slots
known_number [] r some = absurd cc
known_number (x ∷ xs) zero some = omega arith
known_number (x ∷ xs) (suc r) some = omega (arith, known_number xs r some)

-- ---- one count

module _ {slots : List (Option Request)} {counts : List ℕ} (is : IsCounted slots counts) (r : ℕ) (d : Request) (there : r < length slots) where
  -- a request that is in progress is counted
  pub one_at_least : (key : ℕ) → key ≡ key_of (length counts) (unwrap_or (slot slots r) d).port → key < length counts → is_some (slot slots r) ≡ true
      → is_under_way (unwrap_or (slot slots r) d) ≡ true → 1 ≤ slice_index_or counts key 0
  one_at_least key at within some under_way =
      let mine = ap (λ k. weight (length counts) k (slot slots r)) at ∙ own_weight (length counts) d (slot slots r) some under_way in
      let held = get_or-le-sum_by (weight (length counts) key) slots r None there in
      omega (arith, mine, held, is.each key within)

  -- if one is not in progress, there is room to count one more
  pub one_more_fits : (q : Request) → is_under_way q ≡ true → is_under_way (unwrap_or (slot slots r) d) ≡ false → key_of (length counts) q.port < length counts
      → slice_index_or counts (key_of (length counts) q.port) 0 + 1 ≤ length slots
  one_more_fits q under_way idle within =
      let key = key_of (length counts) q.port in
      let mine = own_weight (length counts) q (Some q) refl under_way in
      let before = idle_weight (length counts) key d (slot slots r) idle in
      let moved = sum_by-set (weight (length counts) key) slots r (Some q) None there in
      let least = sum_by-le (weight (length counts) key) 1 (slice_set slots r (Some q)) (λ i x l. small_weight (length counts) key _) in
      let same = length-set slots r (Some q) in
      omega (arith, mine, before, moved, least, same, is.each key within)

  -- ---- all counts

  -- the counts of some keys are those of these slots
  abbrev Each : ℕ → List (Option Request) → List ℕ → Type 0
  Each keys slots counts = (key : ℕ) → key < keys → slice_index_or counts key 0 ≡ sum_by (weight keys key) slots

  counted : (key n : ℕ) (y : Option Request) → Each (length counts) (slice_set slots r y) (slice_set counts key n)
      → IsCounted (slice_set slots r y) (slice_set counts key n)
  counted key n y each =
      let same = length-set counts key n in
      let some : 0 < length (slice_set counts key n) = omega (arith, same, is.some) in
      record { some = some; each = subst (λ keys. Each keys (slice_set slots r y) (slice_set counts key n)) (sym same) each }

  -- one key has another count, and what number r holds weighs that much more or less for it alone
  recounted : (key n : ℕ) (y : Option Request) → key < length counts
      → n + weight (length counts) key (slot slots r) ≡ slice_index_or counts key 0 + weight (length counts) key y
      → ((k : ℕ) → key ≢ k → weight (length counts) k (slot slots r) ≡ weight (length counts) k y)
      → Each (length counts) (slice_set slots r y) (slice_set counts key n)
  recounted key n y inside own others k within = by_case (cases_eq key k) where
    moved : sum_by (weight (length counts) k) (slice_set slots r y) + weight (length counts) k (slot slots r)
        ≡ sum_by (weight (length counts) k) slots + weight (length counts) k y
    moved = sum_by-set (weight (length counts) k) slots r y None there

    by_case : (key ≡ k) ⊎ (key ≢ k) → slice_index_or (slice_set counts key n) k 0 ≡ sum_by (weight (length counts) k) (slice_set slots r y)
    by_case (inl e) =
        let here = ap (λ j. slice_index_or (slice_set counts key n) j 0) (sym e) ∙ get_or-set_same counts key n 0 inside in
        let own_k = subst (λ j. n + weight (length counts) j (slot slots r) ≡ slice_index_or counts j 0 + weight (length counts) j y) e own in
        omega (arith, here, own_k, moved, is.each k within)
    by_case (inr e) =
        let here = get_or-set_other counts key k n 0 (λ same. e (sym same)) in
        omega (arith, here, others k e, moved, is.each k within)

  -- a request that was not in progress is: one more of its key
  pub one_more : (q : Request) (key : ℕ) → key ≡ key_of (length counts) q.port → key < length counts → is_under_way q ≡ true
      → is_under_way (unwrap_or (slot slots r) d) ≡ false
      → IsCounted (slice_set slots r (Some q)) (slice_set counts key (slice_index_or counts key 0 + 1))
  one_more q key at inside under_way idle = counted key (slice_index_or counts key 0 + 1) (Some q)
      (recounted key (slice_index_or counts key 0 + 1) (Some q) inside
      (omega (arith, idle_weight (length counts) key d (slot slots r) idle, mine))
      (λ k other. idle_weight (length counts) k d (slot slots r) idle ∙ sym (other_weight (length counts) k d (Some q) (λ e. other (at ∙ e)))))
    where
      mine : weight (length counts) key (Some q) ≡ 1
      mine = ap (λ k. weight (length counts) k (Some q)) at ∙ own_weight (length counts) q (Some q) refl under_way

  -- a request that was in progress is not: one less of its key
  pub one_less : (q : Request) (key : ℕ) → key ≡ key_of (length counts) q.port → key < length counts → is_under_way q ≡ false
      → q.port ≡ (unwrap_or (slot slots r) d).port → is_some (slot slots r) ≡ true → is_under_way (unwrap_or (slot slots r) d) ≡ true
      → IsCounted (slice_set slots r (Some q)) (slice_set counts key (slice_index_or counts key 0 - 1))
  one_less q key at inside idle port some under_way = counted key (slice_index_or counts key 0 - 1) (Some q)
      (recounted key (slice_index_or counts key 0 - 1) (Some q) inside
      (omega (arith, idle_weight (length counts) key d (Some q) idle, mine, one_at_least key old inside some under_way))
      (λ k other. other_weight (length counts) k d (slot slots r) (λ e. other (old ∙ e)) ∙ sym (idle_weight (length counts) k d (Some q) idle)))
    where
      old : key ≡ key_of (length counts) (unwrap_or (slot slots r) d).port
      old = at ∙ ap (key_of (length counts)) port

      mine : weight (length counts) key (slot slots r) ≡ 1
      mine = ap (λ k. weight (length counts) k (slot slots r)) old ∙ own_weight (length counts) d (slot slots r) some under_way

-- ---- none

not_under_way : (q : Request) (port : ℕ) (keys : ℕ) → weight keys (key_of keys port) (Some q) ≡ 0 → (b : Bool) → nat_eq q.port port ≡ b
    → (u : Bool) → is_under_way q ≡ u → (b && u) ≡ false
not_under_way q port keys none true same true under_way =
    let mine = ap (λ p. weight keys (key_of keys p) (Some q)) (eqb-true q.port port same) in
    let one = own_weight keys q (Some q) refl under_way in
    absurd (omega (arith, mine, one, none))
not_under_way q port keys none true same false idle = refl
not_under_way q port keys none false other u any = refl

weighs_nothing : (keys port : ℕ) (o : Option Request) → weight keys (key_of keys port) o ≡ 0 → is_under_way_at port o ≡ false
weighs_nothing keys port None none = refl
weighs_nothing keys port (Some q) none = not_under_way q port keys none (nat_eq q.port port) refl (is_under_way q) refl

-- if none is counted for the key of a port, no request of that port is in progress
pub none_counted : {slots : List (Option Request)} {counts : List ℕ} → IsCounted slots counts → (port : ℕ) (key : ℕ) → key ≡ key_of (length counts) port → key < length counts
    → slice_index_or counts key 0 ≡ 0 → list_any (is_under_way_at port) slots ≡ false
none_counted {slots} {counts} is port key at within none = list_any_none (is_under_way_at port) slots (λ i d l.
    let most = get_or-le-sum_by (weight (length counts) key) slots i d l in
    weighs_nothing (length counts) port (slice_index_or slots i d) (ap (λ k. weight (length counts) k (slice_index_or slots i d)) (sym at) ∙ omega (arith, most, is.each key within, none)))
