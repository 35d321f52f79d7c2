-- Pools in step stay in step if both give, release or write.
use Rattle.std.proofs.Common.{◌≡◌, true, ℕ, zero, suc, List, [], ◌∷◌, false, length, map, replicate, slice_set, refl, ap, sym, ◌∙◌, Some, None, Option, is_some, slice_index_or, take, ◌-◌, ◌++◌}
use Rattle.std.proofs.lemmas.List.{length-map}
use Rattle.execlist.specs.{Lists.last, Pool.Pooled, Pool.all_free, Pool.given, Pool.given_at, Pool.next_number, Pool.released, Pool.slot, Pool.written}
use Rattle.execheap.specs.Numbered.{Shape, shape}

module _ {A : Type 0} where
  map_set : (xs : List (Option A)) (n : ℕ) (o : Option A) → map is_some (slice_set xs n o) ≡ slice_set (map is_some xs) n (is_some o)
  map_set [] n o = refl
  map_set (x ∷ xs) zero o = refl
  map_set (x ∷ xs) (suc n) o = ap (λ rest. is_some x ∷ rest) (map_set xs n o)

  slot_some : (xs : List (Option A)) (n : ℕ) → is_some (slot xs n) ≡ slice_index_or (map is_some xs) n false
  slot_some [] n = refl
  slot_some (x ∷ xs) zero = refl
  slot_some (x ∷ xs) (suc n) = slot_some xs n

map_none : (A : Type 0) (n : ℕ) → map is_some (replicate {A = Option A} n None) ≡ replicate n false
map_none A zero = refl
map_none A (suc n) = ap (λ rest. false ∷ rest) (map_none A n)

pub shape_new : (A : Type 0) (pool : ℕ) → shape {A = A} (all_free pool) ≡ shape {A = ℕ} (all_free pool)
shape_new A pool = ap (λ held. record { held = held; free = (all_free {A = A} pool).free }) (map_none A pool ∙ sym (map_none ℕ pool))

module _ {A B : Type 0} (p : Pooled B) (q : Pooled A) (same : shape q ≡ shape p) where
  pub shape_next : next_number q ≡ next_number p
  shape_next = ap (λ (s : Shape). last s.free) same

  -- the same numbers live
  pub shape_lives : (n : ℕ) → is_some (slot p.slots n) ≡ is_some (slot q.slots n)
  shape_lives n = slot_some p.slots n ∙ ap (λ (s : Shape). slice_index_or s.held n false) (sym same) ∙ sym (slot_some q.slots n)

  pub shape_length : length q.slots ≡ length p.slots
  shape_length = sym (length-map q.slots is_some) ∙ ap (λ (s : Shape). length s.held) same ∙ length-map p.slots is_some

  set_both : (n : ℕ) (a : Option B) (b : Option A) → is_some b ≡ is_some a
      → map is_some (slice_set q.slots n b) ≡ map is_some (slice_set p.slots n a)
  set_both n a b alike =
      map_set q.slots n b ∙ (λ i. slice_set (same i).held n (alike i)) ∙ sym (map_set p.slots n a)

  given_by : (o : Option ℕ) (a : B) (b : A) → shape (given_at o b q) ≡ shape (given_at o a p)
  given_by None a b = same
  given_by (Some n) a b = λ i. record { held = set_both n (Some a) (Some b) refl i; free = take (length (same i).free - 1) (same i).free }

  pub shape_given : (a : B) (b : A) → shape (given b q) ≡ shape (given a p)
  shape_given a b = ap (λ o. shape (given_at o b q)) shape_next ∙ given_by (next_number p) a b

  pub shape_released : (n : ℕ) → shape (released n q) ≡ shape (released n p)
  shape_released n = λ i. record { held = set_both n None None refl i; free = (same i).free ++ n ∷ [] }

module _ {A : Type 0} where
  held_written : (xs : List (Option A)) (n : ℕ) (x : A) → is_some (slot xs n) ≡ true → map is_some (slice_set xs n (Some x)) ≡ map is_some xs
  held_written [] n x lives = refl
  held_written (Some y ∷ xs) zero x lives = refl
  held_written (None ∷ xs) zero x lives = let bad : false ≡ true = lives in cc
  held_written (y ∷ xs) (suc n) x lives = ap (λ rest. is_some y ∷ rest) (held_written xs n x lives)

  -- an item that lives becomes another
  pub shape_written : (q : Pooled A) (n : ℕ) (x : A) → is_some (slot q.slots n) ≡ true → shape (written n x q) ≡ shape q
  shape_written q n x lives = λ i. record { held = held_written q.slots n x lives i; free = q.free }
