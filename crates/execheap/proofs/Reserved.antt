-- The messages of the requests, which are made first: they have the numbers after those of the other messages.
use Rattle.std.proofs.Common.{◌≡◌, ℕ, zero, suc, ◌+◌, ◌-◌, ◌<◌, ◌≤◌, List, [], ◌∷◌, ◌++◌, true, false, length, replicate, slice_set, refl, ap, ◌∙◌, subst, arith, Some, None, Option, is_some, is_ok, take, IsTrue, ok_or, length-append, length-set, length-take-le}
use Rattle.std.specs.List.{range_with_len}
use Rattle.std.proofs.Math.Seq.{take-append_seam}
use Rattle.std.proofs.lemmas.List.{length-replicate}
use Rattle.execlist.specs.{Lists.last, Pool.Pooled, Pool.all_free, Pool.given, Pool.given_at, Pool.next_number, Pool.slot}
use Rattle.execlist.proofs.{PlainLemmas.last-push, Pools.slot_new, Pools.slot_other, Pools.slot_same}
use Rattle.memlist.proofs.Answered.{cases_eq}
use Rattle.msgport.specs.{declared.message.Message.Message, declared.fault.PortFault.TheVariants.PoolFull, Ports.MessagePorts, Ports.new_message, Ports.no_ports}
use Rattle.execheap.specs.{Changes.reserved, Numbered.shape}
use Rattle.execheap.proofs.{Front.front, Stepping.shape_new}

-- ---- there is a number for each

last_there : (xs : List ℕ) → 0 < length xs → is_some (last xs) ≡ true
last_there [] some = absurd (omega (arith, some))
last_there (x ∷ []) some = refl
last_there (x ∷ y ∷ xs) some = last_there (y ∷ xs) (omega arith)

one_less : (o : Option ℕ) (message : Message) (q : Pooled Message) → is_some o ≡ true → 0 < length q.free → length (given_at o message q).free + 1 ≡ length q.free
one_less None message q is some = let bad : false ≡ true = is in cc
one_less (Some n) message q is some = omega (arith, some, length-take-le (length q.free - 1) q.free (omega arith))

pub numbers_left : (n : ℕ) (ports : MessagePorts) → n ≤ length ports.messages.free → length (reserved n ports).messages.free + n ≡ length ports.messages.free
numbers_left zero ports few = omega arith
numbers_left (suc n) ports few =
    let before = numbers_left n ports (omega (arith, few)) in
    omega (
      arith,
      few,
      before,
      one_less (next_number (reserved n ports).messages) (new_message 0 0) (reserved n ports).messages
          (last_there (reserved n ports).messages.free (omega (arith, few, before))) (omega (arith, few, before)),
    )

not_full : (o : Option ℕ) → is_some o ≡ true → IsTrue (is_ok (ok_or o PoolFull))
not_full None is = let bad : false ≡ true = is in cc
not_full (Some n) is = refl

pub one_left : (n : ℕ) (ports : MessagePorts) → n < length ports.messages.free → IsTrue (is_ok (ok_or (next_number (reserved n ports).messages) PoolFull))
one_left n ports few = not_full (next_number (reserved n ports).messages)
    (last_there (reserved n ports).messages.free (omega (arith, few, numbers_left n ports (omega (arith, few)))))

-- ---- which numbers they are

range_more : (from k : ℕ) → range_with_len from (suc k) ≡ range_with_len from k ++ (from + k) ∷ []
range_more from zero = ap (λ x. x ∷ []) (let same : from ≡ from + 0 = omega arith in same)
range_more from (suc k) = ap (λ rest. from ∷ rest) (range_more (from + 1) k
    ∙ ap (λ x. range_with_len (from + 1) k ++ x ∷ []) (let same : from + 1 + k ≡ from + suc k = omega arith in same))

range_end : (k : ℕ) → range_with_len 0 (suc k) ≡ range_with_len 0 k ++ k ∷ []
range_end k = range_more 0 k ∙ ap (λ x. range_with_len 0 k ++ x ∷ []) (let same : 0 + k ≡ k = omega arith in same)

-- the numbers from k on hold messages, and those before it are free
pub record IsReserved (all k : ℕ) (q : Pooled Message) : Type 0 where
  pub free : q.free ≡ range_with_len 0 k
  pub size : length q.slots ≡ all
  pub empty : (i : ℕ) → i < k → slot q.slots i ≡ None
  pub there : (i : ℕ) → k ≤ i → i < all → is_some (slot q.slots i) ≡ true

none_reserved : (all : ℕ) → IsReserved all all (all_free all)
none_reserved all = record {
  free = refl;
  size = length-replicate all None;
  empty = λ i small. slot_new Message all i;
  there = λ i from to. absurd (omega (arith, from, to));
}

module _ (all k : ℕ) (q : Pooled Message) (r : IsReserved all (suc k) q) (within : suc k ≤ all) (message : Message) where
  next_is : next_number q ≡ Some k
  next_is = ap last (r.free ∙ range_end k) ∙ last-push (range_with_len 0 k) k

  slots : (given message q).slots ≡ slice_set q.slots k (Some message)
  slots = ap (λ o. (given_at o message q).slots) next_is

  pub one_reserved : IsReserved all k (given message q)
  one_reserved = record {
    free = ap (λ o. (given_at o message q).free) next_is ∙ ap (λ xs. take (length xs - 1) xs) (r.free ∙ range_end k) ∙ rest;
    size = ap length slots ∙ length-set q.slots k (Some message) ∙ r.size;
    empty = λ i small. ap (λ xs. slot xs i) slots ∙ slot_other q.slots k i (Some message) (λ same. omega (arith, small, same)) ∙ r.empty i (omega (arith, small));
    there = λ i from to. ap (λ xs. is_some (slot xs i)) slots ∙ cases_eq i k
        (λ same. ap (λ n. is_some (slot (slice_set q.slots k (Some message)) n)) same
        ∙ ap is_some (slot_same q.slots k (Some message) (omega (arith, r.size, within))))
        (λ other. ap is_some (slot_other q.slots k i (Some message) other) ∙ r.there i (omega (arith, from, other)) to);
  } where
    rest : take (length (range_with_len 0 k ++ k ∷ []) - 1) (range_with_len 0 k ++ k ∷ []) ≡ range_with_len 0 k
    rest = ap (λ n. take n (range_with_len 0 k ++ k ∷ []))
        (let less : length (range_with_len 0 k ++ k ∷ []) - 1 ≡ length (range_with_len 0 k) = omega (arith, length-append (range_with_len 0 k) (k ∷ [])) in less)
        ∙ take-append_seam (range_with_len 0 k) (k ∷ [])

pub all_reserved : (n ports messages : ℕ) → n ≤ messages → IsReserved messages (messages - n) (reserved n (no_ports ports messages)).messages
all_reserved zero ports messages few = subst (λ k. IsReserved messages k (all_free messages)) (let same : messages ≡ messages - 0 = omega arith in same) (none_reserved messages)
all_reserved (suc n) ports messages few = one_reserved messages (messages - suc n) (reserved n (no_ports ports messages)).messages
    (subst (λ k. IsReserved messages k (reserved n (no_ports ports messages)).messages)
    (let same : messages - n ≡ suc (messages - suc n) = omega (arith, few) in same) (all_reserved n ports messages (omega (arith, few))))
    (omega (arith, few)) (new_message 0 0)

-- all else is as it was
pub reserved_beside : (n : ℕ) (ports : MessagePorts) → reserved n ports ≡ record ports { messages = (reserved n ports).messages }
reserved_beside zero ports = refl
reserved_beside (suc n) ports = ap (λ (q : MessagePorts). record q { messages = (reserved (suc n) ports).messages }) (reserved_beside n ports)

-- ---- the numbers of the table

empty_front : (k : ℕ) (xs : List (Option Message)) → k ≤ length xs → ((i : ℕ) → i < k → slot xs i ≡ None) → take k xs ≡ replicate k None
empty_front zero xs few none = refl
empty_front (suc k) [] few none = absurd (omega (arith, few))
empty_front (suc k) (x ∷ xs) few none = λ i. none 0 (omega arith) i ∷ empty_front k xs (omega (arith, few)) (λ j small. none (suc j) (omega (arith, small))) i

pub front_new : (pool : ℕ) (q : Pooled Message) → IsReserved (pool + pool) pool q → shape (front pool q) ≡ shape {A = ℕ} (all_free pool)
front_new pool q r = (λ i. shape (record { slots = empty_front pool q.slots (omega (arith, r.size)) r.empty i; free = r.free i })) ∙ shape_new Message pool
