-- The first numbers of a pool, and the messages of the table among them.
use Rattle.std.proofs.Common.{◌≡◌, ℕ, zero, suc, ◌<◌, List, [], ◌∷◌, map, slice_set, refl, ap, sym, ◌∙◌, arith, Some, None, Option, is_some, take, IsTrue, IsSome}
use Rattle.execlist.specs.Pool.{Pooled, given, given_at, next_number, released, slot}
use Rattle.execlist.proofs.Pools.{item_of, slot_known}
use Rattle.msgport.specs.{declared.message.Message.Message, Ports.is_message}
use Rattle.execheap.specs.declared.tag.Kind.TheVariants as variant
use Rattle.execheap.specs.Table as table
use Rattle.execheap.specs.{Table.pool_of, Table.slots_of, Numbered.Numbered, Numbered.IsKept, Numbered.Shape, Numbered.shape, Numbered.places}
use Rattle.execheap.proofs.Stepping.{shape_lives, shape_next}

module _ {A : Type 0} where
  pub take_written : (k : ℕ) (xs : List A) (n : ℕ) (x : A) → take k (slice_set xs n x) ≡ slice_set (take k xs) n x
  take_written zero xs n x = refl
  take_written (suc k) [] n x = refl
  take_written (suc k) (y ∷ xs) zero x = refl
  take_written (suc k) (y ∷ xs) (suc n) x = ap (λ rest. y ∷ rest) (take_written k xs n x)

module _ {A : Type 0} where
  -- the numbers of a pool before one
  abbrev pub front : ℕ → Pooled A → Pooled A
  front k q = record { slots = take k q.slots; free = q.free }

  -- a number before it holds what it holds
  pub slot_front : (k : ℕ) (xs : List (Option A)) (n : ℕ) → n < k → slot (take k xs) n ≡ slot xs n
  slot_front zero xs n small = absurd (omega (arith, small))
  slot_front (suc k) [] n small = refl
  slot_front (suc k) (x ∷ xs) zero small = refl
  slot_front (suc k) (x ∷ xs) (suc n) small = slot_front k xs n (omega (arith, small))

  front_given_at : (k : ℕ) (o : Option ℕ) (x : A) (q : Pooled A) → front k (given_at o x q) ≡ given_at o x (front k q)
  front_given_at k None x q = refl
  front_given_at k (Some n) x q = ap (λ slots. record { slots = slots; free = (given_at (Some n) x q).free }) (take_written k q.slots n (Some x))

  pub front_given : (k : ℕ) (x : A) (q : Pooled A) → front k (given x q) ≡ given x (front k q)
  front_given k x q = front_given_at k (next_number q) x q

  pub front_released : (k : ℕ) (n : ℕ) (q : Pooled A) → front k (released n q) ≡ released n (front k q)
  front_released k n q = ap (λ slots. record { slots = slots; free = (released n q).free }) (take_written k q.slots n None)

  held_front : (k : ℕ) (xs : List (Option A)) → map is_some (take k xs) ≡ take k (map is_some xs)
  held_front zero xs = refl
  held_front (suc k) [] = refl
  held_front (suc k) (x ∷ xs) = ap (λ rest. is_some x ∷ rest) (held_front k xs)

  -- pools in step are so in their first numbers
  pub front_step : (k : ℕ) (q p : Pooled A) → shape q ≡ shape p → shape (front k q) ≡ shape (front k p)
  front_step k q p same = λ i. record {
    held = (held_front k q.slots ∙ ap (λ (s : Shape). take k s.held) same ∙ sym (held_front k p.slots)) i;
    free = (same i).free;
  }

-- ---- the messages of the table

module _ {s : Numbered} (kept : IsKept s) where
  abbrev pub own_messages : Pooled Message
  own_messages = front s.table.pool s.ports.messages

  pub message_step : shape own_messages ≡ shape (pool_of variant.Message s.table)
  message_step = kept.in_step variant.Message

  -- the number of a message is before those of the requests
  pub message_small : table.IsSoundTable s.table → (m : ℕ) → IsSome (slot (places variant.Message s) m) → m < s.table.pool
  message_small sound m lives =
      let item = item_of (slot (places variant.Message s) m) lives in
      omega (arith, slot_known (places variant.Message s) m item.0 item.1, sound.each variant.Message)

  -- what has an address among the messages is a message
  pub message_live : table.IsSoundTable s.table → (m : ℕ) → IsSome (slot (places variant.Message s) m) → IsTrue (is_message m s.ports)
  message_live sound m lives =
      ap is_some (sym (slot_front s.table.pool s.ports.messages.slots m (message_small sound m lives)))
      ∙ sym (shape_lives (pool_of variant.Message s.table) own_messages message_step m) ∙ lives

  -- and a message before the requests has an address
  pub message_has : (m : ℕ) → m < s.table.pool → IsTrue (is_message m s.ports) → IsSome (slot (places variant.Message s) m)
  message_has m small lives =
      shape_lives (pool_of variant.Message s.table) own_messages message_step m
      ∙ ap is_some (slot_front s.table.pool s.ports.messages.slots m small) ∙ lives

  -- the next message has the number that the table gives next
  pub message_next_number : next_number s.ports.messages ≡ next_number (pool_of variant.Message s.table)
  message_next_number = shape_next (pool_of variant.Message s.table) own_messages message_step
