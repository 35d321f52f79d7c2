-- What is linked where: a port that is not public is in no list, a message that is not held in none of those, a free
-- port has no message, and what is freed leaves nothing after.
use Rattle.std.proofs.Common.{◌≡◌, ◌≢◌, ℕ, zero, suc, ◌<◌, ◌≤◌, true, false, cond, not, eqb, List, [], ◌∷◌, ◌++◌, length, refl, sym, ◌∙◌, ap, subst, arith, inl, inr, Option, Some, None, is_some, slice_set, IsTrue, drop, replicate, length-append, ◌⊎◌, ◌||◌, Bool, nat_lt, unwrap_or, IsSome, eq-eqb, ne_eqb, lt-ltb, length-set, length-drop}
use Rattle.std.proofs.lemmas.{Bool.cond-true, Bool.cond-false, Bool.cases_eq, Bool.cases_lt, List.length-replicate}
use Rattle.execlist.specs.{Order.first, Order.without_item, Lists.sequence, Lists.home, Lists.is_at, Lists.times, Pool.slot, Pool.Pooled, Pool.free_below}
use Rattle.msgport.specs.declared.fault.PortFault.TheVariants.{Unknown, Link}
use Rattle.msgport.specs.Ports.{MessagePorts, KeepsPorts, is_port, is_message, is_queued, is_linked, linked_fault, reply_fault, messages_of, appended, port_freed, message_freed, no_ports}
use Rattle.msgport.specs.{Port.Port, declared.message.Message.Message}
use Rattle.execlist.proofs.{Pools.item_of, Pools.slot_known, Pools.slot_other, Pools.slot_same, Pools.slot_new, LinkLemmas.none-there}

-- how often a node of that home is in header h
abbrev standing : Option ℕ → ℕ → ℕ
standing o h = cond (is_at o h) 1 0

-- a node is in the sequence of its home alone
abbrev Stands : List (List ℕ) → ℕ → Option ℕ → Type 0
Stands all n o = (h : ℕ) → times n (sequence all h) ≡ standing o h

stands_at : (h : ℕ) → standing (Some h) h ≡ 1
stands_at h = cond-true _ _ _ (eq-eqb h h refl)

only_one : (all : List (List ℕ)) (k : ℕ) → length all ≡ 1 → sequence all (suc k) ≡ []
only_one [] k one = absurd (omega (arith, one))
only_one (xs ∷ []) k one = refl
only_one (xs ∷ ys ∷ all) k one = absurd (omega (arith, one))

-- what is not in the only sequence is in none
pub not_listed : (all : List (List ℕ)) (n : ℕ) (o : Option ℕ) → length all ≡ 1 → Stands all n o → IsTrue (not (nat_lt 0 (times n (sequence all 0)))) → o ≡ None
not_listed all n None one stands none = refl
not_listed all n (Some zero) one stands none = absurd (let bad = rw (stands 0) at none in cc)
not_listed all n (Some (suc k)) one stands none =
    absurd (omega (arith, ap (times n) (only_one all k one), stands (suc k), stands_at (suc k)))

not_at : (o : Option ℕ) (h : ℕ) → (o ≡ Some h → ⊥) → standing o h ≡ 0
not_at None h other = refl
not_at (Some k) h other = by_case (cases_eq k h) where
  by_case : (k ≡ h) ⊎ (k ≡ h → ⊥) → standing (Some k) h ≡ 0
  by_case (inl e) = absurd (other (ap Some e))
  by_case (inr ne) = cond-false _ _ _ (ne_eqb k h ne)

-- a header without a node is empty
pub empty_where : (all : List (List ℕ)) (places : List (Option ℕ)) (h : ℕ) → ((m : ℕ) → times m (sequence all h) ≡ standing (home places m) h)
    → ((m : ℕ) → home places m ≡ Some h → ⊥) → sequence all h ≡ []
empty_where all places h stands nobody = none-there (sequence all h) (λ m. stands m ∙ not_at (home places m) h (nobody m))

first_none : (xs : List ℕ) → IsTrue (not (is_some (first xs))) → xs ≡ []
first_none [] none = refl
first_none (x ∷ xs) none = absurd cc

-- if a port has no message, no message is there
pub nobody_at : (all : List (List ℕ)) (m h : ℕ) (o : Option ℕ) → times m (sequence all h) ≡ standing o h
    → IsTrue (not (is_some (first (sequence all h)))) → o ≡ Some h → ⊥
nobody_at all m h o stands none e =
    omega (arith, ap (times m) (first_none (sequence all h) none), stands, ap (λ p. standing p h) e, stands_at h)

-- a home that is given up: each other is where it was
pub left_home : (places : List (Option ℕ)) (m n p : ℕ) → home (slice_set places m None) n ≡ Some p → home places n ≡ Some p
left_home places m n p e = by_case (cases_eq n m) (cases_lt m (length places)) where
  by_case : (n ≡ m) ⊎ (n ≡ m → ⊥) → (m < length places) ⊎ (length places ≤ m) → home places n ≡ Some p
  by_case (inl same) (inl known) =
      absurd (let bad : true ≡ false = ap is_some (sym e ∙ ap (home (slice_set places m None)) same ∙ slot_same places m None known) in cc)
  by_case (inl same) (inr beyond) = absurd (let within = slot_known (slice_set places m None) n p e in omega (arith, within, same, beyond, length-set places m None))
  by_case (inr other) known = sym (slot_other places m n None other) ∙ e

-- a home that is not given stays none
pub none_or : (o : Option ℕ) → ((p : ℕ) → o ≡ Some p → ⊥) → o ≡ None
none_or None never = refl
none_or (Some p) never = absurd (never p refl)

-- what is not in a sequence leaves it as it is
pub without_absent : (n : ℕ) (xs : List ℕ) → nat_lt 0 (times n xs) ≡ false → without_item n xs ≡ xs
without_absent n [] none = refl
without_absent n (x ∷ xs) none = by_case (eqb x n) none (without_absent n xs) where
  by_case : (b : Bool) → nat_lt 0 (cond b (suc (times n xs)) (times n xs)) ≡ false → (nat_lt 0 (times n xs) ≡ false → without_item n xs ≡ xs) → cond (not b) (x ∷ without_item n xs) (without_item n xs) ≡ x ∷ xs
  by_case true z rest = absurd (let bad : true ≡ false = sym (lt-ltb 0 (suc (times n xs)) (omega arith)) ∙ z in cc)
  by_case false z rest = ap (λ l. x ∷ l) (rest z)

-- neither of two
pub neither : (a b : Bool) → IsTrue (not (a || b)) → (a ≡ false) × (b ≡ false)
neither true b none = absurd cc
neither false true none = absurd cc
neither false false none = (refl, refl)

pub no_home : (o : Option ℕ) → is_some o ≡ false → o ≡ None
no_home None none = refl
no_home (Some h) none = absurd cc

-- a message that may be put anywhere is in no port and not held
pub loose_of : (m : ℕ) (s : MessagePorts) → linked_fault m s ≡ None → IsTrue (not (is_linked m s))
loose_of m s none = by_case (is_message m s) (is_linked m s) none where
  by_case : (a b : Bool) → cond (not a) (Some Unknown) (cond b (Some Link) None) ≡ None → IsTrue (not b)
  by_case false b e = absurd cc
  by_case true true e = absurd cc
  by_case true false e = refl

-- a message that may be replied to a port is in none
pub unqueued_of : (p m : ℕ) (s : MessagePorts) → reply_fault p m s ≡ None → is_queued m s ≡ false
unqueued_of p m s none = by_case (is_port p s) (is_message m s) (is_queued m s) none where
  by_case : (a b c : Bool) → cond (not a) (Some Unknown) (cond (not b) (Some Unknown) (cond c (Some Link) None)) ≡ None → c ≡ false
  by_case false b c e = absurd cc
  by_case true false c e = absurd cc
  by_case true true true e = absurd cc
  by_case true true false e = refl

-- what is in no port and not held, is not linked
pub both_not : (a b : Bool) → a ≡ false → b ≡ false → IsTrue (not (a || b))
both_not a b none none_held = rw none (rw none_held refl)

-- what no list of one names is in none
pub not_in : (all : List (List ℕ)) (n : ℕ) (o : Option ℕ) → length all ≡ 1 → Stands all n o → nat_lt 0 (times n (sequence all 0)) ≡ false → o ≡ None
not_in all n o one stands none = not_listed all n o one stands (ap not none)

-- what is linked stays linked to what lives
module _ {lists : ℕ} {listings : List (Option ℕ)} {stores : ℕ} {holdings : List (Option ℕ)} {s : MessagePorts} (held : KeepsPorts lists listings stores holdings s) where
  -- if a port is freed that has no message and is in no list
  pub freed_held : (p : ℕ) → ((m : ℕ) → home s.places m ≡ Some p → ⊥) → home listings p ≡ None → KeepsPorts lists listings stores holdings (port_freed p s)
  freed_held p nobody unlisted = record {
    one_list = held.one_list;
    one_store = held.one_store;
    each_queue = held.each_queue ∙ sym (length-set s.ports.slots p None);
    each_listing = held.each_listing ∙ sym (length-set s.ports.slots p None);
    each_place = held.each_place;
    each_holding = held.each_holding;
    apart = held.apart;
    live_held = held.live_held;
    live_message = held.live_message;
    live_port = λ m q e. lives q (λ same. nobody m (e ∙ ap Some same)) (held.live_port m q e);
    live_listed = λ q h e. lives q (λ same. let bad : true ≡ false = ap is_some (sym e ∙ ap (home listings) same ∙ unlisted) in cc) (held.live_listed q h e);
  } where
    lives : (q : ℕ) → q ≢ p → IsTrue (is_some (slot s.ports.slots q)) → IsTrue (is_some (slot (slice_set s.ports.slots p None) q))
    lives q other there = ap is_some (slot_other s.ports.slots p q None other) ∙ there

  -- if a message is freed that is in no port and not held
  pub unlinked_held : (m : ℕ) → home s.places m ≡ None → home holdings m ≡ None → KeepsPorts lists listings stores holdings (message_freed m s)
  unlinked_held m loose unheld = record {
    one_list = held.one_list;
    one_store = held.one_store;
    each_queue = held.each_queue;
    each_listing = held.each_listing;
    each_place = held.each_place ∙ sym (length-set s.messages.slots m None);
    each_holding = held.each_holding ∙ sym (length-set s.messages.slots m None);
    apart = held.apart;
    live_held = λ n h e. lives n (λ same. let bad : true ≡ false = ap is_some (sym e ∙ ap (home holdings) same ∙ unheld) in cc) (held.live_held n h e);
    live_message = λ n p e. lives n (λ same. let bad : true ≡ false = ap is_some (sym e ∙ ap (home s.places) same ∙ loose) in cc) (held.live_message n p e);
    live_port = held.live_port;
    live_listed = held.live_listed;
  } where
    lives : (n : ℕ) → n ≢ m → IsTrue (is_some (slot s.messages.slots n)) → IsTrue (is_some (slot (slice_set s.messages.slots m None) n))
    lives n other there = ap is_some (slot_other s.messages.slots m n None other) ∙ there

  -- if a message is put at a port
  pub appended_held : (p m : ℕ) → IsTrue (is_port p s) → IsTrue (is_message m s) → home holdings m ≡ None → KeepsPorts lists listings stores holdings (appended p m s)
  appended_held p m port message unheld = record {
    one_list = held.one_list;
    one_store = held.one_store;
    each_queue = length-set s.queues p (messages_of p s ++ m ∷ []) ∙ held.each_queue;
    each_listing = held.each_listing;
    each_place = length-set s.places m (Some p) ∙ held.each_place;
    each_holding = held.each_holding;
    apart = λ n h e. slot_other s.places m n (Some p) (λ same. let bad : true ≡ false = ap is_some (sym e ∙ ap (home holdings) same ∙ unheld) in cc) ∙ held.apart n h e;
    live_held = held.live_held;
    live_message = λ n q e. message_at n q (cases_eq n m) e;
    live_port = λ n q e. port_at n q (cases_eq n m) e;
    live_listed = held.live_listed;
  } where
    message_at : (n q : ℕ) → (n ≡ m) ⊎ (n ≡ m → ⊥) → home (slice_set s.places m (Some p)) n ≡ Some q → IsTrue (is_message n s)
    message_at n q (inl same) e = subst (λ k. IsTrue (is_message k s)) (sym same) message
    message_at n q (inr other) e = held.live_message n q (sym (slot_other s.places m n (Some p) other) ∙ e)

    port_at : (n q : ℕ) → (n ≡ m) ⊎ (n ≡ m → ⊥) → home (slice_set s.places m (Some p)) n ≡ Some q → IsTrue (is_port q s)
    port_at n q (inl same) e = subst (λ o. IsTrue (is_port (unwrap_or o 0) s))
        (sym (slot_same s.places m (Some p) (omega (arith, held.each_place, known))) ∙ sym (ap (home (slice_set s.places m (Some p))) same) ∙ e) port where
          known : m < length s.messages.slots
          known = slot_known s.messages.slots m _ (item_of (slot s.messages.slots m) message).1
    port_at n q (inr other) e = held.live_port n q (sym (slot_other s.places m n (Some p) other) ∙ e)

  -- if a message is taken out of its port, and what else is in the ports stays
  pub taken_held : (m : ℕ) (queues : List (List ℕ)) → length queues ≡ length s.queues → KeepsPorts lists listings stores holdings (record s { queues = queues; places = slice_set s.places m None })
  taken_held m queues each = record {
    one_list = held.one_list;
    one_store = held.one_store;
    each_queue = each ∙ held.each_queue;
    each_listing = held.each_listing;
    each_place = length-set s.places m None ∙ held.each_place;
    each_holding = held.each_holding;
    apart = λ n h e. none_or (home (slice_set s.places m None) n)
        (λ p f. let bad : true ≡ false = ap is_some (sym (left_home s.places m n p f) ∙ held.apart n h e) in cc);
    live_held = held.live_held;
    live_message = λ n p e. held.live_message n p (left_home s.places m n p e);
    live_port = λ n p e. held.live_port n p (left_home s.places m n p e);
    live_listed = held.live_listed;
  }

-- ---- no port and no message: what always holds of ports holds at first

-- no node is anywhere
nowhere : (count n h : ℕ) → home (replicate count None) n ≡ Some h → false ≡ true
nowhere count n h there = ap is_some (sym (slot_new ℕ count n) ∙ there)

-- No port and no link, and any messages: what always holds of ports holds when all are freed.
pub held_when_freed : (ports messages : ℕ) (all : Pooled Message) → length all.slots ≡ messages
    → KeepsPorts 1 (replicate ports None) 1 (replicate messages None) (record (no_ports ports messages) { messages = all })
held_when_freed ports messages all many = record {
  one_list = refl;
  one_store = refl;
  each_queue = length-replicate ports [] ∙ sym (length-replicate {A = Option Port} ports None);
  each_listing = length-replicate {A = Option ℕ} ports None ∙ sym (length-replicate {A = Option Port} ports None);
  each_place = length-replicate {A = Option ℕ} messages None ∙ sym many;
  each_holding = length-replicate {A = Option ℕ} messages None ∙ sym many;
  apart = λ m h there. (let bad = nowhere messages m h there in cc);
  live_held = λ m h there. (let bad = nowhere messages m h there in cc);
  live_message = λ m p there. (let bad = nowhere messages m p there in cc);
  live_port = λ m p there. (let bad = nowhere messages m p there in cc);
  live_listed = λ p h there. (let bad = nowhere ports p h there in cc);
}

pub held_at_first : (ports messages : ℕ) → KeepsPorts 1 (replicate ports None) 1 (replicate messages None) (no_ports ports messages)
held_at_first ports messages = held_when_freed ports messages (no_ports ports messages).messages (length-replicate {A = Option Message} messages None)

-- as many numbers as before
pub length-below : {A : Type 0} (count : ℕ) (pool : Pooled A) → count ≤ length pool.slots → length (free_below count pool).slots ≡ length pool.slots
length-below {A = A} count pool within =
    omega (arith, within, length-append (replicate {A = Option A} count None) (drop count pool.slots), length-replicate {A = Option A} count None, length-drop count pool.slots)

pub holds_item : {A : Type 0} (o : Option A) → IsTrue (is_some o) → IsSome o
holds_item None e = cc
holds_item (Some a) e = refl
