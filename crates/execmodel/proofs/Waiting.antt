-- Where tasks wait for semaphores: the one address that is found for a task is the only one if it waits.
use Rattle.std.proofs.Common.{◌≡◌, ◌≢◌, ℕ, suc, ◌+◌, ◌<◌, ◌≤◌, Bool, true, false, List, [], ◌∷◌, Option, None, Some, refl, sym, ap, ◌∙◌, subst, arith, cond, if◌then◌else◌, nat_eq, find, ◌==◌, ◌||◌, option_map, nat_cmp}
use Rattle.std.specs.{List.list_any, Ordering.eq_by_cmp}
use Rattle.memlist.specs.{declared.region.Region.Region, Memory.IsWellFormed}
use Rattle.memlist.proofs.{Answered.nat_eq-same, Answered.nat_eq-other, Answered.cases_eq, Answered.key_same, Answered.key_other, Keeping.rising_sorted, Merged.IsRising, Slots.AllFrom}
use Rattle.taskq.specs.declared.TaskState.TheVariants.{Running}
use Rattle.scheduler.specs.Schedule.{Schedule, status_of, is_at_semaphore}
use Rattle.execmodel.specs.{State.Block, State.Heap, Memory.extents, Memory.block_at, Semaphores.waiters_in, Semaphores.waiters_of, Semaphores.waiters_of_object, Semaphores.has_waiter, Semaphores.awaited_by, Agreement.Agrees}
use Rattle.execlist.specs.Lists.{times}
use Rattle.execmodel.proofs.{Heaps.true_is_not_false, Commands.none_some, Fifo.both_false, Agreement.never_away, Agreement.first_stands, Agreement.later_stands, Agreement.only_there, Agreement.waits_at, Agreement.running_state, Passing.IsNowhere, Passing.WaitsAtOne}

-- one who is found in a queue is there, and one who is not does not
waiter_stands : (t : ℕ) (q : List ℕ) → list_any (λ other. other == t) q ≡ true → 0 < times t q
waiter_stands t [] e = true_is_not_false (sym e)
waiter_stands t (x ∷ q) e =
    cases_eq x t
    (λ same. first_stands t x q same)
    (λ apart. later_stands t x q (waiter_stands t q (ap (λ b. b || list_any (λ other. other == t) q) (sym (nat_eq-other x t apart)) ∙ e)))

no_waiter : (t : ℕ) (q : List ℕ) → list_any (λ other. other == t) q ≡ false → times t q ≡ 0
no_waiter t [] e = refl
no_waiter t (x ∷ q) e =
    both_false (nat_eq x t) (list_any (λ other. other == t) q) e
    (λ one rest. cases_eq t x
    (λ same. true_is_not_false (sym (ap (λ k. nat_eq x k) same ∙ nat_eq-same x) ∙ one))
    (λ apart. ap (λ b. if b then suc (times t q) else times t q) (nat_eq-other x t (λ e. apart (sym e))) ∙ no_waiter t q rest))

-- the waiters of what a look-up finds
abbrev waiters_in_block : Option Block → List ℕ
waiters_in_block found = waiters_of_object (option_map (λ (block : Block). block.object) found)

-- the entry at an address of its own, and the entries after it
at_entry : (entry : ℕ × Block) (rest : Heap) → waiters_of entry.0 (entry ∷ rest) ≡ waiters_in entry.1.object
unfolding waiters_of
at_entry entry rest = ap (λ b. waiters_in_block (cond b (Some entry.1) (block_at entry.0 rest))) (key_same entry.0)

behind_entry : (a : ℕ) (entry : ℕ × Block) (rest : Heap) → a ≢ entry.0 → waiters_of a (entry ∷ rest) ≡ waiters_of a rest
unfolding waiters_of
behind_entry a entry rest apart = ap (λ b. waiters_in_block (cond b (Some entry.1) (block_at a rest))) (key_other a entry.0 apart)

-- if no entry has the task, it waits nowhere
none_cond : (t a : ℕ) (b : Bool) (entry : ℕ × Block) (found : Option Block) → times t (waiters_in entry.1.object) ≡ 0
    → times t (waiters_in_block found) ≡ 0 → times t (waiters_in_block (cond b (Some entry.1) found)) ≡ 0
none_cond t a true entry found one rest = one
none_cond t a false entry found one rest = rest

none_found : (t : ℕ) (heap : Heap) → find (has_waiter t) heap ≡ None → (a : ℕ) → times t (waiters_of a heap) ≡ 0
unfolding waiters_of
none_found t [] e a = refl
none_found t (entry ∷ rest) e a =
    none_cond t a (eq_by_cmp nat_cmp a entry.0) entry (block_at a rest) (no_waiter t (waiters_in entry.1.object) (here (has_waiter t entry) e))
    (none_found t rest (later (has_waiter t entry) e) a)
  where
    here : (b : Bool) → cond b (Some entry) (find (has_waiter t) rest) ≡ None → b ≡ false
    here true e = none_some e
    here false e = refl

    later : (b : Bool) → cond b (Some entry) (find (has_waiter t) rest) ≡ None → find (has_waiter t) rest ≡ None
    later true e = none_some e
    later false e = e

some_entry : {x y : ℕ × Block} → Some x ≡ Some y → x ≡ y
some_entry {x} {y} e = cc

-- if one has it, the task waits at its address
found_here : (t : ℕ) (x entry : ℕ × Block) (rest : Heap) (low : ℕ) → low ≤ x.0 → has_waiter t x ≡ true → x ≡ entry
    → (0 < times t (waiters_of entry.0 (x ∷ rest))) × (low ≤ entry.0)
found_here t x entry rest low from is same =
    subst (λ e. (0 < times t (waiters_of e.0 (x ∷ rest))) × (low ≤ e.0)) same
    (subst (λ q. 0 < times t q) (sym (at_entry x rest)) (waiter_stands t (waiters_in x.1.object) is), from)

found_later : (t : ℕ) (x entry : ℕ × Block) (rest : Heap) (low : ℕ) → low ≤ x.0
    → (0 < times t (waiters_of entry.0 rest)) × (x.0 + 1 ≤ entry.0) → (0 < times t (waiters_of entry.0 (x ∷ rest))) × (low ≤ entry.0)
found_later t x entry rest low from found =
    let apart : entry.0 ≢ x.0 = omega (arith, found.1) in (
      subst (λ q. 0 < times t q) (sym (behind_entry entry.0 x rest apart)) found.0,
      omega (arith, from, found.1),
    )

found_either : (t : ℕ) (x entry : ℕ × Block) (rest : Heap) (low : ℕ) (b : Bool) → low ≤ x.0 → has_waiter t x ≡ b
    → (find (has_waiter t) rest ≡ Some entry → (0 < times t (waiters_of entry.0 rest)) × (x.0 + 1 ≤ entry.0))
    → cond b (Some x) (find (has_waiter t) rest) ≡ Some entry → (0 < times t (waiters_of entry.0 (x ∷ rest))) × (low ≤ entry.0)
found_either t x entry rest low true from is later e = found_here t x entry rest low from is (some_entry e)
found_either t x entry rest low false from is later e = found_later t x entry rest low from (later e)

entry_found : (t : ℕ) (heap : Heap) (entry : ℕ × Block) (low : ℕ) → AllFrom low (extents heap) → IsRising (extents heap)
    → find (has_waiter t) heap ≡ Some entry → (0 < times t (waiters_of entry.0 heap)) × (low ≤ entry.0)
entry_found t [] entry low from rising e = none_some (sym e)
entry_found t (x ∷ rest) entry low from rising e =
    found_either t x entry rest low (has_waiter t x) from.0 refl (entry_found t rest entry (x.0 + 1) rising.0 rising.1) e

all_from_none : (heap : Heap) → AllFrom 0 (extents heap)
all_from_none [] = tt
all_from_none (x ∷ rest) = (omega arith, all_from_none rest)

waits_at_found : (t : ℕ) (s : Schedule) (heap : Heap) (found : Option (ℕ × Block)) → IsRising (extents heap) → Agrees t s (λ a. waiters_of a heap)
    → find (has_waiter t) heap ≡ found → WaitsAtOne t heap (option_map (λ (entry : ℕ × Block). entry.0) found)
waits_at_found t s heap None rising agrees e = λ a. never_away t (waiters_of a heap) (none_found t heap e a)
waits_at_found t s heap (Some entry) rising agrees e = λ a apart.
    never_away t (waiters_of a heap)
    (only_there (is_at_semaphore (status_of s t)) t (λ c. waiters_of c heap) entry.0 agrees.waits
    (entry_found t heap entry 0 (all_from_none heap) rising e).0 a apart)

pub waits_at_one : (regions : List Region) (t : ℕ) (s : Schedule) (heap : Heap) → IsWellFormed regions (extents heap)
    → Agrees t s (λ a. waiters_of a heap) → WaitsAtOne t heap (awaited_by t heap)
waits_at_one regions t s heap formed agrees =
    waits_at_found t s heap (find (has_waiter t) heap) (rising_sorted (extents heap) formed.in_order) agrees refl

-- the running task waits nowhere
pub runs_nowhere : (t : ℕ) (s : Schedule) (heap : Heap) → s.running ≡ Some t → Agrees t s (λ a. waiters_of a heap) → IsNowhere t heap
runs_nowhere t s heap runs agrees a =
    never_away t (waiters_of a heap) (waits_at t s (λ c. waiters_of c heap) Running (running_state t s (λ c. waiters_of c heap) runs agrees) agrees a)
