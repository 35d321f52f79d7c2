-- The machine keeps its public ports in the order in which they are searched, the abstract machine in order of arrival:
-- each change of them goes the same way in both, and each reading is the same.
use Rattle.std.proofs.Common.{◌≡◌, ℕ, ℤ, ◌≤◌, List, [], ◌∷◌, length, Bool, true, false, cond, refl, ap, sym, ◌∙◌, not, ◌||◌, ◌==◌, find, fold}
use Rattle.std.specs.List.{list_any}
use Rattle.std.proofs.lemmas.List.{get_or_past}
use Rattle.execlist.specs.{Order.order, Order.enqueue, Order.is_lower, Disciplines.by_priority}
use Rattle.execlist.proofs.OrderLaws.{order_takes, order_leaves_out, found_in_order}
use Rattle.taskq.specs.{Tasks.is_live, declared.TaskState.TheVariants.Absent}
use Rattle.scheduler.specs.{Schedule.Schedule, Schedule.status_of, Schedule.frees_signal, Dispatch.signalled}
use Rattle.execmodel.specs.{State.Memory, State.PublicPort, Ports.add_port_alert, Ports.delete_alert, Ports.found_port, Ports.is_called, Ports.is_public, Ports.made_private, Ports.made_public, Ports.port_or_none, Ports.priority_of_public, Ports.rem_port_alert, Ports.under}
use Rattle.execheap.specs.Listing.{listed}
use Rattle.execsim.specs.Agreement.{queues_in_order}

-- ---- public ports

pub listed-in_order : (port : ℕ) (name : List ℕ) (pri : ℤ) (y : Memory)
    → listed port name pri (queues_in_order y) ≡ queues_in_order (made_public port name pri y)
unfolding listed made_public
listed-in_order port name pri y =
    ap (λ public. record (queues_in_order y) { public = public }) (sym (order_takes PublicPort priority_of_public y.public (under port name pri)))

pub made_private-in_order : (port : ℕ) (y : Memory) → made_private port (queues_in_order y) ≡ queues_in_order (made_private port y)
unfolding made_private
made_private-in_order port y = ap (λ public. record (queues_in_order y) { public = public })
    (sym (order_leaves_out PublicPort priority_of_public (λ (public : PublicPort). not (public.port == port)) y.public))

pub found-in_order : (name : List ℕ) (y : Memory) → port_or_none (find (is_called name) (queues_in_order y).public) ≡ found_port name y
unfolding found_port
found-in_order name y = ap port_or_none (found_in_order PublicPort priority_of_public (is_called name) y.public)

-- ---- what is public

module _ {A : Type 0} (key : A → ℤ) (test : A → Bool) where
  any_put : (ys : List A) (x : A) → list_any test (enqueue key ys x) ≡ (test x || list_any test ys)
  any_put [] x = refl
  any_put (y ∷ ys) x = split (any_put ys x) (is_lower key y x) where
    swap : (p q r s : Bool) → s ≡ (q || r) → (p || s) ≡ (q || (p || r))
    swap true true r s e = refl
    swap true false r s e = refl
    swap false true r s e = e
    swap false false r s e = e

    split : list_any test (enqueue key ys x) ≡ (test x || list_any test ys) → (lower : Bool)
        → list_any test (cond lower (x ∷ y ∷ ys) (y ∷ enqueue key ys x)) ≡ (test x || (test y || list_any test ys))
    split before true = refl
    split before false = swap (test y) (test x) (list_any test ys) (list_any test (enqueue key ys x)) before

  any_all_put : (s xs : List A) → list_any test (fold (enqueue key) s xs) ≡ (list_any test s || list_any test xs)
  any_all_put s [] = or_false (list_any test s) where
    or_false : (p : Bool) → p ≡ (p || false)
    or_false true = refl
    or_false false = refl
  any_all_put s (x ∷ xs) =
      any_all_put (enqueue key s x) xs ∙ ap (λ p. p || list_any test xs) (any_put s x) ∙ moved (test x) (list_any test s) (list_any test xs)
    where
      moved : (p q r : Bool) → ((p || q) || r) ≡ (q || (p || r))
      moved true true r = refl
      moved true false r = refl
      moved false true r = refl
      moved false false r = refl

  -- some item passes a test in any order
  any-in_order : (xs : List A) → list_any test (order key xs) ≡ list_any test xs
  unfolding order
  any-in_order xs = any_all_put [] xs

is_public-in_order : (port : ℕ) (y : Memory) → is_public port (queues_in_order y) ≡ is_public port y
is_public-in_order port y = any-in_order priority_of_public (λ (public : PublicPort). public.port == port) y.public

pub delete_alert-in_order : (port : ℕ) (y : Memory) → delete_alert port (queues_in_order y) ≡ delete_alert port y
unfolding delete_alert
delete_alert-in_order port y = rw (is_public-in_order port y) refl

pub add_port_alert-in_order : (port : ℕ) (pri : ℤ) (y : Memory) → add_port_alert port pri (queues_in_order y) ≡ add_port_alert port pri y
unfolding add_port_alert
add_port_alert-in_order port pri y = rw (is_public-in_order port y) refl

pub rem_port_alert-in_order : (port : ℕ) (y : Memory) → rem_port_alert port (queues_in_order y) ≡ rem_port_alert port y
unfolding rem_port_alert
rem_port_alert-in_order port y = rw (is_public-in_order port y) refl

-- ---- tasks that there are not

-- a number past the last task is that of no live one
not_live : (t : ℕ) (s : Schedule) → length s.queue.states ≤ t → is_live (status_of s t) ≡ false
not_live t s past = ap is_live (get_or_past s.queue.states t Absent past)

pub signalled_past : (t mask : ℕ) (s : Schedule) → length s.queue.states ≤ t → signalled by_priority t mask s ≡ s
unfolding signalled
signalled_past t mask s past = rw (not_live t s past) refl

pub frees_past : (t n : ℕ) (s : Schedule) → length s.queue.states ≤ t → frees_signal t n s ≡ s
unfolding frees_signal
frees_past t n s past = rw (not_live t s past) refl
