-- How the machine follows the words of libraries.
use Rattle.std.proofs.Common.{◌≡◌, ◌≢◌, ℕ, [], false, Option, None, Some, List, refl, ap, sym, ◌∙◌, Result, OnOk, OnErr, ◌-◌, ◌&&◌, nat_eq, unwrap_or}
use Rattle.memlist.proofs.Answered.{nat_eq-other}
use Rattle.execmodel.specs.Libraries.{base_of, base_opened, base_or_place, close_alert, closed, count_of, does_close_library, does_open_library, entered_or_loaded, is_delayed, library_at, library_opened, library_to_open, opened, opening, ready_to_load, ready_to_open}
use Rattle.execmodel.specs.{State.Call, State.Library, State.Memory, State.on_memory, Calls.argument, Calls.name_argument, Calls.answered, Calls.done, Calls.unless, Memory.place_for}
use Rattle.execlib.specs.Libraries.{public_memory}
use Rattle.execheap.specs.{declared.refusal.Refusal.Refusal, Refusals.alert_of}
use Rattle.execsim.specs.{Agreement.Seen, Agreement.Follows, Agreement.queues_in_order, Endings.done_or_alerted}
use Rattle.execsim.proofs.{Allocating.placed-in_order, Following.reads_memory, Following.moves_memory, Following.follows_as, Following.follows_change, LowMemory.asking-in_order, LowMemory.freed_or-in_order, Listing.heap_changed}
use Rattle.exectrace.specs.Hearing.{Hearing}

-- ---- the order of the public ports is of no account

loading-in_order : (base : Option ℕ) (i : ℕ) (y : Memory) → ready_to_load base i (queues_in_order y) ≡ queues_in_order (ready_to_load base i y)
loading-in_order (Some base) i y = refl
loading-in_order None i y = asking-in_order (library_at i y).size public_memory y

-- the memory before an opening, if libraries were asked for memory
ready-in_order : (found : Option ℕ) (y : Memory) → ready_to_open found (queues_in_order y) ≡ queues_in_order (ready_to_open found y)
unfolding ready_to_open
ready-in_order None y = refl
ready-in_order (Some i) y = loading-in_order (base_of i y.heap) i y

entered-in_order : (base : Option ℕ) (i : ℕ) (y : Memory) → entered_or_loaded base i (queues_in_order y) ≡ queues_in_order (entered_or_loaded base i y)
entered-in_order (Some base) i y = refl
entered-in_order None i y =
    placed-in_order (library_at i y).size (Library i 1 false) (place_for (library_at i y).size public_memory y) y

found-in_order : (found : Option ℕ) (y : Memory) → library_opened found (queues_in_order y) ≡ queues_in_order (library_opened found y)
found-in_order None y = refl
found-in_order (Some i) y = entered-in_order (base_of i y.heap) i y

pub opened-in_order : (name : List ℕ) (version : ℕ) (y : Memory) → opened name version (queues_in_order y) ≡ queues_in_order (opened name version y)
unfolding opened
opened-in_order name version y =
    let found = library_to_open name version y in
    ap (library_opened found) (ready-in_order found y) ∙ found-in_order found (ready_to_open found y)

lies-in_order : (base : Option ℕ) (i : ℕ) (y : Memory) → base_or_place base i (queues_in_order y) ≡ base_or_place base i y
lies-in_order (Some base) i y = refl
lies-in_order None i y = refl

based-in_order : (found : Option ℕ) (y : Memory) → base_opened found (queues_in_order y) ≡ base_opened found y
based-in_order None y = refl
based-in_order (Some i) y = lies-in_order (base_of i y.heap) i y

pub opening-in_order : (name : List ℕ) (version : ℕ) (y : Memory) → opening name version (queues_in_order y) ≡ opening name version y
unfolding opening
opening-in_order name version y =
    let found = library_to_open name version y in
    ap (base_opened found) (ready-in_order found y) ∙ based-in_order found (ready_to_open found y)

pub closed-in_order : (base : ℕ) (y : Memory) → closed base (queues_in_order y) ≡ queues_in_order (closed base y)
unfolding closed
closed-in_order base y =
    freed_or-in_order (nat_eq (count_of base y.heap) 1 && is_delayed base y.heap) base (count_of base y.heap - 1) (is_delayed base y.heap) y

-- ---- the words

module _ {H : Hearing} {m o : Seen} {a b : H.Told} (t : ℕ) (call : Call) where
  pub open_answered : {n : Seen} (base : Option ℕ) → base ≡ opening (unwrap_or (name_argument 0 call) []) (argument 1 call) m.memory
      → n ≡ record m { memory = opened (unwrap_or (name_argument 0 call) []) (argument 1 call) m.memory }
      → Follows H (answered t call (unwrap_or base 0)) n o a b → Follows H (does_open_library t call) m o a b
  unfolding does_open_library
  open_answered base is changed follows =
      let name = unwrap_or (name_argument 0 call) [] in
      let version = argument 1 call in
      follows_as {g = λ s. answered t call (unwrap_or base 0) (on_memory (opened name version) s)}
      (λ s e. ap (λ found. answered t call (unwrap_or found 0) (on_memory (opened name version) s))
      (reads_memory (opening name version) (opening-in_order name version) (sym is) s e))
      (follows_change (moves_memory (opened name version) (opened name version) (opened-in_order name version) changed) follows)

  pub close_none : argument 0 call ≡ 0 → Follows H (done t call) m o a b → Follows H (does_close_library t call) m o a b
  unfolding does_close_library
  close_none none follows = follows_as (λ s e. rw none refl) follows

  pub close_tried : (x : Memory) (result : Result (Unit {0}) Refusal) → argument 0 call ≢ 0
      → alert_of result ≡ close_alert (argument 0 call) m.memory.heap → OnOk result (x ≡ closed (argument 0 call) m.memory)
      → OnErr result (x ≡ m.memory) → Follows H (done_or_alerted result t call) (record m { memory = x }) o a b
      → Follows H (does_close_library t call) m o a b
  unfolding does_close_library
  close_tried x result some says changed kept follows = follows_as
      {g = λ s. unless (close_alert (argument 0 call) s.memory.heap) t call (λ s. done t call (on_memory (closed (argument 0 call)) s)) s}
      (λ s e. let not_none : nat_eq (argument 0 call) 0 ≡ false = nat_eq-other (argument 0 call) 0 some in rw not_none refl)
      (heap_changed t call (close_alert (argument 0 call)) (closed (argument 0 call)) (closed-in_order (argument 0 call)) x result says changed kept follows)
