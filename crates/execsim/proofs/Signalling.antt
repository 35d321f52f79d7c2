-- How the machine follows the words of signals.
use Rattle.std.proofs.Common.{◌≡◌, ℕ, ℤ, ◌-◌, true, false, Option, refl, ap, sym, codes, nat_eq, w32}
use Rattle.std.specs.Int.{cast_signed, cast_unsigned}
use Rattle.execlist.specs.Disciplines.{by_arrival, by_priority}
use Rattle.signals.specs.Signals.{taken_signals, grant, grant_number, is_own_signal, after_free}
use Rattle.taskq.specs.Tasks.{is_live}
use Rattle.scheduler.specs.Schedule.{Schedule, signals_of, come_for, after_wait, waits_for, takes_signals, allocates_signal, frees_signal, sets_signals, status_of, with_signals}
use Rattle.scheduler.specs.Dispatch.{signalled}
use Rattle.execmodel.specs.{State.Call, State.on_schedule, Calls.Caller, Calls.argument, Calls.done, Calls.done_by, Calls.answered, Calls.alerted, Calls.alerted_by, Signals.is_task, Signals.is_mask, Signals.does_alloc_signal, Signals.does_free_signal, Signals.does_set_signal, Signals.does_signal_by, Signals.waited, Signals.does_wait}
use Rattle.execsim.specs.Agreement.{Seen, Follows, in_order}
use Rattle.execsim.proofs.{Following.reads_schedule, Following.reads_scripts, Following.moves_schedule, Following.follows_as, Following.follows_change, Ordering.by_test, Ordering.signalled-in_order}
use Rattle.exectrace.specs.Hearing.{Hearing}
use Rattle.script.specs.declared.alert.Alert.TheVariants as an_alert

pub allocates-in_order : (t : ℕ) (n : ℤ) (y : Schedule) → allocates_signal t n (in_order y) ≡ in_order (allocates_signal t n y)
unfolding allocates_signal
allocates-in_order t n y = refl

pub sets_signals-in_order : (t new mask : ℕ) (y : Schedule) → sets_signals t new mask (in_order y) ≡ in_order (sets_signals t new mask y)
unfolding sets_signals
sets_signals-in_order t new mask y = refl

pub frees-in_order : (t n : ℕ) (y : Schedule) → frees_signal t n (in_order y) ≡ in_order (frees_signal t n y)
unfolding frees_signal
frees-in_order t n y = by_test (is_live (status_of y t)) (with_signals t (after_free n (signals_of y t)) y) y _ _ refl refl

pub allocated : {H : Hearing} {m n o : Seen} {a b : H.Told} (t : ℕ) (call : Call) (signal : ℕ)
    → signal ≡ cast_unsigned w32 (grant_number (grant (cast_signed w32 (argument 0 call)) (signals_of m.schedule t)))
    → n ≡ record m { schedule = allocates_signal t (cast_signed w32 (argument 0 call)) m.schedule }
    → Follows H (answered t call signal) n o a b → Follows H (does_alloc_signal t call) m o a b
unfolding does_alloc_signal
allocated {H} {m} t call signal given is follows =
    let change = allocates_signal t (cast_signed w32 (argument 0 call)) in
    follows_as {g = λ s. answered t call signal (on_schedule change s)}
    (λ s e. ap (λ value. answered t call value (on_schedule change s))
    (reads_schedule (λ y. cast_unsigned w32 (grant_number (grant (cast_signed w32 (argument 0 call)) (signals_of y t)))) (λ y. refl) (sym given) s e))
    (follows_change (moves_schedule change change (allocates-in_order t (cast_signed w32 (argument 0 call))) is) follows)

module _ {H : Hearing} {m n : Seen} {a b : H.Told} (t : ℕ) (call : Call) where
  pub free_none : nat_eq (argument 0 call) 0xffffffff ≡ true → Follows H (done t call) m n a b → Follows H (does_free_signal t call) m n a b
  unfolding does_free_signal
  free_none none follows = follows_as (λ s e. rw none refl) follows

  pub free_other : nat_eq (argument 0 call) 0xffffffff ≡ false → is_own_signal (argument 0 call) ≡ false
      → Follows H (alerted an_alert.Mask t call) m n a b → Follows H (does_free_signal t call) m n a b
  unfolding does_free_signal
  free_other some other follows = follows_as (λ s e. rw (some, other) refl) follows

  pub free_own : {o : Seen} → nat_eq (argument 0 call) 0xffffffff ≡ false → is_own_signal (argument 0 call) ≡ true
      → n ≡ record m { schedule = frees_signal t (argument 0 call) m.schedule } → Follows H (done t call) n o a b → Follows H (does_free_signal t call) m o a b
  unfolding does_free_signal
  free_own some own is follows = follows_as {g = λ s. done t call (on_schedule (frees_signal t (argument 0 call)) s)} (λ s e. rw (some, own) refl)
      (follows_change (moves_schedule (frees_signal t (argument 0 call)) (frees_signal t (argument 0 call)) (frees-in_order t (argument 0 call)) is) follows)

  pub set_unmasked : is_mask (argument 1 call) ≡ false → Follows H (alerted an_alert.Mask t call) m n a b → Follows H (does_set_signal t call) m n a b
  unfolding does_set_signal
  set_unmasked unmasked follows = follows_as (λ s e. rw unmasked refl) follows

  pub set_masked : {o : Seen} (received : ℕ) → is_mask (argument 1 call) ≡ true → received ≡ (signals_of m.schedule t).received
      → n ≡ record m { schedule = sets_signals t (argument 0 call) (argument 1 call) m.schedule }
      → Follows H (answered t call received) n o a b → Follows H (does_set_signal t call) m o a b
  unfolding does_set_signal
  set_masked received masked was is follows =
      let change = sets_signals t (argument 0 call) (argument 1 call) in
      follows_as {g = λ s. answered t call received (on_schedule change s)}
      (λ s e.
      let same : (signals_of s.schedule t).received ≡ received = reads_schedule (λ y. (signals_of y t).received) (λ y. refl) (sym was) s e in
      rw (masked, same) refl)
      (follows_change (moves_schedule change change (sets_signals-in_order t (argument 0 call) (argument 1 call)) is) follows)

module _ {H : Hearing} {m n : Seen} {a b : H.Told} (t : ℕ) (call : Call) where
  pub wait_unmasked : is_mask (argument 0 call) ≡ false → Follows H (alerted an_alert.Mask t call) m n a b → Follows H (does_wait t call) m n a b
  unfolding does_wait
  wait_unmasked unmasked follows = follows_as (λ s e. rw unmasked refl) follows

module _ {H : Hearing} {m n : Seen} {a b : H.Told} (c : Caller) (call : Call) where
  pub signal_unknown : is_task (argument 0 call) m.scripts ≡ false → Follows H (alerted_by an_alert.Handle c call) m n a b → Follows H (does_signal_by c call) m n a b
  signal_unknown unknown follows = follows_as
      (λ s e. let same : is_task (argument 0 call) s.scripts ≡ false = reads_scripts (is_task (argument 0 call)) unknown s e in rw same refl) follows

  pub signal_unmasked : is_task (argument 0 call) m.scripts ≡ true → is_mask (argument 1 call) ≡ false
      → Follows H (alerted_by an_alert.Mask c call) m n a b → Follows H (does_signal_by c call) m n a b
  signal_unmasked known unmasked follows = follows_as
      (λ s e. let same : is_task (argument 0 call) s.scripts ≡ true = reads_scripts (is_task (argument 0 call)) known s e in rw (same, unmasked) refl) follows

  pub signal_sent : {o : Seen} → is_task (argument 0 call) m.scripts ≡ true → is_mask (argument 1 call) ≡ true
      → n ≡ record m { schedule = signalled by_priority (argument 0 call - 1) (argument 1 call) m.schedule }
      → Follows H (done_by c call) n o a b → Follows H (does_signal_by c call) m o a b
  signal_sent known masked is follows = follows_as
      {g = λ s. done_by c call (on_schedule (signalled by_arrival (argument 0 call - 1) (argument 1 call)) s)}
      (λ s e. let same : is_task (argument 0 call) s.scripts ≡ true = reads_scripts (is_task (argument 0 call)) known s e in rw (same, masked) refl)
      (follows_change (moves_schedule (signalled by_arrival (argument 0 call - 1) (argument 1 call)) (signalled by_priority (argument 0 call - 1) (argument 1 call)) (signalled-in_order (argument 0 call - 1) (argument 1 call)) is) follows)

after_wait-in_order : (t mask : ℕ) (y : Schedule) → after_wait t mask (in_order y) ≡ in_order (after_wait t mask y)
unfolding waits_for takes_signals
after_wait-in_order t mask y = by_test (nat_eq (taken_signals mask (signals_of y t)) 0) (waits_for t mask y) (takes_signals t mask y) _ _ refl refl

pub wait_tried : {H : Hearing} {m n o : Seen} {a b : H.Told} (t : ℕ) (call : Call) (answer : Option ℕ) → is_mask (argument 0 call) ≡ true
    → answer ≡ come_for (argument 0 call) (signals_of m.schedule t) → n ≡ record m { schedule = after_wait t (argument 0 call) m.schedule }
    → Follows H (waited t call answer) n o a b → Follows H (does_wait t call) m o a b
unfolding does_wait
wait_tried t call answer masked come is follows = follows_as
    {g = λ s. waited t call answer (on_schedule (after_wait t (argument 0 call)) s)}
    (λ s e.
    let same : come_for (argument 0 call) (signals_of s.schedule t) ≡ answer =
    reads_schedule (λ y. come_for (argument 0 call) (signals_of y t)) (λ y. refl) (sym come) s e in
    rw (masked, same) refl)
    (follows_change (moves_schedule (after_wait t (argument 0 call)) (after_wait t (argument 0 call)) (after_wait-in_order t (argument 0 call)) is) follows)
