-- What a call on a request by number makes of the objects, as it is reported step by step.
use Rattle.std.proofs.Common.{◌≡◌, ℕ, zero, suc, List, [], ◌∷◌, Bool, true, false, cond, slice_set, w8, to_z, of_z, refl, ap, sym, ◌∙◌, ℤ, pos, negsuc, if◌then◌else◌, Some, None, Option, Ok, Err, Result, filter, is_ok, is_some, option_map, ◌&&◌, ◌||◌, ◌==◌, IsTrue, eq-eqb}
use Rattle.std.specs.List.{list_any}
use Rattle.std.proofs.lemmas.Bool.{or_left, or_right}
use Rattle.execlist.specs.{Order.chosen, Order.chosen_or, Order.is_lower, Pool.Pooled, Answers.fault_or, Answers.kept_or}
use Rattle.iorequest.specs.declared.request.Begun.TheVariants.{Finish, NewTime, Queue, Until}
use Rattle.iorequest.specs.Request.{adds, asks_time, in_progress, due_of, finished, is_to_wait, is_under_way, is_until, outcome, reply_port, sets_time, time_of}
use Rattle.iorequest.specs.{declared.fault.ReqFault.ReqFault, declared.request.Begun.Begun, declared.request.Request.Request as TimerRequest, Requests.is_request, Requests.request_at, Requests.with_request}
use Rattle.msgport.specs.Ports.{MessagePorts}
use Rattle.timerdev.specs.{Held.Held, Held.on_timer, Timing.Timer, Timing.Waiting, Timing.due_next, Timing.is_due, Timing.is_system, Timing.is_waiting, Timing.next_of, Timing.sooner, Timing.system_set, Timing.until_next}
use Rattle.execheap.specs.Requesting.{acting_at, acting_so, answering, begun_as, begun_now, begun_so, done_with, goes_on, on_timing, port_number, put_at}
use Rattle.execheap.specs.Numbered.{IsKept, IsSoundHeap, Numbered, message_of_request}
use Rattle.execheap.proofs.{Entries.some_same, KeptRequests.begun_here, KeptRequests.begun_port, KeptRequests.kept_done, Waits.IsTimed}

-- ---- what an answer reports

-- a call that was not refused
pub not_refused : {A : Type 0} (fault : Option ReqFault) (value answer : A) (result : Result A ReqFault) (old new q : Pooled TimerRequest)
    → result ≡ fault_or fault value → result ≡ Ok answer → q ≡ kept_or fault old new → q ≡ new
not_refused None value answer result old new q is ok next = next
not_refused (Some fault) value answer result old new q is ok next = let bad : false ≡ true = ap is_ok (sym is ∙ ok) in cc

abbrev ok_or : {A : Type 0} → A → Result A ReqFault → A
ok_or other (Ok answer) = answer
ok_or other (Err fault) = other

-- and its answer
pub answer_is : {A : Type 0} (fault : Option ReqFault) (value answer : A) (result : Result A ReqFault)
    → result ≡ fault_or fault value → result ≡ Ok answer → answer ≡ value
answer_is None value answer result is ok = ap (ok_or answer) (sym ok ∙ is)
answer_is (Some fault) value answer result is ok = let bad : false ≡ true = ap is_ok (sym is ∙ ok) in cc

-- ---- begun

abbrev error_in : Begun → ℤ
error_in (Finish error) = error
error_in _ = pos 0

-- an error that is answered at once is one of eight bits
abbrev as_byte : ℤ → ℤ
as_byte error = to_z w8 (of_z w8 error)

-- how a request goes on, by what it asks for
abbrev outcome_by : (sets wait until add ask : Bool) (time due : ℕ) → Begun
outcome_by sets wait until add ask time due =
    if sets then NewTime time
    else (if wait then (if until then Until time else Queue due)
    else Finish (if add then pos 0 else (if ask then pos 0 else (if sets then pos 0 else negsuc 2))))

outcome_byte : (sets wait until add ask : Bool) (time due : ℕ)
    → as_byte (error_in (outcome_by sets wait until add ask time due)) ≡ error_in (outcome_by sets wait until add ask time due)
outcome_byte true wait until add ask time due = refl
outcome_byte false true true add ask time due = refl
outcome_byte false true false add ask time due = refl
outcome_byte false false until true ask time due = refl
outcome_byte false false until false true time due = refl
outcome_byte false false until false false time due = refl

pub error_byte : (now system : ℕ) (q : TimerRequest) (error : ℤ) → outcome now system q ≡ Finish error → to_z w8 (of_z w8 error) ≡ error
error_byte now system q error goes =
    ap as_byte (sym (ap error_in goes))
    ∙ outcome_byte (sets_time q) (is_to_wait system q) (is_until q) (adds q) (asks_time q) (time_of q) (due_of now q) ∙ ap error_in goes

-- the time that is set is that of the request
new_time_by : (sets wait until add ask : Bool) (time due new : ℕ) → outcome_by sets wait until add ask time due ≡ NewTime new → new ≡ time
new_time_by true wait until add ask time due new is = cc
new_time_by false true true add ask time due new is = cc
new_time_by false true false add ask time due new is = cc
new_time_by false false until add ask time due new is = cc

pub new_time : (now system : ℕ) (q : TimerRequest) (time : ℕ) → outcome now system q ≡ NewTime time → time ≡ time_of q
new_time now system q time goes =
    new_time_by (sets_time q) (is_to_wait system q) (is_until q) (adds q) (asks_time q) (time_of q) (due_of now q) time goes

pub set_twice : {A : Type 0} (xs : List A) (n : ℕ) (x y : A) → slice_set (slice_set xs n x) n y ≡ slice_set xs n y
set_twice [] n x y = refl
set_twice (z ∷ xs) zero x y = refl
set_twice (z ∷ xs) (suc n) x y = ap (λ rest. z ∷ rest) (set_twice xs n x y)

module _ {s : Numbered} (sound : IsSoundHeap s) (r : ℕ) (lives : IsTrue (is_request r s.requests)) (quick : Bool) (system : ℕ)
    (told : system ≡ s.timing.timer.system) (start : Pooled TimerRequest)
    (is_begun : start ≡ with_request r (in_progress quick system (request_at r s.requests)) s.requests) where
  holds_now : request_at r start ≡ begun_as quick r s
  holds_now =
      ap (request_at r) is_begun
      ∙ begun_here sound r lives (in_progress quick system (request_at r s.requests)) (begun_port quick system (request_at r s.requests))
      ∙ ap (λ n. in_progress quick n (request_at r s.requests)) told

  -- the port where its reply is put
  answers : port_number (reply_port (request_at r start)) s.table ≡ answering (begun_as quick r s) s
  answers = ap (λ q. port_number (reply_port q) s.table) holds_now

  -- what is to be done for the reply of one that is done at once
  pub acting_once : (error : ℤ) → goes_on r s ≡ Finish error
      → acting_at (port_number (reply_port (request_at r start)) s.table) s.ports ≡ acting_so (goes_on r s) quick r s
  acting_once error goes = ap (λ o. acting_at o s.ports) answers ∙ ap (λ b. acting_so b quick r s) (sym goes)

  pub acting_set : (time : ℕ) → goes_on r s ≡ NewTime time
      → acting_at (port_number (reply_port (request_at r start)) s.table) s.ports ≡ acting_so (goes_on r s) quick r s
  acting_set time goes = ap (λ o. acting_at o s.ports) answers ∙ ap (λ b. acting_so b quick r s) (sym goes)

  module _ (error : ℤ) (m : ℕ) (is : m ≡ message_of_request r s) (q : Pooled TimerRequest) (p : MessagePorts)
      (is_q : q ≡ with_request r (finished error (request_at r start)) start)
      (is_p : p ≡ put_at (port_number (reply_port (request_at r start)) s.table) m s.ports) where
    pub begun_kept : (t : Held) → IsTimed false r s.timing t → IsKept (record s { requests = q; ports = p; timing = t })
    begun_kept t timed =
        kept_done sound r lives (in_progress quick system (request_at r s.requests)) (begun_port quick system (request_at r s.requests))
        m is error q p t
        (is_q ∙ ap (λ x. with_request r (finished error (request_at r x)) x) is_begun)
        (is_p ∙ ap (λ x. put_at (port_number (reply_port (request_at r x)) s.table) m s.ports) is_begun) timed

    begun_done : record s { requests = q; ports = p } ≡ done_with error (begun_as quick r s) r s
    begun_done = λ i. record s { requests = requests i; ports = (is_p ∙ (λ j. put_at (answers j) (is j) s.ports)) i } where
      requests : q ≡ with_request r (finished error (begun_as quick r s)) s.requests
      requests =
          is_q ∙ (λ i. with_request r (finished error (holds_now i)) (is_begun i))
          ∙ ap (λ slots. record { slots = slots; free = s.requests.free })
          (set_twice s.requests.slots r (Some (in_progress quick system (request_at r s.requests))) (Some (finished error (begun_as quick r s))))

    pub begun_once : goes_on r s ≡ Finish error → record s { requests = q; ports = p } ≡ begun_now quick r s
    begun_once goes = begun_done ∙ ap (λ b. begun_so b quick r s) (sym goes)

    pub begun_set : (time : ℕ) (t : Held) → t ≡ on_timer (system_set time) s.timing → error ≡ pos 0 → goes_on r s ≡ NewTime time
        → record s { requests = q; ports = p; timing = t } ≡ begun_now quick r s
    begun_set time t is_t none goes =
        (λ i. record (begun_done i) { timing = is_t i })
        ∙ ap (λ e. on_timing (system_set time) (done_with e (begun_as quick r s) r s)) none ∙ ap (λ b. begun_so b quick r s) (sym goes)

-- ---- those whose time has come

-- what is chosen is there
chosen_stands : (key : Waiting → ℤ) (xs : List Waiting) (w : Waiting) → chosen key xs ≡ Some w
    → list_any (λ (v : Waiting). v.request == w.request) xs ≡ true
chosen_stands key [] w is = let bad : false ≡ true = ap is_some is in cc
chosen_stands key (x ∷ xs) w is = by_rest (chosen key xs) is (chosen_stands key xs w) where
  itself : Some x ≡ Some w → ((x.request == w.request) || list_any (λ (v : Waiting). v.request == w.request) xs) ≡ true
  itself same = or_left (x.request == w.request) (list_any (λ (v : Waiting). v.request == w.request) xs)
      (eq-eqb x.request w.request (ap (λ (v : Waiting). v.request) (some_same same)))

  by_key : (b : Bool) (y : Waiting) → (if b then Some y else Some x) ≡ Some w
      → (Some y ≡ Some w → list_any (λ (v : Waiting). v.request == w.request) xs ≡ true)
      → ((x.request == w.request) || list_any (λ (v : Waiting). v.request == w.request) xs) ≡ true
  by_key true y is rest = or_right (x.request == w.request) (list_any (λ (v : Waiting). v.request == w.request) xs) (rest is)
  by_key false y is rest = itself is

  by_rest : (o : Option Waiting) → chosen_or key x o ≡ Some w → (o ≡ Some w → list_any (λ (v : Waiting). v.request == w.request) xs ≡ true)
      → ((x.request == w.request) || list_any (λ (v : Waiting). v.request == w.request) xs) ≡ true
  by_rest None is rest = itself is
  by_rest (Some y) is rest = by_key (is_lower key x y) y is rest

-- and so does what is left of those that are
filter_stands : (passes : Waiting → Bool) (r : ℕ) (xs : List Waiting) → list_any (λ (w : Waiting). w.request == r) (filter passes xs) ≡ true
    → list_any (λ (w : Waiting). w.request == r) xs ≡ true
filter_stands passes r [] is = is
filter_stands passes r (x ∷ xs) is = by_test (passes x) is (filter_stands passes r xs) where
  by_both : (a b c : Bool) → (a || b) ≡ true → (b ≡ true → c ≡ true) → (a || c) ≡ true
  by_both true b c is rest = refl
  by_both false b c is rest = rest is

  by_test : (b : Bool) → list_any (λ (w : Waiting). w.request == r) (cond b (x ∷ filter passes xs) (filter passes xs)) ≡ true
      → (list_any (λ (w : Waiting). w.request == r) (filter passes xs) ≡ true → list_any (λ (w : Waiting). w.request == r) xs ≡ true)
      → ((x.request == r) || list_any (λ (w : Waiting). w.request == r) xs) ≡ true
  by_test true is rest =
      by_both (x.request == r) (list_any (λ (w : Waiting). w.request == r) (filter passes xs)) (list_any (λ (w : Waiting). w.request == r) xs)
      is rest
  by_test false is rest = or_right (x.request == r) (list_any (λ (w : Waiting). w.request == r) xs) (rest is)

-- a request that finishes next waits
next_waits : (passes : Waiting → Bool) (timer : Timer) (r : ℕ) → next_of passes timer ≡ Some r → is_waiting r timer ≡ true
unfolding next_of
next_waits passes timer r is = by_chosen (chosen (sooner timer) (filter passes timer.waiting)) refl is where
  by_chosen : (o : Option Waiting) → chosen (sooner timer) (filter passes timer.waiting) ≡ o
      → option_map (λ (w : Waiting). w.request) o ≡ Some r → is_waiting r timer ≡ true
  by_chosen None is e = let bad : false ≡ true = ap is_some e in cc
  by_chosen (Some w) is e =
      filter_stands passes r timer.waiting
      (ap (λ n. list_any (λ (v : Waiting). v.request == n) (filter passes timer.waiting)) (sym (some_same e))
      ∙ chosen_stands (sooner timer) (filter passes timer.waiting) w is)

pub due_waits : (timer : Timer) (r : ℕ) → due_next timer ≡ Some r → is_waiting r timer ≡ true
unfolding due_next
due_waits timer r is = next_waits (λ (w : Waiting). is_due timer w.due) timer r is

pub until_waits : (timer : Timer) (r : ℕ) → until_next timer ≡ Some r → is_waiting r timer ≡ true
unfolding until_next
until_waits timer r is = next_waits (λ (w : Waiting). is_system w.due && is_due timer w.due) timer r is

pub both_hold : (a b : Bool) → (a && b) ≡ true → (a ≡ true) × (b ≡ true)
both_hold true true e = (refl, refl)
both_hold true false e = let bad : false ≡ true = e in cc
both_hold false b e = let bad : false ≡ true = e in cc

-- one that waits lives and is in progress
pub waiting_under_way : {s : Numbered} → IsKept s → (r : ℕ) → is_waiting r s.timing.timer ≡ true
    → IsTrue (is_request r s.requests) × IsTrue (is_under_way (request_at r s.requests))
waiting_under_way {s} kept r waits =
    both_hold (is_request r s.requests) (is_under_way (request_at r s.requests)) (sym (kept.in_time.waits r) ∙ waits)
