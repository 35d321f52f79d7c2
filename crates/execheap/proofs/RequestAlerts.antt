-- The alerts of the calls on requests by address, reported by number.
use Rattle.std.proofs.Common.{◌≡◌, ℕ, List, Bool, true, false, refl, ap, sym, ◌∙◌, Option, None, Some, codes, is_some, not, ◌&&◌, if◌then◌else◌}
use Rattle.execlist.specs.Pool.{slot}
use Rattle.iorequest.specs.{declared.request.ReqState.ReqState, declared.request.Request.Request as TimerRequest, Request.is_opened, Request.is_under_way, Requests.request_at}
use Rattle.msgport.specs.Ports as ports
use Rattle.execmodel.specs.Requests.{begin_alert, can_begin, delete_request_alert, do_alert, is_request_at, request_alert, request_of, request_of_object, resting_alert, send_alert, state_alert, wait_io_alert}
use Rattle.execmodel.specs.{State.Heap, Ports.is_queued, Ports.port_alert, Ports.wait_alert}
use Rattle.execheap.specs.declared.tag.Kind.TheVariants as variant
use Rattle.execheap.specs.{Numbered.IsSoundHeap, Numbered.Numbered, Numbered.message_of_request, Numbered.places, Numbered.shown_heap, Table.number_at}
use Rattle.execheap.proofs.{Alerts.handle_unless, Alerts.is_there, Alerts.link_if, Alerts.refused_first, MessagePlaces.request_standing, Queued.is_queued_shown, Showing.kind_shown, Showing.object_numbered}
use Rattle.script.specs.declared.alert.Alert.TheVariants as an_alert
use Rattle.script.specs.declared.alert.Alert.{Alert}

-- ---- what begins at an address

pub request_at_shown : (s : Numbered) (a : ℕ) → is_request_at a (shown_heap s) ≡ is_some (number_at variant.Request a s.table)
unfolding is_request_at
request_at_shown s a = kind_shown s variant.Request a

pub request_shown : (s : Numbered) (a r : ℕ) → number_at variant.Request a s.table ≡ Some r → request_of a (shown_heap s) ≡ request_at r s.requests
unfolding request_of
request_shown s a r is = ap request_of_object (object_numbered s variant.Request a r is)

pub request_refused : (s : Numbered) (a : ℕ) → number_at variant.Request a s.table ≡ None → request_alert a (shown_heap s) ≡ Some an_alert.Handle
unfolding request_alert
request_refused s a none = ap (λ b. handle_unless b None) (request_at_shown s a ∙ ap is_some none)

pub request_found : (s : Numbered) (a r : ℕ) → number_at variant.Request a s.table ≡ Some r → request_alert a (shown_heap s) ≡ None
unfolding request_alert
request_found s a r found = ap (λ b. handle_unless b None) (request_at_shown s a ∙ ap is_some found)

-- ---- single tests

-- a request must not be so, and then come the other tests
abbrev pub io_if : Bool → Option Alert → Option Alert
io_if refused next = if refused then Some an_alert.Io else next

past_both : (there way : Bool) (next : Option Alert) → handle_unless there (io_if way None) ≡ None → handle_unless there (io_if way next) ≡ next
past_both true true next e = let bad : true ≡ false = ap is_some e in cc
past_both true false next e = refl
past_both false way next e = let bad : true ≡ false = ap is_some e in cc

first_both : (there way : Bool) {why : Alert} (next : Option Alert) → handle_unless there (io_if way None) ≡ Some why
    → handle_unless there (io_if way next) ≡ Some why
first_both true true next e = e
first_both true false next e = let bad : false ≡ true = ap is_some e in cc
first_both false way next e = e

first_begins : (there way open_now : Bool) {why : Alert} (next : Option Alert) → handle_unless there (io_if way None) ≡ Some why
    → handle_unless there (io_if (not (not way && open_now)) next) ≡ Some why
first_begins true true open_now next e = e
first_begins true false open_now next e = let bad : false ≡ true = ap is_some e in cc
first_begins false way open_now next e = e

past_begins : (there way open_now : Bool) (next : Option Alert) → handle_unless there (io_if way None) ≡ None
    → handle_unless there (io_if (not (not way && open_now)) next) ≡ io_if (not open_now) next
past_begins true true open_now next e = let bad : true ≡ false = ap is_some e in cc
past_begins true false open_now next e = refl
past_begins false way open_now next e = let bad : true ≡ false = ap is_some e in cc

then_port : (there may queued : Bool) (next : Option Alert) → handle_unless there (io_if (not may) (link_if queued None)) ≡ None
    → handle_unless there (io_if (not may) (link_if queued next)) ≡ next
then_port true true true next e = let bad : true ≡ false = ap is_some e in cc
then_port true true false next e = refl
then_port true false queued next e = let bad : true ≡ false = ap is_some e in cc
then_port false may queued next e = let bad : true ≡ false = ap is_some e in cc

first_port : (there may queued : Bool) {why : Alert} (next : Option Alert) → handle_unless there (io_if (not may) (link_if queued None)) ≡ Some why
    → handle_unless there (io_if (not may) (link_if queued next)) ≡ Some why
first_port true true true next e = e
first_port true true false next e = let bad : false ≡ true = ap is_some e in cc
first_port true false queued next e = e
first_port false may queued next e = e

-- ---- refused before the last test

module _ (request : ℕ) (heap : Heap) where
  pub resting_refused : {why : Alert} → request_alert request heap ≡ Some why → resting_alert request heap ≡ Some why
  unfolding resting_alert request_alert
  resting_refused refused = refused_first (is_request_at request heap) (io_if (is_under_way (request_of request heap)) None) refused

  pub delete_refused : {why : Alert} → resting_alert request heap ≡ Some why → delete_request_alert request heap ≡ Some why
  unfolding resting_alert delete_request_alert
  delete_refused refused =
      first_both (is_request_at request heap) (is_under_way (request_of request heap)) (link_if (is_queued request heap) None) refused

  pub begin_refused : {why : Alert} → resting_alert request heap ≡ Some why → begin_alert None request heap ≡ Some why
  unfolding resting_alert
  begin_refused refused =
      first_begins (is_request_at request heap) (is_under_way (request_of request heap)) (is_opened (request_of request heap)) (link_if (is_queued request heap) None) refused

  begin_past : resting_alert request heap ≡ None → begin_alert None request heap ≡ io_if (not (is_opened (request_of request heap))) (link_if (is_queued request heap) None)
  unfolding resting_alert
  begin_past rests =
      past_begins (is_request_at request heap) (is_under_way (request_of request heap)) (is_opened (request_of request heap)) (link_if (is_queued request heap) None) rests

  pub send_refused : {why : Alert} → begin_alert None request heap ≡ Some why → send_alert request heap ≡ Some why
  unfolding send_alert
  send_refused refused =
      first_port (is_request_at request heap) (can_begin (request_of request heap)) (is_queued request heap) (port_alert (request_of request heap).port heap) refused

  pub send_past : begin_alert None request heap ≡ None → send_alert request heap ≡ port_alert (request_of request heap).port heap
  unfolding send_alert
  send_past begins =
      then_port (is_request_at request heap) (can_begin (request_of request heap)) (is_queued request heap) (port_alert (request_of request heap).port heap) begins

  module _ (task : ℕ) where
    pub do_refused : {why : Alert} → begin_alert None request heap ≡ Some why → do_alert task request heap ≡ Some why
    unfolding do_alert
    do_refused refused =
        first_port (is_request_at request heap) (can_begin (request_of request heap)) (is_queued request heap) (wait_alert task (request_of request heap).port heap) refused

    pub do_past : begin_alert None request heap ≡ None → do_alert task request heap ≡ wait_alert task (request_of request heap).port heap
    unfolding do_alert
    do_past begins =
        then_port (is_request_at request heap) (can_begin (request_of request heap)) (is_queued request heap) (wait_alert task (request_of request heap).port heap) begins

    pub wait_io_refused : {why : Alert} → request_alert request heap ≡ Some why → wait_io_alert task request heap ≡ Some why
    unfolding wait_io_alert request_alert
    wait_io_refused refused = refused_first (is_request_at request heap) (state_alert (request_of request heap).state task request heap) refused

    pub wait_io_past : (q : TimerRequest) {state : ReqState} → request_alert request heap ≡ None → q ≡ request_of request heap → q.state ≡ state
        → wait_io_alert task request heap ≡ state_alert state task request heap
    unfolding wait_io_alert request_alert
    wait_io_past q there is state =
        ap (λ b. handle_unless b (state_alert (request_of request heap).state task request heap)) (is_there (is_request_at request heap) there)
        ∙ ap (λ (x : TimerRequest). state_alert x.state task request heap) (sym is) ∙ ap (λ x. state_alert x task request heap) state

-- ---- the last test

module _ (request : ℕ) (heap : Heap) (q : TimerRequest) (is : q ≡ request_of request heap) where
  pub resting_found : {way : Bool} → request_alert request heap ≡ None → is_under_way q ≡ way → resting_alert request heap ≡ io_if way None
  unfolding resting_alert request_alert
  resting_found there way =
      ap (λ b. handle_unless b (io_if (is_under_way (request_of request heap)) None)) (is_there (is_request_at request heap) there)
      ∙ ap (λ b. io_if b None) (ap is_under_way (sym is) ∙ way)

  pub begin_shut : resting_alert request heap ≡ None → is_opened q ≡ false → begin_alert None request heap ≡ Some an_alert.Io
  begin_shut rests shut =
      begin_past request heap rests ∙ ap (λ b. io_if (not b) (link_if (is_queued request heap) None)) (ap is_opened (sym is) ∙ shut)

  pub begin_found : {queued : Bool} → resting_alert request heap ≡ None → is_opened q ≡ true → is_queued request heap ≡ queued
      → begin_alert None request heap ≡ link_if queued None
  begin_found rests shut there =
      begin_past request heap rests ∙ ap (λ b. io_if (not b) (link_if (is_queued request heap) None)) (ap is_opened (sym is) ∙ shut) ∙ ap (λ b. link_if b None) there

pub delete_found : (request : ℕ) (heap : Heap) {queued : Bool} → resting_alert request heap ≡ None → is_queued request heap ≡ queued
    → delete_request_alert request heap ≡ link_if queued None
unfolding resting_alert delete_request_alert
delete_found request heap rests is =
    past_both (is_request_at request heap) (is_under_way (request_of request heap)) (link_if (is_queued request heap) None) rests ∙ ap (λ b. link_if b None) is

-- ---- its reply

-- the reply of a request is in a port by address if it is by number
pub reply_shown : {s : Numbered} → IsSoundHeap s → ports.IsSoundPorts s.ports → (r request : ℕ) → slot (places variant.Request s) r ≡ Some request
    → is_queued request (shown_heap s) ≡ ports.is_queued (message_of_request r s) s.ports
reply_shown {s} sound held r request here = is_queued_shown sound held (message_of_request r s) request (request_standing s sound.table r ∙ here)
