-- The alerts of the calls on ports and messages by address, reported by number.
use Rattle.std.proofs.Common.{◌≡◌, ℕ, zero, suc, List, Bool, true, false, refl, ap, sym, ◌∙◌, arith, Option, None, Some, codes, is_some, nat_eq, if◌then◌else◌, ◌||◌}
use Rattle.memlist.proofs.Answered.{nat_eq-other}
use Rattle.execmodel.specs.{State.Heap, Ports.content_of, Ports.is_message_at, Ports.is_port_at, Ports.unqueued_alert, Ports.message_alert, Ports.port_alert, Ports.port_of, Ports.put_alert, Ports.reply_alert, Ports.reply_port_alert, Ports.wait_alert}
use Rattle.execmodel.specs.Ports as model
use Rattle.msgport.specs.{Port.wait_bit, Ports.is_linked, Ports.is_queued, Ports.message_at, Ports.port_at}
use Rattle.msgport.specs.Ports as ports
use Rattle.execlist.specs.Pool.{slot}
use Rattle.execheap.specs.declared.tag.Kind.TheVariants as variant
use Rattle.execheap.specs.{Numbered.Numbered, Numbered.IsSoundHeap, Numbered.shown_heap, Numbered.places, Table.number_at}
use Rattle.execheap.proofs.{Alerts.handle_unless, Alerts.is_there, Alerts.link_if, Alerts.refused_first, Front.message_small, MessagePlaces.place_message, Queued.is_queued_shown, Matching.number_live, Shown.content_shown, Shown.message_at_shown, Shown.port_at_shown, Shown.port_shown}
use Rattle.script.specs.declared.alert.Alert.TheVariants as an_alert
use Rattle.script.specs.declared.alert.Alert.{Alert}

-- ---- the alert of a port, and of a message

pub port_refused : (s : Numbered) (port : ℕ) → number_at variant.Port port s.table ≡ None → port_alert port (shown_heap s) ≡ Some an_alert.Handle
unfolding port_alert
port_refused s port none = ap (λ b. handle_unless b None) (port_at_shown s port ∙ ap is_some none)

pub port_found : (s : Numbered) (port p : ℕ) → number_at variant.Port port s.table ≡ Some p → port_alert port (shown_heap s) ≡ None
unfolding port_alert
port_found s port p found = ap (λ b. handle_unless b None) (port_at_shown s port ∙ ap is_some found)

pub message_refused : (s : Numbered) (message : ℕ) → number_at variant.Message message s.table ≡ None → message_alert message (shown_heap s) ≡ Some an_alert.Handle
unfolding message_alert
message_refused s message none = ap (λ b. handle_unless b None) (message_at_shown s message ∙ ap is_some none)

pub message_found : (s : Numbered) (message m : ℕ) → number_at variant.Message message s.table ≡ Some m → message_alert message (shown_heap s) ≡ None
unfolding message_alert
message_found s message m found = ap (λ b. handle_unless b None) (message_at_shown s message ∙ ap is_some found)

-- ---- the alert of a reply port

pub reply_port_none : (reply : ℕ) (heap : Heap) → reply ≡ 0 → reply_port_alert reply heap ≡ None
unfolding reply_port_alert
reply_port_none reply heap none = ap (λ r. if nat_eq r 0 then None else port_alert reply heap) none

pub reply_port_some : (reply : ℕ) (heap : Heap) → (reply ≡ 0 → ⊥) → reply_port_alert reply heap ≡ port_alert reply heap
unfolding reply_port_alert
reply_port_some zero heap some = absurd (some refl)
reply_port_some (suc reply) heap some = ap (λ b. if b then None else port_alert (suc reply) heap) (nat_eq-other (suc reply) 0 (omega arith))

-- ---- the alert of a message that has to be in no port

module _ (message : ℕ) (heap : Heap) where
  pub loose_by_handle : {why : Alert} → message_alert message heap ≡ Some why → unqueued_alert message heap ≡ Some why
  unfolding unqueued_alert message_alert
  loose_by_handle refused = refused_first (is_message_at message heap) (link_if (model.is_queued message heap) None) refused

  past_message : message_alert message heap ≡ None → unqueued_alert message heap ≡ link_if (model.is_queued message heap) None
  unfolding unqueued_alert message_alert
  past_message there = ap (λ b. handle_unless b (link_if (model.is_queued message heap) None)) (is_there (is_message_at message heap) there)

  -- a message that is refused is so by ReplyMsg
  replied_by_handle : (there linked : Bool) {why : Alert} (next : Option Alert) → handle_unless there (link_if linked None) ≡ Some why
      → handle_unless there (link_if linked next) ≡ Some why
  replied_by_handle true true next e = e
  replied_by_handle true false next e = let bad : false ≡ true = ap is_some e in cc
  replied_by_handle false linked next e = e

  replied_past : (there linked : Bool) (next : Option Alert) → handle_unless there (link_if linked None) ≡ None
      → handle_unless there (link_if linked next) ≡ next
  replied_past true true next e = let bad : true ≡ false = ap is_some e in cc
  replied_past true false next e = refl
  replied_past false linked next e = let bad : true ≡ false = ap is_some e in cc

  pub reply_by_loose : {why : Alert} → unqueued_alert message heap ≡ Some why → reply_alert message heap ≡ Some why
  unfolding reply_alert unqueued_alert
  reply_by_loose refused =
      replied_by_handle (is_message_at message heap) (model.is_queued message heap) (reply_port_alert (content_of message heap).reply heap) refused

  pub reply_by_port : unqueued_alert message heap ≡ None → reply_alert message heap ≡ reply_port_alert (content_of message heap).reply heap
  unfolding reply_alert unqueued_alert
  reply_by_port loose =
      replied_past (is_message_at message heap) (model.is_queued message heap) (reply_port_alert (content_of message heap).reply heap) loose

  module _ (port : ℕ) where
    pub put_by_port : {why : Alert} → port_alert port heap ≡ Some why → put_alert port message heap ≡ Some why
    unfolding put_alert port_alert
    put_by_port refused = refused_first (is_port_at port heap) (unqueued_alert message heap) refused

    pub put_by_message : port_alert port heap ≡ None → put_alert port message heap ≡ unqueued_alert message heap
    unfolding put_alert port_alert
    put_by_message there = ap (λ b. handle_unless b (unqueued_alert message heap)) (is_there (is_port_at port heap) there)

or_false : (b : Bool) → b || false ≡ b
or_false true = refl
or_false false = refl

module _ {s : Numbered} (sound : IsSoundHeap s) (held : ports.IsSoundPorts s.ports) (m message : ℕ) (here : slot (places variant.Message s) m ≡ Some message) where
  -- a message that is none of a request is linked if a port has it
  pub message_linked : is_linked m s.ports ≡ is_queued m s.ports
  message_linked =
      ap (λ b. is_queued m s.ports || b) (sound.kept.in_time.none_held m (message_small sound.kept sound.table m (ap is_some here))) ∙ or_false (is_queued m s.ports)

  pub loose_found : {linked : Bool} → message_alert message (shown_heap s) ≡ None → is_linked m s.ports ≡ linked
      → unqueued_alert message (shown_heap s) ≡ link_if linked None
  loose_found there is =
      past_message message (shown_heap s) there
      ∙ ap (λ b. link_if b None)
      (is_queued_shown sound held m message (place_message sound.table m message here) ∙ sym message_linked ∙ is)

-- ---- what begins at an address that has an alert no more

module _ {s : Numbered} (sound : IsSoundHeap s) where
  pub reply_of : (m message : ℕ) → slot (places variant.Message s) m ≡ Some message → (content_of message (shown_heap s)).reply ≡ (message_at m s.ports).reply
  reply_of m message here = ap (λ content. content.reply) (content_shown s message m (number_live sound.table variant.Message m message here))

  -- ---- the alert of a port to wait at

  module _ (task p port : ℕ) (here : slot (places variant.Port s) p ≡ Some port) where
    abbrev waits : Bool → Option Alert
    waits may = if may then None else Some an_alert.Port

    pub wait_found : {bit : Option ℕ} → port_alert port (shown_heap s) ≡ None → wait_bit task (port_at p s.ports) ≡ bit
        → wait_alert task port (shown_heap s) ≡ waits (is_some bit)
    unfolding wait_alert port_alert
    wait_found there is =
        ap (λ b. handle_unless b (waits (is_some (wait_bit task (port_of port (shown_heap s)))))) (is_there (is_port_at port (shown_heap s)) there)
        ∙ ap (λ q. waits (is_some (wait_bit task q))) (port_shown s port p (number_live sound.table variant.Port p port here))
        ∙ ap (λ o. waits (is_some o)) is

pub wait_refused : (task port : ℕ) (heap : Heap) {why : Alert} → port_alert port heap ≡ Some why → wait_alert task port heap ≡ Some why
unfolding wait_alert port_alert
wait_refused task port heap refused =
    refused_first (is_port_at port heap) (if is_some (wait_bit task (port_of port heap)) then None else Some an_alert.Port) refused
