-- A message of the table that is in no port is not held, and so may be put, replied and freed.
use Rattle.std.proofs.Common.{◌≡◌, ℕ, ◌+◌, ◌<◌, false, ap, sym, ◌∙◌, Some, None, is_some, if◌then◌else◌, not, slice_set, ◌||◌, IsSome, IsTrue}
use Rattle.execlist.specs.{Lists.home, Order.without_item, Pool.slot, Pool.written}
use Rattle.msgport.proofs.Linking.{without_absent}
use Rattle.msgport.specs.declared.fault.PortFault.TheVariants.{Link, Unknown}
use Rattle.msgport.specs.{declared.message.Message.Message, Ports.MessagePorts, Ports.is_held, Ports.is_message, Ports.is_port, Ports.let_go, Ports.linked_fault, Ports.nt_replymsg, Ports.post_fault, Ports.posted, Ports.reply_fault}
use Rattle.execheap.specs.declared.tag.Kind.TheVariants as variant
use Rattle.execheap.specs.Table as table
use Rattle.execheap.specs.{Changes.on_ports, Numbered.Numbered, Numbered.IsInTime, Numbered.IsKept, Numbered.places}
use Rattle.execheap.proofs.{Front.message_live, Front.message_small, KeptPorts.kept_message_set, KeptPorts.kept_posted}

pub unheld_loose : {s : Numbered} → IsInTime s → (n : ℕ) → n < s.table.pool → IsTrue (is_message n s.ports) → home s.ports.places n ≡ None
    → linked_fault n s.ports ≡ None
unheld_loose t n small lives loose =
    λ i. if not (lives i) then Some Unknown else (if is_some (loose i) || t.none_held n small i then Some Link else None)

module _ {s : Numbered} (kept : IsKept s) (sound : table.IsSoundTable s.table) (m : ℕ) (has : IsSome (slot (places variant.Message s) m)) where
  unheld : is_held m s.ports ≡ false
  unheld = kept.in_time.none_held m (message_small kept sound m has)

  -- ---- it is not refused

  pub none_loose : home s.ports.places m ≡ None → linked_fault m s.ports ≡ None
  none_loose loose = unheld_loose kept.in_time m (message_small kept sound m has) (message_live kept sound m has) loose

  pub none_posted : (p : ℕ) → IsTrue (is_port p s.ports) → home s.ports.places m ≡ None → post_fault p m s.ports ≡ None
  none_posted p port loose = λ i. if not (port i) then Some Unknown else none_loose loose i

  pub none_replied : (p : ℕ) → IsTrue (is_port p s.ports) → home s.ports.places m ≡ None → reply_fault p m s.ports ≡ None
  none_replied p port loose = λ i. if not (port i) then Some Unknown
      else (if not (message_live kept sound m has i) then Some Unknown else (if is_some (loose i) then Some Link else None))

  -- ---- what is kept

  -- it is in a port
  pub put_kept : (q : MessagePorts) (p : ℕ) (message : Message) → q.ports ≡ s.ports.ports → q.messages ≡ written m message s.ports.messages
      → q.holding ≡ s.ports.holding → q.places ≡ slice_set s.ports.places m (Some p) → IsKept (record s { ports = q })
  put_kept q p message ports set holding placed =
      kept_posted kept q m p message (message_small kept sound m has) (message_live kept sound m has) ports set holding placed

  -- it is another one
  pub typed_kept : (q : MessagePorts) (message : Message) → q.ports ≡ s.ports.ports → q.messages ≡ written m message s.ports.messages
      → q.holding ≡ s.ports.holding → q.places ≡ s.ports.places → IsKept (record s { ports = q })
  typed_kept q message ports set holding placed = kept_message_set kept q m message (message_live kept sound m has) ports set holding
      (λ r p there. ap (λ all. home all (s.table.pool + r)) (sym placed) ∙ there)

  -- letting go of it changes nothing
  pub held_as_before : without_item m s.ports.holding ≡ s.ports.holding
  held_as_before = without_absent m s.ports.holding unheld

  pub let_go_same : let_go m s.ports ≡ s.ports
  let_go_same = ap (λ holding. record s.ports { holding = holding }) held_as_before

  -- what the objects are then
  pub replied_ports : {now : Numbered} → s ≡ now → (p : ℕ) (q : MessagePorts) → q ≡ posted nt_replymsg p m (let_go m s.ports)
      → record s { ports = q } ≡ on_ports (posted nt_replymsg p m) now
  replied_ports same p q is =
      (λ i. record s { ports = (is ∙ ap (posted nt_replymsg p m) let_go_same) i }) ∙ ap (on_ports (posted nt_replymsg p m)) same
