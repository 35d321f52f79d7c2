-- A message has a place of its own.
use Rattle.std.proofs.Common.{ap, ◌∙◌, arith, IsSome}
use Rattle.execlist.specs.Pool.{slot}
use Rattle.execlist.proofs.Pools.{item_of, slot_known}
use Rattle.msgport.specs.Ports.{MessagePorts, is_message}
use Rattle.msgport.proofs.ports.Ports.message_after.Goals as goal

pub next_node-requires-clause-node : goal.next_node-requires-clause-node
next_node-requires-clause-node g c = λ m is.
    let messages = c.self.inside.messages in
    let live : IsSome (slot messages.slots m) = ap (λ (s : MessagePorts). is_message m s) c.self.view_is ∙ c.requires.message m is in
    let item = item_of (slot messages.slots m) live in
    omega (arith, slot_known messages.slots m item.0 item.1, c.self.invariant.each_place)
