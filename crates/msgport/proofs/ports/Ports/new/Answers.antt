-- There is no port, no message and no link.
use Rattle.std.proofs.Common.{refl}
use Rattle.msgport.specs.Ports.{no_ports}
use Rattle.msgport.proofs.Linking.{held_at_first}
use Rattle.msgport.proofs.ports.Ports.new.Goals as goal

pub invariant_of-result : goal.invariant_of-result
invariant_of-result g c =
    let pools = c.in_ok-numbers.ensures in
    let queues = c.in_ok-queues.ensures in
    let headers = c.in_ok-held.ensures in
    rw (
      pools.ports,
      pools.messages,
      queues.empty,
      queues.unlinked,
      headers.held,
      headers.none_held,
      headers.public,
      headers.none_public,
      headers.keys,
    )
    (held_at_first c.args.ports c.args.msgs)

pub returns : goal.returns
returns g c =
    let pools = c.in_ok-numbers.ensures in
    let queues = c.in_ok-queues.ensures in
    let headers = c.in_ok-held.ensures in
    rw (pools.ports, pools.messages, queues.empty, queues.unlinked, headers.held, headers.public, headers.keys)
    (refl {a = no_ports c.args.ports c.args.msgs})
