-- There is a number for each message, since the ports have that many free.
use Rattle.std.proofs.Common.{◌≡◌, ◌+◌, ◌<◌, length, suc, ap, ◌∙◌, arith, is_ok, ok_or}
use Rattle.execlist.specs.Pool.{next_number}
use Rattle.msgport.specs.{declared.fault.PortFault.TheVariants.PoolFull, Ports.MessagePorts, Ports.message_made}
use Rattle.execheap.specs.Changes.{reserved}
use Rattle.execheap.proofs.Reserved.{one_left}
use Rattle.execheap.proofs.objects.requests.with_requests.Goals as goal

pub unwrap-requires : goal.unwrap-requires
unwrap-requires g c =
    let there = c.loop-made-test.true in
    let few : c.loop-made._made < length c.args.ports.messages.free = omega (arith, there) in
    ap is_ok c.make_msg.ensures.answer ∙ ap (λ (q : MessagePorts). is_ok (ok_or (next_number q.messages) PoolFull)) c.loop-made.invariant
    ∙ one_left c.loop-made._made c.args.ports few

pub loop-made-preserved : goal.loop-made-preserved
loop-made-preserved g c =
    let one_more : suc c.loop-made._made ≡ c.loop-made._made + 1 = omega arith in
    c.make_msg.ensures.next ∙ ap (message_made 0 0) c.loop-made.invariant ∙ ap (λ n. reserved n c.args.ports) one_more
