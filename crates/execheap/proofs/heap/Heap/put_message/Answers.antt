-- The message is last in the port that is shown, and the port acts as it is shown to.
use Rattle.std.proofs.Common.{ap, sym, ◌∙◌}
use Rattle.execmodel.specs.{State.Memory, State.on_heap, Ports.port_of, Ports.posted}
use Rattle.msgport.specs.{Port.arrival_action, Ports.nt_message}
use Rattle.execheap.specs.Numbered.{shown_memory}
use Rattle.execheap.proofs.Posted.{port_of_shown, posted_shown}
use Rattle.execheap.proofs.heap.Heap.put_message.Goals as goal

pub returns-clause-answer : goal.returns-clause-answer
returns-clause-answer g c =
    c.put.ensures.answer ∙ ap arrival_action (sym (port_of_shown c.in_ok-p.ensures.known.sound c.in_ok-p.p c.args.port c.in_ok-p.ensures.port))
    ∙ ap (λ (m : Memory). arrival_action (port_of c.args.port m.heap)) c.self.view_is

pub returns-clause-next : goal.returns-clause-next
returns-clause-next g c =
    let f = c.in_ok-p.ensures.known in
    let e = c.in_ok-p.ensures in
    ap shown_memory c.put.ensures.next
    ∙ posted_shown f.sound f.ports f.memory c.in_ok-p.p c.args.port e.port e.live_port c.in_ok-p.m c.args.message e.message e.live_message nt_message
    ∙ ap (on_heap (posted nt_message c.args.port c.args.message)) c.self.view_is
