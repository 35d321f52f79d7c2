-- The message is last in the reply port that is shown, or is of the type of one without.
use Rattle.std.proofs.Common.{ap, sym, ◌∙◌}
use Rattle.execmodel.specs.{State.Memory, State.on_heap, Ports.content_of}
use Rattle.msgport.specs.{Port.arrival_action, Ports.nt_freemsg, Ports.nt_replymsg}
use Rattle.execheap.specs.{Listing.replied_by, Listing.replying, Numbered.shown_heap, Numbered.shown_memory}
use Rattle.execheap.proofs.{Posted.port_of_shown, Posted.posted_shown, Posted.typed_shown, Replying.replied_none, Replying.replied_some, Replying.replying_none, Replying.replying_some}
use Rattle.execheap.proofs.heap.Heap.reply_message.Goals as goal

pub returns-in-Some-clause-answer : goal.returns-in-Some-clause-answer
returns-in-Some-clause-answer g c =
    let s = c.self.inside.objects in
    let e = c.in_ok-m.ensures in
    let p = c.in-Some.p in
    let port = (content_of c.args.message (shown_heap s)).reply in
    c.reply.ensures.answer ∙ ap arrival_action (sym (port_of_shown c.in_ok-m.ensures.known.sound p port (e.reply p c.in-Some.is)))
    ∙ sym (replying_some c.args.message (shown_heap s) (e.some p c.in-Some.is))
    ∙ ap (λ (m : Memory). replying c.args.message m.heap) c.self.view_is

pub returns-in-Some-clause-next : goal.returns-in-Some-clause-next
returns-in-Some-clause-next g c =
    let f = c.in_ok-m.ensures.known in
    let s = c.self.inside.objects in
    let e = c.in_ok-m.ensures in
    let p = c.in-Some.p in
    let is = c.in-Some.is in
    let port = (content_of c.args.message (shown_heap s)).reply in
    ap shown_memory c.reply.ensures.next
    ∙ posted_shown f.sound f.ports f.memory p port (e.reply p is) (e.live_port p is) c.in_ok-m.m c.args.message e.message e.live_message nt_replymsg
    ∙ ap (λ heap. on_heap (λ old. heap) (shown_memory s)) (sym (replied_some c.args.message (shown_heap s) (e.some p is)))
    ∙ ap (on_heap (replied_by c.args.message)) c.self.view_is

pub returns-in-None-clause-answer : goal.returns-in-None-clause-answer
returns-in-None-clause-answer g c =
    sym (replying_none c.args.message (shown_heap c.self.inside.objects) (c.in_ok-m.ensures.none c.in-None.is))
    ∙ ap (λ (m : Memory). replying c.args.message m.heap) c.self.view_is

pub returns-in-None-clause-next : goal.returns-in-None-clause-next
returns-in-None-clause-next g c =
    let f = c.in_ok-m.ensures.known in
    let s = c.self.inside.objects in
    let e = c.in_ok-m.ensures in
    ap shown_memory c.reply_none.ensures
    ∙ typed_shown f.sound f.ports f.memory c.in_ok-m.m c.args.message e.message e.live_message nt_freemsg
    ∙ ap (λ heap. on_heap (λ old. heap) (shown_memory s)) (sym (replied_none c.args.message (shown_heap s) (e.none c.in-None.is)))
    ∙ ap (on_heap (replied_by c.args.message)) c.self.view_is
