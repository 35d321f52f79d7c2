-- A request that is idle is held and waits, or is done at once, if system time may be set.
use Rattle.std.proofs.Common.{◌≡◌, ◌+◌, None, ap, false, refl, sym, subst, ◌∙◌, pos, ◌<◌, ◌^◌, IsTrue}
use Rattle.execlist.specs.Lists.{home}
use Rattle.iorequest.specs.{Request.finished, Request.is_under_way, Request.outcome, Request.reply_port, Request.time_of, Requests.is_request, Requests.request_at, Requests.with_request}
use Rattle.timerdev.specs.Timing.{AtClock, AtSystem}
use Rattle.execheap.specs.Numbered.{IsKnown, Numbered, message_of_request}
use Rattle.execheap.specs.Requesting as next
use Rattle.execheap.proofs.KeptPorts as ports
use Rattle.execheap.proofs.RequestCalls.{acting_once, acting_set, answer_is, begun_kept, begun_once, begun_set, error_byte, new_time, not_refused}
use Rattle.execheap.proofs.objects.Objects.begin_request.Goals.{After-message_of-message, After-self, After-unwrap}
use Rattle.execheap.proofs.{KeptRequests.kept_begun, KeptRequests.message_there, KeptRequests.not_way, KeptRequests.port_lives, KeptRequests.request_loose, Waits.IsTimed, Waits.timed_not, Waits.timed_set}
use Rattle.execheap.proofs.objects.Objects.begin_request.Goals as goal

module _ (g : _) (c : After-self g) where
  lives : IsTrue (is_request c.args.r c.self.inside.requests)
  lives = ap (λ (s : Numbered). is_request c.args.r s.requests) c.self.view_is ∙ c.requires.live

  rests : is_under_way (request_at c.args.r c.self.inside.requests) ≡ false
  rests = ap (λ (s : Numbered). is_under_way (request_at c.args.r s.requests)) c.self.view_is ∙ c.requires.rests

  loose : home c.self.inside.ports.places (c.self.inside.table.pool + c.args.r) ≡ None
  loose = ap (λ (s : Numbered). home s.ports.places (message_of_request c.args.r s)) c.self.view_is ∙ c.requires.loose

is : (g : _) (c : After-message_of-message g) → c.message_of-message.result ≡ c.self.inside.table.pool + c.args.r
is g c = c.message_of-message.ensures.value ∙ ap (message_of_request c.args.r) (sym c.self.view_is)

-- what the request asks for
goes_on : (g : _) (c : After-unwrap g)
    → outcome c.self.inside.timer.timer.clock c.self.inside.timer.timer.system (request_at c.args.r c.self.inside.requests) ≡ c.unwrap.result
goes_on g c = (λ i. outcome (sym c.now.ensures i) (sym c.sys_now.ensures i) (request_at c.args.r c.self.inside.requests))
    ∙ sym (answer_is _ _ _ _ c.begin.ensures.answer c.unwrap.ensures)

pub unwrap-requires-in-Queue : goal.unwrap-requires-in-Queue
unwrap-requires-in-Queue g c =
    let known = subst IsKnown (sym c.self.view_is) c.message_of-message.ensures.known in
    rw (c.hold.ensures.answer, request_loose known.sound c.args.r c.message_of-message.result (lives g (goal.at.unwrap-requires-in-Queue g c).After-self) (rests g (goal.at.unwrap-requires-in-Queue g c).After-self) (loose g (goal.at.unwrap-requires-in-Queue g c).After-self) (is g (goal.at.unwrap-requires-in-Queue g c).After-message_of-message)) refl

pub invariant_of-self : goal.invariant_of-self
invariant_of-self g c =
    let known = subst IsKnown (sym c.self.view_is) c.message_of-message.ensures.known in
    let begun = not_refused _ _ _ _ _ _ _ c.begin.ensures.answer c.unwrap.ensures c.begin.ensures.next in
    kept_begun known.sound c.args.r (lives g (goal.at.invariant_of-self g c).After-self) c.message_of-message.result (is g (goal.at.invariant_of-self g c).After-message_of-message) c.args.quick c.sys_now.result (AtClock c.in-Queue.due)
    c.begin.new.self c.hold.new.self c.add.new.self begun
    (ports.not_refused _ _ _ _ _ _ _ c.hold.ensures.answer c.unwrap-in-Queue.ensures c.hold.ensures.next) c.add.ensures

pub unwrap-requires-in-Until : goal.unwrap-requires-in-Until
unwrap-requires-in-Until g c =
    let known = subst IsKnown (sym c.self.view_is) c.message_of-message.ensures.known in
    rw (c.hold-in-Until.ensures.answer, request_loose known.sound c.args.r c.message_of-message.result (lives g (goal.at.unwrap-requires-in-Until g c).After-self) (rests g (goal.at.unwrap-requires-in-Until g c).After-self) (loose g (goal.at.unwrap-requires-in-Until g c).After-self) (is g (goal.at.unwrap-requires-in-Until g c).After-message_of-message)) refl

pub invariant_of-self-in-Until : goal.invariant_of-self-in-Until
invariant_of-self-in-Until g c =
    let known = subst IsKnown (sym c.self.view_is) c.message_of-message.ensures.known in
    let begun = not_refused _ _ _ _ _ _ _ c.begin.ensures.answer c.unwrap.ensures c.begin.ensures.next in
    kept_begun known.sound c.args.r (lives g (goal.at.invariant_of-self-in-Until g c).After-self) c.message_of-message.result (is g (goal.at.invariant_of-self-in-Until g c).After-message_of-message) c.args.quick c.sys_now.result (AtSystem c.in-Until.time)
    c.begin.new.self c.hold-in-Until.new.self c.add_until.new.self begun
    (ports.not_refused _ _ _ _ _ _ _ c.hold-in-Until.ensures.answer c.unwrap-in-Until.ensures c.hold-in-Until.ensures.next)
    c.add_until.ensures

pub finish-requires-clause-port : goal.finish-requires-clause-port
finish-requires-clause-port g c =
    let known = subst IsKnown (sym c.self.view_is) c.message_of-message.ensures.known in
    port_lives known.sound (reply_port (request_at c.args.r c.begin.new.self))

pub finish-requires-clause-message : goal.finish-requires-clause-message
finish-requires-clause-message g c =
    let known = subst IsKnown (sym c.self.view_is) c.message_of-message.ensures.known in
    message_there known.sound c.args.r c.message_of-message.result (lives g (goal.at.finish-requires-clause-message g c).After-self) (is g (goal.at.finish-requires-clause-message g c).After-message_of-message)

pub finish-requires-in-NewTime-clause-port : goal.finish-requires-in-NewTime-clause-port
finish-requires-in-NewTime-clause-port g c =
    let known = subst IsKnown (sym c.self.view_is) c.message_of-message.ensures.known in
    port_lives known.sound (reply_port (request_at c.args.r c.begin.new.self))

pub finish-requires-in-NewTime-clause-message : goal.finish-requires-in-NewTime-clause-message
finish-requires-in-NewTime-clause-message g c =
    let known = subst IsKnown (sym c.self.view_is) c.message_of-message.ensures.known in
    message_there known.sound c.args.r c.message_of-message.result (lives g (goal.at.finish-requires-in-NewTime-clause-message g c).After-self) (is g (goal.at.finish-requires-in-NewTime-clause-message g c).After-message_of-message)

pub invariant_of-self-in-Finish : goal.invariant_of-self-in-Finish
invariant_of-self-in-Finish g c =
    let known = subst IsKnown (sym c.self.view_is) c.message_of-message.ensures.known in
    let begun = not_refused _ _ _ _ _ _ _ c.begin.ensures.answer c.unwrap.ensures c.begin.ensures.next in
    begun_kept known.sound c.args.r (lives g (goal.at.invariant_of-self-in-Finish g c).After-self) c.args.quick c.sys_now.result c.sys_now.ensures c.begin.new.self begun _
    c.message_of-message.result (is g (goal.at.invariant_of-self-in-Finish g c).After-message_of-message)
    c.finish.new.requests c.finish.new.ports c.finish.ensures.requests c.finish.ensures.ports c.self.inside.timer
    (timed_not c.args.r c.self.inside.timer (known.sound.kept.in_time.waits c.args.r ∙ not_way c.args.r c.self.inside.requests (rests g (goal.at.invariant_of-self-in-Finish g c).After-self)))

pub invariant_of-self-in-NewTime : goal.invariant_of-self-in-NewTime
invariant_of-self-in-NewTime g c =
    let known = subst IsKnown (sym c.self.view_is) c.message_of-message.ensures.known in
    let begun = not_refused _ _ _ _ _ _ _ c.begin.ensures.answer c.unwrap.ensures c.begin.ensures.next in
    let goes = goes_on g (goal.at.invariant_of-self-in-NewTime g c).After-unwrap ∙ c.in-NewTime.is in
    let short = subst (λ (s : Numbered). time_of (request_at c.args.r s.requests) < 2 ^ 53) (sym c.self.view_is) c.time_is_short.ensures in
    let time = new_time c.self.inside.timer.timer.clock c.self.inside.timer.timer.system (request_at c.args.r c.self.inside.requests)
    c.in-NewTime.time goes in
    begun_kept known.sound c.args.r (lives g (goal.at.invariant_of-self-in-NewTime g c).After-self) c.args.quick c.sys_now.result c.sys_now.ensures c.begin.new.self begun _
    c.message_of-message.result (is g (goal.at.invariant_of-self-in-NewTime g c).After-message_of-message)
    c.finish-in-NewTime.new.requests c.finish-in-NewTime.new.ports
    c.finish-in-NewTime.ensures.requests c.finish-in-NewTime.ensures.ports c.set_sys.new.self
    (subst (λ t. IsTimed false c.args.r c.self.inside.timer t) (sym c.set_sys.ensures)
    (timed_set c.args.r c.self.inside.timer c.in-NewTime.time
    (known.sound.kept.in_time.waits c.args.r ∙ not_way c.args.r c.self.inside.requests (rests g (goal.at.invariant_of-self-in-NewTime g c).After-self))
    (subst (λ n. n < 2 ^ 53) (sym time) short)))

pub returns-in-Finish-clause-answer : goal.returns-in-Finish-clause-answer
returns-in-Finish-clause-answer g c =
    let known = subst IsKnown (sym c.self.view_is) c.message_of-message.ensures.known in
    let begun = not_refused _ _ _ _ _ _ _ c.begin.ensures.answer c.unwrap.ensures c.begin.ensures.next in
    let goes = goes_on g (goal.at.returns-in-Finish-clause-answer g c).After-unwrap ∙ c.in-Finish.is in
    c.finish.ensures.answer ∙ acting_once known.sound c.args.r (lives g (goal.at.returns-in-Finish-clause-answer g c).After-self) c.args.quick c.sys_now.result c.sys_now.ensures c.begin.new.self
    begun c.in-Finish.error goes
    ∙ ap (λ s. next.acting_so (next.goes_on c.args.r s) c.args.quick c.args.r s) c.self.view_is

pub returns-in-Finish-clause-next : goal.returns-in-Finish-clause-next
returns-in-Finish-clause-next g c =
    let known = subst IsKnown (sym c.self.view_is) c.message_of-message.ensures.known in
    let begun = not_refused _ _ _ _ _ _ _ c.begin.ensures.answer c.unwrap.ensures c.begin.ensures.next in
    let goes = goes_on g (goal.at.returns-in-Finish-clause-next g c).After-unwrap ∙ c.in-Finish.is in
    begun_once known.sound c.args.r (lives g (goal.at.returns-in-Finish-clause-next g c).After-self) c.args.quick c.sys_now.result c.sys_now.ensures c.begin.new.self begun c.in-Finish.error
    c.message_of-message.result (is g (goal.at.returns-in-Finish-clause-next g c).After-message_of-message)
    c.finish.new.requests c.finish.new.ports
    (c.finish.ensures.requests ∙ ap (λ e. with_request c.args.r (finished e (request_at c.args.r c.begin.new.self)) c.begin.new.self)
    (error_byte c.self.inside.timer.timer.clock c.self.inside.timer.timer.system (request_at c.args.r c.self.inside.requests)
    c.in-Finish.error goes))
    c.finish.ensures.ports goes
    ∙ ap (next.begun_now c.args.quick c.args.r) c.self.view_is

pub returns-in-NewTime-clause-answer : goal.returns-in-NewTime-clause-answer
returns-in-NewTime-clause-answer g c =
    let known = subst IsKnown (sym c.self.view_is) c.message_of-message.ensures.known in
    let begun = not_refused _ _ _ _ _ _ _ c.begin.ensures.answer c.unwrap.ensures c.begin.ensures.next in
    let goes = goes_on g (goal.at.returns-in-NewTime-clause-answer g c).After-unwrap ∙ c.in-NewTime.is in
    c.finish-in-NewTime.ensures.answer ∙ acting_set known.sound c.args.r (lives g (goal.at.returns-in-NewTime-clause-answer g c).After-self) c.args.quick c.sys_now.result c.sys_now.ensures c.begin.new.self
    begun c.in-NewTime.time goes
    ∙ ap (λ s. next.acting_so (next.goes_on c.args.r s) c.args.quick c.args.r s) c.self.view_is

pub returns-in-NewTime-clause-next : goal.returns-in-NewTime-clause-next
returns-in-NewTime-clause-next g c =
    let known = subst IsKnown (sym c.self.view_is) c.message_of-message.ensures.known in
    let begun = not_refused _ _ _ _ _ _ _ c.begin.ensures.answer c.unwrap.ensures c.begin.ensures.next in
    let goes = goes_on g (goal.at.returns-in-NewTime-clause-next g c).After-unwrap ∙ c.in-NewTime.is in
    begun_set known.sound c.args.r (lives g (goal.at.returns-in-NewTime-clause-next g c).After-self) c.args.quick c.sys_now.result c.sys_now.ensures c.begin.new.self begun (pos 0)
    c.message_of-message.result (is g (goal.at.returns-in-NewTime-clause-next g c).After-message_of-message)
    c.finish-in-NewTime.new.requests c.finish-in-NewTime.new.ports c.finish-in-NewTime.ensures.requests c.finish-in-NewTime.ensures.ports
    c.in-NewTime.time c.set_sys.new.self c.set_sys.ensures refl goes
    ∙ ap (next.begun_now c.args.quick c.args.r) c.self.view_is
