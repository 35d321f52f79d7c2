-- The event leads to where these events and it come, or ends in an alert.
use Rattle.std.proofs.Common.{◌∙◌, ap, sym}
use Rattle.closure.specs.Closed.{last_line}
use Rattle.statekeys.proofs.Standing.{led, goes_there, ends_there}
use Rattle.statewalk.proofs.walk.go_on.Goals as goal

pub returns-clause-goes : goal.returns-clause-goes
returns-clause-goes c = λ going list at.
    goes_there c.args._file.now list c.args.one c.event_on.new.machine c.in_ok-flow.flow c.event_on.new.out.bytes.items
    (led c.args._file.now list c.args.one c.args.machine.now c.event_on.new.machine c.args.room.now.bytes.items c.event_on.new.out.bytes.items
    c.args.room.now.state c.event_on.new.out.state c.in_ok-flow.flow c.in_ok-flow.ensures.acts at c.requires.empty)
    (sym c.is_stopped.ensures ∙ going)

pub returns-clause-ends : goal.returns-clause-ends
returns-clause-ends c = λ ended list at.
    ends_there c.args._file.now list c.args.one c.args.machine.now c.event_on.new.machine c.in_ok-flow.flow c.event_on.new.out.bytes.items
    c.take_last_line.new.line.items at
    (led c.args._file.now list c.args.one c.args.machine.now c.event_on.new.machine c.args.room.now.bytes.items c.event_on.new.out.bytes.items
    c.args.room.now.state c.event_on.new.out.state c.in_ok-flow.flow c.in_ok-flow.ensures.acts at c.requires.empty)
    (sym c.is_stopped.ensures ∙ ended) (c.in_ok-take_last_line.ensures ∙ ap last_line c.deref.ensures.value)

pub returns-clause-whole : goal.returns-clause-whole
returns-clause-whole c = c.in_ok-flow.ensures.acts.going.1
