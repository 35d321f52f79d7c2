-- The start, and then the events.
use Rattle.runadvice.proofs.Follows.{ran, ran_to, whole_then}
use Rattle.runadvice.proofs.following.follow.Goals as goal

pub returns-clause-agrees : goal.returns-clause-agrees
returns-clause-agrees c = whole_then c.advance_all.result
    (λ goes m h. ran m c.args.list.now (c.in_ok-begin.ensures.agrees m h) goes)
    c.advance_all.ensures.goes

pub returns-clause-tells : goal.returns-clause-tells
returns-clause-tells c = whole_then c.advance_all.result
    (λ goes m h. ran_to m c.args.list.now (c.in_ok-begin.ensures.agrees m h) (c.in_ok-begin.ensures.tells m h) goes)
    c.advance_all.ensures.goes
