-- The proof of `run_on`: runs a way on a machine that was not started, that of the file.
use Rattle.std.proofs.Common.{◌∙◌, ◌++◌, ap₂, List, ℕ, ap, sym}
use Rattle.execmodel.specs.{State.booted, Step.run}
use Rattle.execsim.specs.Headline.{flow_of}
use Rattle.wayrun.proofs.{Keeping.keeps_seen, Standing.ending_is}
use Rattle.wayrun.proofs.running.run_on.Goals as goal

pub returns-clause-kept : goal.returns-clause-kept
unfolding run
returns-clause-kept c =
    let file = c.args._file.now in
    let o = run file c.args.way.now in
    let listens = sym c.is_good.ensures ∙ c.if-not-is_good.false in
    let plays = c.play-flow.ensures in
    let looks = plays.follows.prints (booted file) c.requires.agrees in
    let there = plays.follows.agrees (booted file) c.requires.agrees listens in
    c.in_ok-write_ending.ensures
    ∙ ap₂ (λ (kept ends : List ℕ). kept ++ ends)
    (keeps_seen c.args.look.now.see c.play-flow.new.witness.see c.args.look.now.room.bytes.items c.play-flow.new.witness.room.bytes.items c.args.look.now.room.state
    c.play-flow.new.witness.room.state o.lines looks c.requires.good c.requires.empty listens)
    (ending_is c.play-flow.result c.play-flow.new.self.seen o.state plays.flow there)

pub returns-clause-flow : goal.returns-clause-flow
unfolding run
returns-clause-flow c =
    let file = c.args._file.now in
    let listens = sym c.is_good.ensures ∙ c.if-not-is_good.false in
    c.play-flow.ensures.flow ∙ ap flow_of (c.play-flow.ensures.follows.agrees (booted file) c.requires.agrees listens).stopped
