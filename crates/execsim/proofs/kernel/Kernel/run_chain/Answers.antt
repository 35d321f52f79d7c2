-- The proof of `Kernel::run_chain`: the servers of a source run one after another, until one claims the interrupt, or
-- an alert stops the machine.
use Rattle.std.proofs.Common.{◌≤◌, ap, sym, ◌∙◌, arith, length}
use Rattle.execmodel.specs.Interrupts.{server_at}
use Rattle.execsim.specs.Agreement.{Seen}
use Rattle.execsim.proofs.{Serving.chain_alerted, Serving.chain_claimed, Serving.chain_done, Serving.chain_goes_on, Serving.chain_over, Serving.known_after, Serving.known_here, kernel.Kernel.run_chain.Goals.then-last-via-then-last, kernel.Kernel.run_chain.Goals.then-last-via-else-last+then-self}
use Rattle.execsim.proofs.kernel.Kernel.run_chain.Goals as goal

pub loop-place-init : goal.loop-place-init
loop-place-init g c = record { known = known_here _; rest = λ n t follows. follows }

pub returns-in-None : goal.returns-in-None
returns-in-None g c = c.loop-place.invariant.rest _ _ (chain_over _ _ _ (rw c.in-None.is at c.server_at.ensures))

pub returns-then-last : goal.returns-then-last
returns-then-last g c =
    let claim = sym (ap (λ (m : Seen). (server_at c.in-Some.k m.bodies).claim) c.self-in-loop-place.view_is) ∙ sym c.claims-last.ensures in
    let stopped = ap (λ (m : Seen). m.stopped) (sym c.self-in-Some.view_is) in
    c.loop-place.invariant.rest c.run_server.new.self (g.W.Witness.told c.run_server.new.out) (elim c.then-last.branch [
      | then-last-via-then-last w ↦ chain_claimed {n = c.run_server.new.self} {b = g.W.Witness.told c.run_server.new.out} _ _ _ (rw c.in-Some.is at c.server_at.ensures) c.run_server.ensures (claim ∙ w.if-last.true)
      | then-last-via-else-last+then-self w ↦ chain_alerted {n = c.run_server.new.self} {b = g.W.Witness.told c.run_server.new.out} _ _ _ (rw c.in-Some.is at c.server_at.ensures) c.run_server.ensures (stopped ∙ w.if-self.true)
    ])

pub loop-place-preserved : goal.loop-place-preserved
loop-place-preserved g c =
    let claim = sym (ap (λ (m : Seen). (server_at c.in-Some.k m.bodies).claim) c.self-in-loop-place.view_is) ∙ sym c.claims-last.ensures in
    let stopped = ap (λ (m : Seen). m.stopped) (sym c.self-in-Some.view_is) in
    record {
      known = known_after _ c.loop-place.invariant.known c.run_server.ensures;
      rest = λ n t follows. c.loop-place.invariant.rest n t (chain_goes_on _ _ _ (rw c.in-Some.is at c.server_at.ensures) c.run_server.ensures
          (claim ∙ c.if-last.false) (stopped ∙ c.if-self.false) follows);
    }

pub returns : goal.returns
returns g c =
    let count = c.server_count-place-end.ensures ∙ ap (λ (m : Seen). length m.bodies.servers) c.self.view_is in
    let all : length c.args.self.now.bodies.servers ≤ c.loop-place.place = omega (arith, count, c.loop-place-test.false, c.loop-place.auto.place-end) in
    chain_done _ c.loop-place.place all c.loop-place.invariant.known c.loop-place.invariant.rest
