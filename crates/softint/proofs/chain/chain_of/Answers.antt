-- A server of the source is put into its chain, and any other is passed.
use Rattle.std.proofs.Common.{rules, ◌≡◌, ◌<◌, length, insert, All, sym, ◌∙◌, ap, subst, arith}
use Rattle.execlist.specs.Order.{enqueue}
use Rattle.softint.specs.Interrupts.{server_pri, serves}
use Rattle.softint.proofs.{Chains.chain_begins, Chains.chain_takes, Chains.chain_skips, Chains.chain_known, chain.chain_of.Goals.then-serves+in_ok-insert, chain.chain_of.Goals.else-serves}
use Rattle.softint.proofs.chain.chain_of.Goals as goal

pub loop-s-init : goal.loop-s-init
loop-s-init c = c.in_ok-chain.ensures.items ∙ sym (chain_begins (server_pri c.args.servers.now) (serves c.args.source c.args.servers.now))

pub place_for-place-requires-clause-known : goal.place_for-place-requires-clause-known
place_for-place-requires-clause-known c =
    let servers = c.args.servers.now in
    let known = chain_known (server_pri servers) (serves c.args.source servers) c.loop-s.s in
    let there : c.loop-s.s < length servers = search rules in
    subst (All (λ k. k < length servers)) (sym (c.deref.ensures.value ∙ c.loop-s.invariant)) (λ k d within. omega (arith, known k d within, there))

pub loop-s-preserved : goal.loop-s-preserved
loop-s-preserved c =
    let servers = c.args.servers.now in
    let key = server_pri servers in
    let test = serves c.args.source servers in
    let there : c.loop-s.s < length servers = search rules in
    elim c.if-serves.branch [
      | then-serves+in_ok-insert w ↦
          let own = sym c.serves.ensures ∙ w.if-serves.true in
          let placed : w.insert.new.self.items ≡ insert c.loop-s.chain.items w.place_for-place.result c.loop-s.s = search rules in
          rw w.chain-is (placed ∙ ap (λ l. insert l w.place_for-place.result c.loop-s.s) (sym w.deref.ensures.value) ∙ w.place_for-place.ensures.value
          ∙ ap (λ l. enqueue key l c.loop-s.s) (w.deref.ensures.value ∙ c.loop-s.invariant) ∙ sym (chain_takes key test c.loop-s.s own))
      | else-serves w ↦
          let other = sym c.serves.ensures ∙ w.if-serves.false in
          rw w.chain-is (c.loop-s.invariant ∙ sym (chain_skips key test c.loop-s.s other))
    ]
