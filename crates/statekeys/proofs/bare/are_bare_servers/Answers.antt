-- One more is bare, and then all are.
use Rattle.std.proofs.Common.{rules, arith, ◌≡◌, All, map, true, sym, subst}
use Rattle.script.specs.{Commands.command_view, File.ServerData, Records.server_view, declared.file.ServerRecord.ServerRecord}
use Rattle.statekeys.specs.Fits.{HasBareWord}
use Rattle.statekeys.proofs.BareLemmas.{all_more, all_end}
use Rattle.statekeys.proofs.bare.are_bare_servers.Goals as goal

pub loop-server-preserved : goal.loop-server-preserved
loop-server-preserved c =
    let code = c.is_bare_code.ensures c.if-not-is_bare_code.false in
    let one : All HasBareWord (map command_view c.server-item.result.code.items) = search rules in
    all_more (λ (it : ServerData). All HasBareWord it.code) server_view c.args.servers.now c.loop-server.server-index c.server-item.result c.loop-server-test.true c.loop-server.invariant
    (subst (λ (x : ServerRecord). All HasBareWord (server_view x).code) c.server-item.is one)

pub returns : goal.returns
returns c = λ is. all_end (λ (it : ServerData). All HasBareWord it.code) server_view c.args.servers.now c.loop-server.server-index (omega arith) c.loop-server.invariant
