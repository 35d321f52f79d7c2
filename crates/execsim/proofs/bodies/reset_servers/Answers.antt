-- One more server is that of the file; all of it but its commands stays, and their number.
use Rattle.std.proofs.Common.{◌≡◌, ◌<◌, ◌≤◌, true, false, length, map, ap, arith, refl, sym, ◌∙◌, length-set}
use Rattle.std.proofs.lemmas.{List.length-map, Simd.map-map}
use Rattle.script.specs.declared.file.ServerRecord.{ServerRecord}
use Rattle.script.specs.Records as records
use Rattle.execsim.specs.{declared.bodies.Server.Server, Resetting.server_shape, Views.interrupting, Views.server_view}
use Rattle.execsim.proofs.Written.{all_same, one_more_seen, same_there, seen_kept}
use Rattle.execsim.proofs.bodies.reset_servers.Goals as goal

-- servers of one source and priority are alike to the interrupts
alike : (s t : Server) → s.source ≡ t.source → s.pri ≡ t.pri → interrupting (server_view s) ≡ interrupting (server_view t)
alike s t sources pris = λ i. record { source = sources i; pri = pris i }

pub returns-then-not-reset_server-clause-kept : goal.returns-then-not-reset_server-clause-kept
returns-then-not-reset_server-clause-kept c =
    seen_kept interrupting server_view c.loop-k.servers.items c.loop-k.k c.reset_server.new.server c.index_mut.result.now
    (alike c.reset_server.new.server c.index_mut.result.now c.reset_server.ensures.source c.reset_server.ensures.pri ∙ ap (λ (s : Server). interrupting (server_view s)) c.index_mut.ensures.value) ∙ c.loop-k.invariant.kept

pub loop-k-preserved : goal.loop-k-preserved
loop-k-preserved c =
    let file = c.args.file.now in
    let servers = c.loop-k.servers.items in
    let k = c.loop-k.k in
    let new = c.reset_server.new.server in
    let within : k < length servers = omega (arith, c.loop-k-test.true, c.loop-k.invariant.count) in
    record {
      same = one_more_seen server_view records.server_view servers file k new c.index-file-k.result within c.loop-k-test.true c.index-file-k.is
          (c.reset_server.ensures.same c.if-not-reset_server.false) c.loop-k.invariant.same;
      kept = seen_kept interrupting server_view servers k new c.index_mut.result.now
          (alike c.reset_server.new.server c.index_mut.result.now c.reset_server.ensures.source c.reset_server.ensures.pri ∙ ap (λ (s : Server). interrupting (server_view s)) c.index_mut.ensures.value) ∙ c.loop-k.invariant.kept;
      shapes = seen_kept server_shape server_view servers k new c.index_mut.result.now
          (c.reset_server.ensures.kept ∙ ap (λ (s : Server). server_shape (server_view s)) c.index_mut.ensures.value) ∙ c.loop-k.invariant.shapes;
      count = length-set servers k new ∙ c.loop-k.invariant.count;
    }

-- one that has no room for that of the file: then not all have
pub returns-then-not-reset_server-clause-answer : goal.returns-then-not-reset_server-clause-answer
returns-then-not-reset_server-clause-answer c = (
  λ e. cc,
  λ same.
      let servers = c.loop-k.servers.items in
      let file = c.args.file.now in
      let k = c.loop-k.k in
      let shown = λ (s : Server). server_shape (server_view s) in
      let stated = λ (r : ServerRecord). server_shape (records.server_view r) in
      let within : k < length servers = omega (arith, c.loop-k-test.true, c.loop-k.invariant.count) in
      let all : map shown servers ≡ map stated file = sym (map-map server_shape server_view servers) ∙ c.loop-k.invariant.shapes ∙ same ∙ map-map server_shape records.server_view file in
      let bad : true ≡ false = sym (c.reset_server.ensures.answer.1 (same_there shown stated servers file k c.index_mut.result.now c.index-file-k.result
      within c.loop-k-test.true c.index_mut.ensures.value c.index-file-k.is all)) ∙ c.if-not-reset_server.true in cc,
)

pub returns-clause-answer : goal.returns-clause-answer
returns-clause-answer c = (
  λ _.
      let servers = c.loop-k.servers.items in
      let file = c.args.file.now in
      let k = c.loop-k.k in
      let ends_servers : length (map server_view servers) ≤ k = omega (arith, c.loop-k-test.false, c.loop-k.invariant.count, length-map servers server_view) in
      let ends_file : length (map records.server_view file) ≤ k = omega (arith, c.loop-k-test.false, length-map file records.server_view) in
      sym c.loop-k.invariant.shapes ∙ ap (map server_shape) (all_same (map server_view servers) (map records.server_view file) k ends_servers ends_file c.loop-k.invariant.same),
  λ _. refl,
)
