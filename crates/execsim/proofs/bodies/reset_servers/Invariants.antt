-- the servers so far are those of the file, and all else of them stays
use Rattle.std.proofs.Common.{◌≡◌, length, map, take}
use Rattle.script.specs.Records as records
use Rattle.execsim.specs.{Resetting.server_shape, Views.interrupting, Views.server_view}
use Rattle.execsim.proofs.bodies.reset_servers.Given as goal

abbrev pub invariant-loop-k : goal.invariant-loop-k
invariant-loop-k l = record {
  same : take l.k (map server_view l.servers.items) ≡ take l.k (map records.server_view l.file);
  kept : map interrupting (map server_view l.servers.items) ≡ map interrupting (map server_view l.initial.servers.items);
  shapes : map server_shape (map server_view l.servers.items) ≡ map server_shape (map server_view l.initial.servers.items);
  count : length l.servers.items ≡ length l.file;
}
