-- The nodes so far are in no list.
use Rattle.std.proofs.Common.{◌≡◌, ℕ, ◌<◌, ◌≤◌, None}
use Rattle.execlist.specs.{Lists.home, Chains.homes_of}
use Rattle.execlist.proofs.link.LinkSpaceListSpace.reset.Given as goal

abbrev pub invariant-loop-n : goal.invariant-loop-n
invariant-loop-n l = record {
  nodes : l.self.nodes ≡ l.initial.self.nodes;
  headers : l.self.headers ≡ l.initial.self.headers;
  inside : l.n ≤ l.initial.self.nodes;
  out : (m : ℕ) → m < l.n → home (homes_of l.self.block.links l.self.nodes) m ≡ None;
}
