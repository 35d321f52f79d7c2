-- The header is read from the node's own cell.
use Rattle.std.proofs.Common.{◌<◌, ◌-◌, ap, sym, ◌∙◌, arith}
use Rattle.execlist.specs.Chains.{header_of, lists_of, homes_of}
use Rattle.execlist.proofs.{PlainLemmas.home_header, LinkLemmas.homes_length, LinkLemmas.home-read, LinkLemmas.header-less}
use Rattle.execlist.proofs.link.LinkSpaceListSpace.home.Goals as goal

pub home_id-home-requires : goal.home_id-home-requires
home_id-home-requires c =
    let s = c.args.self.now in
    omega (arith, c.requires, homes_length s.block.links s.nodes, s.linked.cells)

pub returns-then-home-eq0 : goal.returns-then-home-eq0
returns-then-home-eq0 c =
    let s = c.args.self.now in
    let small : c.args.n < s.nodes = omega (arith, c.requires, homes_length s.block.links s.nodes) in
    record {
      value = ap header_of (sym c.if-home-eq0.true) ∙ home-read s.block.links s.nodes c.args.n c.home_id-home.result small c.home_id-home.ensures;
      known = tt;
    }

pub returns-else-home-eq0 : goal.returns-else-home-eq0
returns-else-home-eq0 c =
    let s = c.args.self.now in
    let small : c.args.n < s.nodes = omega (arith, c.requires, homes_length s.block.links s.nodes) in
    let value = header-less c.home_id-home.result c.if-home-eq0.false ∙ home-read s.block.links s.nodes c.args.n c.home_id-home.result small c.home_id-home.ensures in
    let h = c.home_id-home.result - 1 in
    record {
      value = value;
      known = home_header (lists_of s.block.links s.nodes s.headers) (homes_of s.block.links s.nodes) c.args.n h (s.stands h c.args.n) (sym value);
    }
