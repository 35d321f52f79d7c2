-- The cells written so far.
use Rattle.std.proofs.Common.{◌≡◌}
use Rattle.execlist.specs.Chains.{free_links, empty_links}
use Rattle.execlist.proofs.link.LinkSpaceListSpace.new.Given as goal

abbrev pub invariant-loop-i : goal.invariant-loop-i
invariant-loop-i l = (l.block.links ≡ free_links l.i) × (l.block.base ≡ l.initial.block.base) × (l.block.capacity ≡ l.initial.block.capacity)

abbrev pub invariant-loop-h : goal.invariant-loop-h
invariant-loop-h l = (l.block.links ≡ empty_links l.nodes l.h) × (l.block.base ≡ l.initial.block.base) × (l.block.capacity ≡ l.initial.block.capacity)
