-- The nodes so far are in the header, in order and with their names, and those after them are in none.
use Rattle.std.proofs.Common.{◌≡◌, ℕ, ◌≤◌, take, length, map, [], ◌∷◌, None}
use Rattle.execlist.specs.Lists.{home}
use Rattle.execlib.specs.Libraries.{numbers, key_of, description_of}
use Rattle.execlib.proofs.libs.names_of.Given as goal

abbrev pub invariant-loop-i : goal.invariant-loop-i
invariant-loop-i g l = record {
  listed : g.S.ListSpace.sequences l.names ≡ numbers l.i ∷ [];
  count : length (g.S.ListSpace.homes l.names) ≡ length l.libraries;
  nowhere : (t : ℕ) → l.i ≤ t → home (g.S.ListSpace.homes l.names) t ≡ None;
  named : take l.i (g.S.ListSpace.keys l.names) ≡ take l.i (map key_of (map description_of l.libraries));
}
