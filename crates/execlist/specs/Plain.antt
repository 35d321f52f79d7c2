-- How a list space in vectors represents its sequences: all linked nodes in one list, and the header of each node.
use Rattle.std.specs.Prelude.{◌≡◌, ℕ, suc, ◌<◌, List, [], ◌∷◌, length, Option, Some, None, is_some, if◌then◌else◌, filter, map}
use Rattle.std.specs.List.{range_with_len}
use Rattle.execlist.specs.Lists.{home, is_at, times}

-- the nodes of header h, in their order
abbrev pub nodes_of : List (Option ℕ) → ℕ → List ℕ → List ℕ
nodes_of homes h all = filter (λ n. is_at (home homes n) h) all

-- the sequence of each header
abbrev pub sequences_of : ℕ → List ℕ → List (Option ℕ) → List (List ℕ)
sequences_of headers all homes = map (λ h. nodes_of homes h all) (range_with_len 0 headers)

-- how many nodes have a header
abbrev pub linked_count : List (Option ℕ) → ℕ
linked_count [] = 0
linked_count (None ∷ hs) = linked_count hs
linked_count (Some h ∷ hs) = suc (linked_count hs)

-- the list holds each node that has a header, once, and no other; each header is one of the space's
pub record IsSpace (headers : ℕ) (all : List ℕ) (homes : List (Option ℕ)) : Type 0 where
  pub counted : length all ≡ linked_count homes
  pub stands : (n : ℕ) → times n all ≡ (if is_some (home homes n) then 1 else 0)
  pub homed : (n h : ℕ) → home homes n ≡ Some h → h < headers
