-- What follows a place in its sequence, and what comes before it: a head, the nodes in their order, a tail.
use Rattle.std.specs.Prelude.{◌≡◌, ℕ, zero, suc, ◌+◌, ◌<◌, ◌≤◌, List, [], ◌∷◌, ◌++◌, length, map, reverse, Option, Some, None, if◌then◌else◌}
use Rattle.execlist.specs.declared.link.Place.TheVariants.{Head, Node, Tail}
use Rattle.execlist.specs.{declared.link.Place.Place, Order.first, Lists.sequence, Lists.home, Lists.is_at, Lists.times, Lists.part_before, Lists.part_after, Lists.last}

-- the header or the node is one of the space's
abbrev pub IsPlace : List (List ℕ) → List (Option ℕ) → Place → Type 0
IsPlace seqs homes (Head h) = h < length seqs
IsPlace seqs homes (Tail h) = h < length seqs
IsPlace seqs homes (Node n) = n < length homes

-- a node, or else that end of the list
abbrev pub node_or : Place → Option ℕ → Place
node_or end None = end
node_or end (Some n) = Node n

-- the place after node n of a header, or none if it has no header
abbrev pub after_node : List (List ℕ) → ℕ → Option ℕ → Option Place
after_node seqs n None = None
after_node seqs n (Some h) = Some (node_or (Tail h) (first (part_after n (sequence seqs h))))

-- the place before node n of a header, or none if it has no header
abbrev pub before_node : List (List ℕ) → ℕ → Option ℕ → Option Place
before_node seqs n None = None
before_node seqs n (Some h) = Some (node_or (Head h) (last (part_before n (sequence seqs h))))

-- the place after one: a list ends at its tail
abbrev pub next_place : List (List ℕ) → List (Option ℕ) → Place → Option Place
next_place seqs homes (Head h) = Some (node_or (Tail h) (first (sequence seqs h)))
next_place seqs homes (Node n) = after_node seqs n (home homes n)
next_place seqs homes (Tail h) = None

-- the place before one: a list begins at its head
abbrev pub prev_place : List (List ℕ) → List (Option ℕ) → Place → Option Place
prev_place seqs homes (Head h) = None
prev_place seqs homes (Node n) = before_node seqs n (home homes n)
prev_place seqs homes (Tail h) = Some (node_or (Head h) (last (sequence seqs h)))

-- the places that are met from one on by a step, at most that many
abbrev pub places_met : (Place → Option Place) → ℕ → Option Place → List Place
places_met step zero place = []
places_met step (suc most) None = []
places_met step (suc most) (Some place) = place ∷ places_met step most (step place)

-- a node is once in the sequence of its header, and in no other
abbrev pub AreInOneSequence : List (List ℕ) → List (Option ℕ) → Type 0
AreInOneSequence seqs homes = (h n : ℕ) → times n (sequence seqs h) ≡ (if is_at (home homes n) h then 1 else 0)

-- From the head of a header `next_place` meets its nodes in their order, then its tail, and ends there; from the tail
-- `prev_place` meets them from the last to the first, then the head, and ends there.
pub record MeetsSequence (seqs : List (List ℕ)) (homes : List (Option ℕ)) (h most : ℕ) : Type 0 where
  pub onwards : places_met (next_place seqs homes) most (Some (Head h)) ≡ Head h ∷ map (λ n. Node n) (sequence seqs h) ++ Tail h ∷ []
  pub back : places_met (prev_place seqs homes) most (Some (Tail h)) ≡ Tail h ∷ map (λ n. Node n) (reverse (sequence seqs h)) ++ Head h ∷ []

abbrev pub WalksMeetSequences : Type 0
WalksMeetSequences =
    (seqs : List (List ℕ)) (homes : List (Option ℕ)) → AreInOneSequence seqs homes → (h most : ℕ) → length (sequence seqs h) + 2 ≤ most
    → MeetsSequence seqs homes h most
