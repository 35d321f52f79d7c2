-- How a queue of numbered items is kept, and which of its items is next: in the order in which they are to run, as Exec
-- keeps its lists, or in order of arrival, as the abstract machine does. Rules that hold for both take the discipline
-- as an argument.
use Rattle.std.specs.Prelude.{ℕ, ℤ, pos, List, [], ◌∷◌, ◌++◌, Option, slice_index_or}
use Rattle.execlist.specs.Order.{enqueue, first, chosen}

-- where an arriving item is put among the items of a queue, and which of them is next; both by the priorities of all
-- items
pub record Discipline : Type 0 where
  pub arrival : (ℕ → ℤ) → List ℕ → ℕ → List ℕ
  pub choice : (ℕ → ℤ) → List ℕ → Option ℕ

-- an arriving item is put after those of its priority, and the first item is next
abbrev pub by_priority : Discipline
by_priority = record { arrival = enqueue; choice = λ key. first }

-- an arriving item is put last, and the earliest among those of highest priority is next: such a queue is never sorted
-- (RKM Libraries, Exec Tasks: scheduling)
abbrev pub by_arrival : Discipline
by_arrival = record { arrival = λ key xs x. xs ++ x ∷ []; choice = chosen }

-- the priority of item n, from a list of the priorities of all items; 0 if the list has no item n
abbrev pub pri_at : List ℤ → ℕ → ℤ
pri_at pris n = slice_index_or pris n (pos 0)
