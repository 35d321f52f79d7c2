-- Where the search for a name begins.
use Rattle.std.specs.Prelude.{◌≡◌, ◌≤◌, ◌<◌, ◌+◌, ◌*◌, ◌-◌, ◌%◌, ℕ, List, length, slice_index_or}
use Rattle.taskq.specs.Tasks.{name_at}

-- the mark of a name, below 1,024, by its length and its last three bytes: few names of a machine have the same
abbrev pub mark : List ℕ → ℕ
mark name =
    (slice_index_or name (length name - 1) 0 + slice_index_or name (length name - 2) 0 * 10 + slice_index_or name (length name - 3) 0 * 100 + length name % 1024)
    % 1024

-- the number for the mark of each task's name, from that task on, is at most the task's
pub record AreFirstsFrom (from : ℕ) (firsts : List ℕ) (names : List (List ℕ)) : Type 0 where
  pub many : length firsts ≡ 1024
  pub below : (t : ℕ) → from ≤ t → t < length names → slice_index_or firsts (mark (name_at names t)) 0 ≤ t

-- so it is for all tasks
abbrev pub AreFirsts : List ℕ → List (List ℕ) → Type 0
AreFirsts = AreFirstsFrom 0
