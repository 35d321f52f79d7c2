-- What a writer that is lent reports.
use Rattle.std.specs.Prelude.{ℕ, List, ◌∷◌, Option, None, Some}

-- the name of the loan, and after it what the writer holds
abbrev pub named : ℕ → Option (List ℕ) → Option (List ℕ)
named name None = None
named name (Some held) = Some (name ∷ held)
