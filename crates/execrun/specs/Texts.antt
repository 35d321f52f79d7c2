-- What is at a path, and what is read from there.
use Rattle.std.specs.Prelude.{◌≡◌, ℕ, List, Option, None, Some, IfSome}

-- what is at each path, if that is reported
abbrev pub TextAt : Type 0
TextAt = List ℕ → Option (List ℕ)

-- nothing is reported of any path
abbrev pub nothing_told : TextAt
nothing_told path = None

-- these bytes are the text at the path, if that is reported
abbrev pub IsTextAt : TextAt → List ℕ → List ℕ → Type 0
IsTextAt text_at path bytes = IfSome (text_at path) (λ all. bytes ≡ all)

-- all that is reported of a text is before its reader
abbrev pub Opens : Option (List ℕ) → Option (List ℕ) → Type 0
Opens told remaining = IfSome told (λ all. remaining ≡ Some all)
