-- Names of variables and labels.
use Rattle.std.specs.Prelude.{ℕ, Bool, ◌&&◌, ◌||◌, nat_le, ◌==◌, List, length, slice_index, Option, Some, None, if◌then◌else◌}
use Rattle.std.specs.List.{list_all}

-- a byte of an identifier: `a` to `z`, `0` to `9` or `_`
abbrev pub is_identifier_byte : ℕ → Bool
is_identifier_byte b = (nat_le 97 b && nat_le b 122) || ((nat_le 48 b && nat_le b 57) || b == 95)

-- an identifier: 1 to 16 bytes, first a lower-case letter, and then lower-case letters, digits and `_`
abbrev pub is_identifier : List ℕ → Bool
is_identifier n =
    ((nat_le 1 (length n) && nat_le (length n) 16) && (nat_le 97 (slice_index n 0) && nat_le (slice_index n 0) 122))
    && list_all is_identifier_byte n

-- the text, if it is an identifier
abbrev pub identifier_in : List ℕ → Option (List ℕ)
identifier_in text = if is_identifier text then Some text else None
