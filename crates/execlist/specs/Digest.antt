-- A number made of a name.
use Rattle.std.specs.Prelude.{ℕ, ◌+◌, ◌*◌, ◌^◌, ◌%◌, List, fold, Option, Some, None}

-- one more byte
abbrev pub digest_step : ℕ → ℕ → ℕ
digest_step d byte = (d * 31 % 2 ^ 64 + byte) % 2 ^ 64

abbrev pub digest_of : List ℕ → ℕ
digest_of bytes = fold digest_step 0 bytes

-- that of a name, or 0 for none
abbrev pub digest_or : Option (List ℕ) → ℕ
digest_or None = 0
digest_or (Some bytes) = digest_of bytes
