-- Numbers as bytes: seven bits a byte, the lowest first; all but the last byte of a number have the eighth bit set.
use Rattle.std.specs.Prelude.{ℕ, zero, suc, ◌+◌, ◌/◌, ◌%◌, nat_lt, List, [], ◌∷◌, flat_map, if◌then◌else◌}

-- a number in at most that number of bytes and one
abbrev pub bytes_in : ℕ → ℕ → List ℕ
bytes_in zero n = n ∷ []
bytes_in (suc more) n = if nat_lt n 128 then n ∷ [] else (128 + n % 128) ∷ bytes_in more (n / 128)

-- a number below 2 to the power 64 takes at most ten
abbrev pub number_bytes : ℕ → List ℕ
number_bytes n = bytes_in 9 n

abbrev pub key_bytes : List ℕ → List ℕ
key_bytes numbers = flat_map number_bytes numbers
