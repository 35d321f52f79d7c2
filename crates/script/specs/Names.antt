-- Names of the machine file.
use Rattle.std.specs.Prelude.{ℕ, Bool, ◌&&◌, ◌||◌, nat_le, ◌==◌, List, length, map}
use Rattle.std.specs.List.{list_all}
use Rattle.arrayvec.specs.ArrayString.{ArrayString}

-- a byte of a name: A to Z, a to z, 0 to 9, `.`, `_` or `-`
abbrev pub is_name_byte : ℕ → Bool
is_name_byte b = ((nat_le 65 b && nat_le b 90) || (nat_le 97 b && nat_le b 122)) || ((nat_le 48 b && nat_le b 57) || ((b == 46 || b == 95) || b == 45))

-- a name: 1 to 31 bytes, each of them A to Z, a to z, 0 to 9, `.`, `_` or `-`
abbrev pub is_name : List ℕ → Bool
is_name text = (nat_le 1 (length text) && nat_le (length text) 31) && list_all is_name_byte text

-- the texts of some names
abbrev pub texts : List ArrayString → List (List ℕ)
texts names = map (λ n. n.bytes) names
