-- Numbers as they are written in the texts.
use Rattle.std.specs.Prelude.{ℕ, ◌-◌, Bool, not, ◌&&◌, ◌||◌, nat_le, nat_lt, ◌==◌, List, [], ◌∷◌, length, slice_index, Option, Some, None, option_and_then, if◌then◌else◌}
use Rattle.std.specs.{List.list_all, Str.Parse.digits_value}

-- a decimal digit, `0` to `9`
abbrev pub is_digit : ℕ → Bool
is_digit b = nat_le 48 b && nat_le b 57

-- a hexadecimal digit, `0` to `9` or `A` to `F`
abbrev pub is_hex_digit : ℕ → Bool
is_hex_digit b = (nat_le 48 b && nat_le b 57) || (nat_le 65 b && nat_le b 70)

-- the number, if it is one of 32 bits
abbrev pub below_word : ℕ → Option ℕ
below_word n = if nat_lt n 4294967296 then Some n else None

-- the number that decimal digits state: there is no leading zero, and it is one of 32 bits
abbrev pub decimal_of : List ℕ → Option ℕ
decimal_of digits =
    if nat_lt (length digits) 1 || not (list_all is_digit digits) then None
    else if nat_lt 1 (length digits) && (slice_index digits 0 == 48) then None
    else below_word (digits_value 10 digits)

-- the number that 1 to 8 hexadecimal digits state
abbrev pub hex_of : List ℕ → Option ℕ
hex_of digits =
    if (nat_lt (length digits) 1 || nat_lt 8 (length digits)) || not (list_all is_hex_digit digits) then None
    else below_word (digits_value 16 digits)

-- the 32-bit word of -n, for n from 1 to 2,147,483,648
abbrev pub negated : ℕ → Option ℕ
negated n = if nat_le 1 n && nat_le n 2147483648 then Some (4294967296 - n) else None

-- the number of a field: hexadecimal after `$`, a negative decimal number after `-`, else a decimal number
abbrev pub number_written : List ℕ → Option ℕ
number_written [] = None
number_written (b ∷ bs) = if b == 36 then hex_of bs else if b == 45 then option_and_then negated (decimal_of bs) else decimal_of (b ∷ bs)
