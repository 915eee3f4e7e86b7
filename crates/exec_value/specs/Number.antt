-- Numbers, and how an int record shows one.
use Rattle.std.specs.Prelude.{ℕ, ◌^◌, ℤ, pos, neg_ℤ, int_le, int_lt, Bool, ◌&&◌, if◌then◌else◌, List, length, drop, nat_lt, Option, Some, None}
use Rattle.std.specs.Char.{is_ascii_digit}
use Rattle.std.specs.List.{list_all}
use Rattle.std.specs.Str.Parse.{starts_with_minus, digits_value, signed_digits_value}

-- a number of the type i64
abbrev pub is_i64 : ℤ → Bool
is_i64 n = int_le (neg_ℤ (pos (2 ^ 63))) n && int_lt n (pos (2 ^ 63))

-- the bytes without the minus sign that may stand first
abbrev pub without_minus : List ℕ → List ℕ
without_minus bytes = if starts_with_minus bytes then drop 1 bytes else bytes

-- one digit or more, after a minus sign that may stand first
abbrev pub is_numeral : List ℕ → Bool
is_numeral bytes = nat_lt 0 (length (without_minus bytes))
    && list_all is_ascii_digit (without_minus bytes)

-- the number of an int record: of a numeral, where it is one of the type i64
unfoldable pub int_of : List ℕ → Option ℤ
int_of bytes =
    if is_numeral bytes && is_i64 (signed_digits_value 10 bytes)
    then Some (signed_digits_value 10 bytes) else None

-- what digits show, where each byte is one
abbrev pub size_of : List ℕ → Option ℕ
size_of bytes = if list_all is_ascii_digit bytes then Some (digits_value 10 bytes) else None

-- a number by its sign and its size
abbrev pub signed : Bool → ℕ → ℤ
signed minus size = if minus then neg_ℤ (pos size) else pos size
