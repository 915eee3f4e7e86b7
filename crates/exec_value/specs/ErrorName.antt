-- What an error may be called.
use Rattle.std.specs.Prelude.{ℕ, Bool, ◌&&◌, ◌||◌, List, length, nat_eq, nat_lt, nat_le, codes}
use Rattle.std.specs.Char.{is_ascii_alphanumeric}
use Rattle.std.specs.List.{list_all, list_any}
use Rattle.exec_value.specs.declared.limits.TheConstants.{ERROR_NAME_BYTES}

-- an ASCII letter, a digit, `-`, `_`, `.` or `@`
abbrev pub is_name_byte : ℕ → Bool
is_name_byte byte = is_ascii_alphanumeric byte || list_any (nat_eq byte) (codes "-_.@")

-- an error name: one such byte or more, and not too many
abbrev pub is_error_name : List ℕ → Bool
is_error_name bytes =
    nat_lt 0 (length bytes) && nat_le (length bytes) ERROR_NAME_BYTES && list_all is_name_byte bytes
