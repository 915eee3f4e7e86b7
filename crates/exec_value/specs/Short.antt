-- The bytes that stand in place.
use Rattle.std.specs.Prelude.{ℕ, List, take}
use Rattle.exec_value.specs.declared.short.Short.{Short}

-- so many of them, from the first on
abbrev pub short_bytes : Short → List ℕ
short_bytes short = take short.len short.bytes
