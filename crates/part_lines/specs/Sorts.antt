-- What a line says behind its number, and of which sort that is.
use Rattle.std.specs.Prelude.{ℕ, Bool, ◌&&◌, ◌||◌, ◌==◌, List, drop, codes, bytes_eq, Option, None, Some, if◌then◌else◌}
use Rattle.std.specs.List.{starts_with}
use Rattle.exec_value.specs.ErrorName.{is_error_name}
use Rattle.part_lines.specs.declared.sort.Sort.{Sort}
use Rattle.part_lines.specs.declared.sort.Sort.TheVariants.{Value, Error, Stopped, NoMemory, BadRecord}

-- One text begins with the other.
abbrev pub begins_with : List ℕ → List ℕ → Bool
begins_with text front = starts_with ◌==◌ text front

-- A value has no data, or data behind a blank.
abbrev pub is_value_words : List ℕ → Bool
is_value_words words = bytes_eq words (codes "value") || begins_with words (codes "value ")

-- An error has a name.
abbrev pub is_error_words : List ℕ → Bool
is_error_words words = begins_with words (codes "error ") && is_error_name (drop 6 words)

-- Of which sort the words of a line are, where they are words that a run writes.
unfoldable pub sort_of : List ℕ → Option Sort
sort_of words =
    if is_value_words words then Some Value else (
    if is_error_words words then Some Error else (
    if bytes_eq words (codes "stopped") then Some Stopped else (
    if bytes_eq words (codes "out-of-memory") then Some NoMemory else (
    if bytes_eq words (codes "bad-record") then Some BadRecord else None))))
