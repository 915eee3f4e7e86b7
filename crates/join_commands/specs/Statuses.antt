-- With which status a run over a part ended, and with which its lines say that it did.
use Rattle.std.specs.Prelude.{◌≡◌, ℕ, Bool, ◌||◌, ◌==◌, List, length, count_by, nat_lt, Option, None, Some, codes, bytes_eq, if◌then◌else◌}
use Rattle.exec_status.specs.declared.status.Status.{Status}
use Rattle.exec_status.specs.declared.status.Status.TheVariants.{AllValues, NotAllValues, NoMemory}
use Rattle.join_commands.specs.declared.fault.LookFault.{LookFault}
use Rattle.join_commands.specs.declared.fault.LookFault.TheVariants.{Refused}
use Rattle.join_commands.specs.declared.refusal.Cause.TheVariants.{StatusIsnt}
use Rattle.part_lines.specs.Tallies.{says_value, says_no_memory}

-- The text is a digit, with a line feed behind it or without.
abbrev pub is_code : List ℕ → List ℕ → List ℕ → Bool
is_code digit line text = bytes_eq text digit || bytes_eq text line

-- The status of a run that came to its end, where this is the text of its file.
abbrev pub told_status : List ℕ → Option Status
told_status text =
    if is_code (codes "0") (codes "0\n") text then Some AllValues else (
    if is_code (codes "1") (codes "1\n") text then Some NotAllValues else (
    if is_code (codes "4") (codes "4\n") text then Some NoMemory else None))

-- The text tells no status, and it is refused for that.
abbrev pub IsUntold : List ℕ → LookFault → Type 0
IsUntold text (Refused (StatusIsnt said)) = told_status text ≡ None
IsUntold text fault = ⊥

-- The status of a run that wrote so many lines, of which so many are values and out-of-memory.
abbrev pub counts_status : ℕ → ℕ → ℕ → Status
counts_status lines values no_memory =
    if nat_lt 0 no_memory then NoMemory
    else (if values == lines then AllValues else NotAllValues)

-- The status of a run that wrote these lines.
abbrev pub lines_status : List (List ℕ) → Status
lines_status said = counts_status (length said) (count_by says_value said)
    (count_by says_no_memory said)
