-- What is told of a part that is refused.
use Rattle.std.specs.Prelude.{ℕ, ◌==◌, List, [], ◌++◌, take, codes, decimal, Option, None, Some, slice_get, if◌then◌else◌}
use Rattle.std.specs.Borrow.{Bor}
use Rattle.std.specs.Fmt.{signed_decimal}
use Rattle.exec_status.specs.Status.{code_of}
use Rattle.join_commands.specs.declared.refusal.Cause.{Cause}
use Rattle.join_commands.specs.declared.refusal.Cause.TheVariants.{NoStatus, StatusIsnt, NoLines, NotLine, StatusDiffers, NotDealt, NoSummary, Contradicts, TooLarge, Changed}
use Rattle.join_commands.specs.declared.front.Front.{Front}
use Rattle.join_commands.specs.declared.refusal.Refusal.{Refusal}
use Rattle.join_commands.specs.declared.summary.Contradiction.{Contradiction}
use Rattle.join_commands.specs.declared.summary.Contradiction.TheVariants.{Records, Sum}

-- The name at a place.
abbrev pub part_name : Option (Bor (List ℕ)) → List ℕ
part_name None = []
part_name (Some name) = name.now

abbrev pub part_name_at : List (Bor (List ℕ)) → ℕ → List ℕ
part_name_at names at = part_name (slice_get names at)

-- The first bytes of a status, or that there are none.
abbrev pub front_text : Front → List ℕ
front_text front = if front.count == 0 then codes "missing" else take front.count front.bytes

-- How the numbers of a summary contradict each other.
abbrev pub contradiction_text : Contradiction → List ℕ
contradiction_text (Records told found) =
    codes ".out: there are " ++ decimal told ++ codes " records, and " ++ decimal found
    ++ codes " by the sorts of lines\n"
contradiction_text (Sum sum) =
    codes ".out: the sum is " ++ signed_decimal sum ++ codes ", and there are no values\n"

-- What is told behind the name of a part that is refused for this cause.
abbrev pub part_cause_text : List (Bor (List ℕ)) → List ℕ → Cause → List ℕ
part_cause_text names name NoStatus = codes ".status: No such file or directory\n"
part_cause_text names name (StatusIsnt said) =
    codes ".status: the status is " ++ front_text said ++ codes ", and not 0, 1 or 4\n"
part_cause_text names name NoLines = codes ".out: No such file or directory\n"
part_cause_text names name (NotLine number) =
    codes ".out: line " ++ decimal number ++ codes " isn't that of record " ++ decimal number
    ++ codes "\n"
part_cause_text names name (StatusDiffers told found) =
    codes ".status: the status is " ++ decimal (code_of told) ++ codes ", but the lines of "
    ++ name ++ codes ".out say " ++ decimal (code_of found) ++ codes "\n"
part_cause_text names name (NotDealt number ended) =
    codes ".out: line " ++ decimal number ++ codes " wasn't dealt in turn: "
    ++ part_name_at names ended ++ codes ".out has ended before\n"
part_cause_text names name NoSummary = codes ".out: this isn't a summary\n"
part_cause_text names name (Contradicts contradiction) = contradiction_text contradiction
part_cause_text names name TooLarge = codes ".out: the sums with its numbers are too large\n"
part_cause_text names name Changed = codes ".out: it was changed while it was read\n"

-- The line that tells why a part of these names is refused.
abbrev pub part_refusal_text : List (Bor (List ℕ)) → Refusal → List ℕ
part_refusal_text names refusal =
    codes "refused: " ++ part_name_at names refusal.at
    ++ part_cause_text names (part_name_at names refusal.at) refusal.cause
