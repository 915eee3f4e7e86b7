-- Why bytes are no plan, and where, in a sentence.
use Rattle.std.specs.Prelude.{ℕ, ◌++◌, List, codes, string_bytes}
use Rattle.plan_places.specs.declared.refusal.Cause.{Cause}
use Rattle.plan_places.specs.declared.refusal.Refusal.{Refusal}
use Rattle.plan_places.specs.declared.refusal.Cause.TheVariants.{TooLong, NotJson, Form, UnknownName, Limit, Depth, Misplaced, Size, OtherJob, Kinds, Excluded}

-- the sentence as far as its place
abbrev pub head_of : Cause → List ℕ
head_of TooLong = codes "refused: P1 too long"
head_of NotJson = codes "refused: P2 not JSON"
head_of Form = codes "refused: P3 form"
head_of UnknownName = codes "refused: P4 unknown name"
head_of Limit = codes "refused: P5 limit"
head_of Depth = codes "refused: P5 limit"
head_of Misplaced = codes "refused: P5 limit"
head_of Size = codes "refused: P5 limit"
head_of OtherJob = codes "refused: P6 kinds"
head_of Kinds = codes "refused: P6 kinds"
head_of Excluded = codes "refused: P7 settings exclude each other"

abbrev pub reason_line : Refusal → List ℕ
reason_line refusal =
    head_of refusal.cause
    ++ (refusal.place.items ++ (codes ": " ++ (string_bytes refusal.reason ++ codes "\n")))
