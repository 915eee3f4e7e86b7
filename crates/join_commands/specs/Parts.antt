-- Which parts are whole, and why others are not.
use Rattle.std.specs.Prelude.{◌≡◌, ◌≢◌, ℕ, List, ◌++◌, codes, Option, None, Some, IsNone}
use Rattle.exec_io.specs.Shelves.{Texts, text_of}
use Rattle.exec_status.specs.declared.status.Status.{Status}
use Rattle.join_commands.specs.declared.refusal.Cause.{Cause}
use Rattle.join_commands.specs.declared.refusal.Cause.TheVariants.{NoStatus, StatusIsnt, NoLines, NotLine, StatusDiffers}
use Rattle.part_lines.specs.Lines.{IsPartText, StopsAt}
use Rattle.part_lines.specs.declared.tally.Tally.{Tally}
use Rattle.part_lines.specs.Tallies.{Tallies}
use Rattle.join_commands.specs.Statuses.{told_status, lines_status}

-- The files of a part.
abbrev pub out_name : List ℕ → List ℕ
out_name name = name ++ codes ".out"

abbrev pub status_name : List ℕ → List ℕ
status_name name = name ++ codes ".status"

-- The file of this name holds the lines of these words.
abbrev pub HoldsLines : Texts → List ℕ → List (List ℕ) → Type 0
HoldsLines texts name said =
    (text : List ℕ) × (text_of texts (out_name name) ≡ Some text) × IsPartText text said

-- The run over the part of this name ended with this status.
abbrev pub ToldStatus : Texts → List ℕ → Option Status → Type 0
ToldStatus texts name status =
    (text : List ℕ) × (text_of texts (status_name name) ≡ Some text) × (told_status text ≡ status)

-- The part of this name is whole: its lines are these, and its run ended as they say.
pub record IsWholePart (texts : Texts) (name : List ℕ) (said : List (List ℕ)) : Type 0 where
  pub lines : HoldsLines texts name said
  pub status : ToldStatus texts name (Some (lines_status said))

-- The part of this name is whole, and the tally has counted its lines.
abbrev pub IsTallied : Texts → List ℕ → Tally → Type 0
IsTallied texts name tally =
    (said : List (List ℕ)) × IsWholePart texts name said × Tallies tally said

-- The part of this name isn't whole, for this cause.
abbrev pub IsPartRefusedFor : Texts → List ℕ → Cause → Type 0
IsPartRefusedFor texts name NoStatus = IsNone (text_of texts (status_name name))
IsPartRefusedFor texts name (StatusIsnt said) = ToldStatus texts name None
IsPartRefusedFor texts name NoLines = IsNone (text_of texts (out_name name))
IsPartRefusedFor texts name (NotLine number) =
    (text : List ℕ) × (text_of texts (out_name name) ≡ Some text) × StopsAt text number
IsPartRefusedFor texts name (StatusDiffers told found) =
    (said : List (List ℕ)) × HoldsLines texts name said × ToldStatus texts name (Some told)
    × (found ≡ lines_status said) × (told ≢ found)
IsPartRefusedFor texts name cause = ⊥
