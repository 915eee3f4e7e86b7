-- A status is told by the first bytes of its text.
use Rattle.std.proofs.Common.{◌≡◌, ℕ, List, [], ◌∷◌, take, Some, Result, Ok, Err, refl, sym, ap, ◌∙◌}
use Rattle.std.specs.Prelude.{IfOk, IfErr}
use Rattle.exec_io.specs.Shelves.{Texts, text_of}
use Rattle.exec_status.specs.declared.status.Status.{Status}
use Rattle.join_commands.specs.declared.fault.LookFault.{LookFault}
use Rattle.join_commands.specs.declared.fault.LookFault.TheVariants.{Refused, ReadFault, NoMemory}
use Rattle.join_commands.specs.declared.refusal.Cause.TheVariants.{NoStatus, StatusIsnt, NoLines, NotLine, StatusDiffers, NotDealt, NoSummary, Contradicts, TooLarge, Changed}
use Rattle.join_commands.specs.Faults.{IsLookFault, IsStatusFault}
use Rattle.join_commands.specs.Parts.{ToldStatus, status_name}
use Rattle.join_commands.specs.Statuses.{told_status, IsUntold}

pub told_front : (text : List ℕ) → told_status (take 9 text) ≡ told_status text
told_front [] = refl
told_front (a ∷ []) = refl
told_front (a ∷ b ∷ []) = refl
told_front (a ∷ b ∷ c ∷ text) = refl

-- what the front of a file tells is what the file tells
pub told_of : (all : Texts) (name text front : List ℕ) (result : Result Status LookFault) → text_of all (status_name name) ≡ Some text → front ≡ take 9 text
    → IfOk result (λ status. told_status front ≡ Some status) → IfOk result (λ status. ToldStatus all name (Some status))
told_of all name text front (Ok status) is same told = (text, is, sym (told_front text) ∙ (ap told_status (sym same) ∙ told))
told_of all name text front (Err fault) is same told = tt

-- what the front of a file doesn't tell the file doesn't
pub untold_of : (all : Texts) (name text front : List ℕ) (result : Result Status LookFault) → text_of all (status_name name) ≡ Some text → front ≡ take 9 text
    → IfErr result (IsUntold front) → IfErr result (IsStatusFault all name)
untold_of all name text front (Ok status) is same untold = tt
untold_of all name text front (Err (Refused (StatusIsnt said))) is same untold = (text, is, sym (told_front text) ∙ (ap told_status (sym same) ∙ untold))
untold_of all name text front (Err (Refused NoStatus)) is same untold = absurd untold
untold_of all name text front (Err (Refused NoLines)) is same untold = absurd untold
untold_of all name text front (Err (Refused (NotLine number))) is same untold = absurd untold
untold_of all name text front (Err (Refused (StatusDiffers told found))) is same untold = absurd untold
untold_of all name text front (Err (Refused (NotDealt number at))) is same untold = absurd untold
untold_of all name text front (Err (Refused NoSummary)) is same untold = absurd untold
untold_of all name text front (Err (Refused (Contradicts numbers))) is same untold = absurd untold
untold_of all name text front (Err (Refused TooLarge)) is same untold = absurd untold
untold_of all name text front (Err (Refused Changed)) is same untold = absurd untold
untold_of all name text front (Err ReadFault) is same untold = tt
untold_of all name text front (Err NoMemory) is same untold = tt

-- a part whose status isn't told isn't read
pub look_of_status : (all : Texts) (name : List ℕ) (fault : LookFault) → IsStatusFault all name fault → IsLookFault all name fault
look_of_status all name (Refused NoStatus) is = is
look_of_status all name (Refused (StatusIsnt said)) is = is
look_of_status all name (Refused NoLines) is = absurd is
look_of_status all name (Refused (NotLine number)) is = absurd is
look_of_status all name (Refused (StatusDiffers told found)) is = absurd is
look_of_status all name (Refused (NotDealt number at)) is = absurd is
look_of_status all name (Refused NoSummary) is = absurd is
look_of_status all name (Refused (Contradicts numbers)) is = absurd is
look_of_status all name (Refused TooLarge) is = absurd is
look_of_status all name (Refused Changed) is = absurd is
look_of_status all name ReadFault is = tt
look_of_status all name NoMemory is = tt
