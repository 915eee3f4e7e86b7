-- Why summaries aren't added.
use Rattle.std.specs.Prelude.{◌≡◌, ◌≢◌, ℕ, ◌+◌, ◌<◌, List, length, take, Some, slice_get}
use Rattle.std.specs.Borrow.{Bor}
use Rattle.exec_io.specs.Shelves.{Texts, text_of}
use Rattle.exec_status.specs.declared.status.Status.{Status}
use Rattle.join_commands.specs.declared.fault.JoinFault.{JoinFault}
use Rattle.join_commands.specs.declared.fault.JoinFault.TheVariants.{Refused as JoinRefused, ReadFault as JoinReadFault, WriteFault as JoinWriteFault, NoMemory as JoinNoMemory}
use Rattle.join_commands.specs.declared.fault.LookFault.{LookFault}
use Rattle.join_commands.specs.declared.fault.LookFault.TheVariants.{Refused, ReadFault, NoMemory}
use Rattle.join_commands.specs.declared.refusal.Cause.{Cause}
use Rattle.join_commands.specs.declared.refusal.Cause.TheVariants.{NoStatus, StatusIsnt, NoLines, StatusDiffers, NoSummary, Contradicts, TooLarge}
use Rattle.join_commands.specs.declared.summary.Numbers.{Numbers}
use Rattle.join_commands.specs.Parts.{IsPartRefusedFor, ToldStatus, out_name}
use Rattle.join_commands.specs.Summaries.{summary_status, summary_text, FitSummary, AreSummaries, AreSummed, DoAgree}

-- A text is the summary of no numbers.
abbrev pub IsNoSummary : List ℕ → Type 0
IsNoSummary text = (numbers : Numbers) → FitSummary numbers → text ≢ summary_text numbers

-- A text is the summary of numbers that contradict each other.
pub record IsContradicted (text : List ℕ) : Type 0 where
  pub numbers : Numbers
  pub text_is : text ≡ summary_text numbers
  pub contradict : ¬ DoAgree numbers

-- Why a text isn't read as a summary.
abbrev pub IsUnreadSummaryFor : List ℕ → Cause → Type 0
IsUnreadSummaryFor text NoSummary = IsNoSummary text
IsUnreadSummaryFor text (Contradicts contradiction) = IsContradicted text
IsUnreadSummaryFor text cause = ⊥

abbrev pub IsUnreadSummary : List ℕ → LookFault → Type 0
IsUnreadSummary text (Refused cause) = IsUnreadSummaryFor text cause
IsUnreadSummary text ReadFault = Unit {0}
IsUnreadSummary text NoMemory = Unit {0}

-- The run over the part of this name ended with another status than its summary says.
pub record EndsElse (texts : Texts) (name : List ℕ) (told : Status) (found : Status) : Type 0 where
  pub numbers : Numbers
  pub text_is : text_of texts (out_name name) ≡ Some (summary_text numbers)
  pub told_is : ToldStatus texts name (Some told)
  pub found_is : found ≡ summary_status numbers
  pub other : told ≢ found

-- The part of this name has no summary that is added, for this cause.
abbrev pub IsSumRefusedFor : Texts → List ℕ → Cause → Type 0
IsSumRefusedFor texts name NoStatus = IsPartRefusedFor texts name NoStatus
IsSumRefusedFor texts name (StatusIsnt said) = IsPartRefusedFor texts name (StatusIsnt said)
IsSumRefusedFor texts name NoLines = IsPartRefusedFor texts name NoLines
IsSumRefusedFor texts name (StatusDiffers told found) = EndsElse texts name told found
IsSumRefusedFor texts name NoSummary =
    (text : List ℕ) × (text_of texts (out_name name) ≡ Some text) × IsNoSummary text
IsSumRefusedFor texts name (Contradicts contradiction) =
    (text : List ℕ) × (text_of texts (out_name name) ≡ Some text) × IsContradicted text
IsSumRefusedFor texts name cause = ⊥

-- Why the summary of the part of this name isn't read.
abbrev pub IsSumFault : Texts → List ℕ → LookFault → Type 0
IsSumFault texts name (Refused cause) = IsSumRefusedFor texts name cause
IsSumFault texts name ReadFault = Unit {0}
IsSumFault texts name NoMemory = Unit {0}

-- The summaries of the parts as far as this place are whole, and no summary holds their sums.
pub record IsBeyondSummary (texts : Texts) (names : List (Bor (List ℕ))) (at : ℕ) : Type 0 where
  pub parts : List Numbers
  pub whole : AreSummaries texts (take (at + 1) names) parts
  pub large : (sum : Numbers) → AreSummed parts sum → FitSummary sum → ⊥

-- The part of the name at this place has no summary that is added, for this cause.
abbrev pub IsSumRefusedAt : Texts → List (Bor (List ℕ)) → ℕ → Cause → Type 0
IsSumRefusedAt texts names at TooLarge = (at < length names) × IsBeyondSummary texts names at
IsSumRefusedAt texts names at cause =
    (name : Bor (List ℕ)) × (slice_get names at ≡ Some name)
    × IsSumRefusedFor texts name.now cause

-- Why the summaries of the parts of these names aren't added.
abbrev pub IsUnsummed : Texts → List (Bor (List ℕ)) → JoinFault → Type 0
IsUnsummed texts names (JoinRefused refusal) = IsSumRefusedAt texts names refusal.at refusal.cause
IsUnsummed texts names JoinReadFault = Unit {0}
IsUnsummed texts names JoinWriteFault = Unit {0}
IsUnsummed texts names JoinNoMemory = Unit {0}
