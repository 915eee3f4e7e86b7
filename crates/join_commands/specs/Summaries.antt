-- What a summary says, and the sum of several.
use Rattle.std.specs.Prelude.{◌≡◌, ◌⊎◌, ℕ, pos, ◌+◌, ◌+ℤ◌, List, ◌++◌, map, sum_by, codes, decimal, Some, ◌<◌, ◌^◌, FitsSigned}
use Rattle.std.specs.Borrow.{Bor}
use Rattle.std.specs.Fmt.{signed_decimal}
use Rattle.std.specs.Int.{w128}
use Rattle.std.specs.List.{AllZip}
use Rattle.exec_io.specs.Shelves.{Texts, text_of}
use Rattle.exec_io.specs.Views.{SinkView}
use Rattle.exec_io.specs.Writing.{AppendsFront}
use Rattle.exec_status.specs.declared.status.Status.{Status}
use Rattle.exec_status.specs.Sinks.{TellsAll}
use Rattle.exec_value.specs.Sum.{total}
use Rattle.join_commands.specs.declared.fault.JoinFault.{JoinFault}
use Rattle.join_commands.specs.declared.fault.JoinFault.TheVariants.{Refused}
use Rattle.join_commands.specs.declared.summary.Numbers.{Numbers}
use Rattle.join_commands.specs.Parts.{ToldStatus, out_name}
use Rattle.join_commands.specs.Statuses.{counts_status}

-- A name, and a count in decimal.
abbrev pub named_count : List ℕ → ℕ → List ℕ
named_count name count = name ++ decimal count

-- The text of a summary with these numbers.
unfoldable pub summary_text : Numbers → List ℕ
summary_text numbers =
    named_count (codes "records ") numbers.records ++ named_count (codes " values ") numbers.values
    ++ named_count (codes " errors ") numbers.errors
    ++ named_count (codes " stopped ") numbers.stopped
    ++ named_count (codes " out-of-memory ") numbers.no_memory
    ++ named_count (codes " bad ") numbers.bad
    ++ codes " sum " ++ signed_decimal numbers.sum ++ codes "\n"

-- There are as many records as lines of all sorts, and there is no sum without values.
pub record DoAgree (numbers : Numbers) : Type 0 where
  pub records : numbers.records ≡ numbers.values + numbers.errors + numbers.stopped
      + numbers.no_memory + numbers.bad
  pub sum : numbers.values ≡ 0 → numbers.sum ≡ pos 0

-- The status of a run whose summary has these numbers.
abbrev pub summary_status : Numbers → Status
summary_status numbers = counts_status numbers.records numbers.values numbers.no_memory

-- The part of this name is whole: its file is the summary with these numbers, and its run ended as
-- they say.
pub record IsSummary (texts : Texts) (name : List ℕ) (numbers : Numbers) : Type 0 where
  pub text : text_of texts (out_name name) ≡ Some (summary_text numbers)
  pub agree : DoAgree numbers
  pub status : ToldStatus texts name (Some (summary_status numbers))

-- The numbers of two summaries together.
pub record IsBoth (first second both : Numbers) : Type 0 where
  pub records : both.records ≡ first.records + second.records
  pub values : both.values ≡ first.values + second.values
  pub errors : both.errors ≡ first.errors + second.errors
  pub stopped : both.stopped ≡ first.stopped + second.stopped
  pub no_memory : both.no_memory ≡ first.no_memory + second.no_memory
  pub bad : both.bad ≡ first.bad + second.bad
  pub sum : both.sum ≡ first.sum +ℤ second.sum

-- Numbers as a summary may have them: counts below 2 ^ 64, and a sum of 128 bits with a sign.
pub record FitSummary (numbers : Numbers) : Type 0 where
  pub records : numbers.records < 2 ^ 64
  pub values : numbers.values < 2 ^ 64
  pub errors : numbers.errors < 2 ^ 64
  pub stopped : numbers.stopped < 2 ^ 64
  pub no_memory : numbers.no_memory < 2 ^ 64
  pub bad : numbers.bad < 2 ^ 64
  pub sum : FitsSigned w128 numbers.sum

-- The numbers of two summaries together are too large for one.
abbrev pub IsTooLarge : Numbers → Numbers → Type 0
IsTooLarge first second = (both : Numbers) → IsBoth first second both → FitSummary both → ⊥

-- The numbers of all summaries together.
pub record AreSummed (parts : List Numbers) (all : Numbers) : Type 0 where
  pub records : all.records ≡ sum_by (λ part. part.records) parts
  pub values : all.values ≡ sum_by (λ part. part.values) parts
  pub errors : all.errors ≡ sum_by (λ part. part.errors) parts
  pub stopped : all.stopped ≡ sum_by (λ part. part.stopped) parts
  pub no_memory : all.no_memory ≡ sum_by (λ part. part.no_memory) parts
  pub bad : all.bad ≡ sum_by (λ part. part.bad) parts
  pub sum : all.sum ≡ total (map (λ part. part.sum) parts)

-- The parts of these names are whole, and have summaries with these numbers.
abbrev pub AreSummaries : Texts → List (Bor (List ℕ)) → List Numbers → Type 0
AreSummaries texts names parts = AllZip (λ name part. IsSummary texts name.now part) names parts

-- These are the sums of the summaries of the parts of these names.
pub record HasSum (texts : Texts) (names : List (Bor (List ℕ))) (sum : Numbers) : Type 0 where
  pub parts : List Numbers
  pub whole : AreSummaries texts names parts
  pub summed : AreSummed parts sum

-- The summary of all records was written and handed on, and this is the status that one run over
-- them would end with.
pub record JoinsSummaries (texts : Texts) (names : List (Bor (List ℕ))) (old new : SinkView)
    (status : Status) : Type 0 where
  pub sum : Numbers
  pub has : HasSum texts names sum
  pub told : TellsAll old new (summary_text sum)
  pub status_is : status ≡ summary_status sum

-- A front of the summary of all records was written.
pub record WritesSumFront (texts : Texts) (names : List (Bor (List ℕ))) (old new : SinkView)
    : Type 0 where
  pub sum : Numbers
  pub has : HasSum texts names sum
  pub front : AppendsFront old.written new.written (summary_text sum)

-- Where summaries weren't joined nothing was done to the sink, or a front was written of the
-- summary of all records. Where a part is refused nothing was done.
abbrev pub LeavesSumFront : Texts → List (Bor (List ℕ)) → SinkView → SinkView → JoinFault → Type 0
LeavesSumFront texts names old new (Refused refusal) = new ≡ old
LeavesSumFront texts names old new fault = (new ≡ old) ⊎ WritesSumFront texts names old new
