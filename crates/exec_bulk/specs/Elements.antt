-- What a part makes of its share.
use Rattle.std.specs.Prelude.{◌≡◌, ℕ, ℤ, List, Result, IsOk, IfOk}
use Rattle.std.specs.declared.alloc.AllocError.{AllocError}
use Rattle.exec_value.specs.declared.data.Datum.{Datum}
use Rattle.exec_value.specs.declared.outcome.Completion.{Completion}
use Rattle.exec_job.specs.declared.job.Job.{Job}
use Rattle.node_images.specs.Makes.{CompletesInPlace}
use Rattle.plan_rules.specs.Bulks.{each_of, row_ending}
use Rattle.home_items.specs.Entries.{row_in}
use Rattle.start_laws.specs.BulkLaws.{share_made}

-- what the job makes of the share of this number of the row that a part carries
abbrev pub share_ending : Job → List Datum → ℕ → Completion
share_ending job carried part = row_ending (share_made job (row_in carried) part)

-- a call ends with what the job makes of these numbers, the first of which has this index in the
-- whole row, and finds no memory only where that doesn't stand in place
pub record MakesEach (job : Job) (first : ℕ) (numbers : List ℤ)
    (result : Result Completion AllocError) :
    Type 0 where
  pub exact : IfOk result (λ done. done ≡ row_ending (each_of job first numbers))
  pub in_place : CompletesInPlace (row_ending (each_of job first numbers)) → IsOk result
