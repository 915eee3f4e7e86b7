-- What the parts of a bulk come to, one after the other.
use Rattle.std.specs.Prelude.{◌≡◌, ◌≢◌, ◌⊎◌, ⊤, ℕ, ◌+◌, ◌<◌, Bool, true, ℤ, List, Some, None, Ok, Err, IsOk}
use Rattle.exec_value.specs.declared.outcome.Completion.{Completion}
use Rattle.exec_value.specs.declared.outcome.Completion.TheVariants.{Error, NoMemory}
use Rattle.exec_job.specs.declared.job.Job.{Job}
use Rattle.node_images.specs.Makes.{CompletesInPlace}
use Rattle.plan_rules.specs.Bulks.{row_ending}
use Rattle.plan_shape.specs.declared.limits.TheConstants.{BULK_PARTS}
use Rattle.home_items.specs.Parcels.{Delivery}
use Rattle.start_laws.specs.BulkLaws.{share_made, front_made}
use Rattle.exec_bulk.specs.declared.joining.Made.{Made}
use Rattle.exec_bulk.specs.declared.joining.Made.TheVariants.{Numbers, Failed, Want}

-- This is what the job makes of the shares before this one: the numbers, where there was memory for
-- them, or the error of the first that failed. Nothing is said where a part wants memory.
abbrev pub IsFrontMade : Made → Job → List ℤ → ℕ → Type 0
IsFrontMade (Numbers (Some made)) job whole part = front_made job whole part ≡ Ok made.items
IsFrontMade (Numbers None) job whole part = IsOk (front_made job whole part)
IsFrontMade (Failed name) job whole part = front_made job whole part ≡ Err name
IsFrontMade Want job whole part = ⊤

-- the completion is what the job makes of the share of this number, where it isn't want of memory
abbrev pub IsOfShare : Job → List ℤ → ℕ → Completion → Type 0
IsOfShare job whole part done =
    done ≢ NoMemory → done ≡ row_ending (share_made job whole part)

-- One part more, which completed with this, was added to these. Where they want memory then, they
-- wanted it before, or this one does.
pub record AddsShare (before : Made) (done : Completion) (after : Made) : Type 0 where
  pub made : (job : Job) (whole : List ℤ) (part : ℕ) → part < BULK_PARTS →
      IsOfShare job whole part done → IsFrontMade before job whole part →
      IsFrontMade after job whole (part + 1)
  pub wants : after ≡ Want → (before ≡ Want) ⊎ (done ≡ NoMemory)

abbrev pub AddsParcel : Made → Made → Delivery → Type 0
AddsParcel before after parcel = AddsShare before parcel.completion after

-- no part was added yet
pub record HasNoPart (made : Made) : Type 0 where
  pub made_is : (job : Job) (whole : List ℤ) → IsFrontMade made job whole 0
  pub able : made ≢ Want

-- what these come to with one part more that completed with this, where its numbers can't be
-- appended; the error of the first that failed stays
abbrev pub without_numbers : Made → Completion → Made
without_numbers (Numbers made) (Error name) = Failed name
without_numbers (Numbers made) NoMemory = Want
without_numbers (Numbers made) done = Numbers None
without_numbers made done = made

-- and with one more that isn't done
abbrev pub one_missing : Made → Made
one_missing (Numbers made) = Want
one_missing made = made

-- of whatever job and row these are, this is put in its place: what they complete with together
abbrev pub JoinsTo : Made → Bool → Completion → Type 0
JoinsTo made put done =
    (job : Job) (whole : List ℤ) (part : ℕ) → IsFrontMade made job whole part →
    put ≡ true → done ≡ row_ending (front_made job whole part)

-- and it is, where it stands in place and no part wants memory
abbrev pub JoinsInPlace : Made → Bool → Type 0
JoinsInPlace made put =
    (job : Job) (whole : List ℤ) (part : ℕ) → IsFrontMade made job whole part → made ≢ Want →
    CompletesInPlace (row_ending (front_made job whole part)) → put ≡ true
