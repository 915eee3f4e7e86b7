-- What holds of the parts of a bulk ([exec.bulk]).
use Rattle.std.specs.Prelude.{◌≡◌, ◌≢◌, ℕ, ◌+◌, ◌<◌, ℤ, Bool, false, List, [], ◌∷◌, ◌++◌, length, take, slice_get, Some, Result, Ok, Err}
use Rattle.exec_value.specs.declared.data.Datum.TheVariants.{Row}
use Rattle.exec_value.specs.declared.outcome.Completion.TheVariants.{Value, NoMemory}
use Rattle.exec_job.specs.declared.job.Job.{Job}
use Rattle.plan_rules.specs.declared.node.Node.TheVariants.{Bulk, Part}
use Rattle.plan_rules.specs.Bulks.{each_of, row_ending}
use Rattle.plan_shape.specs.declared.limits.TheConstants.{BULK_PARTS}
use Rattle.home_items.specs.declared.entry.Entry.{Entry}
use Rattle.home_items.specs.Entries.{plan_of, node_of, asked_of, whole_row, start_below}
use Rattle.home_items.specs.Parcels.{Delivery, IsDelivery}
use Rattle.home_items.specs.Fits.{IsChildOf}
use Rattle.home_items.specs.Shares.{first_index, share_of, part_args}
use Rattle.start_laws.specs.Holding.{IsDoneBelow}
use Rattle.start_laws.specs.Nodes.{IsStartOf}
use Rattle.start_laws.specs.Laws.{MayBegin}

-- A part may begin with its share of the row that the bulk's child completed with. Where no request
-- is known, the child's parcel must have seen none.
abbrev pub PartsMayBegin : Type 0
PartsMayBegin =
    (start : List Entry) (child : ℕ) (job : Job) → IsStartOf start (Bulk child job) →
    (parcel : Delivery) → IsDelivery parcel → IsChildOf parcel.start start →
    (whole : List ℤ) → parcel.completion ≡ Value (Row whole ∷ []) →
    (n part : ℕ) → slice_get (plan_of start).nodes n ≡ Some (Part (node_of start) part) →
    (requested : Bool) → (requested ≡ false → parcel.saw ≡ false) →
    MayBegin (start_below n (part_args whole part) whole (asked_of start) start) n requested

-- what the job makes of the share of this number
abbrev pub share_made : Job → List ℤ → ℕ → Result (List ℤ) (List ℕ)
share_made job whole part = each_of job (first_index (length whole) part) (share_of whole part)

-- what it makes of the elements before that share
abbrev pub front_made : Job → List ℤ → ℕ → Result (List ℤ) (List ℕ)
front_made job whole part = each_of job 0 (take (first_index (length whole) part) whole)

-- A part that is done has completed with what the job makes of its share of the row that it shows,
-- where it isn't want of memory.
abbrev pub PartsMakeShares : Type 0
PartsMakeShares =
    (start : List Entry) (child : ℕ) (job : Job) → IsStartOf start (Bulk child job) →
    (parcel : Delivery) (n : ℕ) (told : Bool) → IsDoneBelow start parcel n told →
    (part : ℕ) → slice_get (plan_of start).nodes n ≡ Some (Part (node_of start) part) →
    parcel.completion ≢ NoMemory →
    parcel.completion ≡ row_ending (share_made job (whole_row parcel.start) part)

-- results of elements and of those behind them: the least failing index decides
abbrev pub made_behind :
    Result (List ℤ) (List ℕ) → Result (List ℤ) (List ℕ) → Result (List ℤ) (List ℕ)
made_behind (Ok front) (Ok behind) = Ok (front ++ behind)
made_behind (Ok front) (Err name) = Err name
made_behind (Err name) behind = Err name

-- What is made of all shares, one after the other, is made of the row.
pub record SharesAreMade : Type 0 where
  pub begins : (job : Job) (whole : List ℤ) → front_made job whole 0 ≡ Ok []
  pub goes_on : (job : Job) (whole : List ℤ) (part : ℕ) → part < BULK_PARTS →
      front_made job whole (part + 1)
      ≡ made_behind (front_made job whole part) (share_made job whole part)
  pub ends : (job : Job) (whole : List ℤ) → front_made job whole BULK_PARTS ≡ each_of job 0 whole
