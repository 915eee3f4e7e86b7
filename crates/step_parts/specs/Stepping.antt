-- What contracts see of a node that a step has taken up.
use Rattle.std.specs.Prelude.{◌≡◌, ℕ, Bool, true, false, List}
use Rattle.life_rules.specs.declared.event.Name.{Name}
use Rattle.home_items.specs.declared.entry.Entry.{Entry}
use Rattle.home_items.specs.Entries.{record_number, asked_of}
use Rattle.home_items.specs.Starts.{IsStart}
use Rattle.exec_recv.specs.Seats.{HandSeat}
use Rattle.step_parts.specs.declared.taken.Mark.{Mark}
use Rattle.step_parts.specs.declared.taken.Mark.TheVariants.{Asked, Calm}

-- its name, its start, and the hand as the step began
pub record Stepping : Type 0 where
  pub name : Name
  pub start : List Entry
  pub from : HandSeat

-- the number of a record
abbrev pub number_in : Mark → ℕ
number_in (Asked number) = number
number_in (Calm number) = number

-- whether its operation was started after the request
abbrev pub asked_in : Mark → Bool
asked_in (Asked number) = true
asked_in (Calm number) = false

-- the start has this record number and `asked`
pub record IsHead (number : ℕ) (asked : Bool) (start : List Entry) : Type 0 where
  pub start_is : IsStart start
  pub number_is : record_number start ≡ number
  pub asked_is : asked_of start ≡ asked
