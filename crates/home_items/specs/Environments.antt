-- What an environment answers at run time, and which start that shows.
use Rattle.std.specs.Prelude.{◌≡◌, ℕ, Bool, List, Option}
use Rattle.exec_value.specs.declared.data.Datum.{Datum}
use Rattle.home_items.specs.declared.entry.Entry.{Entry}
use Rattle.home_items.specs.Entries.{carried_of, record_number, asked_of, child_of}
use Rattle.home_items.specs.Starts.{IsStart}

-- the start runs with these data, and has this record number, `asked` and child
pub record IsEnvironment (args : List Datum) (number : ℕ) (asked : Bool) (child : Option ℕ)
    (start : List Entry) : Type 0 where
  pub start_is : IsStart start
  pub args_are : carried_of start ≡ args
  pub number_is : record_number start ≡ number
  pub asked_is : asked_of start ≡ asked
  pub child_is : child_of start ≡ child
