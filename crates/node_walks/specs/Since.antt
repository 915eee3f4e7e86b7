-- A hand that only looked since an earlier moment.
use Rattle.std.specs.Prelude.{◌≡◌, List, ◌++◌}
use Rattle.listed_words.specs.declared.seen.Seen.{Seen}
use Rattle.table_rules.specs.Named.{Each}
use Rattle.table_steps.specs.Seats.{Seated, view_of}
use Rattle.home_items.specs.declared.entry.Entry.{Entry}
use Rattle.home_items.specs.declared.item.Item.{Item}
use Rattle.exec_recv.specs.Asides.{KeepsAside}
use Rattle.exec_recv.specs.Since.{IsLook}

-- Each step made since is such a look: no node was taken, and no word was moved. All else that the
-- view says beside nodes and starts stays, but for requests that were seen.
pub record OnlyLooks (m m' : Seated Item Entry) : Type 0 where
  pub aside : KeepsAside m m'
  pub fresh : List Seen
  pub grown : (view_of m').steps ≡ fresh ++ (view_of m).steps
  pub each : Each IsLook fresh
