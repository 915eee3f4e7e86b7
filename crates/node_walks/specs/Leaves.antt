-- What a call leaves of a hand's view beside nodes and starts.
use Rattle.std.specs.Prelude.{◌≡◌, List, ◌++◌}
use Rattle.listed_words.specs.declared.seen.Seen.{Seen}
use Rattle.table_steps.specs.Seats.{Seated, view_of}
use Rattle.home_items.specs.declared.entry.Entry.{Entry}
use Rattle.home_items.specs.declared.item.Item.{Item}
use Rattle.exec_recv.specs.Asides.{Aside, aside_of, SeesMore}

-- Beside nodes and starts this is what the hand's view says afterwards. Its list of steps only
-- grew, and a request that was seen is seen still.
pub record LeavesAside (aside : Aside) (m m' : Seated Item Entry) : Type 0 where
  pub is : aside_of (view_of m') ≡ aside
  pub fresh : List Seen
  pub grown : (view_of m').steps ≡ fresh ++ (view_of m).steps
  pub sees : SeesMore m m'
