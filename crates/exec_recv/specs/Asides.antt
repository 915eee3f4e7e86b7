-- What a step leaves as it was: what the hand's view has beside the nodes that it holds and the
-- starts that it owes.
use Rattle.std.specs.Prelude.{◌≡◌, ℕ, Bool, true, List, ◌++◌}
use Rattle.life_rules.specs.declared.event.Name.{Name}
use Rattle.life_rules.specs.declared.event.SourceRef.{SourceRef}
use Rattle.listed_words.specs.declared.seen.Seen.{Seen}
use Rattle.table_rules.specs.declared.view.View.{View}
use Rattle.table_rules.specs.declared.view.Reported.{Reported}
use Rattle.table_rules.specs.declared.view.Rooted.{Rooted}
use Rattle.table_rules.specs.declared.view.Scanning.{Scanning}
use Rattle.table_rules.specs.ShownViews.{has_source_ref}
use Rattle.table_steps.specs.Seats.{Seated, homes_of, view_of}
use Rattle.home_items.specs.declared.entry.Entry.{Entry}
use Rattle.home_items.specs.declared.item.Item.{Item}

pub record Aside : Type 0 where
  pub number : ℕ
  pub reported : List (Reported Item Entry)
  pub finished : List Name
  pub noted : List (Rooted Entry)
  pub runs : List Name
  pub scans : List Scanning
  pub made : ℕ
  pub making : ℕ
  pub refused : ℕ
  pub requested : Bool
  pub claimed : ℕ
  pub released : ℕ

abbrev pub aside_of : View Item Entry → Aside
aside_of v = record {
  number = v.number;
  reported = v.reported;
  finished = v.finished;
  noted = v.noted;
  runs = v.runs;
  scans = v.scans;
  made = v.made;
  making = v.making;
  refused = v.refused;
  requested = v.requested;
  claimed = v.claimed;
  released = v.released;
}

-- A request that was seen is seen still.
abbrev pub SeesMore : Seated Item Entry → Seated Item Entry → Type 0
SeesMore m m' =
    (source : SourceRef) → has_source_ref (view_of m).seen source ≡ true →
    has_source_ref (view_of m').seen source ≡ true

-- Of the rest the list of steps only grew, and a request that was seen is seen still.
pub record KeepsAside (m m' : Seated Item Entry) : Type 0 where
  pub same : aside_of (view_of m') ≡ aside_of (view_of m)
  pub fresh : List Seen
  pub grown : (view_of m').steps ≡ fresh ++ (view_of m).steps
  pub sees : SeesMore m m'

-- Beside requests that were seen and the list of steps nothing changed: not what the hand holds and
-- owes, and not what lies in its homes.
pub record KeepsAll (m m' : Seated Item Entry) : Type 0 where
  pub aside : KeepsAside m m'
  pub held : (view_of m').held ≡ (view_of m).held
  pub owed : (view_of m').owed ≡ (view_of m).owed
  pub homes : homes_of m' ≡ homes_of m
