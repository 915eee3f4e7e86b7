-- What the calls of a scan leave as it was.
use Rattle.std.specs.Prelude.{◌≡◌, List, ◌++◌}
use Rattle.life_rules.specs.declared.event.SourceRef.{SourceRef}
use Rattle.table_steps.specs.Seats.{Seated, homes_of, view_of}
use Rattle.table_steps.specs.ScanSeals.{drops}

-- the second list is the first with further entries, or none, in front
pub record IsLonger {A : Type 0} (before after : List A) : Type 0 where
  pub made : List A
  pub is : after ≡ made ++ before

module _ {P E : Type 0} (m m' : Seated P E) where
  -- the hand owes, notes and counts what it did, and what lies in its homes still lies there. It
  -- may have seen more requests, and made more steps. What it holds, runs and scans is left open
  pub record KeepsAccounts : Type 0 where
    pub number : (view_of m').number ≡ (view_of m).number
    pub splits : (view_of m').splits ≡ (view_of m).splits
    pub owed : (view_of m').owed ≡ (view_of m).owed
    pub reported : (view_of m').reported ≡ (view_of m).reported
    pub finished : (view_of m').finished ≡ (view_of m).finished
    pub noted : (view_of m').noted ≡ (view_of m).noted
    pub unlooked : (view_of m').unlooked ≡ (view_of m).unlooked
    pub seen_after : (view_of m').seen_after ≡ (view_of m).seen_after
    pub made : (view_of m').made ≡ (view_of m).made
    pub making : (view_of m').making ≡ (view_of m).making
    pub refused : (view_of m').refused ≡ (view_of m).refused
    pub requested : (view_of m').requested ≡ (view_of m).requested
    pub claimed : (view_of m').claimed ≡ (view_of m).claimed
    pub released : (view_of m').released ≡ (view_of m).released
    pub hands : (view_of m').hands ≡ (view_of m).hands
    pub joined : (view_of m').joined ≡ (view_of m).joined
    pub homes : homes_of m' ≡ homes_of m
    pub seen : IsLonger (view_of m).seen (view_of m').seen
    pub steps : IsLonger (view_of m).steps (view_of m').steps

  -- and it holds the nodes that it held: nothing else than its runs and scans changed
  pub record Passed : Type 0 where
    pub aside : KeepsAccounts
    pub held : (view_of m').held ≡ (view_of m).held

  -- nor did its runs, nor its scans but for that of this source
  pub record ScansOn (source : SourceRef) : Type 0 where
    pub passed : Passed
    pub runs : (view_of m').runs ≡ (view_of m).runs
    pub others : drops source (view_of m').scans ≡ drops source (view_of m).scans

  -- nor did its runs, and of its scans that of this source is over
  pub record EndsScan (source : SourceRef) : Type 0 where
    pub passed : Passed
    pub runs : (view_of m').runs ≡ (view_of m).runs
    pub scans : (view_of m').scans ≡ drops source (view_of m).scans

  -- it runs the callbacks that it ran, and makes the scans that it made
  pub record ComesBack : Type 0 where
    pub passed : Passed
    pub runs : (view_of m').runs ≡ (view_of m).runs
    pub scans : (view_of m').scans ≡ (view_of m).scans
