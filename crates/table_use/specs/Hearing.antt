-- What a hand has of a root that hears the scope's source.
use Rattle.std.specs.Prelude.{◌≡◌, ℕ, [], Some}
use Rattle.life_rules.specs.declared.words.CallbackPhase.{CallbackPhase}
use Rattle.life_rules.specs.declared.words.CallbackPhase.TheVariants.{Ran as HasRun, Removed, Running as Runs}
use Rattle.life_rules.specs.declared.event.Name.{Name}
use Rattle.life_rules.specs.declared.event.SourceRef.TheVariants.{Scope}
use Rattle.table_rules.specs.declared.frame.Frame.{Frame}
use Rattle.table_steps.specs.Views.{Board}
use Rattle.table_steps.specs.Seats.{Seated, view_of}
use Rattle.stop_calls.specs.declared.scanning.Scan.{Scan}
use Rattle.stop_calls.specs.declared.removing.Withdrawn.{Withdrawn}
use Rattle.stop_calls.specs.declared.removing.Withdrawn.TheVariants.{NeverRan, Ran, OwnHand, Running}
use Rattle.stop_calls.specs.declared.removing.Settled.{Settled}
use Rattle.stop_calls.specs.declared.removing.Settled.TheVariants.{NeverRan as Unrun, Ran as Over, OwnHand as Inside}
use Rattle.table_use.specs.declared.cargo.Entry.{Entry}
use Rattle.table_use.specs.declared.cargo.Env.{Env}
use Rattle.table_use.specs.declared.cargo.Item.{Item}
use Rattle.table_use.specs.Uses.{HoldsNode}
use Rattle.table_use.specs.Scans.{Scans}

-- the hand holds the root, which goes on, and has read its callback so
pub record HoldsRoot (f : Frame ℕ) (x : Name) (phase : CallbackPhase)
    (m : Seated Item Entry) : Type 0 where
  pub env : Env
  pub has : HoldsNode f x env m
  pub phase_is : has.held.phase ≡ Some phase

-- what the hand has read of a callback after a try to remove it
abbrev pub tried_as : Withdrawn → CallbackPhase
tried_as NeverRan = Removed
tried_as Ran = HasRun
tried_as OwnHand = Removed
tried_as Running = Runs

-- and after a removal
abbrev pub settled_as : Settled → CallbackPhase
settled_as Unrun = Removed
settled_as Over = HasRun
settled_as Inside = Removed

-- the hand makes this scan of the scope's source alone, and runs nothing
pub record AsksScope (board : Board ℕ) (scan : Scan) (m : Seated Item Entry) : Type 0 where
  pub makes : Scans board scan m
  pub source : scan.source ≡ Scope
  pub runs : (view_of m).runs ≡ []
