-- What one hand's view says, among the views that the rule shows.
use Rattle.std.proofs.Common.{◌≡◌, ℕ, ◌<◌, ◌≤◌, subst, arith}
use Rattle.std.specs.Prelude.{Option}
use mathlib.Core.Option.{some}
use lib.ListN.{get_elem?}
use Rattle.life_rules.specs.declared.event.Name.{Name}
use Rattle.life_rules.specs.Views.{View as PureView}
use Rattle.life_rules.specs.States.{State, stand}
use Rattle.life_rules.proofs.Readings.{stand-at}
use Rattle.atomic_table.specs.Table as table
use Rattle.table_rules.specs.declared.cargo.Cargo.{Ghosts}
use Rattle.table_rules.specs.declared.frame.Frame.{Frame}
use Rattle.table_rules.specs.declared.view.View.{View}
use Rattle.table_rules.specs.ShownWords.{block_of}
use Rattle.table_rules.specs.ShownViews.{shown_view}
use Rattle.table_rules.specs.Scenes.{shown}
use Rattle.table_rules.specs.Running.{Running}
use Rattle.table_kept.proofs.Seats.{at_within}
use Rattle.table_kept.proofs.ViewMoves.{view-here}

module _ {P E O : Type 0} (cargo : Ghosts P E O) (f : Frame O) (s : table.State (Option P) (View P E)) (r : Running cargo f s) (h : ℕ) (v : View P E) (at : get_elem? s.views h ≡ some v) where
  abbrev now : State
  now = shown f s

  pub below : h < f.hands
  below = let l = at_within s.views h v at in let m = r.sized.seats in omega (arith, l, m)

  pub shows : now.view h ≡ shown_view (block_of f.layout s.words) v
  shows = view-here (block_of f.layout s.words) s.views h v at

  -- a hand has a name no more often so than all hands together
  pub among : (part : PureView → Name → ℕ) (x : Name) → part (shown_view (block_of f.layout s.words) v) x ≤ stand now part x
  among part x = subst (λ (u : PureView). part u x ≤ stand now part x) shows (stand-at now part h x below)
