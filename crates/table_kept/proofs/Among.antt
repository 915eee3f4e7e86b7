-- What one hand's lists name is among what all hands' together do.
use Rattle.std.proofs.Common.{◌≡◌, ℕ, ◌<◌, ◌≤◌, length, subst, arith}
use mathlib.Core.Option.{some}
use lib.ListN.{get_elem?}
use Rattle.std.specs.Prelude.{Option}
use Rattle.life_rules.specs.declared.event.Name.{Name}
use Rattle.life_rules.specs.Views.{View as PureView}
use Rattle.life_rules.specs.States.{State, stand}
use Rattle.life_rules.proofs.Readings.{stand-at}
use Rattle.atomic_table.specs.Table as table
use Rattle.table_rules.specs.declared.frame.Frame.{Frame}
use Rattle.table_rules.specs.declared.view.View.{View}
use Rattle.table_rules.specs.Named.{count_by}
use Rattle.table_rules.specs.ShownWords.{block_of}
use Rattle.table_rules.specs.Scenes.{shown}
use Rattle.table_kept.proofs.Seats.{at_within}
use Rattle.table_kept.proofs.ViewMoves.{view-here}

-- the hand's lists name no node more often than those of all hands
pub record IsAmong {P E : Type 0} (s : State) (u : View P E) : Type 0 where
  pub held : (y : Name) → count_by (λ e. e.name) u.held y ≤ stand s (λ v. v.holds) y
  pub owed : (y : Name) → count_by (λ e. e.name) u.owed y ≤ stand s (λ v. v.starts) y
  pub reported : (y : Name) → count_by (λ e. e.name) u.reported y ≤ stand s (λ v. v.reports) y
  pub finished : (y : Name) → count_by (λ e. e) u.finished y ≤ stand s (λ v. v.finished) y

pub among : {P E O : Type 0} (f : Frame O) (s : table.State (Option P) (View P E)) (j : ℕ) (u : View P E) →
    length s.views ≤ f.hands → get_elem? s.views j ≡ some u → IsAmong (shown f s) u
among f s j u seats at =
    let l = at_within s.views j u at in
    let below : j < f.hands = omega (arith, l, seats) in
    let now = shown f s in
    let is = view-here (block_of f.layout s.words) s.views j u at in
    record {
      held = λ y. subst (λ (z : PureView). z.holds y ≤ stand now (λ v. v.holds) y) is (stand-at now (λ v. v.holds) j y below);
      owed = λ y. subst (λ (z : PureView). z.starts y ≤ stand now (λ v. v.starts) y) is (stand-at now (λ v. v.starts) j y below);
      reported = λ y. subst (λ (z : PureView). z.reports y ≤ stand now (λ v. v.reports) y) is (stand-at now (λ v. v.reports) j y below);
      finished = λ y. subst (λ (z : PureView). z.finished y ≤ stand now (λ v. v.finished) y) is (stand-at now (λ v. v.finished) j y below);
    }
