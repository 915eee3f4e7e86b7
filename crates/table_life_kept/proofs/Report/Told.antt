-- What a report tells, in the contract's words.
use Rattle.std.proofs.Common.{◌≡◌, ◌≢◌, ℕ, List, [], ◌∷◌, refl, sym, ap, ◌∙◌, subst}
use Rattle.std.specs.Option.{option_map_or}
use mathlib.Core.Option as maybe
use mathlib.Core.Logic.{dite}
use native.Mathlib.Decide.{ℕ_discrete}
use Rattle.node_tree.specs.declared.node.TreeNode.{TreeNode}
use Rattle.life_rules.specs.declared.event.Name.{Name}
use Rattle.life_rules.specs.Words.{pending}
use Rattle.life_rules.specs.Views.{beside}
use Rattle.table_words.specs.Controls.{control_read}
use Rattle.table_words.specs.Layouts.{OfControl, index}
use Rattle.atomic_table.specs.Table.{step}
use Rattle.table_rules.specs.declared.cargo.Cargo.{Ghosts}
use Rattle.table_rules.specs.declared.frame.Frame.{Frame}
use Rattle.table_rules.specs.declared.view.View.{View}
use Rattle.table_steps.specs.Views.{aimed}
use Rattle.table_steps.specs.Lefts.{less_one}
use Rattle.table_steps.specs.declared.report.Report.{Report}
use Rattle.table_steps.specs.declared.report.Report.TheVariants.{Last, Others}
use Rattle.table_steps.specs.Claims.{with_step}
use Rattle.table_steps.specs.Seats.{Seated}
use Rattle.table_steps.specs.Slots.{Aim, IsSeated}
use Rattle.table_steps.specs.Readings.{above_it}
use Rattle.table_steps.specs.Reports.{CanReport, reports_off, LastAt, ReportsAt, IsReportedAs, CountsDown}
use Rattle.table_kept.proofs.Listing.{AllowsListed}
use Rattle.table_kept.proofs.BeginSeats.{seated-listed}
use Rattle.table_life_kept.proofs.Report.Words.{IsExact}
use Rattle.table_life_kept.proofs.Report.Allowed.{reports-at}

-- the parent that the view's need names is the one above
pub parent-above : {P E : Type 0} (tree : List TreeNode) (v : View P E) (c : Name) (can : CanReport tree v c) →
    above_it tree c ≡ beside c can.parent
parent-above tree v c can = ap (λ o. option_map_or (λ p. beside c p) o c) can.parent_is

module _ {P E O : Type 0} (cargo : Ghosts P E O) where
  pub reports-above : (board f : Frame O) (slots id i : ℕ) (c y p : Name) (aim : Aim) (overs : List O) (m : Seated P E) → CanReport board.tree m.0 c → board ≡ f →
      p ≡ above_it board.tree c → i ≡ index board.layout (OfControl p.block p.node) → aim ≡ aimed board (above_it board.tree c) → y ≡ c →
      overs ≡ board.over.value ∷ [] → IsExact →
      AllowsListed cargo f slots id m i less_one (ReportsAt cargo aim y overs (step slots i 1 0 maybe.none) m)
  reports-above board f slots id i c y p aim overs m can same p_is i_is aim_is y_is overs_is exact =
      let above = parent-above board.tree m.0 c can in
      reports-at cargo board f slots id i c y aim overs m can same
      (i_is ∙ ap (λ z. index board.layout (OfControl z.block z.node)) (p_is ∙ above)) (aim_is ∙ ap (aimed board) above) y_is overs_is exact

  pub reports-told : (board : Frame O) (slots i : ℕ) (c y p : Name) (aim : Aim) (overs : List O) (m m' : Seated P E) (word : ℕ) (answer : Report) →
      p ≡ above_it board.tree c → i ≡ index board.layout (OfControl p.block p.node) → aim ≡ aimed board (above_it board.tree c) → y ≡ c →
      overs ≡ board.over.value ∷ [] → (answer ≡ Last → pending (control_read word) ≡ 1) → (answer ≡ Others → pending (control_read word) ≢ 1) →
      ReportsAt cargo aim y overs (step slots i 1 0 maybe.none) m word m' → IsReportedAs cargo board c answer m m'
  reports-told board slots i c y p aim overs m m' word Last p_is i_is aim_is y_is overs_is last others told = (
    word,
    less_one word,
    subst (λ (a : Aim). CountsDown a.name word (less_one word)) aim_is told.0,
    last refl,
    subst (λ (z : Aim × (Name × (List O × ℕ))). LastAt cargo z.0 z.1.0 z.1.1.0 z.1.1.1 word (less_one word) m m')
        (λ k. (aim_is k, (y_is k, (overs_is k, (i_is ∙ ap (λ z. index board.layout (OfControl z.block z.node)) p_is) k)))) (told.1 (last refl)),
  )
  reports-told board slots i c y p aim overs m m' word Others p_is i_is aim_is y_is overs_is last others told = (
    word,
    less_one word,
    subst (λ (a : Aim). CountsDown a.name word (less_one word)) aim_is told.0,
    others refl,
    told.2 (others refl)
        ∙ (λ k. (with_step ((i_is ∙ ap (λ z. index board.layout (OfControl z.block z.node)) p_is) k) word (less_one word) (reports_off (y_is k) m.0), m.1)),
  )

  -- the hand still carries each slot once
  pub reports-seated : (aim : Aim) (y : Name) (overs : List O) (slots i : ℕ) (m m' : Seated P E) (word : ℕ) →
      ReportsAt cargo aim y overs (step slots i 1 0 maybe.none) m word m' → IsSeated aim.tree aim.layout m → IsSeated aim.tree aim.layout m'
  reports-seated aim y overs slots i m m' word told old =
      dite (ℕ_discrete (pending (control_read word)) 1)
      (λ hit. (told.1 hit).seated old)
      (λ miss.
      let s = seated-listed aim.tree aim.layout i word (less_one word) m old in
      subst (IsSeated aim.tree aim.layout) (sym (told.2 miss)) (record { apart = s.apart; given = s.given; itself = s.itself }))
