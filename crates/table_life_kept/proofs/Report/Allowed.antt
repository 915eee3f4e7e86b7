-- What the subtraction by which a child is reported owes, and what it tells.
use Rattle.std.proofs.Common.{◌≡◌, ℕ, List, [], ◌∷◌, refl, sym, ap, ◌∙◌, subst}
use Rattle.std.specs.Prelude.{slice_index}
use mathlib.Core.Option as maybe
use mathlib.Core.Logic.{dite}
use native.Mathlib.Decide.{ℕ_discrete}
use Rattle.life_rules.specs.declared.event.Name.{Name}
use Rattle.life_rules.specs.Words.{pending}
use Rattle.life_rules.specs.Views.{beside}
use Rattle.life_rules.specs.States.{control_at}
use Rattle.table_words.specs.Controls.{control_read}
use Rattle.table_words.specs.Layouts.{OfControl, index}
use Rattle.atomic_table.specs.Table.{Allows, step, keeps}
use Rattle.table_rules.specs.declared.cargo.Cargo.{Ghosts}
use Rattle.table_rules.specs.declared.frame.Frame.{Frame}
use Rattle.table_rules.specs.Scenes.{shown}
use Rattle.table_rules.specs.Running.{Running}
use Rattle.table_steps.specs.Views.{aimed}
use Rattle.table_steps.specs.Lefts.{less_one}
use Rattle.table_steps.specs.Claims.{with_step}
use Rattle.table_steps.specs.Seats.{Seated}
use Rattle.table_steps.specs.Slots.{Aim}
use Rattle.table_steps.specs.Reports.{CanReport, reports_off, ReportsAt}
use Rattle.table_kept.proofs.Standing.{Standing}
use Rattle.table_kept.proofs.Listing.{AllowsListed, allows-listed, lists-one}
use Rattle.table_life_kept.proofs.Report.Words.{IsExact}
use Rattle.table_life_kept.proofs.Report.Runs.{ToReport, counts-now, last-now, on-now, reads-now}

-- what the subtraction owes
pub reports_allowed : {P E O : Type 0} (cargo : Ghosts P E O) (f : Frame O) (slots id : ℕ) (c : Name) (m : Seated P E) (can : CanReport f.tree m.0 c) →
    IsExact →
    Allows (Running cargo f) slots id m (index f.layout (OfControl c.block can.parent)) less_one
    (ReportsAt cargo (aimed f (beside c can.parent)) c (f.over.value ∷ []) (step slots (index f.layout (OfControl c.block can.parent)) 1 0 maybe.none) m)
reports_allowed {P} {E} cargo f slots id c m can exact s r deep at small =
    let hand : Standing cargo f = record { state = s; id = id; view = m.0; running = r; at = at } in
    let reporting : ToReport hand = record { child = c; carried = m.1; can = can; exact = exact } in
    let i = index f.layout (OfControl c.block can.parent) in
    let n = slice_index s.words i in
    let is_k : pending (control_read n) ≡ pending (control_at (shown f s) (beside c can.parent)) =
    ap pending (reads-now cargo f hand reporting) in
    dite (ℕ_discrete (pending (control_read n)) 1)
    (λ hit.
    let won = last-now cargo f hand reporting small (sym is_k ∙ hit) in (
      won.0,
      won.1,
      won.2,
      won.3,
      (counts-now cargo f hand reporting small, (λ _. won.4), (λ miss. absurd (miss hit))),
    ))
    (λ miss. (
      with_step i n (less_one n) (reports_off c m.0),
      keeps,
      tt,
      on-now cargo f hand reporting small (λ one_left. miss (is_k ∙ one_left)),
      (counts-now cargo f hand reporting small, (λ hit. absurd (miss hit)), (λ _. refl)),
    ))

module _ {P E O : Type 0} (cargo : Ghosts P E O) where
  -- the subtraction, by the frame that the table shows
  pub reports-at : (board f : Frame O) (slots id i : ℕ) (c y : Name) (aim : Aim) (overs : List O) (m : Seated P E) (can : CanReport board.tree m.0 c) → board ≡ f →
      i ≡ index board.layout (OfControl c.block can.parent) → aim ≡ aimed board (beside c can.parent) → y ≡ c → overs ≡ board.over.value ∷ [] → IsExact →
      AllowsListed cargo f slots id m i less_one (ReportsAt cargo aim y overs (step slots i 1 0 maybe.none) m)
  reports-at board f slots id i c y aim overs m can same i_is aim_is y_is overs_is exact =
      allows-listed cargo f slots id m i less_one (ReportsAt cargo aim y overs (step slots i 1 0 maybe.none) m)
      (λ n m' told.
      dite (ℕ_discrete (pending (control_read n)) 1)
      (λ hit. lists-one i n (less_one n) m m' _ (ap (λ z. z.0) (told.1 hit).me_is) refl refl refl refl)
      (λ miss. lists-one i n (less_one n) m m' _ (ap (λ z. z.0) (told.2 miss)) refl refl refl refl))
      (subst (λ z. Allows (Running cargo z) slots id m i less_one (ReportsAt cargo aim y overs (step slots i 1 0 maybe.none) m)) same
      (subst (λ (z : ℕ × (Aim × (Name × List O))). Allows (Running cargo board) slots id m z.0 less_one
      (ReportsAt cargo z.1.0 z.1.1.0 z.1.1.1 (step slots z.0 1 0 maybe.none) m))
      (λ k. (sym i_is k, (sym aim_is k, (sym y_is k, sym overs_is k))))
      (reports_allowed cargo board slots id c m can exact)))
