-- What the writes of a report mean.
use Rattle.std.proofs.Common.{◌≡◌, ℕ, true, ◌&&◌, eqb, Option, Some, None, sym, ap, ◌∙◌, subst, arith}
use Rattle.std.specs.Option.{option_map_or}
use Rattle.std.specs.Prelude.{◌==◌, nat_le, nat_lt}
use Rattle.std.proofs.lemmas.Bool.{and_parts, and_from, lt-ltb, cond-true, cond-false, eq-eqb, ne_eqb}
use Rattle.life_rules.specs.declared.event.Place.{Place}
use Rattle.life_rules.specs.declared.words.ControlWord.TheVariants.{Busy}
use Rattle.life_rules.specs.LifeSteps.{may_report, after_report, reported_to}
use Rattle.life_rules.specs.States.{State, size, is_place, name_of, name_at, control_at, with_view, with_control}
use Rattle.node_tree.specs.Tree.{parent_of}
use Rattle.life_rules.specs.Views.{View}
use Rattle.life_rules.specs.Words.{is_held, is_under_way, pending, one_less}
use Rattle.common_lemmas.proofs.Bool.{either}
use Rattle.life_kept.proofs.Fitting.{pending-word}
use Rattle.node_tree.proofs.Walk.{parent_within}
use Rattle.exec_life.specs.declared.view.Role.TheVariants.{Nothing, Holds, OwesReport}
use Rattle.exec_life.specs.Parts.{Means}
use Rattle.exec_life.specs.StateLists.{StateLists, IsState, machine, view_of, generations}
use Rattle.exec_life.specs.ViewLists.{ViewLists, role_in}
use Rattle.exec_life.specs.ViewWrites.{SetsRole}
use Rattle.exec_life.specs.WordLists.{WordLists}
use Rattle.exec_life.specs.WordWrites.{SetsControl}
use Rattle.exec_life.proofs.Puts.{HasView, after_put, put-means}
use Rattle.exec_life.proofs.Roles.{role_changed, role-means, role-cells, control-blocks, reporter-from, unowned}
use Rattle.exec_life.proofs.StateMeans.{view-is, means-control}

-- a cell that is nothing stays nothing where another becomes nothing
pub stays-nothing : (old new : ViewLists) (b n i j : ℕ) → SetsRole old new b n Nothing → role_in old i j ≡ Nothing →
    role_in new i j ≡ Nothing
stays-nothing old new b n i j set none =
    ap (λ f. f i j) set.cell
    ∙ either (eqb i b && eqb j n)
    (λ here. cond-true (eqb i b && eqb j n) Nothing (role_in old i j) here)
    (λ apart. cond-false (eqb i b && eqb j n) Nothing (role_in old i j) apart ∙ none)

module _ (d : StateLists) (w : WordLists) (h : ℕ) (v first : ViewLists) (p : Place) (q : ℕ)
    (has : HasView d h v) (needs : may_report (machine d) h p ≡ true) (above : parent_of d.tree p.node ≡ Some q)
    (set_word : SetsControl d.words w p.block q (one_less (control_at (machine d) (name_of (machine d) p.block q))))
    (set_child : SetsRole v first p.block p.node Nothing) where
  child-means : view_of (generations d.words) first
      ≡ role_changed OwesReport Nothing (name_at (machine d) p) ((machine d).view h)
  child-means =
      let s = machine d in
      let parts = and_parts (is_place s p) _ needs in
      let owes = and_parts (nat_le 1 ((s.view h).reports (name_at s p))) _ parts.1 in
      role-means (generations d.words) v first p.block p.node OwesReport Nothing
      (reporter-from d h v p.block p.node has.view_is owes.0) set_child
      ∙ ap (role_changed OwesReport Nothing (name_at s p)) (sym (view-is d h v has.view_is))

  reported : after_report (machine d) h p ≡ reported_to (machine d) h p (name_of (machine d) p.block q)
  reported =
      let s = machine d in
      ap (λ o. option_map_or (λ k. reported_to s h p (name_of s p.block k)) o s) above

  pub report-means : (pending (control_at (machine d) (name_of (machine d) p.block q)) ≡ 1 → ⊥) →
      Means (after_put d w h first) (after_report (machine d) h p)
  report-means more =
      let s = machine d in
      let y = name_of s p.block q in
      let k = pending (control_at s y) in
      let v_ = s.view h in
      let child : View = role_changed OwesReport Nothing (name_at s p) v_ in
      let last : View = role_changed Nothing Holds y child in
      let put : View → State = λ u. with_view (with_control s p.block q (one_less (control_at s y))) h u in
      let means : Means (after_put d w h first) (put child) =
      put-means d w h v first _ child has (control-blocks d.words w p.block q _ set_word)
      (role-cells v first p.block p.node Nothing set_child)
      (means-control d w p.block q _ set_word) child-means in
      let e : after_report s h p ≡ put child =
      reported ∙ ap put (cond-false (k == 1) last child (ne_eqb k 1 more)) in
      subst (λ t. Means (after_put d w h first) t) (sym e) means

  pub last_report-means : (new : ViewLists) → pending (control_at (machine d) (name_of (machine d) p.block q)) ≡ 1 →
      SetsRole first new p.block q Holds → Means (after_put d w h new) (after_report (machine d) h p)
  last_report-means new only set_parent =
      let s = machine d in
      let y = name_of s p.block q in
      let k = pending (control_at s y) in
      let v_ = s.view h in
      let child : View = role_changed OwesReport Nothing (name_at s p) v_ in
      let last : View = role_changed Nothing Holds y child in
      let put : View → State = λ u. with_view (with_control s p.block q (one_less (control_at s y))) h u in
      let busy : control_at s y ≡ Busy 1 =
      pending-word (control_at s y) (omega (arith, only)) ∙ ap Busy only in
      let none : role_in v p.block q ≡ Nothing =
      unowned d h v p.block q has (ap is_under_way busy) (ap is_held busy) in
      let cells = role-cells first new p.block q Holds set_parent in
      let child_cells = role-cells v first p.block p.node Nothing set_child in
      let means : Means (after_put d w h new) (put last) =
      put-means d w h v new _ last has (control-blocks d.words w p.block q _ set_word)
      (record { blocks = cells.blocks ∙ child_cells.blocks; nodes = cells.nodes ∙ child_cells.nodes })
      (means-control d w p.block q _ set_word)
      (role-means (generations d.words) first new p.block q Nothing Holds
      (stays-nothing v first p.block p.node p.block q set_child none) set_parent
      ∙ ap (role_changed Nothing Holds y) child-means) in
      let e : after_report s h p ≡ put last =
      reported ∙ ap put (cond-true (k == 1) last child (eq-eqb k 1 only)) in
      subst (λ t. Means (after_put d w h new) t) (sym e) means

-- the parent's place exists
pub parent-there : (d : StateLists) (h : ℕ) (p : Place) (q : ℕ) → IsState d → may_report (machine d) h p ≡ true →
    parent_of d.tree p.node ≡ Some q → is_place (machine d) (record { block = p.block; node = q }) ≡ true
parent-there d h p q state needs above =
    let s = machine d in
    let there = and_parts (is_place s p) _ needs in
    let parts = and_parts (nat_lt p.block s.blocks) (nat_lt p.node (size s)) there.0 in
    let up = parent_within d.tree p.node q state.sound.tree above in
    and_from (nat_lt p.block s.blocks) (nat_lt q (size s)) parts.0 (lt-ltb q (size s) up.1)

-- a node without a parent reports to nobody
pub no_report-means : (d : StateLists) (h : ℕ) (p : Place) → IsState d →
    parent_of d.tree p.node ≡ None → Means d (after_report (machine d) h p)
no_report-means d h p state none =
    let s = machine d in
    let reports : Option ℕ → State =
    λ o. option_map_or (λ q. reported_to s h p (name_of s p.block q)) o s in
    record { fitted = state.fitted; state_is = ap reports (sym none) }
