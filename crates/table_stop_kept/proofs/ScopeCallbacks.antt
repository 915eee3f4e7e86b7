-- Hand 0 alone makes the scope's scan: a callback that is registered there runs nowhere, where hand 0 doesn't
-- run it.
use Rattle.std.proofs.Common.{◌≡◌, ◌≤◌, Bool, true, false, Some, None, refl, sym, ap, ◌∙◌, subst, arith}
use Rattle.std.specs.Prelude.{Option, is_some}
use Rattle.std.specs.Option.{option_map_or}
use Rattle.life_rules.specs.declared.words.CallbackPhase.TheVariants.{Running as Runs}
use Rattle.life_rules.specs.declared.event.Name.{Name}
use Rattle.life_rules.specs.declared.event.SourceRef.TheVariants.{Scope}
use Rattle.node_tree.specs.Tree.{nearest}
use Rattle.life_rules.specs.Words.{is_running}
use Rattle.common_lemmas.specs.Sums.{one}
use Rattle.life_rules.specs.Views.{View as PureView, is_scanning}
use Rattle.life_rules.specs.States.{State, phase_at, source_for}
use Rattle.life_rules.specs.Scans.{is_next, is_next_in}
use Rattle.common_lemmas.proofs.Totals.{total-some}
use Rattle.table_rules.specs.declared.cargo.Cargo.{Ghosts}
use Rattle.table_rules.specs.declared.frame.Frame.{Frame}
use Rattle.table_rules.specs.Named.{count_by}
use Rattle.table_rules.specs.ShownWords.{block_of}
use Rattle.table_rules.specs.Scenes.{shown}
use Rattle.table_kept.proofs.Standing.{Standing}
use Rattle.table_kept.proofs.ViewMoves.{view-here}

is-given : {A : Type 0} (test : A → Bool) (o : Option A) → option_map_or test o false ≡ true → is_some o ≡ true
is-given test None h = cc
is-given test (Some a) h = refl

module _ {P E O : Type 0} (cargo : Ghosts P E O) (f : Frame O) (hand : Standing cargo f) (x : Name)
    (unrun : count_by (λ y. y) hand.view.runs x ≡ 0) where
  open hand use {state as s, id, view as v, running as r, at}

  abbrev now : State
  now = shown f s

  pub none-runs : v.number ≡ 0 → source_for x (nearest f.tree x.node) ≡ Some Scope → phase_at now x ≡ Runs → ⊥
  none-runs number near runs =
      let once : one (is_running (phase_at now x)) ≡ 1 = ap (λ p. one (is_running p)) runs in
      let all = r.stands.sound.runs.runs x in
      let some_hand = total-some (λ h. (now.view h).runs x) f.hands (omega (arith, once, all)) in
      let next = r.stands.sound.runs.next some_hand.0 x some_hand.1 some_hand.2 in
      let of_scope : is_next_in now (now.view some_hand.0) Scope x ≡ true =
      ap (λ o. option_map_or (λ source. is_next_in now (now.view some_hand.0) source x) o false) (sym near) ∙ next in
      let scans : is_scanning (now.view some_hand.0) Scope ≡ true =
      is-given (λ i. is_next now Scope i x) ((now.view some_hand.0).scan Scope) of_scope in
      let is_0 : some_hand.0 ≡ 0 = r.stands.sound.scope.scan some_hand.0 some_hand.1 scans in
      let first : id ≡ 0 = sym (r.stands.views.number id v at) ∙ number in
      let ran : 1 ≤ (now.view id).runs x = subst (λ h. 1 ≤ (now.view h).runs x) (is_0 ∙ sym first) some_hand.2 in
      let own = ap (λ (u : PureView). u.runs x) (view-here (block_of f.layout s.words) s.views id v at) in
      omega (arith, ran, own, unrun)
