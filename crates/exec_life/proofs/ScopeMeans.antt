-- What the writes of a scope's step mean: the state after the step.
use Rattle.std.proofs.Common.{◌≡◌, ℕ, ◌+◌, ◌-◌, ◌<◌, ◌≤◌, ◌^◌, Bool, true, false, refl, sym, ap, ◌∙◌, subst, arith}
use Rattle.std.specs.Prelude.{nat_le, if◌then◌else◌}
use Rattle.std.proofs.lemmas.Bool.{cond-true, cond-false}
use Rattle.life_rules.specs.declared.event.Place.{Place}
use Rattle.life_rules.specs.declared.scope.ScopeWord.{ScopeWord}
use Rattle.life_rules.specs.declared.words.ControlWord.TheVariants.{ReadyLoop}
use Rattle.life_rules.specs.Associations.{kept}
use Rattle.life_rules.specs.Scopes.{is_refused}
use Rattle.life_rules.specs.ScopeSteps.{after_rouse, after_enter, after_mark_used, after_leave, entered, left}
use Rattle.common_lemmas.specs.Sums.{total}
use Rattle.life_rules.specs.States.{with_view, with_scope}
use Rattle.life_rules.specs.Views.{View}
use Rattle.common_lemmas.proofs.Bool.{either}
use Rattle.common_lemmas.proofs.Totals.{total-at}
use Rattle.life_laws.proofs.Consequences.{count-most}
use Rattle.exec_life.specs.Parts.{Means}
use Rattle.exec_life.specs.StateLists.{StateLists, machine, view_of, generations, IsState}
use Rattle.exec_life.specs.ViewLists.{ViewLists}
use Rattle.exec_life.specs.ViewWrites.{without_one, with_one}
use Rattle.exec_life.specs.WordLists.{WordLists}
use Rattle.exec_life.specs.WordWrites.{SetsControl}
use Rattle.exec_life.proofs.Puts.{HasView, blocks-stay, after_put, put-means, words-means}
use Rattle.exec_life.proofs.Roles.{control-blocks}
use Rattle.exec_life.proofs.SameCells.{SameCells}
use Rattle.exec_life.proofs.StateMeans.{view-is, means-control}

pub rouse-means : (d : StateLists) (w : WordLists) (h : ℕ) (p : Place) → IsState d →
    SetsControl d.words w p.block p.node ReadyLoop → Means (record d { words = w }) (after_rouse (machine d) h p)
rouse-means d w h p state set =
    words-means d w _ state (control-blocks d.words w p.block p.node ReadyLoop set)
    (means-control d w p.block p.node ReadyLoop set)

-- a write to the scope's word alone
pub scope-means : (d : StateLists) (w : WordLists) (word : ScopeWord) → IsState d →
    w ≡ record d.words { scope = word } → Means (record d { words = w }) (with_scope (machine d) word)
scope-means d w word state set =
    words-means d w _ state
    (blocks-stay d.words w (ap (λ (u : WordLists). u.blocks) set) (ap (λ (u : WordLists). u.nodes) set))
    (ap (λ (u : WordLists). machine (record d { words = u })) set)

-- as many associations are in the view as the scope's word counts, at most
pub few-associations : (d : StateLists) (h : ℕ) (v : ViewLists) → HasView d h v →
    (v.made + v.making + v.refused ≤ d.words.scope.count) × (d.words.scope.count < 2 ^ 32 - 1)
few-associations d h v has =
    let s = machine d in
    let at : kept (s.view h) + (s.view h).refused ≤ total (λ i. kept (s.view i) + (s.view i).refused) s.hands =
    total-at (λ i. kept (s.view i) + (s.view i).refused) s.hands h has.hand in
    let count = has.state.sound.associations.count in
    let here : kept (s.view h) + (s.view h).refused ≡ v.made + v.making + v.refused =
    ap (λ (u : View). kept u + u.refused) (view-is d h v has.view_is) in
    let most = count-most s has.state.sound in
    let few = has.state.fitted.most_hands in
    let least = has.state.fitted.most_associations in
    (omega (arith, at, count, here), omega (arith, most, few, least))

module _ (d : StateLists) (w : WordLists) (h : ℕ) (v new : ViewLists) (has : HasView d h v) where
  -- a scope's word and the hand's associations
  counted-means : (word : ScopeWord) (seen : View) → w ≡ record d.words { scope = word } → SameCells v new →
      view_of (generations d.words) new ≡ seen →
      Means (after_put d w h new) (with_view (with_scope (machine d) word) h seen)
  counted-means word seen set cells view =
      put-means d w h v new _ seen has
      (blocks-stay d.words w (ap (λ (u : WordLists). u.blocks) set) (ap (λ (u : WordLists). u.nodes) set)) cells
      (ap (λ u. machine (record d { words = u })) set) view

  with_one-cells : (refused used : Bool) → SameCells v (with_one refused used v)
  with_one-cells true used = record { blocks = refl; nodes = refl }
  with_one-cells false true = record { blocks = refl; nodes = refl }
  with_one-cells false false = record { blocks = refl; nodes = refl }

  with_one-means : (refused used : Bool) (u : View) → view_of (generations d.words) v ≡ u →
      view_of (generations d.words) (with_one refused used v)
      ≡ (if refused then record u { refused = u.refused + 1 } else (
      if used then record u { made = u.made + 1 } else record u { making = u.making + 1 }))
  with_one-means true used u e = ap (λ (z : View). record z { refused = z.refused + 1 }) e
  with_one-means false true u e = ap (λ (z : View). record z { made = z.made + 1 }) e
  with_one-means false false u e = ap (λ (z : View). record z { making = z.making + 1 }) e

  pub enter-means :
      w ≡ record d.words { scope = record d.words.scope { count = d.words.scope.count + 1 } } →
      new ≡ with_one (is_refused d.words.scope d.most) d.words.scope.used v →
      Means (after_put d w h new) (after_enter (machine d) h)
  enter-means set_word set_view =
      let s = machine d in
      let word = d.words.scope in
      let refused = is_refused word d.most in
      let cells : SameCells v new =
      subst (λ z. SameCells v z) (sym set_view) (with_one-cells refused word.used) in
      counted-means (record word { count = word.count + 1 }) (entered word d.most (s.view h)) set_word cells
      (ap (view_of (generations d.words)) set_view
      ∙ with_one-means refused word.used (s.view h) (sym (view-is d h v has.view_is)))

  pub mark_used-means : w ≡ record d.words { scope = record d.words.scope { used = true } } →
      new ≡ record v { making = v.making - 1; made = v.made + 1 } →
      Means (after_put d w h new) (after_mark_used (machine d) h)
  mark_used-means set_word set_view =
      let change : View → View = λ u. record u { making = u.making - 1; made = u.made + 1 } in
      counted-means _ _ set_word
      (record { blocks = ap (λ (u : ViewLists). u.blocks) set_view; nodes = ap (λ (u : ViewLists). u.nodes) set_view })
      (ap (view_of (generations d.words)) set_view ∙ ap change (sym (view-is d h v has.view_is)))

  without_one-cells : SameCells v (without_one v)
  without_one-cells =
      either (nat_le 1 v.refused)
      (λ t. subst (λ z. SameCells v z) (sym (cond-true (nat_le 1 v.refused) _ _ t)) (record { blocks = refl; nodes = refl }))
      (λ f. subst (λ z. SameCells v z) (sym (cond-false (nat_le 1 v.refused) _ _ f)) (record { blocks = refl; nodes = refl }))

  without_one-means : view_of (generations d.words) (without_one v) ≡ left (view_of (generations d.words) v)
  without_one-means =
      let present = generations d.words in
      either (nat_le 1 v.refused)
      (λ t. ap (view_of present) (cond-true (nat_le 1 v.refused) (record v { refused = v.refused - 1 }) _ t)
      ∙ sym (cond-true (nat_le 1 v.refused) _ _ t))
      (λ f. ap (view_of present) (cond-false (nat_le 1 v.refused) _ (record v { made = v.made - 1 }) f)
      ∙ sym (cond-false (nat_le 1 v.refused) _ _ f))

  pub leave-means : w ≡ record d.words { scope = record d.words.scope { count = d.words.scope.count - 1 } } →
      new ≡ without_one v → Means (after_put d w h new) (after_leave (machine d) h)
  leave-means set_word set_view =
      counted-means _ _ set_word (subst (λ z. SameCells v z) (sym set_view) without_one-cells)
      (ap (view_of (generations d.words)) set_view ∙ without_one-means
      ∙ ap left (sym (view-is d h v has.view_is)))
