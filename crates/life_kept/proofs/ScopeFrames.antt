-- The associations and the scope's request carry over where views differ in other things alone.
use Rattle.std.proofs.Common.{◌≡◌, ℕ, ◌+◌, ◌≤◌, sym, ◌∙◌, subst}
use Rattle.life_rules.specs.declared.words.BlockWord.{BlockWord}
use Rattle.life_rules.specs.declared.words.ControlWord.{ControlWord}
use Rattle.life_rules.specs.declared.words.CallbackPhase.{CallbackPhase}
use Rattle.life_rules.specs.declared.words.Bits.{Bits}
use Rattle.life_rules.specs.declared.event.SourceRef.TheVariants.{Scope}
use Rattle.life_rules.specs.Views.{View, blank, is_scanning}
use Rattle.life_rules.specs.States.{State}
use Rattle.common_lemmas.specs.Sums.{total}
use Rattle.life_rules.specs.Associations.{Associations, ScopeRequested, kept}
use Rattle.common_lemmas.proofs.Totals.{total-same}

-- what a view knows of the scope, and its scans
abbrev pub of_scope : View → View
of_scope v =
    record blank {
      scan = v.scan;
      made = v.made;
      making = v.making;
      refused = v.refused;
      requested = v.requested;
    }

-- the state with other words of blocks and places, and other views
abbrev pub remade : State → (ℕ → BlockWord) → (ℕ → ℕ → ControlWord) → (ℕ → ℕ → CallbackPhase) →
    (ℕ → ℕ → Bits) → (ℕ → View) → State
remade s b c k t w = record s { block = b; control = c; callback = k; source = t; view = w }

module _ (s : State) (b : ℕ → BlockWord) (c : ℕ → ℕ → ControlWord) (k : ℕ → ℕ → CallbackPhase)
    (t : ℕ → ℕ → Bits) (w : ℕ → View) (same : (i : ℕ) → of_scope (w i) ≡ of_scope (s.view i)) where
  pub associations-framed : Associations s → Associations (remade s b c k t w)
  associations-framed a =
      let keeps : total (λ h. kept (w h)) s.hands ≡ total (λ h. kept (s.view h)) s.hands =
      total-same _ _ s.hands (λ i below j. kept (same i j)) in
      let alls : total (λ h. kept (w h) + (w h).refused) s.hands
      ≡ total (λ h. kept (s.view h) + (s.view h).refused) s.hands =
      total-same _ _ s.hands (λ i below j. kept (same i j) + (same i j).refused) in
      record {
        count = a.count ∙ sym alls;
        joined = λ j. keeps ∙ a.joined j;
        single = λ h below.
            subst (λ n. n ≤ 1) (λ j. (sym (same h) j).making + (sym (same h) j).refused) (a.single h below);
        most = subst (λ n. n ≤ s.most) (sym keeps) a.most;
      }

  pub scope-framed : ScopeRequested s → ScopeRequested (remade s b c k t w)
  scope-framed a = record {
    by_hand_0 = a.by_hand_0 ∙ (λ j. (sym (same 0) j).requested);
    scan = λ h below on. a.scan h below ((λ j. is_scanning (sym (same h) j) Scope) ∙ on);
  }
