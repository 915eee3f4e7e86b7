-- The views of a table that gave a block back show what they showed, without what they noted of it.
use Rattle.std.proofs.Common.{◌≡◌, ℕ, zero, suc, not, ◌&&◌, ◌==◌, List, [], ◌∷◌, refl, sym, ◌∙◌}
use mathlib.Core.Option.{some}
use lib.ListN.{get_elem?}
use Rattle.life_rules.specs.declared.words.BlockWord.{BlockWord}
use Rattle.life_rules.specs.declared.event.Name.{Name}
use Rattle.life_rules.specs.declared.event.SourceRef.{SourceRef}
use Rattle.life_rules.specs.declared.event.SourceRef.TheVariants.{Scope, Node}
use Rattle.life_rules.specs.Views.{forget}
use Rattle.life_rules.specs.LifeSteps.{after_release}
use Rattle.table_rules.specs.declared.view.View.{View}
use Rattle.table_rules.specs.ShownWords.{is_present, is_retired}
use Rattle.table_rules.specs.ShownViews.{view_at}
use Rattle.table_rules.specs.Scenes.{Scene}
use Rattle.table_rules.specs.Notes.{IsPastSource, IsKnown}
use Rattle.table_kept.proofs.Entries.{each-map}
use Rattle.table_life_kept.proofs.Release.Views.{present-apart, present-before}
use Rattle.table_life_kept.proofs.Release.Moves.{IsOldSource, shown-forgotten}

module _ {P E : Type 0} (s : Scene P E) (hand b : ℕ) (blocks : ℕ → BlockWord) (blocks-are : (i : ℕ) → blocks i ≡ (after_release s.state hand b).block i) where
  present-is : (y : Name) → is_present blocks y ≡ is_present (after_release s.state hand b).block y
  present-is y k =
      not (is_retired (blocks-are y.block k).state) && y.generation == (blocks-are y.block k).generation

  source-old : (t : SourceRef) → IsPastSource s.state t → IsOldSource s.state.block t
  source-old Scope past = tt
  source-old (Node y) past = past

  pub views-forget : (vs : List (View P E)) (h : ℕ) → ((j : ℕ) (u : View P E) → get_elem? vs j ≡ some u → IsKnown s u) →
      view_at blocks vs h ≡ forget b (view_at s.state.block vs h)
  views-forget [] h known = refl
  views-forget (u ∷ us) zero known =
      let k = known 0 u refl in
      shown-forgotten s.state.block blocks b
      (λ y past present. present-apart s.state hand b y past (sym (present-is y) ∙ present))
      (λ y apart. present-is y ∙ present-before s.state hand b y apart) u
      (record { unlooked = k.unlooked; seen_after = k.seen_after })
      (each-map (IsPastSource s.state) (IsOldSource s.state.block) source-old u.seen k.seen)
  views-forget (u ∷ us) (suc h) known = views-forget us h (λ j z e. known (suc j) z e)
