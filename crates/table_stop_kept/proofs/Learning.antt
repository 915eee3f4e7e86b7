-- A hand learns of a request on the source that a live node hears.
use Rattle.std.proofs.Common.{◌≡◌, Bool, true, false, not, ◌&&◌, ◌||◌, ◌∷◌, refl, sym, ap, ◌∙◌, subst, arith}
use Rattle.std.specs.Prelude.{Option, Some, None}
use Rattle.std.specs.Option.{option_map_or}
use Rattle.std.proofs.lemmas.Bool.{and_from, or_left, or_right, eq-eqb}
use Rattle.life_rules.specs.declared.event.Name.{Name}
use Rattle.life_rules.specs.declared.event.SourceRef.{SourceRef}
use Rattle.life_rules.specs.declared.event.SourceRef.TheVariants.{Scope, Node}
use Rattle.node_tree.specs.Tree.{Nearest, TheScope, TheNode, Nowhere, nearest}
use Rattle.life_rules.specs.Views.{beside, same_source, note}
use Rattle.life_rules.specs.States.{State, is_live, nearest_of, source_for}
use Rattle.common_lemmas.proofs.Bool.{either}
use Rattle.life_rules.proofs.Names.{same_source-true}
use Rattle.life_rules.proofs.Readings.{lives}
use Rattle.table_rules.specs.declared.view.View.{View}
use Rattle.table_rules.specs.Named.{Each}
use Rattle.table_rules.specs.Notes.{IsPastSource}
use Rattle.table_rules.specs.ShownWords.{is_present_source}
use Rattle.table_rules.specs.ShownViews.{shown_view, has_source_ref}
use Rattle.table_steps.specs.Callbacks.{learns}
use Rattle.table_kept.proofs.LiveNames.{open-kept}

or-none : (b : Bool) → (b || false) ≡ b
or-none true = refl
or-none false = refl

module _ {P E : Type 0} (s : State) (v : View P E) where
  -- one source more that is of the present is shown as one more
  pub one-more : (t u : SourceRef) → is_present_source s.block t ≡ true →
      (has_source_ref (t ∷ v.seen) u && is_present_source s.block u)
      ≡ note t true (λ z. has_source_ref v.seen z && is_present_source s.block z) u
  one-more t u present =
      let had = has_source_ref v.seen u && is_present_source s.block u in
      either (same_source t u)
      (λ e.
      and_from (same_source t u || has_source_ref v.seen u) (is_present_source s.block u)
      (or_left (same_source t u) (has_source_ref v.seen u) e)
      (subst (λ z. is_present_source s.block z ≡ true) (same_source-true t u e) present)
      ∙ sym (or_right had (same_source t u && true) (and_from (same_source t u) true e refl)))
      (λ ne.
      ap (λ b. (b || has_source_ref v.seen u) && is_present_source s.block u) ne
      ∙ sym (ap (λ b. had || (b && true)) ne ∙ or-none had))

module _ {P E : Type 0} (s : State) (x : Name) (live : is_live s x ≡ true) (v : View P E) where
  -- the source that the node hears is of the present
  source-present : (k : Nearest) (t : SourceRef) → source_for x k ≡ Some t → is_present_source s.block t ≡ true
  source-present TheScope t e = let is : Scope ≡ t = cc in subst (λ z. is_present_source s.block z ≡ true) is refl
  source-present (TheNode p) t e =
      let is : Node (beside x p) ≡ t = cc in
      let l = lives s x live in
      subst (λ z. is_present_source s.block z ≡ true) is
      (and_from _ _ (ap not (open-kept (s.block x.block).state l.is_opened)) (eq-eqb _ _ l.generation))
  source-present Nowhere t e = cc

  past-source : (k : Nearest) (t : SourceRef) → source_for x k ≡ Some t → IsPastSource s t
  past-source TheScope t e = let is : Scope ≡ t = cc in subst (IsPastSource s) is tt
  past-source (TheNode p) t e =
      let is : Node (beside x p) ≡ t = cc in
      let g = (lives s x live).generation in
      subst (IsPastSource s) is (omega (arith, g))
  past-source Nowhere t e = cc

  abbrev learned : Option SourceRef → (SourceRef → Bool) → SourceRef → Bool
  learned o g = option_map_or (λ t. note t true g) o g

  shows-by : (o : Option SourceRef) → ((t : SourceRef) → o ≡ Some t → is_present_source s.block t ≡ true) → (u : SourceRef) →
      (has_source_ref (option_map_or (λ t. t ∷ v.seen) o v.seen) u && is_present_source s.block u)
      ≡ learned o (λ z. has_source_ref v.seen z && is_present_source s.block z) u
  shows-by None present u = refl
  shows-by (Some t) present u = one-more s v t u (present t refl)

  -- the view shows the request as seen
  pub shows-learned : shown_view s.block (learns s.tree x v)
      ≡ (let w = shown_view s.block v in record w { seen = option_map_or (λ source. note source true w.seen) (nearest_of s x) w.seen })
  shows-learned =
      λ k. record (shown_view s.block v) {
        seen = λ u. shows-by (source_for x (nearest s.tree x.node)) (source-present (nearest s.tree x.node)) u k;
      }

  past-by : (o : Option SourceRef) → ((t : SourceRef) → o ≡ Some t → IsPastSource s t) → Each (IsPastSource s) v.seen →
      Each (IsPastSource s) (option_map_or (λ t. t ∷ v.seen) o v.seen)
  past-by None so old = old
  past-by (Some t) so old = (so t refl, old)

  pub learned-past : Each (IsPastSource s) v.seen → Each (IsPastSource s) (learns s.tree x v).seen
  learned-past old = past-by (source_for x (nearest s.tree x.node)) (past-source (nearest s.tree x.node)) old
