-- The views of a table's hands after one of them changed.
use Rattle.std.proofs.Common.{◌≡◌, ℕ, zero, suc, ◌+◌, ◌&&◌, ◌==◌, cond, List, [], ◌∷◌, length, set, refl, sym, ap, ◌∙◌, subst, ⊎_elim, length-set}
use Rattle.std.proofs.lemmas.Bool.{cond-true, cond-false, both_ways, eqb-true, eq-eqb}
use mathlib.Core.Option.{some, some-injective, some-ne-none}
use lib.ListN.{get_elem?}
use Rattle.life_rules.specs.declared.words.BlockWord.{BlockWord}
use Rattle.life_rules.specs.declared.event.Name.{Name}
use Rattle.life_rules.specs.declared.event.SourceRef.{SourceRef}
use Rattle.life_rules.specs.declared.event.SourceRef.TheVariants.{Scope, Node}
use Rattle.common_lemmas.proofs.Bool.{either}
use Rattle.atomic_table.proofs.Lists.{at_set}
use Rattle.table_rules.specs.declared.view.View.{View}
use Rattle.table_rules.specs.Named.{count_by}
use Rattle.table_rules.specs.ShownWords.{is_present, is_present_source}
use Rattle.table_rules.specs.ShownViews.{view_at, shown_view, scan_in, has_name, has_source_ref}
use Rattle.table_rules.specs.Scenes.{Scene}
use Rattle.table_rules.specs.Notes.{IsKnown, ViewsStand}

module _ {P E : Type 0} (blocks : ℕ → BlockWord) where
  pub view-here : (vs : List (View P E)) (id : ℕ) (v : View P E) → get_elem? vs id ≡ some v →
      view_at blocks vs id ≡ shown_view blocks v
  view-here [] id v e = absurd (some-ne-none v (sym e))
  view-here (x ∷ xs) zero v e = ap (shown_view blocks) (some-injective x v e)
  view-here (x ∷ xs) (suc id) v e = view-here xs id v e

  set-here : (vs : List (View P E)) (id : ℕ) (v w : View P E) → get_elem? vs id ≡ some v →
      view_at blocks (set vs id w) id ≡ shown_view blocks w
  set-here [] id v w e = absurd (some-ne-none v (sym e))
  set-here (x ∷ xs) zero v w e = refl
  set-here (x ∷ xs) (suc id) v w e = set-here xs id v w e

  set-other : (vs : List (View P E)) (id h : ℕ) (w : View P E) → (h ≡ id → ⊥) →
      view_at blocks (set vs id w) h ≡ view_at blocks vs h
  set-other [] id h w ne = refl
  set-other (x ∷ xs) zero zero w ne = absurd (ne refl)
  set-other (x ∷ xs) zero (suc h) w ne = refl
  set-other (x ∷ xs) (suc id) zero w ne = refl
  set-other (x ∷ xs) (suc id) (suc h) w ne = set-other xs id h w (λ e. ne (ap suc e))

  -- the shown views after the view of one hand changed
  pub view-set : (vs : List (View P E)) (id : ℕ) (v w : View P E) → get_elem? vs id ≡ some v → (h : ℕ) →
      view_at blocks (set vs id w) h ≡ cond (h == id) (shown_view blocks w) (view_at blocks vs h)
  view-set vs id v w at h =
      either (h == id)
      (λ t. ap (view_at blocks (set vs id w)) (eqb-true h id t) ∙ set-here vs id v w at
      ∙ sym (cond-true (h == id) (shown_view blocks w) (view_at blocks vs h) t))
      (λ f. set-other vs id h w (λ e. both_ways (h == id) f (eq-eqb h id e))
      ∙ sym (cond-false (h == id) (shown_view blocks w) (view_at blocks vs h) f))

  -- and after it changed in what isn't shown alone
  pub view-kept : (vs : List (View P E)) (id : ℕ) (v w : View P E) → get_elem? vs id ≡ some v →
      shown_view blocks w ≡ shown_view blocks v → (h : ℕ) →
      view_at blocks (set vs id w) h ≡ view_at blocks vs h
  view-kept vs id v w at same h =
      either (h == id)
      (λ t. ap (view_at blocks (set vs id w)) (eqb-true h id t) ∙ set-here vs id v w at ∙ same
      ∙ sym (view-here vs id v at) ∙ ap (view_at blocks vs) (sym (eqb-true h id t)))
      (λ f. set-other vs id h w (λ e. both_ways (h == id) f (eq-eqb h id e)))

same-source : (old new : ℕ → BlockWord) → ((x : Name) → is_present new x ≡ is_present old x) → (t : SourceRef) →
    is_present_source new t ≡ is_present_source old t
same-source old new same Scope = refl
same-source old new same (Node x) = same x

module _ {P E : Type 0} (old new : ℕ → BlockWord) (same : (x : Name) → is_present new x ≡ is_present old x) where
  -- the views show the same where the same names are of the present
  shown-same : (v : View P E) → shown_view new v ≡ shown_view old v
  shown-same v =
      λ k. record {
        holds = count_by (λ e. e.name) v.held;
        starts = count_by (λ e. e.name) v.owed;
        reports = count_by (λ e. e.name) v.reported;
        finished = count_by (λ x. x) v.finished;
        runs = count_by (λ x. x) v.runs;
        scan = scan_in v.scans;
        unlooked = λ x. has_name v.unlooked x && same x k;
        seen_after = λ x. has_name v.seen_after x && same x k;
        seen = λ t. has_source_ref v.seen t && same-source old new same t k;
        made = v.made;
        making = v.making;
        refused = v.refused;
        requested = v.requested;
      }

  pub views-same : (vs : List (View P E)) (h : ℕ) → view_at new vs h ≡ view_at old vs h
  views-same [] h = refl
  views-same (v ∷ vs) zero = shown-same v
  views-same (v ∷ vs) (suc h) = views-same vs h

-- what the hands know is so after one view changed
pub views-moved : {P E : Type 0} (s t : Scene P E) (vs : List (View P E)) (id : ℕ) (v w : View P E) →
    get_elem? vs id ≡ some v →
    ((j : ℕ) (u : View P E) → (j ≡ id → ⊥) → get_elem? vs j ≡ some u → IsKnown s u → IsKnown t u) →
    IsKnown t w → w.number ≡ v.number → w.splits ≡ v.splits → ViewsStand s vs → ViewsStand t (set vs id w)
views-moved {P} {E} s t vs id v w at known mine number splits old =
    let of : (Q : ℕ → View P E → Type 0) → Q id w →
    ((j : ℕ) (u : View P E) → (j ≡ id → ⊥) → get_elem? vs j ≡ some u → Q j u) →
    (j : ℕ) (u : View P E) → get_elem? (set vs id w) j ≡ some u → Q j u =
    λ Q here others j u e.
    ⊎_elim
    (λ (p : (j ≡ id) × (w ≡ u)). subst (λ (z : ℕ × View P E). Q z.0 z.1) (λ k. (sym p.0 k, p.1 k)) here)
    (λ (p : ((j ≡ id) → ⊥) × (get_elem? vs j ≡ some u)). others j u p.0 p.1) (at_set vs id j w u e) in
    record {
      each = of (λ _ u. IsKnown t u) mine (λ j u ne e. known j u ne e (old.each j u e));
      number = of (λ j u. u.number ≡ j) (number ∙ old.number id v at) (λ j u ne. old.number j u);
      splits = λ u e.
          of (λ j z. j ≡ 0 → z.splits + 1 ≡ length (set vs id w))
          (λ first.
          ap (λ k. k + 1) splits ∙ old.splits v (subst (λ j. get_elem? vs j ≡ some v) first at)
          ∙ sym (length-set vs id w))
          (λ j z ne there first.
          old.splits z (subst (λ k. get_elem? vs k ≡ some z) first there) ∙ sym (length-set vs id w))
          0 u e refl;
    }
