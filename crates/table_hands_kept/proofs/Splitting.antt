-- A table from which one more hand is split keeps the rule.
use Rattle.std.proofs.Common.{◌≡◌, ℕ, zero, suc, ◌+◌, ◌<◌, List, [], ◌∷◌, ◌++◌, length, set, refl, sym, ap, ◌∙◌, subst, ⊎_elim, arith, length-set, length-append}
use mathlib.Core.Option.{some, some-injective, some-ne-none}
use lib.ListN.{get_elem?}
use Rattle.life_rules.specs.declared.words.BlockWord.{BlockWord}
use Rattle.table_words.specs.declared.layout.Layout.{Layout}
use Rattle.atomic_table.specs.Table as table
use Rattle.atomic_table.proofs.Lists.{at_set}
use Rattle.table_rules.specs.declared.cargo.Cargo.{Ghosts}
use Rattle.table_rules.specs.declared.frame.Frame.{Frame}
use Rattle.table_rules.specs.declared.view.View.{View}
use Rattle.table_rules.specs.ShownWords.{block_of}
use Rattle.table_rules.specs.ShownViews.{view_at, shown_view}
use Rattle.table_rules.specs.Scenes.{Scene, scene}
use Rattle.table_rules.specs.Notes.{IsKnown, ViewsStand}
use Rattle.table_rules.specs.Named.{Each}
use Rattle.table_rules.specs.Grown.{HasRisen, HaveRisen}
use Rattle.table_rules.specs.Running.{Running}
use Rattle.table_steps.specs.Views.{split_once, fresh, fresh_after}
use Rattle.table_kept.proofs.Seats.{at_end}
use Rattle.table_kept.proofs.Counts.{counts-moved, counts-more}
use Rattle.table_kept.proofs.Loads.{relisted}

module _ {P E : Type 0} (blocks : ℕ → BlockWord) where
  -- a hand that has done nothing shows as one that wasn't split off
  longer-shows : (vs : List (View P E)) (n h : ℕ) → view_at blocks (vs ++ fresh n ∷ []) h ≡ view_at blocks vs h
  longer-shows [] n zero = refl
  longer-shows [] n (suc h) = refl
  longer-shows (v ∷ vs) n zero = refl
  longer-shows (v ∷ vs) n (suc h) = longer-shows vs n h

  split-shows : (vs : List (View P E)) (id : ℕ) (v : View P E) (n h : ℕ) → get_elem? vs id ≡ some v →
      view_at blocks (set vs id (split_once v) ++ fresh n ∷ []) h ≡ view_at blocks vs h
  split-shows [] id v n h e = absurd (some-ne-none v (sym e))
  split-shows (x ∷ xs) zero v n zero e = ap (shown_view blocks) (sym (some-injective x v e))
  split-shows (x ∷ xs) zero v n (suc h) e = longer-shows xs n h
  split-shows (x ∷ xs) (suc id) v n zero e = refl
  split-shows (x ∷ xs) (suc id) v n (suc h) e = split-shows xs id v n h e

module _ {P E : Type 0} (s : Scene P E) (vs : List (View P E)) (id : ℕ) (v : View P E) (at : get_elem? vs id ≡ some v) (first : v.number ≡ 0) (old : ViewsStand s vs) where
  abbrev more : List (View P E)
  more = set vs id (split_once v) ++ fresh_after v ∷ []

  id-first : id ≡ 0
  id-first = sym (old.number id v at) ∙ first

  counts : v.splits + 1 ≡ length vs
  counts = old.splits v (subst (λ i. get_elem? vs i ≡ some v) id-first at)

  pub as-many : length more ≡ v.splits + 1 + 1
  as-many =
      let e = length-append (set vs id (split_once v)) (fresh_after v ∷ []) in
      let d = length-set vs id (split_once v) in
      let c = counts in
      omega (arith, e, d, c)

  -- each view of the longer list is the one that was cut, the new one, or as before
  each-of : (Q : ℕ → View P E → Type 0) → Q id (split_once v) → Q (length vs) (fresh_after v) →
      ((h : ℕ) (w : View P E) → (h ≡ id → ⊥) → get_elem? vs h ≡ some w → Q h w) → (h : ℕ) (w : View P E) →
      get_elem? more h ≡ some w → Q h w
  each-of Q cut new others h w e =
      ⊎_elim
      (λ (l : get_elem? (set vs id (split_once v)) h ≡ some w).
      ⊎_elim
      (λ (t : (h ≡ id) × (split_once v ≡ w)). subst (λ (z : ℕ × View P E). Q z.0 z.1) (λ i. (sym t.0 i, t.1 i)) cut)
      (λ (t : ((h ≡ id) → ⊥) × (get_elem? vs h ≡ some w)). others h w t.0 t.1)
      (at_set vs id h (split_once v) w l))
      (λ (r : (h ≡ length (set vs id (split_once v))) × (fresh_after v ≡ w)).
      subst (λ (z : ℕ × View P E). Q z.0 z.1)
      (λ i. (sym (r.0 ∙ length-set vs id (split_once v)) i, r.1 i)) new)
      (at_end (set vs id (split_once v)) (fresh_after v) w h e)

  -- what the hands list stays, and the new one has listed nothing
  pub risen-split : (l : Layout) (words : List ℕ) → HaveRisen l words vs → HaveRisen l words more
  risen-split l words all = each-of (λ h w. Each (HasRisen l words) w.steps) (all id v at) tt (λ h w _ e. all h w e)

  pub views-split : ViewsStand s more
  views-split =
      let known = old.each id v at in
      let numbers = each-of (λ h w. w.number ≡ h) (old.number id v at) counts (λ h w _ e. old.number h w e) in
      record {
        each = each-of (λ h w. IsKnown s w)
            (record {
              held = known.held;
              owed = known.owed;
              reported = known.reported;
              noted = known.noted;
              unlooked = known.unlooked;
              seen_after = known.seen_after;
              seen = known.seen;
            })
            (record { held = tt; owed = tt; reported = tt; noted = tt; unlooked = tt; seen_after = tt; seen = tt })
            (λ h w _ e. old.each h w e);
        number = numbers;
        splits = λ w e.
            each-of (λ h u. h ≡ 0 → u.splits + 1 ≡ length more)
            (λ _. sym as-many)
            (λ none. let c = counts in absurd (omega (arith, none, c)))
            (λ h u other here none. absurd (other (none ∙ sym id-first)))
            0 w e refl;
      }

-- one more hand is split from the first
pub splits : {P E O : Type 0} (cargo : Ghosts P E O) (f : Frame O) (id : ℕ) (v : View P E) → v.number ≡ 0 →
    v.splits + 1 < f.hands →
    table.Splits (Running cargo f) id v (split_once v) (fresh_after v)
splits cargo f id v first room s r at =
    let vs = s.views in
    let now = scene f s r.past in
    let long = as-many now vs id v at first r.stands.views in
    relisted cargo f s (set vs id (split_once v) ++ fresh_after v ∷ []) r
    (λ h. split-shows (block_of f.layout s.words) vs id v (v.splits + 1) h at)
    (omega (arith, long)) (views-split now vs id v at first r.stands.views)
    (counts-more now.state (set vs id (split_once v)) (v.splits + 1)
    (counts-moved now.state now.state vs id v (split_once v) at refl refl r.stands.counts))
    (risen-split now vs id v at first r.stands.views f.layout s.words r.stamped.rises)
