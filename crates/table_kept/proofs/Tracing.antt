-- No word and no home of a table comes to be what it is but by a listed step: each step keeps this.
use Rattle.std.proofs.Common.{◌≡◌, ◌⊎◌, inl, inr, ℕ, zero, suc, ◌<◌, ◌≤◌, ◌==◌, List, [], ◌∷◌, length, set, refl, sym, ap, ◌∙◌, subst, ⊎_elim, arith, length-set}
use Rattle.std.specs.Prelude.{Option, slice_index}
use Rattle.std.proofs.lemmas.Bool.{both_ways, eqb-true, eq-eqb}
use Rattle.std.proofs.lemmas.List.{get_or-set_same, get_or-set_other}
use mathlib.Core.Option.{some, some-injective, some-ne-none}
use lib.ListN.{get_elem?}
use Rattle.common_lemmas.proofs.Bool.{either}
use Rattle.atomic_table.specs.Table as table
use Rattle.atomic_table.proofs.Lists.{at_set, set_here}
use Rattle.listed_words.specs.declared.seen.Seen.{Seen}
use Rattle.listed_words.specs.Lists.{entry}
use Rattle.table_rules.specs.declared.cargo.Cargo.{Ghosts}
use Rattle.table_rules.specs.declared.frame.Frame.{Frame}
use Rattle.table_rules.specs.declared.view.View.{View}
use Rattle.table_rules.specs.Named.{AnyOf, Each}
use Rattle.table_rules.specs.Running.{Running}
use Rattle.table_rules.specs.Traces.{LeavesThere, all_steps, SomeHas, SomeCarries, IsMadeBySome, Traced}
use Rattle.table_kept.proofs.Seats.{at_within}
use Rattle.table_kept.proofs.Entries.{each-map}
use Rattle.table_kept.proofs.AnyOf.{any-left, any-right, any-among}

-- where an item stands after another was written into the list
moved-at : {A : Type 0} (l : List A) (i j : ℕ) (a b : A) → get_elem? l j ≡ some b →
    ((j ≡ i) × (get_elem? (set l i a) i ≡ some a)) ⊎ (get_elem? (set l i a) j ≡ some b)
moved-at [] i j a b e = absurd (some-ne-none b (sym e))
moved-at (x ∷ xs) zero zero a b e = inl (refl, refl)
moved-at (x ∷ xs) zero (suc j) a b e = inr e
moved-at (x ∷ xs) (suc i) zero a b e = inr e
moved-at (x ∷ xs) (suc i) (suc j) a b e =
    ⊎_elim (λ (t : (j ≡ i) × (get_elem? (set xs i a) i ≡ some a)). inl (ap suc t.0, t.1))
    (λ (t : get_elem? (set xs i a) j ≡ some b). inr t) (moved-at xs i j a b e)

-- one hand's view changed
module _ {P E : Type 0} (vs : List (View P E)) (id : ℕ) (v w : View P E) (at : get_elem? vs id ≡ some v) where
  pub has-set : (Q : Seen → Type 0) → (AnyOf Q v.steps → AnyOf Q w.steps) → SomeHas vs Q → SomeHas (set vs id w) Q
  has-set Q more h =
      ⊎_elim
      (λ (t : (h.hand ≡ id) × (get_elem? (set vs id w) id ≡ some w)).
      let same : h.view ≡ v = some-injective h.view v (sym h.at ∙ ap (get_elem? vs) t.0 ∙ at) in
      record { hand = id; view = w; at = t.1; has = more (subst (λ z. AnyOf Q z.steps) same h.has) })
      (λ (t : get_elem? (set vs id w) h.hand ≡ some h.view).
      record { hand = h.hand; view = h.view; at = t; has = h.has })
      (moved-at vs id h.hand w h.view h.at)

  pub carries-set : (Q : Seen → Type 0) → (1 ≤ v.hands → 1 ≤ w.hands) → (AnyOf Q (all_steps v) → AnyOf Q (all_steps w)) →
      SomeCarries vs Q → SomeCarries (set vs id w) Q
  carries-set Q stays more h =
      ⊎_elim
      (λ (t : (h.hand ≡ id) × (get_elem? (set vs id w) id ≡ some w)).
      let same : h.view ≡ v = some-injective h.view v (sym h.at ∙ ap (get_elem? vs) t.0 ∙ at) in
      record {
        hand = id;
        view = w;
        at = t.1;
        itself = stays (subst (λ z. 1 ≤ z.hands) same h.itself);
        has = more (subst (λ z. AnyOf Q (all_steps z)) same h.has);
      })
      (λ (t : get_elem? (set vs id w) h.hand ≡ some h.view).
      record { hand = h.hand; view = h.view; at = t; itself = h.itself; has = h.has })
      (moved-at vs id h.hand w h.view h.at)

  made-set : ((Q : Seen → Type 0) → AnyOf Q v.steps → AnyOf Q w.steps) → (l : List Seen) → Each (IsMadeBySome vs) l →
      Each (IsMadeBySome (set vs id w)) l
  made-set more l all =
      each-map (IsMadeBySome vs) (IsMadeBySome (set vs id w)) (λ e. has-set (λ d. d ≡ e) (more (λ d. d ≡ e))) l all

  -- what each hand has of those joined to it, they made
  joined-set : ((Q : Seen → Type 0) → AnyOf Q v.steps → AnyOf Q w.steps) → Each (IsMadeBySome (set vs id w)) w.joined →
      ((h : ℕ) (u : View P E) → get_elem? vs h ≡ some u → Each (IsMadeBySome vs) u.joined) → (h : ℕ) (u : View P E) →
      get_elem? (set vs id w) h ≡ some u → Each (IsMadeBySome (set vs id w)) u.joined
  joined-set more own all h u e =
      ⊎_elim
      (λ (t : (h ≡ id) × (w ≡ u)). subst (λ (z : View P E). Each (IsMadeBySome (set vs id w)) z.joined) t.1 own)
      (λ (t : ((h ≡ id) → ⊥) × (get_elem? vs h ≡ some u)). made-set more u.joined (all h u t.1))
      (at_set vs id h w u e)

-- a hand made a step, and listed it
pub traced-step : {P E O : Type 0} (cargo : Ghosts P E O) (f : Frame O) (s : table.State (Option P) (View P E)) (id i read left : ℕ) (v w : View P E) (c : List (ℕ × Option P)) (act : table.Act (Option P)) →
    Traced cargo f s → get_elem? s.views id ≡ some v → v.hands ≡ 1 → w.steps ≡ entry i read left ∷ v.steps →
    w.joined ≡ v.joined → w.hands ≡ v.hands → Running cargo f (table.stepped s i left id c w act) →
    Traced cargo f (table.stepped s i left id c w act)
traced-step {P} {E} cargo f s id i read left v w c act old at itself steps joined hands runs =
    let vs = s.views in
    let now = set vs id w in
    let there : get_elem? now id ≡ some w = set_here vs id w (at_within vs id v at) in
    let more : (Q : Seen → Type 0) → AnyOf Q v.steps → AnyOf Q w.steps =
    λ Q h. subst (AnyOf Q) (sym steps) (inr h) in
    let more_all : (Q : Seen → Type 0) → AnyOf Q (all_steps v) → AnyOf Q (all_steps w) =
    λ Q h.
    ⊎_elim (λ (a : AnyOf Q v.steps). any-left Q w.steps w.joined (more Q a))
    (λ (b : AnyOf Q v.joined). any-right Q w.steps w.joined (subst (AnyOf Q) (sym joined) b))
    (any-among Q v.steps v.joined h) in
    let itself_now : 1 ≤ w.hands = omega (arith, itself, hands) in
    record {
      runs = runs;
      words = λ j below.
          let within : j < length s.words = let l = length-set s.words i left in omega (arith, below, l) in
          either (j == i)
          (λ t.
          let is : j ≡ i = eqb-true j i t in
          let word : slice_index (set s.words i left) i ≡ left =
          get_or-set_same s.words i left 0 (subst (λ k. k < length s.words) is within) in
          inr (record {
            hand = id;
            view = w;
            at = there;
            itself = itself_now;
            has = any-left (LeavesThere j (slice_index (set s.words i left) j)) w.steps w.joined
                (subst (AnyOf (LeavesThere j (slice_index (set s.words i left) j))) (sym steps)
                (inl (record { index_is = sym is; left_is = sym (ap (slice_index (set s.words i left)) is ∙ word) })));
          }))
          (λ ne.
          let word : slice_index (set s.words i left) j ≡ slice_index s.words j =
          get_or-set_other s.words i j left 0 (λ e. both_ways (j == i) ne (eq-eqb j i e)) in
          ⊎_elim
          (λ (z : slice_index s.words j ≡ 0). inl (word ∙ z))
          (λ (h : SomeCarries vs (LeavesThere j (slice_index s.words j))).
          inr (subst (λ k. SomeCarries now (LeavesThere j k)) (sym word)
          (carries-set vs id v w at (LeavesThere j (slice_index s.words j)) (λ _. itself_now)
          (more_all (LeavesThere j (slice_index s.words j))) h)))
          (old.words j within));
      homes = λ j.
          inr (record { hand = id; view = w; at = there; has = subst (AnyOf (λ _. Unit {0})) (sym steps) (inl tt) });
      joined = joined-set vs id v w at more
          (subst (Each (IsMadeBySome now)) (sym joined) (made-set vs id v w at more v.joined (old.joined id v at)))
          old.joined;
    }
