-- A hand gives some of its slots back in one step: it gives all back, and takes those again that it keeps.
use Rattle.std.proofs.Common.{◌≡◌, ◌≢◌, ℕ, ◌<◌, Bool, false, ◌==◌, cond, List, [], ◌∷◌, length, set, refl, sym, ap, ◌∙◌, subst, length-set}
use Rattle.std.specs.Prelude.{Option, Some, None}
use Rattle.std.proofs.lemmas.Bool.{both_ways, cond-true, cond-false, eqb-true, eq-eqb, ne_eqb}
use mathlib.Core.Option.{some}
use mathlib.Core.Option as maybe
use lib.ListN.{get_elem?}
use Rattle.common_lemmas.proofs.Bool.{either}
use Rattle.atomic_table.proofs.Lists.{set_here, set_else}
use Rattle.atomic_table.specs.Table.{Act, keeps, takes, gives, chain, homes_after, carried_after, Valid}
use Rattle.table_rules.specs.Named.{Each}
use Rattle.table_steps.specs.Slots.{kept, AreApart}
use Rattle.table_steps.specs.Sheds.{shed}
use Rattle.table_kept.proofs.Entries.{each-map}

-- the act that gives those back that are so
pub sheds : {S : Type 0} → (ℕ → Bool) → List (ℕ × S) → Act S
sheds gone [] = keeps
sheds gone (c ∷ cs) =
    cond (gone c.0) (chain gives (sheds gone cs)) (chain (chain gives (sheds gone cs)) (takes c.0 c.1))

-- what a slot holds afterwards, by what the hand carried in it and what was there
abbrev pub shed_home : {S : Type 0} → Bool → Option S → maybe.Option (maybe.Option S) → maybe.Option (maybe.Option S)
shed_home gone None was = was
shed_home gone (Some y) was = cond gone (maybe.some (maybe.some y)) (maybe.some maybe.none)

module _ {S : Type 0} (gone : ℕ → Bool) where
  pub carries-shed : (c : List (ℕ × S)) → carried_after c (sheds gone c) ≡ shed gone c
  unfolding sheds
  carries-shed [] = refl
  carries-shed (c ∷ cs) =
      either (gone c.0)
      (λ t.
      ap (carried_after (c ∷ cs)) (cond-true (gone c.0) _ _ t) ∙ carries-shed cs
      ∙ sym (cond-true (gone c.0) (shed gone cs) (c ∷ shed gone cs) t))
      (λ f.
      ap (carried_after (c ∷ cs)) (cond-false (gone c.0) _ _ f) ∙ ap (λ ds. c ∷ ds) (carries-shed cs)
      ∙ sym (cond-false (gone c.0) (shed gone cs) (c ∷ shed gone cs) f))

  pub deep-shed : (hs : List (maybe.Option S)) (c : List (ℕ × S)) → length (homes_after hs c (sheds gone c)) ≡ length hs
  unfolding sheds
  deep-shed hs [] = refl
  deep-shed hs (c ∷ cs) =
      let given = set hs c.0 (maybe.some c.1) in
      let more = deep-shed given cs ∙ length-set hs c.0 (maybe.some c.1) in
      either (gone c.0)
      (λ t. ap (λ a. length (homes_after hs (c ∷ cs) a)) (cond-true (gone c.0) _ _ t) ∙ more)
      (λ f.
      ap (λ a. length (homes_after hs (c ∷ cs) a)) (cond-false (gone c.0) _ _ f)
      ∙ length-set (homes_after given cs (sheds gone cs)) c.0 maybe.none ∙ more)

  -- a slot that the hand doesn't carry isn't found among those that it carries
  kept-none : (slot : ℕ) (c : List (ℕ × S)) → Each (λ d. d.0 ≢ slot) c → kept slot c ≡ None
  kept-none slot [] all = refl
  kept-none slot (d ∷ ds) all =
      cond-false (d.0 == slot) (Some d.1) (kept slot ds) (ne_eqb d.0 slot all.0) ∙ kept-none slot ds all.1

  -- what each slot holds afterwards
  pub shed-at : (hs : List (maybe.Option S)) (c : List (ℕ × S)) → AreApart c → Each (λ d. d.0 < length hs) c → (j : ℕ) →
      get_elem? (homes_after hs c (sheds gone c)) j ≡ shed_home (gone j) (kept j c) (get_elem? hs j)
  unfolding sheds
  shed-at hs [] apart within j = refl
  shed-at hs (c ∷ cs) apart within j =
      let given = set hs c.0 (maybe.some c.1) in
      let wide = length-set hs c.0 (maybe.some c.1) in
      let more : (i : ℕ) → get_elem? (homes_after given cs (sheds gone cs)) i ≡ shed_home (gone i) (kept i cs) (get_elem? given i) =
      shed-at given cs apart.1
      (each-map (λ d. d.0 < length hs) (λ d. d.0 < length given)
      (λ d l. subst (λ n. d.0 < n) (sym wide) l) cs within.1) in
      let here : kept c.0 cs ≡ None = kept-none c.0 cs apart.0 in
      let front : (i : ℕ) → c.0 ≡ i → kept i (c ∷ cs) ≡ Some c.1 =
      λ i e. cond-true (c.0 == i) (Some c.1) (kept i cs) (eq-eqb c.0 i e) in
      let behind : (i : ℕ) → (c.0 == i) ≡ false → kept i (c ∷ cs) ≡ kept i cs =
      λ i ne. cond-false (c.0 == i) (Some c.1) (kept i cs) ne in
      let apart_from : (i : ℕ) → (c.0 == i) ≡ false → i ≡ c.0 → ⊥ =
      λ i ne e. both_ways (c.0 == i) ne (eq-eqb c.0 i (sym e)) in
      either (gone c.0)
      (λ t.
      ap (λ a. get_elem? (homes_after hs (c ∷ cs) a) j) (cond-true (gone c.0) _ _ t) ∙ more j
      ∙ either (c.0 == j)
      (λ at.
      let e : c.0 ≡ j = eqb-true c.0 j at in
      subst (λ i. shed_home (gone i) (kept i cs) (get_elem? given i) ≡ shed_home (gone i) (kept i (c ∷ cs)) (get_elem? hs i)) e
      (ap (λ k. shed_home (gone c.0) k (get_elem? given c.0)) here ∙ set_here hs c.0 (maybe.some c.1) within.0
      ∙ sym (ap (λ b. cond b (maybe.some (maybe.some c.1)) (maybe.some maybe.none)) t)
      ∙ ap (λ k. shed_home (gone c.0) k (get_elem? hs c.0)) (sym (front c.0 refl))))
      (λ ne.
      (λ k. shed_home (gone j) (sym (behind j ne) k) (set_else hs c.0 j (maybe.some c.1) (apart_from j ne) k))))
      (λ f.
      ap (λ a. get_elem? (homes_after hs (c ∷ cs) a) j) (cond-false (gone c.0) _ _ f)
      ∙ either (c.0 == j)
      (λ at.
      let e : c.0 ≡ j = eqb-true c.0 j at in
      subst (λ i. get_elem? (set (homes_after given cs (sheds gone cs)) c.0 maybe.none) i ≡ shed_home (gone i) (kept i (c ∷ cs)) (get_elem? hs i)) e
      (set_here (homes_after given cs (sheds gone cs)) c.0 maybe.none
      (subst (λ n. c.0 < n) (sym (deep-shed given cs ∙ wide)) within.0)
      ∙ sym (ap (λ b. cond b (maybe.some (maybe.some c.1)) (maybe.some maybe.none)) f)
      ∙ ap (λ k. shed_home (gone c.0) k (get_elem? hs c.0)) (sym (front c.0 refl))))
      (λ ne.
      set_else (homes_after given cs (sheds gone cs)) c.0 j maybe.none (apart_from j ne) ∙ more j
      ∙ (λ k. shed_home (gone j) (sym (behind j ne) k) (set_else hs c.0 j (maybe.some c.1) (apart_from j ne) k))))

  pub shed-valid : (hs : List (maybe.Option S)) (c : List (ℕ × S)) → AreApart c → Each (λ d. d.0 < length hs) c →
      Valid hs c (sheds gone c)
  unfolding sheds
  shed-valid hs [] apart within = tt
  shed-valid hs (c ∷ cs) apart within =
      let given = set hs c.0 (maybe.some c.1) in
      let wide = length-set hs c.0 (maybe.some c.1) in
      let near = each-map (λ d. d.0 < length hs) (λ d. d.0 < length given)
      (λ d l. subst (λ n. d.0 < n) (sym wide) l) cs within.1 in
      let more = shed-valid given cs apart.1 near in
      either (gone c.0)
      (λ t. subst (Valid hs (c ∷ cs)) (sym (cond-true (gone c.0) _ _ t)) (tt, more))
      (λ f. subst (Valid hs (c ∷ cs)) (sym (cond-false (gone c.0) _ _ f)) (
        (tt, more),
        shed-at given cs apart.1 near c.0
            ∙ ap (λ k. shed_home (gone c.0) k (get_elem? given c.0)) (kept-none c.0 cs apart.0)
            ∙ set_here hs c.0 (maybe.some c.1) within.0,
      ))
