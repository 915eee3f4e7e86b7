-- What lies in the slots that a hand carries, and which entries its view has, after the lists changed.
use Rattle.std.proofs.Common.{◌≡◌, ℕ, ◌<◌, Bool, true, false, ◌||◌, ◌==◌, List, [], ◌∷◌, refl, sym, ap, ◌∙◌}
use Rattle.std.specs.Prelude.{Option, Some, None}
use Rattle.std.specs.List.{list_any}
use Rattle.std.specs.Option.{option_map_or}
use Rattle.std.proofs.lemmas.Bool.{both_ways, cond-true, cond-false, eqb-true, eq-eqb}
use Rattle.std.proofs.lemmas.Nat.{same_from_place}
use Rattle.life_rules.specs.declared.event.Name.{Name}
use Rattle.life_rules.specs.Views.{same}
use Rattle.common_lemmas.proofs.Bool.{either}
use Rattle.life_rules.proofs.Names.{same-true}
use Rattle.table_words.specs.declared.layout.Layout.{Layout}
use Rattle.table_words.specs.Layouts.{place_number}
use Rattle.table_rules.specs.Named.{find_by, without, Each}
use Rattle.table_steps.specs.Kids.{empty_slots}
use Rattle.table_steps.specs.Reports.{laid}
use Rattle.table_steps.specs.Readings.{at_entry}
use Rattle.table_steps.specs.Slots.{kept}
use Rattle.table_steps.specs.Sheds.{shed}

module _ {A : Type 0} where
  -- the first of a list of slots is found
  pub kept-first : (slot : ℕ) (inside : A) (rest : List (ℕ × A)) → kept slot ((slot, inside) ∷ rest) ≡ Some inside
  kept-first slot inside rest = cond-true (slot == slot) (Some inside) (kept slot rest) (eq-eqb slot slot refl)

  -- a slot that isn't given back keeps what is in it
  pub kept-shed : (gone : ℕ → Bool) (slot : ℕ) (c : List (ℕ × A)) → gone slot ≡ false →
      kept slot (shed gone c) ≡ kept slot c
  kept-shed gone slot [] stays = refl
  kept-shed gone slot (d ∷ ds) stays =
      either (d.0 == slot)
      (λ t.
      ap (kept slot) (cond-false (gone d.0) (shed gone ds) (d ∷ shed gone ds) (ap gone (eqb-true d.0 slot t) ∙ stays))
      ∙ cond-true (d.0 == slot) (Some d.1) (kept slot (shed gone ds)) t
      ∙ sym (cond-true (d.0 == slot) (Some d.1) (kept slot ds) t))
      (λ f.
      either (gone d.0)
      (λ g.
      ap (kept slot) (cond-true (gone d.0) (shed gone ds) (d ∷ shed gone ds) g) ∙ kept-shed gone slot ds stays
      ∙ sym (cond-false (d.0 == slot) (Some d.1) (kept slot ds) f))
      (λ g.
      ap (kept slot) (cond-false (gone d.0) (shed gone ds) (d ∷ shed gone ds) g)
      ∙ cond-false (d.0 == slot) (Some d.1) (kept slot (shed gone ds)) f ∙ kept-shed gone slot ds stays
      ∙ sym (cond-false (d.0 == slot) (Some d.1) (kept slot ds) f)))

  -- the entry that isn't named is found as before
  pub find-without : (name : A → Name) (l : List A) (x y : Name) → same x y ≡ false →
      find_by name (without name l x) y ≡ find_by name l y
  find-without name [] x y ne = refl
  find-without name (e ∷ es) x y ne =
      either (same (name e) x)
      (λ t.
      ap (λ l. find_by name l y) (cond-true (same (name e) x) es (e ∷ without name es x) t)
      ∙ sym (cond-false (same (name e) y) (Some e) (find_by name es y) (ap (λ z. same z y) (same-true (name e) x t) ∙ ne)))
      (λ f.
      ap (λ l. find_by name l y) (cond-false (same (name e) x) es (e ∷ without name es x) f)
      ∙ either (same (name e) y)
      (λ t.
      cond-true (same (name e) y) (Some e) (find_by name (without name es x) y) t
      ∙ sym (cond-true (same (name e) y) (Some e) (find_by name es y) t))
      (λ g.
      cond-false (same (name e) y) (Some e) (find_by name (without name es x) y) g ∙ find-without name es x y ne
      ∙ sym (cond-false (same (name e) y) (Some e) (find_by name es y) g)))

  -- what is noted of an entry is found
  pub find-noted : (name : A → Name) (change : A → A) → ((e : A) → name (change e) ≡ name e) → (x : Name) (l : List A) (e : A) →
      find_by name l x ≡ Some e → find_by name (at_entry name change x l) x ≡ Some (change e)
  find-noted name change same_name x [] e is = cc
  find-noted name change same_name x (d ∷ ds) e is =
      either (same (name d) x)
      (λ t.
      ap (λ l. find_by name l x) (cond-true (same (name d) x) (change d ∷ ds) (d ∷ at_entry name change x ds) t)
      ∙ cond-true (same (name (change d)) x) (Some (change d)) (find_by name ds x) (ap (λ y. same y x) (same_name d) ∙ t)
      ∙ ap (λ (o : Option A). option_map_or (λ (z : A). Some (change z)) o None)
      (sym (cond-true (same (name d) x) (Some d) (find_by name ds x) t) ∙ is))
      (λ f.
      ap (λ l. find_by name l x) (cond-false (same (name d) x) (change d ∷ ds) (d ∷ at_entry name change x ds) f)
      ∙ cond-false (same (name d) x) (Some d) (find_by name (at_entry name change x ds) x) f
      ∙ find-noted name change same_name x ds e (sym (cond-false (same (name d) x) (Some d) (find_by name ds x) f) ∙ is))

module _ {P : Type 0} (l : Layout) (b : ℕ) where
  -- the homes of these nodes are empty
  pub kept-empty : (ns : List ℕ) (rest : List (ℕ × Option P)) (slot : ℕ) →
      list_any (λ n. place_number l b n == slot) ns ≡ true → kept slot (empty_slots l b ns rest) ≡ Some None
  kept-empty [] rest slot h = cc
  kept-empty (n ∷ ns) rest slot h =
      either (place_number l b n == slot)
      (λ t. cond-true (place_number l b n == slot) (Some None) (kept slot (empty_slots l b ns rest)) t)
      (λ f.
      cond-false (place_number l b n == slot) (Some None) (kept slot (empty_slots l b ns rest)) f
      ∙ kept-empty ns rest slot (ap (λ t. t || list_any (λ m. place_number l b m == slot) ns) (sym f) ∙ h))

  -- and all others keep what is in them
  pub kept-beside : (ns : List ℕ) (rest : List (ℕ × Option P)) (slot : ℕ) →
      list_any (λ n. place_number l b n == slot) ns ≡ false → kept slot (empty_slots l b ns rest) ≡ kept slot rest
  kept-beside [] rest slot h = refl
  kept-beside (n ∷ ns) rest slot h =
      let more = list_any (λ m. place_number l b m == slot) ns in
      either (place_number l b n == slot)
      (λ t. absurd (both_ways (place_number l b n == slot || more) h (ap (λ u. u || more) t)))
      (λ f.
      cond-false (place_number l b n == slot) (Some None) (kept slot (empty_slots l b ns rest)) f
      ∙ kept-beside ns rest slot (ap (λ t. t || more) (sym f) ∙ h))

  -- the homes of these nodes hold what was laid there
  pub kept-laid : (ns : List ℕ) (content : ℕ → Option P) (rest : List (ℕ × Option P)) (n : ℕ) → n < l.nodes →
      Each (λ m. m < l.nodes) ns → list_any (λ m. place_number l b m == place_number l b n) ns ≡ true →
      kept (place_number l b n) (laid l b ns content rest) ≡ Some (content n)
  kept-laid [] content rest n hn within h = cc
  kept-laid (m ∷ ms) content rest n hn within h =
      let slot = place_number l b n in
      either (place_number l b m == slot)
      (λ t.
      cond-true (place_number l b m == slot) (Some (content m)) (kept slot (laid l b ms content rest)) t
      ∙ ap (λ k. Some (content k)) (same_from_place b m b n l.nodes within.0 hn (eqb-true (place_number l b m) slot t)).1)
      (λ f.
      let more = list_any (λ k. place_number l b k == slot) ms in
      cond-false (place_number l b m == slot) (Some (content m)) (kept slot (laid l b ms content rest)) f
      ∙ kept-laid ms content rest n hn within.1 (ap (λ u. u || more) (sym f) ∙ h))
