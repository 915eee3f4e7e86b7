-- What a set has after a name came, or went.
use Rattle.std.proofs.Common.{◌≡◌, ◌≢◌, inl, inr, ℕ, ◌<◌, ◌||◌, ◌&&◌, not, Bool, true, false, List, length, set, refl, sym, ap, ◌∙◌, subst}
use Rattle.std.specs.Prelude.{slice_index}
use Rattle.std.proofs.lemmas.Bool.{cases_eq, and_parts, and_from, or_cases, or_left, or_right, both_ways}
use Rattle.std.proofs.lemmas.List.{get_or-set_same, get_or-set_other}
use Rattle.life_rules.specs.declared.event.Name.{Name}
use Rattle.life_rules.specs.Views.{same}
use Rattle.common_lemmas.proofs.Bool.{either}
use Rattle.life_rules.proofs.Names.{same-refl, same-true}
use Rattle.table_words.specs.declared.layout.Layout.{Layout}
use Rattle.table_words.specs.Layouts.{place_number}
use Rattle.name_set.specs.Sets.{Marks, is_marked, has, IsPlaceOf, IsOfItsBlock}
use Rattle.name_set.proofs.Places.{same-place, Has, had, having}

bool-same : (a b : Bool) → (a ≡ true → b ≡ true) → (b ≡ true → a ≡ true) → a ≡ b
bool-same true b to from = sym (to refl)
bool-same false true to from = from refl
bool-same false false to from = refl

named : (x y : Name) → x.block ≡ y.block → x.generation ≡ y.generation → x.node ≡ y.node → x ≡ y
named x y b g n = λ k. record { block = b k; generation = g k; node = n k }

module _ (l : Layout) (bits new generations : List ℕ) (name : Name) (place : IsPlaceOf l name) (others : (k : ℕ) → k ≢ place_number l name.block name.node → is_marked new k ≡ is_marked bits k) where
  abbrev before : Marks
  before = record { layout = l; bits = bits; generations = generations }

  abbrev number : Name → ℕ
  number x = place_number l x.block x.node

  module _ (within : name.block < length generations) (marked : is_marked new (number name) ≡ true) (single : IsOfItsBlock before name) where
    abbrev later : List ℕ
    later = set generations name.block name.generation

    abbrev after : Marks
    after = record { layout = l; bits = new; generations = later }

    later-here : slice_index later name.block ≡ name.generation
    later-here = get_or-set_same generations name.block name.generation 0 within

    has-name : has after name ≡ true
    has-name = having after name (record { place = place; marked = marked; generation = later-here })

    -- a marked place of the block was marked at the name's generation
    marked-same : (x : Name) → IsPlaceOf l x → is_marked bits (number x) ≡ true → x.block ≡ name.block →
        slice_index generations x.block ≡ name.generation
    marked-same x p m at =
        let y : Name = record { block = x.block; generation = slice_index generations x.block; node = x.node } in
        single y (having before y (record { place = record { block = p.block; node = p.node }; marked = m; generation = refl })) at

    came : (x : Name) → has after x ≡ true → (same name x || has before x) ≡ true
    came x h =
        let now : Has after x = had after x h in
        elim (cases_eq (number x) (number name)) [
          | inl e ↦
              let at = same-place l x name now.place place e in
              let generation : x.generation ≡ name.generation =
              sym now.generation ∙ ap (slice_index later) at.block ∙ later-here in
              or_left (same name x) (has before x)
              (subst (λ z. same z x ≡ true) (named x name at.block generation at.node) (same-refl x))
          | inr ne ↦
              let m : is_marked bits (number x) ≡ true = sym (others (number x) ne) ∙ now.marked in
              let generation : slice_index generations x.block ≡ x.generation =
              elim (cases_eq x.block name.block) [
                | inl at ↦ marked-same x now.place m at ∙ sym later-here ∙ ap (slice_index later) (sym at) ∙ now.generation
                | inr other ↦ sym (get_or-set_other generations name.block x.block name.generation 0 other) ∙ now.generation
              ] in
              or_right (same name x) (has before x)
              (having before x (record { place = now.place; marked = m; generation = generation }))
        ]

    stayed : (x : Name) → (same name x || has before x) ≡ true → has after x ≡ true
    stayed x h =
        elim (or_cases (same name x) (has before x) h) [
          | inl here ↦ subst (λ z. has after z ≡ true) (same-true name x here) has-name
          | inr had_it ↦
              let old : Has before x = had before x had_it in
              elim (cases_eq (number x) (number name)) [
                | inl e ↦
                    let at = same-place l x name old.place place e in
                    let generation = single x had_it at.block in
                    subst (λ z. has after z ≡ true) (sym (named x name at.block generation at.node)) has-name
                | inr ne ↦
                    let generation : slice_index later x.block ≡ x.generation =
                    elim (cases_eq x.block name.block) [
                      | inl at ↦ ap (slice_index later) at ∙ later-here ∙ sym (single x had_it at)
                      | inr other ↦ get_or-set_other generations name.block x.block name.generation 0 other ∙ old.generation
                    ] in
                    having after x (record {
                      place = old.place;
                      marked = others (number x) ne ∙ old.marked;
                      generation = generation;
                    })
              ]
        ]

    pub inserted : (x : Name) → has after x ≡ (same name x || has before x)
    inserted x = bool-same (has after x) (same name x || has before x) (came x) (stayed x)

  module _ (unmarked : is_marked new (number name) ≡ false) (has_it : has before name ≡ true) where
    abbrev left : Marks
    left = record { layout = l; bits = new; generations = generations }

    went : (x : Name) → has left x ≡ true → (not (same name x) && has before x) ≡ true
    went x h =
        let now : Has left x = had left x h in
        let ne : number x ≢ number name =
        λ e. both_ways (is_marked new (number name)) unmarked (ap (is_marked new) (sym e) ∙ now.marked) in
        and_from (not (same name x)) (has before x)
        (either (same name x)
        (λ t. absurd (ne (ap number (sym (same-true name x t)))))
        (λ f. ap not f))
        (having before x (record {
          place = now.place;
          marked = sym (others (number x) ne) ∙ now.marked;
          generation = now.generation;
        }))

    kept : (x : Name) → (not (same name x) && has before x) ≡ true → has left x ≡ true
    kept x h =
        let parts = and_parts (not (same name x)) (has before x) h in
        let old : Has before x = had before x parts.1 in
        let own : Has before name = had before name has_it in
        let ne : number x ≢ number name =
        λ e.
        let at = same-place l x name old.place place e in
        let generation : x.generation ≡ name.generation =
        sym old.generation ∙ ap (slice_index generations) at.block ∙ own.generation in
        let is : x ≡ name = named x name at.block generation at.node in
        both_ways true (sym parts.0 ∙ ap not (subst (λ z. same z x ≡ true) is (same-refl x))) refl in
        having left x (record {
          place = old.place;
          marked = others (number x) ne ∙ old.marked;
          generation = old.generation;
        })

    pub removed : (x : Name) → has left x ≡ (not (same name x) && has before x)
    removed x = bool-same (has left x) (not (same name x) && has before x) (went x) (kept x)
