-- What a hand's view shows after a look at a stop source.
use Rattle.std.proofs.Common.{◌≡◌, Bool, true, false, ◌&&◌, ◌||◌, List, [], ◌∷◌, refl, sym, ap, ◌∙◌, subst}
use Rattle.std.specs.Prelude.{Some, if◌then◌else◌}
use Rattle.std.proofs.lemmas.Bool.{both_ways, cond-true, cond-false}
use Rattle.common_lemmas.proofs.Bool.{either}
use Rattle.life_rules.specs.declared.event.Name.{Name}
use Rattle.life_rules.specs.declared.event.SourceRef.{SourceRef}
use Rattle.life_rules.specs.Views.{View as PureView, same, same_source, mark, note}
use Rattle.life_rules.specs.States.{State}
use Rattle.life_rules.proofs.Names.{same-refl, same-true, same_source-true}
use Rattle.table_rules.specs.declared.view.View.{View}
use Rattle.table_rules.specs.ShownWords.{is_present, is_present_source}
use Rattle.table_rules.specs.ShownViews.{shown_view, has_name, has_source_ref}
use Rattle.table_steps.specs.Sights.{but_for, seen_now, seen_after_now}
use Rattle.table_stop_kept.proofs.Learning.{one-more}
use Rattle.table_stop_kept.proofs.Look.Sights.{but-had, but-has}

-- two tests that hold together are the same
pub both-tests : (a b : Bool) → (a ≡ true → b ≡ true) → (b ≡ true → a ≡ true) → a ≡ b
both-tests true b there back = sym (there refl)
both-tests false true there back = back refl
both-tests false false there back = refl

and-none : (a b : Bool) → b ≡ false → (a && b) ≡ false
and-none true b e = e
and-none false b e = refl

or-none : (a b : Bool) → b ≡ false → (a || b) ≡ a
or-none true b e = refl
or-none false b e = e

absorbed : (a b : Bool) → b ≡ ((a && b) || b)
absorbed true true = refl
absorbed true false = refl
absorbed false b = refl

-- the name that was taken out is gone
but-gone : (x : Name) (l : List Name) → has_name (but_for x l) x ≡ false
but-gone x [] = refl
but-gone x (y ∷ ys) =
    either (same y x)
    (λ t. ap (λ l. has_name l x) (cond-true (same y x) (but_for x ys) (y ∷ but_for x ys) t) ∙ but-gone x ys)
    (λ f.
    ap (λ l. has_name l x) (cond-false (same y x) (but_for x ys) (y ∷ but_for x ys) f)
    ∙ (λ i. f i || but-gone x ys i))

module _ {P E : Type 0} (s : State) (v : View P E) (requested : Bool) where
  abbrev was : PureView
  was = shown_view s.block v

  -- the request that was read on a source of the present is noted
  pub seen-noted : (t u : SourceRef) → is_present_source s.block t ≡ true →
      (has_source_ref (seen_now t requested v.seen) u && is_present_source s.block u) ≡ note t requested was.seen u
  seen-noted t u present =
      either requested
      (λ reads.
      ap (λ l. has_source_ref l u && is_present_source s.block u) (cond-true requested (t ∷ v.seen) v.seen reads)
      ∙ one-more s v t u present ∙ ap (λ b. note t b was.seen u) (sym reads))
      (λ unread.
      ap (λ l. has_source_ref l u && is_present_source s.block u) (cond-false requested (t ∷ v.seen) v.seen unread)
      ∙ sym (or-none (was.seen u) (same_source t u && requested) (and-none (same_source t u) requested unread)))

  -- one that was read on an older source isn't shown
  pub seen-past : (t u : SourceRef) → is_present_source s.block t ≡ false →
      (has_source_ref (seen_now t requested v.seen) u && is_present_source s.block u) ≡ was.seen u
  seen-past t u past =
      either requested
      (λ reads.
      ap (λ l. has_source_ref l u && is_present_source s.block u) (cond-true requested (t ∷ v.seen) v.seen reads)
      ∙ either (same_source t u)
      (λ here.
      let none : is_present_source s.block u ≡ false = subst (λ z. is_present_source s.block z ≡ false) (same_source-true t u here) past in
      and-none (same_source t u || has_source_ref v.seen u) (is_present_source s.block u) none
      ∙ sym (and-none (has_source_ref v.seen u) (is_present_source s.block u) none))
      (λ other. λ i. (other i || has_source_ref v.seen u) && is_present_source s.block u))
      (λ unread. ap (λ l. has_source_ref l u && is_present_source s.block u) (cond-false requested (t ∷ v.seen) v.seen unread))

  module _ (x : Name) where
    other-names : (y : Name) → same x y ≡ false → y ≡ x → ⊥
    other-names y ne is = both_ways (same x y) ne (subst (λ z. same x z ≡ true) (sym is) (same-refl x))

    -- the place is looked after
    pub looked-after : (y : Name) → (has_name (but_for x v.unlooked) y && is_present s.block y) ≡ mark x false was.unlooked y
    looked-after y =
        either (same x y)
        (λ here.
        (λ i. subst (λ z. has_name (but_for x v.unlooked) z ≡ false) (same-true x y here) (but-gone x v.unlooked) i && is_present s.block y)
        ∙ sym (cond-true (same x y) false (was.unlooked y) here))
        (λ other.
        ap (λ b. b && is_present s.block y)
        (both-tests (has_name (but_for x v.unlooked) y) (has_name v.unlooked y) (but-had x y v.unlooked) (but-has x y v.unlooked (other-names y other)))
        ∙ sym (cond-false (same x y) false (was.unlooked y) other))

    -- with the request that was read there, if its node is of the present
    pub seen-after : (y : Name) → (has_name (seen_after_now (Some x) requested v.seen_after) y && is_present s.block y)
        ≡ mark x (was.seen_after x || (requested && is_present s.block x)) was.seen_after y
    seen-after y =
        either (same x y)
        (λ here.
        subst (λ z. (has_name (seen_after_now (Some x) requested v.seen_after) z && is_present s.block z)
        ≡ (was.seen_after x || (requested && is_present s.block x))) (same-true x y here) (at-place requested refl)
        ∙ sym (cond-true (same x y) (was.seen_after x || (requested && is_present s.block x)) (was.seen_after y) here))
        (λ other. elsewhere y other requested refl ∙ sym (cond-false (same x y) (was.seen_after x || (requested && is_present s.block x)) (was.seen_after y) other))
      where
        at-place : (q : Bool) → requested ≡ q →
            (has_name (if q then x ∷ v.seen_after else v.seen_after) x && is_present s.block x)
            ≡ (was.seen_after x || (q && is_present s.block x))
        at-place true is =
            (λ i. (same-refl x i || has_name v.seen_after x) && is_present s.block x)
            ∙ absorbed (has_name v.seen_after x) (is_present s.block x)
        at-place false is = sym (or-none (was.seen_after x) false refl)

        elsewhere : (y : Name) → same x y ≡ false → (q : Bool) → requested ≡ q →
            (has_name (if q then x ∷ v.seen_after else v.seen_after) y && is_present s.block y) ≡ was.seen_after y
        elsewhere y other true is = λ i. (other i || has_name v.seen_after y) && is_present s.block y
        elsewhere y other false is = refl

    -- of a place of an older generation nothing was shown, and nothing is
    pub past-mark : (f : Name → Bool) (b : Bool) → f x ≡ b → (y : Name) → mark x b f y ≡ f y
    past-mark f b is y =
        either (same x y)
        (λ here. cond-true (same x y) b (f y) here ∙ sym is ∙ ap f (same-true x y here))
        (λ other. cond-false (same x y) b (f y) other)

    pub past-unlooked : is_present s.block x ≡ false → was.unlooked x ≡ false
    past-unlooked past = and-none (has_name v.unlooked x) (is_present s.block x) past

    pub past-seen : is_present s.block x ≡ false → was.seen_after x ≡ (was.seen_after x || (requested && is_present s.block x))
    past-seen past = sym (or-none (was.seen_after x) (requested && is_present s.block x) (and-none requested (is_present s.block x) past))

    pub present-seen : is_present s.block x ≡ true → (was.seen_after x || (requested && is_present s.block x)) ≡ (was.seen_after x || requested)
    present-seen present = ap (λ p. was.seen_after x || (requested && p)) present ∙ ap (λ b. was.seen_after x || b) (and-true requested)
      where
        and-true : (b : Bool) → (b && true) ≡ b
        and-true true = refl
        and-true false = refl
