-- The copies of its arguments with which the children of a `when_all` begin.
use Rattle.std.proofs.Common.{◌≡◌, inl, inr, ℕ, suc, ◌+◌, ◌<◌, ◌≤◌, true, List, [], ◌∷◌, ◌++◌, length, get_or, arith, refl, ap, ◌∙◌}
use Rattle.std.specs.Prelude.{Some, slice_index}
use Rattle.std.proofs.lemmas.List.{length-append}
use Rattle.std.proofs.lemmas.List.Elements.{All-nil, All-push, All-pop}
use Rattle.exec_value.specs.declared.data.Datum.{Datum}
use Rattle.exec_value.specs.declared.data.Datum.TheVariants.{Int, Text, Row, SomeInt, SomeText, Nothing}
use Rattle.exec_value.specs.declared.limits.TheConstants.{INLINE_DATA}
use Rattle.exec_value.specs.Place.{IsInPlace}
use Rattle.plan_rules.specs.declared.node.Node.TheVariants.{WhenAll}
use Rattle.plan_kinds.specs.Small.{IsSmall}
use Rattle.home_items.specs.declared.entry.Entry.{Entry}
use Rattle.home_items.specs.Entries.{plan_of, carried_of}
use Rattle.home_items.specs.Fits.{FitsChild}
use Rattle.start_laws.specs.Nodes.{IsStartOf}
use Rattle.step_parts.specs.Wants.{is_text_alone}
use Rattle.step_parts.proofs.RunKinds.{runs-small}
use Rattle.exec_all.specs.Starts.{is_light, AreCopies}
use Rattle.exec_all.proofs.Plans.{all-run}

-- so many copies of these data
module _ (values : List Datum) where
  pub copies-none : AreCopies values 0 []
  copies-none = record { many = refl; each = All-nil (λ (copy : List Datum). copy ≡ values) }

  pub copies-more : (count : ℕ) (made : List (List Datum)) (copy : List Datum) → AreCopies values count made → copy ≡ values →
      AreCopies values (count + 1) (made ++ copy ∷ [])
  copies-more count made copy were is =
      record {
        many = let many = were.many in omega (arith, many, length-append made (copy ∷ []));
        each = All-push (λ (c : List Datum). c ≡ values) made copy were.each is;
      }

  -- the last is taken
  pub copies-last : (left : ℕ) (made rest : List (List Datum)) (copy : List Datum) → AreCopies values (suc left) made → made ≡ rest ++ copy ∷ [] →
      (copy ≡ values) × AreCopies values left rest
  copies-last left made rest copy were split =
      let popped = All-pop (λ (c : List Datum). c ≡ values) made rest (Some copy) split were.each in (
        popped.1,
        record {
          many = let many = were.many in let size = ap length split ∙ length-append rest (copy ∷ []) in omega (arith, many, size);
          each = popped.0;
        },
      )

-- data that stand in place, and one text, are light
one-light : (values : List Datum) → length values ≤ INLINE_DATA → ((d : Datum) → 0 < length values → IsInPlace (get_or values 0 d)) → is_light values ≡ true
one-light [] few each = refl
one-light (Row numbers ∷ []) few each = absurd (each Nothing (omega arith))
one-light (Int n ∷ []) few each = refl
one-light (Text bytes ∷ []) few each = refl
one-light (SomeInt n ∷ []) few each = refl
one-light (SomeText bytes ∷ []) few each = refl
one-light (Nothing ∷ []) few each = refl
one-light (x ∷ y ∷ values) few each = absurd (omega (arith, few))

text-light : (values : List Datum) → is_text_alone values ≡ true → is_light values ≡ true
text-light [] text = cc
text-light (Text bytes ∷ []) text = refl
text-light (Row numbers ∷ []) text = cc
text-light (Int n ∷ []) text = cc
text-light (SomeInt n ∷ []) text = cc
text-light (SomeText bytes ∷ []) text = cc
text-light (Nothing ∷ []) text = cc
text-light (Text bytes ∷ y ∷ values) text = cc
text-light (Row numbers ∷ y ∷ values) text = cc
text-light (Int n ∷ y ∷ values) text = cc
text-light (SomeInt n ∷ y ∷ values) text = cc
text-light (SomeText bytes ∷ y ∷ values) text = cc
text-light (Nothing ∷ y ∷ values) text = cc

-- so in a small plan the arguments of a `when_all` are light
pub small-light : (start : List Entry) (children : List ℕ) → IsStartOf start (WhenAll children) → 1 ≤ length children → FitsChild start →
    IsSmall (plan_of start) → is_light (carried_of start) ≡ true
small-light start children of some kinds small =
    elim (runs-small start (slice_index children 0) of.start_is of.runnable (all-run start children of 0 (omega (arith, some))) kinds small) [
      | inl in_place ↦ one-light (carried_of start) in_place.few (λ d within. in_place.each 0 d within)
      | inr text ↦ text-light (carried_of start) text
    ]
