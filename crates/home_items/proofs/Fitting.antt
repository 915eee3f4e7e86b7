-- Which items fit their node's home: what a step proves where it puts one.
use Rattle.std.proofs.Common.{◌≡◌, ◌≢◌, ℕ, Bool, false, List, [], ◌∷◌, Some, None, inl, refl, sym, ◌∙◌}
use Rattle.exec_value.specs.declared.outcome.Completion.TheVariants.{NoMemory}
use Rattle.plan_kinds.specs.Small.{IsSmall}
use Rattle.home_items.specs.declared.entry.Entry.{Entry}
use Rattle.home_items.specs.Contents.{Start, Rest, Done}
use Rattle.home_items.specs.Entries.{plan_of, node_of}
use Rattle.home_items.specs.Starts.{BeginsBelow, NeedsNoRequest}
use Rattle.home_items.specs.Parcels.{Delivery}
use Rattle.home_items.specs.Fits.{FitsChild, IsChildOf, FitsHome}

none-some : (child : ℕ) → None ≡ Some child → ⊥
none-some child e = cc

-- a start below another names no child
pub below-names : (start : List Entry) → BeginsBelow start → FitsChild start
below-names [] begins child names = absurd begins
below-names (e ∷ []) begins child names = absurd begins
below-names (e ∷ p ∷ above) begins child names = absurd (none-some child (sym begins.under.child ∙ names))

module _ (start : List Entry) (kinds : FitsChild start) (requested : Bool) (calm : requested ≡ false → NeedsNoRequest start) where
  pub start-fits : FitsHome (Start start) (node_of start) requested
  start-fits = (
    inl (record { node = refl; kinds = kinds; keeps = tt; small = λ small e. cc }),
    λ none. record { start = calm none; saw = refl },
  )

  pub rest-fits : FitsHome (Rest start None) (node_of start) requested
  rest-fits = (
    inl (record { node = refl; kinds = kinds; keeps = tt; small = λ small e. cc }),
    λ none. record { start = calm none; saw = refl },
  )

  pub kept-fits : (parcel : Delivery) → IsChildOf parcel.start start →
      (IsSmall (plan_of start) → parcel.completion ≢ NoMemory) → (requested ≡ false → parcel.saw ≡ false) →
      FitsHome (Rest start (Some parcel)) (node_of start) requested
  kept-fits parcel of small saw = (
    inl (record { node = refl; kinds = kinds; keeps = of; small = λ is e. small is cc }),
    λ none. record { start = calm none; saw = saw none },
  )

pub done-fits : (parcel : Delivery) → FitsChild parcel.start → (requested : Bool) →
    (requested ≡ false → NeedsNoRequest parcel.start) →
    (IsSmall (plan_of parcel.start) → parcel.completion ≢ NoMemory) → (requested ≡ false → parcel.saw ≡ false) →
    FitsHome (Done parcel) (node_of parcel.start) requested
done-fits parcel kinds requested calm small saw = (
  inl (record { node = refl; kinds = kinds; keeps = tt; small = λ is e. small is cc }),
  λ none. record { start = calm none; saw = saw none },
)
