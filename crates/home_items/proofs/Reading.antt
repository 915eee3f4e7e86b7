-- What it tells that an item fits a home: at the node's own, at a child's, and at the parent's.
use Rattle.std.proofs.Common.{◌≡◌, ℕ, Bool, true, List, [], ◌∷◌, Some, inl, inr, sym, ap, ◌∙◌}
use Rattle.std.proofs.lemmas.Option.{same_Some}
use Rattle.plan_rules.specs.Allowed.{IsFailure}
use Rattle.home_items.specs.declared.entry.Entry.{Entry}
use Rattle.home_items.specs.declared.item.Item.{Item}
use Rattle.home_items.specs.Contents.{Start, Rest, Done}
use Rattle.home_items.specs.Entries.{node_of, node_above}
use Rattle.home_items.specs.Parcels.{Delivery}
use Rattle.home_items.specs.Items.{start_in, HasCompleted}
use Rattle.home_items.specs.Fits.{IsItemOf, HasFailed, FitsHome}

-- what failed is a completion
fails-ends : (item : Item) → HasFailed item → HasCompleted item
fails-ends (Done parcel) failed = tt
fails-ends (Start start) failed = absurd failed
fails-ends (Rest start kept) failed = absurd failed

-- where the node hasn't completed, the item is of the node
pub held-fits : (item : Item) (node : ℕ) (requested : Bool) → FitsHome item node requested → ¬ HasCompleted item → IsItemOf item node
held-fits item node requested fits goes_on = elim (fits.0) [
  | inl own ↦ own
  | inr below ↦ absurd (goes_on (fails-ends item below.failed))
]

above-is : (e : Entry) (above : List Entry) (node : ℕ) → node_above (e ∷ above) ≡ Some node → node ≡ node_of above
above-is e [] node is = cc
above-is e (p ∷ above) node is = sym (same_Some p.node node is)

-- the item of a child, whose start goes on with that of its parent, is of the child
pub child-fits : (item : Item) (child : ℕ) (requested : Bool) → FitsHome item child requested → (e : Entry) (above : List Entry) →
    start_in item ≡ e ∷ above → (child ≡ node_of above → ⊥) → IsItemOf item child
child-fits item child requested fits e above shows other = elim (fits.0) [
  | inl own ↦ own
  | inr below ↦ absurd (other (above-is e above child (sym (ap node_above shows) ∙ below.above)))
]

-- and so a failure fits there
pub fits-failed : (parcel : Delivery) (parent : ℕ) → node_above parcel.start ≡ Some parent → IsFailure parcel.completion →
    FitsHome (Done parcel) parent true
fits-failed parcel parent above failed = (inr (record { above = above; failed = failed }), λ e. cc)
