-- What the receiver node keeps is allowed for the child that its start names.
use Rattle.std.proofs.Common.{◌≡◌, ◌⊎◌, ℕ, List, [], ◌∷◌, Some, None, inl, inr, refl, true, sym, ap, ◌∙◌, subst, arith}
use Rattle.std.proofs.lemmas.Option.{same_Some, slice_get_past}
use Rattle.exec_value.specs.declared.outcome.Completion.TheVariants.{NoMemory}
use Rattle.home_items.specs.declared.entry.Entry.{Entry}
use Rattle.home_items.specs.Entries.{plan_node}
use Rattle.home_items.specs.Below.{AllowedWith, IsPlainChild, GoesBelow}
use Rattle.home_items.specs.Starts.{IsReceiver, IsStart}
use Rattle.home_items.specs.Parcels.{Delivery, IsDelivery, MayDeliver}
use Rattle.home_items.specs.Fits.{IsChildOf}
use Rattle.home_items.specs.Laws.{CollectedIsAllowed}
use Rattle.home_items.proofs.Pairing.{run-allowed}
use Rattle.home_items.proofs.KindsBelow.{in-option}

-- there is no node behind the plan's root
pub receiver-none : (e : Entry) → IsReceiver e → plan_node e ≡ None
receiver-none e is = slice_get_past e.plan.nodes e.node (omega (arith, is.node))

module _ (r : Entry) (is : IsReceiver r) (child : ℕ) (names : r.child ≡ Some child) where
  -- the parcel's start goes on below the receiver node's
  delivered : (start : List Entry) (parcel : Delivery) → parcel.start ≡ start → IsDelivery parcel →
      IsChildOf start (r ∷ []) → (parcel.completion ≡ NoMemory) ⊎ AllowedWith r parcel.saw child parcel.completion
  delivered [] parcel shows keeps of = absurd of
  delivered (e ∷ []) parcel shows keeps of = absurd of
  delivered (e ∷ p ∷ above) parcel shows keeps of =
      let same : r ≡ p = cc (of.0) in
      let starts : IsStart (e ∷ p ∷ above) = subst IsStart shows keeps.start in
      let under : GoesBelow true e p = starts.0.under in
      let none : plan_node p ≡ None = ap plan_node (sym same) ∙ receiver-none r is in
      let run : IsPlainChild None e p = subst (λ o. IsPlainChild o e p) none of.1 in
      let one : e.node ≡ child =
      same_Some e.node child (sym (in-option p.child e.node run.runs) ∙ ap (λ (d : Entry). d.child) (sym same) ∙ names) in
      elim (subst (λ s. MayDeliver s parcel.saw parcel.completion) shows keeps.may) [
        | inl want ↦ inl want
        | inr allowed ↦
            inr (subst (λ d. AllowedWith d parcel.saw child parcel.completion) (sym same)
            (subst (λ n. AllowedWith p parcel.saw n parcel.completion) one
            (run-allowed None e p (p ∷ above) under.plan under.number run parcel.saw parcel.completion allowed)))
      ]

pub collected-allowed : CollectedIsAllowed
collected-allowed e parcel n is keeps of child names = delivered e is child names parcel.start parcel refl keeps of.keeps
