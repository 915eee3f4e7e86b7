-- What an operation completes with, by the item that lay in the home of its root.
use Rattle.std.proofs.Common.{◌≡◌, inl, inr, ℕ, Bool, List, [], ◌∷◌, length, sym, ap, ◌∙◌, subst}
use Rattle.std.specs.Prelude.{Option, Some, MatchOption}
use Rattle.std.proofs.lemmas.Bool.{both_ways}
use Rattle.common_lemmas.proofs.Bool.{either}
use Rattle.exec_value.specs.declared.outcome.Completion.{Completion}
use Rattle.life_rules.specs.declared.event.Name.{Name}
use Rattle.plan_kinds.specs.Small.{IsSmall}
use Rattle.plan_shape.specs.Blueprint.{Blueprint}
use Rattle.table_rules.specs.declared.view.Rooted.{Rooted}
use Rattle.table_steps.specs.Views.{Board}
use Rattle.table_steps.specs.Seats.{Seated}
use Rattle.table_steps.specs.Slots.{noted_at}
use Rattle.home_items.specs.declared.entry.Entry.{Entry}
use Rattle.home_items.specs.declared.item.Item.{Item}
use Rattle.home_items.specs.Contents.{Rest, Start, Done}
use Rattle.home_items.specs.Below.{AllowedWith}
use Rattle.home_items.specs.Entries.{plan_of, node_of, record_number}
use Rattle.home_items.specs.Fits.{FitsHome, HasFailed, IsItemOf, KeepsParcel}
use Rattle.home_items.specs.Items.{start_in, saw_in, HasCompleted}
use Rattle.home_items.specs.Laws.{CollectedIsAllowed}
use Rattle.home_items.specs.Parcels.{Delivery, IsDelivery}
use Rattle.home_items.specs.Starts.{IsReceiverStart}
use Rattle.node_walks.specs.declared.completing.Collected.{Collected}
use Rattle.node_walks.specs.Completes.{MayCollect, IsOfRoot, CompletesAs, IsFor}
use Rattle.node_walks.specs.Emptied.{LayAtRoot}
use Rattle.node_walks.proofs.Claimed.{one-entry}

-- what a receiver node keeps of its child is what its operation may complete with
pub may-collect : CollectedIsAllowed → (start : List Entry) (parcel : Delivery) (n : ℕ) → IsReceiverStart start → IsDelivery parcel →
    IsItemOf (Rest start (Some parcel)) n → MayCollect start parcel.saw parcel.completion
may-collect law [] parcel n is delivery of = absurd is
may-collect law (e ∷ []) parcel n is delivery of =
    elim (law e parcel n is delivery of is.top is.names) [
      | inl none ↦ inl none
      | inr allowed ↦
          inr
          (subst (λ (o : Option ℕ). MatchOption o ⊥ (λ child. AllowedWith e parcel.saw child parcel.completion)) (sym is.names) allowed)
    ]
may-collect law (e ∷ p ∷ above) parcel n is delivery of = absurd is

-- its node is that after the plan's root
receiver-node : (start : List Entry) → IsReceiverStart start → node_of start ≡ length (plan_of start).nodes
receiver-node start is =
    let one = one-entry start is in
    ap node_of one.1 ∙ one.2.node ∙ sym (ap (λ s. length (plan_of s).nodes) one.1)

-- so in a small plan it keeps its child's parcel
pub small-keeps : (item : Item) → IsOfRoot item → IsSmall (plan_of (start_in item)) → KeepsParcel item
small-keeps item is small = is.rests.kept small (sym is.of.node ∙ receiver-node (start_in item) is.receiver)

-- an item that is no completion is of the node in whose home it lies
pub of-node : (item : Item) (n : ℕ) (requested : Bool) → FitsHome item n requested → ¬ HasCompleted item → IsItemOf item n
of-node item n requested fit goes_on =
    elim fit.0 [
      | inl of ↦ of
      | inr failed ↦ absurd (not-failed item goes_on failed.failed)
    ]
  where
    not-failed : (item : Item) → ¬ HasCompleted item → HasFailed item → ⊥
    not-failed (Start start) goes_on failed = failed
    not-failed (Rest start kept) goes_on failed = failed
    not-failed (Done parcel) goes_on failed = goes_on tt

-- with its child's parcel a root completes as its child did
pub keeps-as : CollectedIsAllowed → (start : List Entry) (parcel : Delivery) → IsOfRoot (Rest start (Some parcel)) → IsDelivery parcel →
    (c : Collected) → c.number ≡ record_number start → c.completion ≡ parcel.completion → c.saw ≡ parcel.saw →
    CompletesAs (Rest start (Some parcel)) c
keeps-as law start parcel is delivery c number completion saw =
    record {
      number = number;
      may = subst (λ (done : Completion). MayCollect start c.saw done) (sym completion)
          (subst (λ (b : Bool). MayCollect start b parcel.completion) (sym saw)
          (may-collect law start parcel is.node is.receiver delivery is.of));
      small = λ small none. small-keeps (Rest start (Some parcel)) is small (sym completion ∙ none);
      saw = λ seen. sym saw ∙ seen;
    }

module _ (board : Board Blueprint) (root : Name) (m : Seated Item Entry) (item : Item) (lay : LayAtRoot board root m item) where
  -- the item lay there as one of a receiver node, where the hand has noted such a start of the root
  pub is-of-root : (e : Rooted Entry) → noted_at m.0 root ≡ Some e → IsReceiverStart e.start → IsOfRoot item
  is-of-root e noted receiver =
      record {
        receiver = subst IsReceiverStart (sym (lay.noted e noted)) receiver;
        node = root.node;
        of = of-node item root.node lay.told lay.fit lay.goes_on;
        goes_on = lay.goes_on;
        rests = lay.rests;
      }

  -- and what it completes with is for the start that the hand noted
  pub is-for : (c : Collected) → CompletesAs item c → (e : Rooted Entry) → noted_at m.0 root ≡ Some e → IsFor e.start m.0.requested c
  is-for c done e noted =
      let start = lay.noted e noted in
      record {
        number = done.number ∙ ap record_number start;
        may = subst (λ (s : List Entry). MayCollect s c.saw c.completion) start done.may;
        small = λ small. done.small (subst (λ (s : List Entry). IsSmall (plan_of s)) (sym start) small);
        saw = λ saw.
            sym lay.asked
            ∙ either lay.told (λ t. t)
            (λ unasked. absurd (both_ways (saw_in item) (lay.fit.1 unasked).saw (done.saw saw)));
      }
