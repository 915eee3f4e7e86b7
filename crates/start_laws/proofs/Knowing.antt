-- What a hand learns from the homes of a node and of its children.
use Rattle.std.specs.Prelude.{Contains}
use Rattle.std.proofs.Common.{◌≡◌, ℕ, ◌<◌, Bool, true, List, [], ◌∷◌, length, Some, None, inl, inr, refl, sym, ap, ◌∙◌, subst, arith}
use Rattle.plan_rules.specs.declared.node.Node.{Node}
use Rattle.plan_rules.specs.declared.node.Node.TheVariants.{LetValue, LetError, LetStopped, Bulk}
use Rattle.plan_kinds.specs.Small.{IsSmall}
use Rattle.plan_kinds.proofs.Placing.{no-part, child-no_body}
use Rattle.plan_shape.specs.Blueprint.{IsPlan}
use Rattle.home_items.specs.declared.entry.Entry.{Entry}
use Rattle.home_items.specs.declared.item.Item.{Item}
use Rattle.home_items.specs.Contents.{Rest, Done}
use Rattle.home_items.specs.Entries.{plan_of, node_of, plan_node}
use Rattle.home_items.specs.Below.{IsPlainChild, ByNode}
use Rattle.home_items.specs.Starts.{IsReceiverStart, IsStart, NeedsNoRequest}
use Rattle.home_items.specs.Parcels.{Delivery, IsDelivery}
use Rattle.home_items.specs.Items.{start_in, HasCompleted}
use Rattle.home_items.specs.Fits.{FitsChild, IsChildOf, IsItemOf, FitsHome}
use Rattle.home_items.proofs.Collecting.{receiver-none}
use Rattle.home_items.proofs.KindsBelow.{body-among}
use Rattle.home_items.proofs.Reading.{held-fits, child-fits}
use Rattle.home_items.proofs.Standing.{kinds-within}
use Rattle.plan_kinds.proofs.Plans.{plans-built}
use Rattle.start_laws.specs.Nodes.{IsStartOf, plain_children}
use Rattle.start_laws.specs.Holding.{IsHeld, IsDoneBelow, IsFromBelow}
use Rattle.start_laws.specs.HoldingLaws.{HomesTell, PlacesTell}
use Rattle.start_laws.proofs.Pairs.{none-some}

module _ (e p : Entry) (is_plan : IsPlan p.plan) where
  -- what goes on below a node, and is one of its plain children, runs with the node's arguments
  plain-is : (node : Node) → plan_node p ≡ Some node → Contains (plain_children node) e.node →
      (seen : Bool) → ByNode (Some node) seen e p → IsPlainChild (Some node) e p
  plain-is (LetValue x pick xs) at among seen (inl run) = run
  plain-is (LetValue x pick xs) at among seen (inr body) =
      let node : Node = LetValue x pick xs in
      absurd (child-no_body p.plan.nodes is_plan.forest p.node e.node node at among
      (subst (Contains xs) (sym body.body)
      (body-among xs ((plans-built p.plan is_plan).whole p.node node at) body.number)))
  plain-is (LetError x pick xs) at among seen (inl run) = run
  plain-is (LetError x pick xs) at among seen (inr body) =
      let node : Node = LetError x pick xs in
      absurd (child-no_body p.plan.nodes is_plan.forest p.node e.node node at among
      (subst (Contains xs) (sym body.body)
      (body-among xs ((plans-built p.plan is_plan).whole p.node node at) body.number)))
  plain-is (LetStopped x pick xs) at among seen (inl run) = run
  plain-is (LetStopped x pick xs) at among seen (inr body) =
      let node : Node = LetStopped x pick xs in
      absurd (child-no_body p.plan.nodes is_plan.forest p.node e.node node at among
      (subst (Contains xs) (sym body.body)
      (body-among xs ((plans-built p.plan is_plan).whole p.node node at) body.number)))
  plain-is (Bulk x job) at among seen (inl run) = run
  plain-is (Bulk x job) at among seen (inr part) =
      absurd (no-part p.plan.nodes is_plan.forest p.node e.node p.node part.part (Bulk x job) at among part.node)
  plain-is node at among seen run = run

-- a start that goes on with that of a node of the plan, by the number of its own node
pub child-of : (e : Entry) (start : List Entry) (node : Node) → IsStartOf start node → Contains (plain_children node) e.node →
    IsStart (e ∷ start) → IsChildOf (e ∷ start) start
child-of e [] node at among starts = none-some at.node_is
child-of e (p ∷ above) node at among starts = (
  refl,
  subst (λ o. IsPlainChild o e p) (sym at.node_is)
      (plain-is e p at.runnable.plan_is node at.node_is among true
      (subst (λ o. ByNode o true e p) at.node_is starts.0.under.by)),
)

-- and one that goes on with that of the receiver node
pub child-of-top : (e : Entry) (start : List Entry) → IsReceiverStart start → IsStart (e ∷ start) →
    IsChildOf (e ∷ start) start
child-of-top e [] is starts = absurd is
child-of-top e (q ∷ p ∷ above) is starts = absurd is
child-of-top e (p ∷ []) is starts =
    let none : plan_node p ≡ None = receiver-none p is in (
      refl,
      subst (λ o. IsPlainChild o e p) (sym none) (subst (λ o. ByNode o true e p) none starts.0.under.by),
    )

tells-held : (item : Item) (start : List Entry) (n : ℕ) (told : Bool) → IsStart start → start_in item ≡ start →
    FitsHome item n told → ¬ HasCompleted item → IsHeld start n told
tells-held item start n told starts shows fits goes_on =
    let own : IsItemOf item n = held-fits item n told fits goes_on in
    record {
      start_is = starts;
      node = sym (ap node_of shows) ∙ own.node;
      kinds = subst FitsChild shows own.kinds;
      calm = λ none. subst NeedsNoRequest shows (fits.1 none).start;
    }

-- what goes on with a start has its plan
plan-below : (e : Entry) (start : List Entry) → IsStart start → IsStart (e ∷ start) → e.plan ≡ plan_of start
plan-below e [] is starts = absurd is
plan-below e (p ∷ above) is starts = starts.0.under.plan

tells-done : (start : List Entry) → IsStart start → (parcel : Delivery) → IsDelivery parcel → (e : Entry) →
    parcel.start ≡ e ∷ start → (child : ℕ) → child < node_of start → (told : Bool) → FitsHome (Done parcel) child told →
    IsDoneBelow start parcel child told
tells-done start is parcel delivers e shows child below told fits =
    let own : IsItemOf (Done parcel) child =
    child-fits (Done parcel) child told fits e start shows (λ same. omega (arith, below, same)) in
    let plan : plan_of parcel.start ≡ plan_of start =
    ap plan_of shows ∙ plan-below e start is (subst IsStart shows delivers.start) in
    record {
      delivers = delivers;
      entry = e;
      shows = shows;
      number = own.node;
      small = λ small want. own.small (subst IsSmall (sym plan) small) (ap Some want);
      calm = λ none. (fits.1 none).start;
      saw = λ none. (fits.1 none).saw;
    }

tells-kept : (start : List Entry) (parcel : Delivery) (n : ℕ) (told : Bool) → IsDelivery parcel →
    FitsHome (Rest start (Some parcel)) n told → IsFromBelow start parcel told
tells-kept start parcel n told delivers fits =
    let own : IsItemOf (Rest start (Some parcel)) n = held-fits (Rest start (Some parcel)) n told fits (λ ends. ends) in
    record {
      delivers = delivers;
      child = own.keeps;
      small = λ small want. own.small small (ap Some want);
      saw = λ none. (fits.1 none).saw;
    }

pub homes-tell : HomesTell
homes-tell = record { held = tells-held; done = tells-done; kept = tells-kept }

-- the node behind the plan's root
stands-last : (start : List Entry) → IsStart start → IsPlan (plan_of start) → node_of start ≡ length (plan_of start).nodes →
    IsReceiverStart start
stands-last [] is is_plan last = absurd is
stands-last (e ∷ []) is is_plan last = is
stands-last (e ∷ p ∷ above) is is_plan last =
    let within = kinds-within e.plan is_plan e.node e.args is.0.kinds in
    absurd (omega (arith, within, last))

-- whose child what was delivered is
module _ (start : List Entry) (parcel : Delivery) (child : ℕ) (told : Bool) (done : IsDoneBelow start parcel child told) where
  starts : IsStart (done.entry ∷ start)
  starts = subst IsStart done.shows done.delivers.start

  from-child : IsChildOf (done.entry ∷ start) start → IsFromBelow start parcel told
  from-child of = record {
    delivers = done.delivers;
    child = subst (λ s. IsChildOf s start) (sym done.shows) of;
    small = done.small;
    saw = done.saw;
  }

  pub from-plain : (node : Node) → IsStartOf start node → Contains (plain_children node) child → IsFromBelow start parcel told
  from-plain node at among =
      let here : done.entry.node ≡ child = sym (ap node_of done.shows) ∙ done.number in
      from-child (child-of done.entry start node at (subst (Contains (plain_children node)) (sym here) among) starts)

  pub from-top : IsReceiverStart start → IsFromBelow start parcel told
  from-top is = from-child (child-of-top done.entry start is starts)

pub places-tell : PlacesTell
places-tell = record {
  receiver = stands-last;
  plain = λ start node at parcel child told done. from-plain start parcel child told done node at;
  top = λ start is parcel child told done. from-top start parcel child told done is;
}
