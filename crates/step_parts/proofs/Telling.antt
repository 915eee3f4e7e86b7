-- What a hand has in the middle of a step, in the words of the laws of starts.
use Rattle.std.proofs.Common.{◌≡◌, ℕ, false, List, [], ◌∷◌, sym, ap, ◌∙◌, subst}
use Rattle.std.specs.Prelude.{Option, Some}
use Rattle.std.specs.Option.{option_map_or}
use Rattle.std.proofs.lemmas.Option.{same_Some}
use Rattle.exec_value.specs.declared.outcome.Completion.{Completion}
use Rattle.exec_value.specs.declared.outcome.Completion.TheVariants.{NoMemory}
use Rattle.life_rules.specs.declared.event.Name.{Name}
use Rattle.node_tree.specs.Tree.{has_source}
use Rattle.plan_shape.specs.Blueprint.{Blueprint}
use Rattle.plan_kinds.specs.Small.{IsSmall}
use Rattle.table_rules.specs.declared.view.Held.{Held}
use Rattle.table_steps.specs.Views.{Board}
use Rattle.table_steps.specs.Seats.{Seated}
use Rattle.table_steps.specs.Slots.{has_seen, held_at}
use Rattle.home_items.specs.declared.entry.Entry.{Entry}
use Rattle.home_items.specs.declared.item.Item.{Item}
use Rattle.home_items.specs.Contents.{Rest}
use Rattle.home_items.specs.Bounds.{least_of}
use Rattle.home_items.specs.Entries.{plan_of}
use Rattle.home_items.specs.Fits.{IsItemOf}
use Rattle.home_items.specs.Parcels.{Delivery, IsDelivery}
use Rattle.home_items.specs.Starts.{IsStart}
use Rattle.start_laws.specs.Holding.{IsHeld, IsDoneBelow, IsFromBelow}
use Rattle.exec_recv.specs.Seats.{HandSeat}
use Rattle.step_parts.specs.Heard.{was_told, has_heard, MaySee}
use Rattle.step_parts.specs.Leaves.{MayKeep}
use Rattle.step_parts.specs.Midway.{Ready}
use Rattle.step_parts.specs.Stepping.{Stepping}
use Rattle.step_parts.specs.Takes.{IsFoundBelow, IsTaken}
use Rattle.step_parts.proofs.Completed.{or-right}

-- where the hand heard of no request, it was told of none
pub told-none : (board : Board Blueprint) (x : Name) (m : Seated Item Entry) (held : Held Entry) → held_at m.0 x ≡ Some held →
    has_heard board x m ≡ false → held.told ≡ false
told-none board x m held holds none =
    sym (ap (λ (o : Option (Held Entry)). option_map_or (λ (e : Held Entry). e.told) o false) holds)
    ∙ or-right (has_seen board.frame.tree m.0 x) (was_told x m) none

-- what goes on below a start is of its plan
plan-below : (e : Entry) (start : List Entry) → IsStart start → IsStart (e ∷ start) → e.plan ≡ plan_of start
plan-below e [] is below = absurd is
plan-below e (p ∷ above) is below = below.0.under.plan

-- the node
pub ready-held : (board : Board Blueprint) (x : Name) (start : List Entry) (least : ℕ) (m : Seated Item Entry) → Ready board x start least m → IsStart start →
    IsHeld start x.node (has_heard board x m)
ready-held board x start least m ready is =
    record {
      start_is = is;
      node = ready.is.node;
      kinds = ready.is.kinds;
      calm = λ none. ready.is.calmly (told-none board x m ready.is.held ready.is.tends.holds none);
    }

module _ (board : Board Blueprint) (t : Stepping) where
  pub taken-held : (hand : HandSeat) → IsTaken board t hand → IsHeld t.start t.name.node (has_heard board t.name hand.me)
  taken-held hand is = ready-held board t.name t.start 0 hand.me is.ready is.start_is

  -- the parcel of a child
  pub found-done : (n : ℕ) (m : Seated Item Entry) (parcel : Delivery) → IsFoundBelow board t n m parcel → IsStart t.start →
      has_source board.frame.tree t.name.node ≡ false → IsDoneBelow t.start parcel n (has_heard board t.name m)
  found-done n m parcel found is none =
      let plan : plan_of parcel.start ≡ plan_of t.start =
      ap plan_of found.below ∙ plan-below found.entry t.start is (subst IsStart found.below found.lawful.start) in
      record {
        delivers = found.lawful;
        entry = found.entry;
        shows = found.below;
        number = found.of.node;
        small = λ small e. found.of.small (subst IsSmall (sym plan) small) (ap (λ (c : Completion). Some c) e);
        calm = λ silent. (found.calmly none silent).start;
        saw = λ silent. (found.calmly none silent).saw;
      }

  -- and one that a rest kept
  pub kept-from : (m : Seated Item Entry) (parcel : Delivery) → IsItemOf (Rest t.start (Some parcel)) t.name.node → IsDelivery parcel →
      MaySee board t.name parcel.saw m → IsFromBelow t.start parcel (has_heard board t.name m)
  kept-from m parcel of lawful saw =
      record {
        delivers = lawful;
        child = of.keeps;
        small = λ small e. of.small small (ap (λ (c : Completion). Some c) e);
        saw = saw;
      }

  -- which the node can keep
  pub from-keeps : (hand : HandSeat) → IsTaken board t hand → (parcel : Delivery) →
      Ready board t.name t.start (least_of (Rest t.start (Some parcel))) hand.me → IsFromBelow t.start parcel (has_heard board t.name hand.me) →
      MayKeep board t (Some parcel) hand
  from-keeps hand is parcel ready from =
      record {
        taken = is;
        few = ready;
        child = from.child;
        saw = from.saw;
        small = λ small e. from.small small (same_Some parcel.completion NoMemory e);
      }
