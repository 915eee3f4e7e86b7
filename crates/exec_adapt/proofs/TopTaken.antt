-- The receiver node's children are opened: what lay in the home of the one that its start names, and then the others.
use Rattle.std.specs.Prelude.{IfSome}
use Rattle.std.specs.Option.{option_map, option_map_or}
use Rattle.std.proofs.Common.{◌≡◌, ℕ, true, ◌==◌, Option, Some, None, refl, sym, ap, ◌∙◌, subst}
use Rattle.std.proofs.lemmas.Bool.{cond-true, eq-eqb}
use Rattle.plan_shape.specs.Blueprint.{Blueprint}
use Rattle.table_rules.specs.declared.view.Held.{Held}
use Rattle.table_steps.specs.Views.{Board}
use Rattle.op_slot.specs.Tends.{put_at}
use Rattle.home_items.specs.declared.entry.Entry.{Entry}
use Rattle.home_items.specs.declared.item.Item.{Item}
use Rattle.home_items.specs.Contents.{Done}
use Rattle.home_items.specs.Parcels.{Delivery}
use Rattle.exec_recv.specs.Seats.{HandSeat}
use Rattle.exec_recv.specs.Sites.{plan_at}
use Rattle.start_laws.proofs.Knowing.{from-top}
use Rattle.node_tree.specs.Tree.{is_child}
use Rattle.step_parts.specs.Midway.{ChangesHomes}
use Rattle.step_parts.specs.Stepping.{Stepping}
use Rattle.step_parts.specs.Takes.{HasParcel, IsFoundBelow, IsOpenWith, TakesBack, TakesChild}
use Rattle.step_parts.proofs.Ended.{changes-here, changes-on, open-none, open-taken}
use Rattle.step_parts.proofs.Frames.{ready-at}
use Rattle.step_parts.proofs.Telling.{found-done}
use Rattle.exec_adapt.specs.Ends.{MayReceive}
use Rattle.exec_adapt.specs.Tops.{EmptiesAll}
use Rattle.exec_adapt.proofs.Emptied.{empties-all}
use Rattle.exec_adapt.proofs.Receiving.{open-top, named-child, named-only}
use Rattle.exec_adapt.proofs.TopPlaces.{SpawnsNone, source-none}

module _ (board : Board Blueprint) (t : Stepping) (child : ℕ) (answer : Option Delivery) (old middle : HandSeat) (may : MayReceive board t child old)
    (took : TakesChild board t child answer old middle) where
  abbrev lies : IsOpenWith board t may.inside may.kid old
  lies = may.rested.is

  -- the child
  pub back-child : is_child board.frame.tree t.name.node child ≡ true
  back-child = named-child board t may.inside may.kid old lies may.root child may.names

  -- where as much was heard, and the entry is the same, the parcel is that of the child still
  module _ (new : HandSeat) (keeps : ChangesHomes board t.name middle new)
      (own : (inside : Item) (kid : ℕ → Option Item) → IsOpenWith board t inside kid old → IsOpenWith board t inside (λ _. None) new) where
    has : (o : Option Delivery) → o ≡ answer → IfSome o (HasParcel board t new.me)
    has None is = tt
    has (Some parcel) is =
        let found : IsFoundBelow board t child middle.me parcel =
        subst (λ (o : Option Delivery). IfSome o (IsFoundBelow board t child middle.me)) (sym is)
        (took.found (record { inside = may.inside; kid = may.kid; is = lies })) in
        let still : IsFoundBelow board t child new.me parcel = record {
          lawful = found.lawful;
          entry = found.entry;
          below = found.below;
          of = found.of;
          draws = ap (λ (o : Option (Held Entry)). option_map_or (λ (e : Held Entry). e.lot) o None) keeps.same_held ∙ found.draws;
          calmly = λ none silent. found.calmly none (sym keeps.heard ∙ silent);
          shelters = found.shelters;
        } in
        record {
          ready = ready-at board t.name t.start new.me 0 1 lies.midway.held (keeps.same_held ∙ took.keeps.same_held ∙ lies.midway.tends.holds)
              (lies.midway.awaited child (Done parcel) back-child (took.lay may.inside may.kid lies ∙ ap (option_map Done) (sym is)))
              (open-taken board t may.inside new (own may.inside may.kid lies)).ready;
          from = from-top t.start parcel child _
              (found-done board t child new.me parcel still lies.start_is (source-none board t.name lies.site may.root lies.midway.place))
              (open-top board t may.inside may.kid old lies may.root);
        }

    back : TakesBack board t child answer old new
    back = record {
      keeps = changes-on board t.name old middle new took.keeps keeps;
      taken = open-taken board t may.inside new (own may.inside may.kid lies);
      parcel = has answer refl;
      lay = took.lay;
      own = own;
    }

  -- a plan without `ahead`
  pub back-single : SpawnsNone (plan_at board) → TakesBack board t child answer old middle
  back-single spawns =
      back middle (changes-here board t.name middle took.keeps.stays.hand)
      (λ inside kid is.
      open-none board t inside (put_at child None kid) middle (took.left inside kid is)
      (λ n at. cond-true (child == n) None (kid n)
      (eq-eqb child n (named-only board t may.inside may.kid old lies may.root child may.names spawns n at))))

  -- and one that has some
  pub back-several : (new : HandSeat) → EmptiesAll board t middle new → TakesBack board t child answer old new
  back-several new emptied =
      back new emptied.keeps
      (λ inside kid is.
      let below = took.left inside kid is in
      let e = emptied.left inside (put_at child None kid) below in
      open-none board t inside e.left new e.is (empties-all board t inside (put_at child None kid) middle below may.root new emptied))
