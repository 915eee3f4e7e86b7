-- How a node completes from the middle of its step.
use Rattle.std.proofs.Common.{◌≡◌, ℕ, Bool, true, false, ◌||◌, refl, sym, ap, ◌∙◌, subst}
use Rattle.std.specs.Prelude.{Option, Some, None, MatchOption}
use Rattle.std.specs.Option.{option_map_or}
use Rattle.std.proofs.lemmas.Option.{same_Some}
use Rattle.exec_value.specs.declared.outcome.Completion.{Completion}
use Rattle.exec_value.specs.declared.outcome.Completion.TheVariants.{NoMemory}
use Rattle.life_rules.specs.declared.event.Name.{Name}
use Rattle.plan_rules.specs.Allowed.{IsFailure}
use Rattle.plan_shape.specs.Blueprint.{Blueprint}
use Rattle.table_rules.specs.declared.view.Held.{Held}
use Rattle.table_steps.specs.Views.{Board}
use Rattle.table_steps.specs.Seats.{Seated}
use Rattle.table_steps.specs.Finishes.{is_settled}
use Rattle.table_steps.specs.Slots.{has_seen, held_at}
use Rattle.op_slot.proofs.Tending.{swapped-home}
use Rattle.home_items.specs.declared.entry.Entry.{Entry}
use Rattle.home_items.specs.declared.item.Item.{Item}
use Rattle.home_items.specs.Contents.{Done}
use Rattle.home_items.specs.Bounds.{least_of}
use Rattle.home_items.specs.Entries.{plan_of}
use Rattle.home_items.specs.Parcels.{Delivery, parcel_with}
use Rattle.exec_recv.specs.declared.next.Next.{Next}
use Rattle.exec_recv.specs.Deliveries.{CanDeliver, Delivers}
use Rattle.exec_recv.specs.Seats.{HandSeat}
use Rattle.exec_recv.specs.Sites.{Steps}
use Rattle.step_parts.specs.Changes.{ChangesTo}
use Rattle.step_parts.specs.Completes.{MayEnd, Completes}
use Rattle.step_parts.specs.Heard.{has_heard}
use Rattle.step_parts.specs.Midway.{IsMidway}
use Rattle.step_parts.specs.Settles.{HasSettled}
use Rattle.step_parts.specs.Stepping.{Stepping}
use Rattle.step_parts.specs.Takes.{Keeps}
use Rattle.step_parts.proofs.Changing.{put-calm, put-unrun, put-tends, put-starts, put-elsewhere}
use Rattle.step_parts.proofs.Ended.{steps-changed, taken-on, unheard-before}
use Rattle.step_parts.proofs.Swapping.{swap-beside, swap-heard}

pub or-left : (a b : Bool) → (a || b) ≡ false → a ≡ false
or-left true b is = cc
or-left false b is = refl

pub or-right : (a b : Bool) → (a || b) ≡ false → b ≡ false
or-right true b is = cc
or-right false b is = is

-- where the hand neither has seen a request nor was told of one, it heard of none
pub unheard : (board : Board Blueprint) (x : Name) (m : Seated Item Entry) (held : Held Entry) → held_at m.0 x ≡ Some held →
    has_seen board.frame.tree m.0 x || held.told ≡ false → has_heard board x m ≡ false
unheard board x m held holds none =
    ap (λ (o : Option (Held Entry)). has_seen board.frame.tree m.0 x || option_map_or (λ (e : Held Entry). e.told) o false) holds ∙ none

same-parcel : (a b : Delivery) → Some (Some (Done a)) ≡ Some (Some (Done b)) → a ≡ b
same-parcel a b e = cc

-- Its callback was settled, and this completion lies in its home.
module _ (board : Board Blueprint) (t : Stepping) (done : Completion) (saw : Bool) (old settled full : HandSeat) (may : MayEnd board t done saw old)
    (keeps : Keeps board t old settled) (over : HasSettled t.name settled.me)
    (puts : ChangesTo board t (Done (parcel_with t.start done saw)) settled full) where
  abbrev parcel : Delivery
  parcel = parcel_with t.start done saw

  abbrev inside : Item
  inside = may.few.inside

  abbrev least : ℕ
  least = least_of (Done parcel)

  still : IsMidway board t.name t.start inside least (λ _. None) settled.me
  still = keeps.ready.midway t.start inside least (λ _. None) may.few.is

  abbrev now_heard : has_heard board t.name full.me ≡ false → has_heard board t.name old.me ≡ false
  now_heard none =
      unheard-before board t.name old.me settled.me keeps.ready
      (sym (swap-heard board t.name t.name _ _ settled.me full.me puts.put) ∙ none)

  -- so it can be delivered
  pub can-deliver : (failed : Bool) → (failed ≡ true → IsFailure done) → (IsFailure done → failed ≡ true) → CanDeliver board t.name failed full
  can-deliver failed on off =
      let tends = put-tends board t.name (Done parcel) puts.was settled.me full.me puts.put t.start inside least (λ _. None) still in
      record {
        of = puts.stays.hand;
        over = may.taken.site.over;
        place = still.place;
        inner = may.inner;
        calm = put-calm board t.name (Done parcel) puts.was settled.me full.me puts.put t.start inside least (λ _. None) still;
        unrun = put-unrun board t.name (Done parcel) puts.was settled.me full.me puts.put t.start inside least (λ _. None) still;
        held = still.held;
        parcel = parcel;
        tends = tends;
        settled = subst (λ (h : Held Entry). MatchOption h.phase ⊥ (λ phase. is_settled phase ≡ true))
            (same_Some over.held still.held (sym over.holds ∙ still.tends.holds)) over.settled;
        lawful = record { start = may.taken.start_is; may = may.allowed };
        on = on;
        off = off;
        shows = still.shows;
        item = record {
          node = still.node;
          kinds = still.kinds;
          keeps = tt;
          small = λ small e. may.small small (same_Some done NoMemory e);
        };
        calmly = λ none. record {
          start = still.calmly (or-right (has_seen board.frame.tree full.me.0 t.name) still.held.told none);
          saw = may.sees (now_heard (unheard board t.name full.me still.held tends.holds none));
        };
        bound = still.named;
        key = ap plan_of (sym still.shows) ∙ still.key;
        elsewhere = put-elsewhere board t.name (Done parcel) puts.was settled.me full.me puts.put t.start inside least (λ _. None) still;
        starts = put-starts board t.name (Done parcel) puts.was settled.me full.me puts.put t.start inside least (λ _. None) still;
      }

  -- and once it is delivered the step ended
  pub completes : (next : Next) (new : HandSeat) → Steps board t.name next full new → Delivers board t.name next full.me new.me →
      Completes board t done saw next old new
  completes next new steps delivers =
      record {
        steps = steps-changed board t settled full new (taken-on board t old settled keeps may.taken) puts.stays
            (swap-beside board t.name t.name _ _ settled.me full.me puts.put) next steps.stays steps.stepped;
        settled = settled.me;
        keeps = keeps.ready;
        full = full.me;
        was = puts.was;
        put = puts.put;
        delivers = delivers;
        parcel_is = same-parcel delivers.parcel parcel
            (sym delivers.home ∙ swapped-home board.frame t.name (Some (Done parcel)) (Some puts.was) settled.me full.me puts.put);
      }
