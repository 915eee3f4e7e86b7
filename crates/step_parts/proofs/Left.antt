-- How a node is left at rest, with an item in its home, from the middle of its step.
use Rattle.std.proofs.Common.{◌≡◌, ◌≢◌, inl, ℕ, ◌≤◌, ◌||◌, List, arith, refl, sym, ap, ◌∙◌, subst}
use Rattle.std.specs.Prelude.{Option, Some, None}
use Rattle.exec_value.specs.declared.outcome.Completion.TheVariants.{NoMemory}
use Rattle.life_rules.specs.declared.event.Name.{Name}
use Rattle.life_rules.specs.declared.event.Resting.{Resting}
use Rattle.life_rules.specs.declared.event.Resting.TheVariants.{Loop as InLoop, Pool as InPool, Parked as IsParked}
use Rattle.life_rules.specs.declared.words.ControlWord.TheVariants.{Busy}
use Rattle.life_rules.specs.Words.{resting_at}
use Rattle.listed_words.specs.Lists.{entry}
use Rattle.plan_shape.specs.Blueprint.{Blueprint}
use Rattle.plan_kinds.specs.Small.{IsSmall}
use Rattle.table_rules.specs.ShownViews.{has_source_ref}
use Rattle.table_steps.specs.Views.{Board, IsPlaceIn, Stays, aim_at}
use Rattle.table_steps.specs.Seats.{Seated}
use Rattle.table_steps.specs.Lefts.{LeavesControl}
use Rattle.table_steps.specs.Rests.{CanRest, RestsAt}
use Rattle.table_steps.specs.Slots.{slot_of, kept as kept_at, is_of_family, has_seen}
use Rattle.table_steps.specs.Steps.{control_index}
use Rattle.op_slot.proofs.Kept.{kept-shed}
use Rattle.op_slot.proofs.Leaving.{GoesOn as GoesOnHeld, tends-rests}
use Rattle.home_items.specs.contracts.item.ItemCargo.TheImpl.{ghosts}
use Rattle.home_items.specs.declared.entry.Entry.{Entry}
use Rattle.home_items.specs.declared.item.Item.{Item}
use Rattle.home_items.specs.Contents.{Rest}
use Rattle.home_items.specs.Bounds.{least_of}
use Rattle.home_items.specs.Entries.{plan_of}
use Rattle.home_items.specs.Fits.{FitsHome, KeepsChild, MayRest}
use Rattle.home_items.specs.Items.{completion_in, saw_in}
use Rattle.home_items.specs.Parcels.{Delivery}
use Rattle.exec_recv.specs.declared.next.Next.{Next}
use Rattle.exec_recv.specs.Asides.{aside_of}
use Rattle.exec_recv.specs.Nexts.{next_for, IsNext, IsStepped, LeftAt}
use Rattle.exec_recv.specs.Seats.{HandSeat}
use Rattle.exec_recv.proofs.Moves.{moves-control}
use Rattle.exec_recv.proofs.Asiding.{aside-one}
use Rattle.exec_recv.proofs.Starts.{KeepsHomes, all-still, owes-no-more}
use Rattle.step_parts.specs.Changes.{ChangesTo}
use Rattle.step_parts.specs.Heard.{MaySee}
use Rattle.step_parts.specs.Leaves.{MayLeave, LeavesAt}
use Rattle.step_parts.specs.Midway.{IsMidway}
use Rattle.step_parts.specs.Stepping.{Stepping}
use Rattle.step_parts.proofs.Changing.{changes-taken, put-midway}
use Rattle.step_parts.proofs.Completed.{or-right, unheard}
use Rattle.step_parts.proofs.Ended.{steps-on}
use Rattle.step_parts.proofs.Swapping.{swap-heard}

-- The node's start lies in its home, with this parcel of its child.
module _ (board : Board Blueprint) (x : Name) (start : List Entry) (kept : Option Delivery) (least : ℕ) (m : Seated Item Entry)
    (is : IsMidway board x start (Rest start kept) least (λ _. None) m) (child : KeepsChild (Rest start kept))
    (saw : MaySee board x (saw_in (Rest start kept)) m)
    (small : IsSmall (plan_of start) → completion_in (Rest start kept) ≢ Some NoMemory) where
  rest-fits : FitsHome (Rest start kept) x.node (has_seen board.frame.tree m.0 x || is.held.told)
  rest-fits = (
    inl (record { node = is.node; kinds = is.kinds; keeps = child; small = small }),
    λ none. record {
      start = is.calmly (or-right (has_seen board.frame.tree m.0 x) is.held.told none);
      saw = saw (unheard board x m is.held is.tends.holds none);
    },
  )

  -- the node goes on with that
  pub rest-on : GoesOnHeld ghosts board.frame x m is.held (Rest start kept)
  rest-on = record { start = is.shows; fit = rest-fits; goes_on = λ e. e }

  -- it can rest so
  pub can-rest : least_of (Rest start kept) ≤ least → MayRest (Rest start kept) x.node → CanRest ghosts board.frame m x
  can-rest bound rests =
      let named = is.named in
      tends-rests ghosts board.frame x m is.held (λ _. None) is.calm (λ n at. refl) (Rest start kept) is.tends rest-on
      (below (least_of (Rest start kept)) least is.held.named bound named) rests
    where
      below : (a b c : ℕ) → a ≤ b → b ≤ c → a ≤ c
      below a b c p q = omega arith

-- A node whose home holds an item that goes on is left at rest.
module _ (board : Board Blueprint) (x : Name) (start : List Entry) (inside : Item) (least : ℕ) (m : Seated Item Entry)
    (is : IsMidway board x start inside least (λ _. None) m) (to : Resting) (m' : Seated Item Entry)
    (rested : LeavesControl (aim_at board x) (Busy 0) (resting_at to) (RestsAt (aim_at board x)) m m') where
  -- what lies in the homes of nodes whose start is owed stays there
  rest-homes : KeepsHomes board m m'
  rest-homes y owed owes lies_there lies =
      let slot = slot_of board.frame.layout y in
      ap (λ (z : Seated Item Entry). kept_at slot z.1) rested.did.me_is
      ∙ kept-shed (is_of_family board.frame.tree board.frame.layout x) slot m.1 (is.elsewhere y owed owes) ∙ lies

  rest-owed : m'.0.owed ≡ m.0.owed
  rest-owed = ap (λ (z : Seated Item Entry). z.0.owed) rested.did.me_is

  rest-at : LeftAt board x m m' to
  rest-at =
      record {
        lets_go = ap (λ (z : Seated Item Entry). z.0.held) rested.did.me_is;
        read = rested.read;
        left = rested.left;
        earlier = m.0.steps;
        steps_are = ap (λ (z : Seated Item Entry). z.0.steps) rested.did.me_is;
        says = rested.says;
      }

  rest-next : (there : Resting) → LeftAt board x m m' there → IsNext board x m m' (next_for there)
  rest-next InLoop at = at
  rest-next InPool at = at
  rest-next IsParked at = at

  pub rest-stepped : IsStepped board x m m' (next_for to)
  rest-stepped =
      record {
        aside = aside-one (entry (control_index board x) rested.read rested.left) m m'
            (ap (λ (z : Seated Item Entry). aside_of z.0) rested.did.me_is)
            (ap (λ (z : Seated Item Entry). z.0.steps) rested.did.me_is) (ap (λ (z : Seated Item Entry). z.0.seen) rested.did.me_is);
        moves = moves-control board x rested.read rested.left m m' (ap (λ (z : Seated Item Entry). z.0.steps) rested.did.me_is);
        starts = all-still board m m' rest-owed rest-homes
            (λ source seen. ap (λ (z : Seated Item Entry). has_source_ref z.0.seen source) rested.did.me_is ∙ seen) is.starts;
        owes = owes-no-more board x m m' rest-owed;
        goes = rest-next to rest-at;
      }

-- The node may be left with this parcel of its child, which lies in its home now.
module _ (board : Board Blueprint) (t : Stepping) (kept : Option Delivery) (old full : HandSeat) (may : MayLeave board t kept old)
    (puts : ChangesTo board t (Rest t.start kept) old full) where
  here : IsMidway board t.name t.start (Rest t.start kept) (least_of (Rest t.start kept)) (λ _. None) full.me
  here =
      put-midway board t.name (Rest t.start kept) puts.was old.me full.me puts.put t.start may.keep.few.inside
      (least_of (Rest t.start kept)) (λ _. None) may.keep.few.is (λ e. e) refl

  pub leave-place : IsPlaceIn board t.name
  leave-place = here.place

  pub leave-rests : CanRest ghosts board.frame full.me t.name
  leave-rests =
      can-rest board t.name t.start kept (least_of (Rest t.start kept)) full.me here may.keep.child
      (λ none. may.keep.saw (sym (swap-heard board t.name t.name _ _ old.me full.me puts.put) ∙ none)) may.keep.small
      (omega arith) may.rests

  pub leaves-at : (to : Resting) (next : Next) (new : HandSeat) → next ≡ next_for to → Stays board full new →
      LeavesControl (aim_at board t.name) (Busy 0) (resting_at to) (RestsAt (aim_at board t.name)) full.me new.me →
      LeavesAt board t kept to next old new
  leaves-at to next new is stays rested =
      record {
        steps = steps-on board t full new stays (changes-taken board t (Rest t.start kept) old full may.keep.taken puts (λ e. e) refl) next
            (subst (λ n. IsStepped board t.name full.me new.me n) (sym is)
            (rest-stepped board t.name t.start (Rest t.start kept) (least_of (Rest t.start kept)) full.me here to new.me rested));
        next_is = is;
        full = full.me;
        was = puts.was;
        put = puts.put;
        rested = rested;
      }
