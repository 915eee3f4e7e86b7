-- A `when_all` that has just begun listens, and starts its children: what each call of its step needs and leaves.
use Rattle.std.proofs.Common.{◌≡◌, ℕ, ◌<◌, Bool, true, false, ◌||◌, ◌==◌, List, length, arith, refl, sym, ap, ◌∙◌, subst}
use Rattle.std.specs.Prelude.{slice_get, slice_index, Some, None, MatchOption}
use Rattle.std.specs.List.{list_any}
use Rattle.exec_value.specs.declared.data.Datum.{Datum}
use Rattle.exec_value.specs.declared.outcome.Completion.TheVariants.{NoMemory}
use Rattle.life_rules.specs.declared.event.Name.{Name}
use Rattle.life_rules.specs.Views.{beside}
use Rattle.plan_rules.specs.declared.node.Node.TheVariants.{WhenAll}
use Rattle.plan_kinds.specs.Built.{IsNoPart}
use Rattle.plan_shape.specs.Blueprint.{Blueprint}
use Rattle.table_rules.specs.declared.view.Held.{Held}
use Rattle.table_steps.specs.Seats.{Seated}
use Rattle.table_steps.specs.Slots.{held_at, knows_idle}
use Rattle.table_steps.specs.Views.{Board}
use Rattle.home_items.specs.declared.entry.Entry.{Entry}
use Rattle.home_items.specs.declared.item.Item.{Item}
use Rattle.home_items.specs.Entries.{plan_of, node_of, asked_of, carried_of, drawn_of, no_row, start_with}
use Rattle.home_items.specs.Starts.{BeginsBelow, IsStart, NeedsNoRequest}
use Rattle.home_items.proofs.Starting.{starts-below, plain-carries}
use Rattle.exec_recv.specs.Seats.{HandSeat}
use Rattle.exec_recv.specs.Sites.{node_at}
use Rattle.start_laws.specs.Leaves.{IsStoppable}
use Rattle.start_laws.specs.Nodes.{IsStartOf}
use Rattle.step_parts.specs.Awaits.{MayAwaitMany}
use Rattle.step_parts.specs.Completes.{MayEnd, MayStop}
use Rattle.step_parts.specs.Heard.{MaySee, Looked}
use Rattle.step_parts.specs.Kids.{KnowsAllIdle, KeepsIdle}
use Rattle.step_parts.specs.Puts.{MayPutStart}
use Rattle.step_parts.specs.Starting.{OwesBare, owed_below}
use Rattle.step_parts.specs.Starts.{RunsBelow, asked_for_child}
use Rattle.step_parts.specs.Stepping.{Stepping}
use Rattle.step_parts.specs.Takes.{HasJustBegun, IsTaken}
use Rattle.step_parts.proofs.Asked.{look-sees}
use Rattle.step_parts.proofs.Below.{with-below, with-draws}
use Rattle.step_parts.proofs.RunKinds.{runs-plain, runs-begin, runs-calm}
use Rattle.step_parts.proofs.Took.{taken-inner, taken-of}
use Rattle.step_parts.proofs.Wanted.{want-ends}
use Rattle.exec_all.specs.Starts.{is_light}
use Rattle.exec_all.proofs.Made.{small-light}
use Rattle.exec_all.proofs.Plans.{all-kids, some-kids, rest-all, all-run, all-unasked}

or-true : (b : Bool) → (b || true) ≡ true
or-true true = refl
or-true false = refl

none-known : None ≡ Some NoMemory → ⊥
none-known e = cc

-- The node is a `when_all` that was taken up.
module _ (board : Board Blueprint) (t : Stepping) (children : List ℕ) (hand : HandSeat) (taken : IsTaken board t hand)
    (at : node_at board t.name ≡ Some (WhenAll children)) where
  pub all-of : IsStartOf t.start (WhenAll children)
  all-of = taken-of board t hand taken (WhenAll children) at

  -- a request that was made before its start, or was read, stops it
  stops : (saw : Bool) → (asked_of t.start || saw) ≡ true → MaySee board t.name saw hand.me → MayStop board t saw hand
  stops saw asks sees =
      record { taken = taken; kind = subst (λ o. MatchOption o ⊥ IsStoppable) (sym at) tt; asks = asks; sees = sees }

  pub asked-stops : asked_of t.start ≡ true → MayStop board t false hand
  asked-stops asked = stops false (ap (λ b. b || false) asked) (λ none. refl)

  pub look-stops : (old : HandSeat) (answer : Bool) → Looked board t.name answer old.me hand.me → answer ≡ true → MayStop board t true hand
  look-stops old answer looked is =
      stops true (or-true (asked_of t.start))
      (subst (λ b. MaySee board t.name b hand.me) is (look-sees board t.name answer old.me hand.me looked))

  -- where copies of its arguments want memory, the plan isn't small
  pub large-wants : ¬ (is_light (carried_of t.start) ≡ true) → MayEnd board t NoMemory false hand
  large-wants large =
      want-ends board t hand taken (taken-inner board t hand taken (WhenAll children) at)
      (λ small.
      large (small-light t.start children all-of (some-kids board t.name children taken.site at) taken.ready.is.kinds small))

  -- it can await its children
  pub all-await : KnowsAllIdle t.name children (length children) hand.me → MayAwaitMany board t None children hand
  all-await idle =
      record {
        taken = taken;
        child = tt;
        saw = λ none. refl;
        small = λ small. none-known;
        least = let all = rest-all t.start children None all-of in omega (arith, all);
        some = some-kids board t.name children taken.site at;
        kids = all-kids board t.name children taken.site at;
        idle = idle;
      }

  -- The start of one of its children, which runs with a copy of its arguments.
  module _ (i : ℕ) (inside : i < length children) (args : List Datum) (copy : args ≡ carried_of t.start) where
    abbrev n : ℕ
    n = slice_index children i

    runs : RunsBelow t.start n
    runs = all-run t.start children all-of i inside

    abbrev run : List Entry
    run = start_with n (carried_of t.start) (asked_for_child t.start) t.start

    made-so : start_with n args false t.start ≡ run
    made-so =
        ap (λ (a : List Datum). start_with n a false t.start) copy
        ∙ ap (λ b. start_with n (carried_of t.start) b t.start) (sym (all-unasked t.start children all-of))

    begins : BeginsBelow run
    begins = runs-begin t.start n all-of.start_is all-of.runnable runs taken.ready.is.kinds

    pub child-starts : IsStart (start_with n args false t.start)
    child-starts =
        subst IsStart (sym made-so)
        (starts-below n (carried_of t.start) (asked_for_child t.start) t.start begins all-of.start_is)

    plain : IsNoPart (slice_get (plan_of t.start).nodes n)
    plain = runs-plain t.start n all-of.start_is all-of.runnable.plan_is runs

    pub child-carries : carried_of (start_with n args false t.start) ≡ args
    child-carries = plain-carries n args false t.start plain

    pub child-puts : (below : List Entry) → below ≡ start_with n args false t.start → (m : Seated Item Entry) →
        OwesBare board (beside t.name n) (owed_below t.name t.start no_row n) m → MayPutStart board (beside t.name n) below m
    child-puts below made m bare =
        let is = made ∙ made-so in
        let under = with-below n (carried_of t.start) (asked_for_child t.start) t.start in
        record {
          owed = owed_below t.name t.start no_row n;
          bare = bare;
          entry = under.entry;
          below_is = is ∙ under.is;
          key = ap plan_of is ∙ under.plan ∙ taken.ready.is.key;
          node = ap node_of is ∙ under.node;
          draws = ap drawn_of is
              ∙ with-draws n (carried_of t.start) (asked_for_child t.start) t.start all-of.start_is plain;
          begins = subst BeginsBelow (sym is) begins;
          calmly = λ none. subst NeedsNoRequest (sym is) (runs-calm t.start n all-of.start_is all-of.runnable runs);
        }

-- its name and its start are known by themselves, once it isn't at hand
pub as-named : (t : Stepping) (x : Name) (start : List Entry) → x ≡ t.name → start ≡ t.start → t ≡ record { name = x; start = start; from = t.from }
as-named t x start x_is start_is =
    sym (ap (λ (y : Name). record { name = y; start = start; from = t.from }) x_is
    ∙ ap (λ (s : List Entry). record { name = t.name; start = s; from = t.from }) start_is)

-- it has just begun still, where the hand's entry is the same
pub begun-still : (board : Board Blueprint) (x : Name) (m m' : Seated Item Entry) → HasJustBegun board x m → held_at m'.0 x ≡ held_at m.0 x →
    HasJustBegun board x m'
begun-still board x m m' begun same =
    record { held = begun.held; holds = same ∙ begun.holds; named = begun.named; phase = begun.phase; idle = begun.idle }

-- so no child has begun, also after it listened
pub begun-idle : (board : Board Blueprint) (x : Name) (children : List ℕ) (m m' : Seated Item Entry) → HasJustBegun board x m → KeepsIdle x m m' →
    KnowsAllIdle x children (length children) m'
begun-idle board x children m m' begun keeps =
    record {
      held = keeps.held begun.held begun.holds;
      holds = keeps.holds begun.held begun.holds;
      idle = λ i within. keeps.still begun.held begun.holds (slice_index children i) (none-named begun.held (slice_index children i) begun.named);
    }
  where
    none-named : (held : Held Entry) (n : ℕ) → held.named ≡ 0 → knows_idle held n ≡ true
    none-named held n none = ap (λ k. (k == 0) || list_any (λ q. q == n) held.idle) none
