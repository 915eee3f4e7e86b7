-- When a step can start a child of its node with the node's arguments, and how it ends then.
use Rattle.std.proofs.Common.{◌≡◌, inl, inr, ℕ, Bool, true, false, List, refl, sym, subst}
use Rattle.std.specs.Prelude.{None}
use Rattle.std.proofs.lemmas.Bool.{both_ways}
use Rattle.exec_value.specs.Place.{AreInPlace}
use Rattle.exec_value.specs.declared.data.Datum.{Datum}
use Rattle.life_rules.specs.declared.event.Resting.TheVariants.{Loop as InLoop}
use Rattle.life_rules.specs.Views.{beside}
use Rattle.node_tree.specs.Tree.{is_child, is_root}
use Rattle.plan_shape.specs.Blueprint.{Blueprint}
use Rattle.plan_kinds.specs.Runnable.{IsRunnable}
use Rattle.table_steps.specs.Readings.{KnowsIdle, HoldsAbove, IsBegunAs}
use Rattle.table_steps.specs.Views.{Board, IsPlaceIn, Stays}
use Rattle.home_items.specs.Contents.{Rest}
use Rattle.home_items.specs.Bounds.{least_of}
use Rattle.home_items.specs.Entries.{plan_of, carried_of}
use Rattle.exec_recv.specs.declared.next.Next.{Next}
use Rattle.exec_recv.specs.Seats.{HandSeat}
use Rattle.exec_recv.specs.Sites.{plan_at, Steps}
use Rattle.step_parts.specs.Changes.{ChangesTo}
use Rattle.step_parts.specs.Leaves.{MayLeave, LeavesAt}
use Rattle.step_parts.specs.Starts.{asked_for_child, MayBegin, MayRun, AwaitsChild, HasStarted, StartsChild, StartsTop, StartsAgain}
use Rattle.step_parts.specs.Stepping.{Stepping}
use Rattle.step_parts.specs.Takes.{Keeps}
use Rattle.step_parts.specs.Wants.{is_text_alone, MayWant, EndsWanting}
use Rattle.step_parts.proofs.Begun.{begin-still, begins-on}
use Rattle.step_parts.proofs.Ended.{keeps-then, taken-on}
use Rattle.step_parts.proofs.Reading.{child-above, child-place, begun-keeps, idle-keeps, idle-known}
use Rattle.step_parts.proofs.RunKinds.{child-begins, child-stands, runs-begin, runs-calm, runs-plain, runs-small}
use Rattle.step_parts.proofs.Wanted.{bare-leaves}

-- what is said of the data with which a child begins holds of equal ones
begin-as : (board : Board Blueprint) (t : Stepping) (n : ℕ) (hand : HandSeat) {args args' : List Datum} {asked asked' : Bool} → args' ≡ args →
    asked' ≡ asked → MayBegin board t n args asked hand → MayBegin board t n args' asked' hand
begin-as board t n hand {args} {args'} {asked} same so may =
    subst (λ (b : Bool). MayBegin board t n args' b hand) (sym so)
    (subst (λ (d : List Datum). MayBegin board t n d asked hand) (sym same) may)

-- The step has come so far that the node can run its child n.
module _ (board : Board Blueprint) (t : Stepping) (n : ℕ) (asked : Bool) (hand : HandSeat) (may : MayRun board t n asked hand) where
  runnable : IsRunnable (plan_of t.start)
  runnable = subst IsRunnable (sym may.few.is.key) may.taken.site.kinds

  run-stands : is_child board.frame.tree t.name.node n ≡ true
  run-stands =
      child-stands board (plan_at board) t.name t.start n may.taken.site.over may.few.is.key may.few.is.node may.taken.start_is
      (child-begins t.start n may.taken.start_is runnable may.few.is.kinds may.runs)

  run-begins : KnowsIdle t.name n hand.me → MayBegin board t n (carried_of t.start) (asked_for_child t.start) hand
  run-begins idle =
      record {
        taken = may.taken;
        few = may.least;
        child = run-stands;
        plain = runs-plain t.start n may.taken.start_is runnable.plan_is may.runs;
        begins = runs-begin t.start n may.taken.start_is runnable may.runs may.few.is.kinds;
        calmly = λ none. runs-calm t.start n may.taken.start_is runnable may.runs;
        idle = idle;
      }

  -- Its start was left in its home alone, and its arguments were copied.
  module _ (args : List Datum) (copied : args ≡ carried_of t.start) (full : HandSeat) (puts : ChangesTo board t (Rest t.start None) hand full) where
    pub run-may : KnowsIdle t.name n hand.me → MayBegin board t n args asked full
    run-may idle =
        begin-as board t n full copied may.asked_is
        (begin-still board t n (carried_of t.start) (asked_for_child t.start) hand full puts (run-begins idle))

    pub run-starts : (next : Next) (new : HandSeat) → AwaitsChild board t n args asked next full new → HasStarted board t n next hand new
    run-starts next new awaits =
        begins-on board t n (carried_of t.start) (asked_for_child t.start) hand full puts next new
        (subst (λ (b : Bool). AwaitsChild board t n (carried_of t.start) b next full new) may.asked_is
        (subst (λ (d : List Datum). AwaitsChild board t n d asked next full new) copied awaits))

  -- where there is no memory for a copy of them, they don't stand in place
  pub run-wants : is_root board.frame.tree t.name.node ≡ false → (AreInPlace (carried_of t.start) → ⊥) → MayWant board t hand
  run-wants inner none =
      record {
        taken = may.taken;
        inner = inner;
        few = may.few;
        small = λ small.
            elim (runs-small t.start n may.taken.start_is runnable may.runs may.few.is.kinds small) [
              | inl in_place ↦ absurd (none in_place)
              | inr text ↦ text
            ];
      }

  -- the child can be read
  pub run-above : HoldsAbove board.frame.tree hand.me.0 (beside t.name n)
  run-above = child-above board t.name t.start n (least_of (Rest t.start None)) hand.me may.few run-stands

  pub run-place : IsPlaceIn board (beside t.name n)
  run-place = child-place board t.name t.start n (least_of (Rest t.start None)) hand.me may.few run-stands

  -- after calls that keep it, it has come so far still
  pub run-still : (new : HandSeat) → Keeps board t hand new → MayRun board t n asked new
  run-still new keeps =
      record {
        taken = taken-on board t hand new keeps may.taken;
        few = record { inside = may.few.inside; is = keeps.ready.midway t.start may.few.inside (least_of (Rest t.start None)) (λ _. None) may.few.is };
        least = may.least;
        runs = may.runs;
        asked_is = may.asked_is;
      }

  -- The child's word was read.
  module _ (new : HandSeat) (stays : Stays board hand new) (begun : Bool) (read : IsBegunAs board.frame (beside t.name n) begun hand.me new.me) where
    has-begun : begun ≡ true → Keeps board t hand new
    has-begun is =
        record {
          stays = stays;
          ready = begun-keeps board t.name t.start n (least_of (Rest t.start None)) hand.me may.few run-stands new.me
              (subst (λ b. IsBegunAs board.frame (beside t.name n) b hand.me new.me) is read);
        }

    is-idle : begun ≡ false → IsBegunAs board.frame (beside t.name n) false hand.me new.me
    is-idle is = subst (λ b. IsBegunAs board.frame (beside t.name n) b hand.me new.me) is read

    has-not : begun ≡ false → Keeps board t hand new
    has-not is =
        record {
          stays = stays;
          ready = idle-keeps board t.name t.start n (least_of (Rest t.start None)) hand.me may.few run-stands new.me (is-idle is);
        }

    -- where it has begun, the node may be left
    pub begun-leaves : is_root board.frame.tree t.name.node ≡ false → begun ≡ true → MayLeave board t None new
    begun-leaves inner is = let still = run-still new (has-begun is) in bare-leaves board t new still.taken inner still.few

    -- where it hasn't, it may be started
    pub idle-runs : begun ≡ false → MayRun board t n asked new
    idle-runs is = run-still new (has-not is)

    pub idle-read : begun ≡ false → KnowsIdle t.name n new.me
    idle-read is = idle-known board t.name t.start n (least_of (Rest t.start None)) hand.me may.few run-stands new.me (is-idle is)

    pub begun-again : begun ≡ true → (next : Next) (last : HandSeat) → LeavesAt board t None InLoop next new last → StartsAgain board t n next hand last
    begun-again is next last left =
        record { begun = begun; middle = new; read = read; has = λ _. left; has_not = λ none. absurd (both_ways begun none is) }

    pub idle-again : begun ≡ false → (next : Next) (last : HandSeat) → StartsChild board t n next new last → StartsAgain board t n next hand last
    idle-again is next last starts =
        record { begun = begun; middle = new; read = read; has = λ some. absurd (both_ways begun is some); has_not = λ _. starts }

-- what ends so after a look ends so
pub wanting-after : (board : Board Blueprint) (t : Stepping) (next : Next) (old between new : HandSeat) → Keeps board t old between →
    EndsWanting board t next between new → EndsWanting board t next old new
wanting-after board t next old between new first ends =
    record {
      looked = ends.looked;
      keeps = keeps-then board t old between ends.looked first ends.keeps;
      later = ends.later;
      now = ends.now;
    }

-- How each of these ends its step.
module _ (board : Board Blueprint) (t : Stepping) (next : Next) (old new : HandSeat) where
  text-cases : (b : Bool) → (b ≡ true → Steps board t.name next t.from new) → (b ≡ false → Steps board t.name next t.from new) →
      Steps board t.name next t.from new
  text-cases true is isnt = is refl
  text-cases false is isnt = isnt refl

  pub wanting-steps : EndsWanting board t next old new → Steps board t.name next t.from new
  wanting-steps ends = text-cases (is_text_alone (carried_of t.start)) (λ e. (ends.later e).steps) (λ e. (ends.now e).steps)

  module _ (n : ℕ) where
    pub starts-steps : StartsChild board t n next old new → Steps board t.name next t.from new
    starts-steps (inl started) = started.steps
    starts-steps (inr wanted) = wanting-steps wanted.ends

    pub top-steps : StartsTop board t n next old new → Steps board t.name next t.from new
    top-steps (inl started) = started.steps
    top-steps (inr left) = left.left.steps

pub again-steps : (board : Board Blueprint) (t : Stepping) (n : ℕ) (next : Next) (old new : HandSeat) → StartsAgain board t n next old new →
    Steps board t.name next t.from new
again-steps board t n next old new again = of again.begun refl
  where
    of : (b : Bool) → again.begun ≡ b → Steps board t.name next t.from new
    of true e = (again.has e).steps
    of false e = starts-steps board t next again.middle new n (again.has_not e)
