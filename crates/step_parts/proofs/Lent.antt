-- The node's arguments are copied while its home is lent, and its start alone is left there; or there is no memory for them.
use Rattle.std.proofs.Common.{◌≡◌, inl, inr, ℕ, Bool, true, false, List, ap, ◌∙◌, subst}
use Rattle.std.specs.Prelude.{Option, Some, None, IfSome, IfNone, is_some}
use Rattle.std.specs.Borrow.{MutBor}
use Rattle.std.specs.Option.{option_copied_mut}
use Rattle.exec_value.specs.Place.{AreInPlace}
use Rattle.exec_value.specs.declared.data.Datum.{Datum}
use Rattle.node_tree.specs.Tree.{is_root}
use Rattle.plan_shape.specs.Blueprint.{Blueprint}
use Rattle.op_table.specs.Lends.{EndsWith}
use Rattle.table_steps.specs.Readings.{KnowsIdle}
use Rattle.table_steps.specs.Slots.{home_at}
use Rattle.table_steps.specs.Views.{Board}
use Rattle.home_items.specs.declared.item.Item.{Item}
use Rattle.home_items.specs.Contents.{Rest}
use Rattle.home_items.specs.Entries.{carried_of}
use Rattle.home_items.specs.Items.{start_in}
use Rattle.exec_recv.specs.declared.next.Next.{Next}
use Rattle.exec_recv.specs.Seats.{HandSeat}
use Rattle.step_parts.specs.Changes.{LiesAt, ChangesTo}
use Rattle.step_parts.specs.Starts.{MayBegin, MayRun, AwaitsChild, HasStarted, HasWanted, StartsChild}
use Rattle.step_parts.specs.Stepping.{Stepping}
use Rattle.step_parts.specs.Takes.{Keeps}
use Rattle.step_parts.specs.Wants.{MayWant, EndsWanting}
use Rattle.step_parts.proofs.Begun.{rest-lies}
use Rattle.step_parts.proofs.Changing.{lent-keeps, lent-rests, lent-start}
use Rattle.step_parts.proofs.Started.{run-may, run-starts, run-still, run-wants, wanting-after}

-- A copy was made, or none.
if-some : {P Q R : List Datum → Type 0} (copy : Option (List Datum)) → ((args : List Datum) → P args → Q args → R args) → IfSome copy P →
    IfSome copy Q → IfSome copy R
if-some None more p q = tt
if-some (Some args) more p q = more args p q

if-none : {P A R : Type 0} (copy : Option (List Datum)) → (P → (A → ⊥) → R) → IfNone copy P → (A → is_some copy ≡ true) → IfNone copy R
if-none None more p some = more p (λ a. let e = some a in cc)
if-none (Some args) more p some = tt

by-copy : {P Q S : List Datum → Type 0} {A N E R : Type 0} (copy : Option (List Datum)) → ((args : List Datum) → P args → Q args → S args → R) →
    (N → (A → ⊥) → E → R) → IfSome copy P → IfSome copy Q → IfSome copy S → IfNone copy N → (A → is_some copy ≡ true) → IfNone copy E → R
by-copy None has none p q s n some e = none n (λ a. let is = some a in cc) e
by-copy (Some args) has none p q s n some e = has args p q s

module _ (board : Board Blueprint) (t : Stepping) (n : ℕ) (asked : Bool) (hand : HandSeat) (may : MayRun board t n asked hand)
    (lent : Option (MutBor Item)) (value : home_at board.frame.layout hand.me t.name ≡ Some (option_copied_mut lent))
    (item : MutBor Item) (there : lent ≡ Some item) where
  lent-args : carried_of (start_in item.now) ≡ carried_of t.start
  lent-args = ap (λ s. carried_of s) (lent-start board t hand may.taken lent value item there)

  -- the start alone was left
  module _ (left : Item) (rests : left ≡ Rest (start_in item.now) None) (full : HandSeat)
      (ends : EndsWith board t.name hand full (Some item.now) (Some left)) where
    left-rests : ChangesTo board t (Rest t.start None) hand full
    left-rests = lent-rests board t hand may.taken lent value item there left rests full ends

    pub left-lies : LiesAt board t (Rest t.start None) full.me
    left-lies = rest-lies board t n (carried_of t.start) asked hand full left-rests

    module _ (args : List Datum) (copied : args ≡ carried_of (start_in item.now)) where
      pub left-may : KnowsIdle t.name n hand.me → MayBegin board t n args asked full
      left-may = run-may board t n asked hand may args (copied ∙ lent-args) full left-rests

      pub left-starts : (next : Next) (new : HandSeat) → AwaitsChild board t n args asked next full new → HasStarted board t n next hand new
      left-starts = run-starts board t n asked hand may args (copied ∙ lent-args) full left-rests

  -- what lay there was left, for want of memory
  module _ (full : HandSeat) (ends : EndsWith board t.name hand full (Some item.now) (Some item.now))
      (none : AreInPlace (carried_of (start_in item.now)) → ⊥) where
    left-keeps : Keeps board t hand full
    left-keeps = lent-keeps board t hand may.taken lent value item there full ends

    apart : AreInPlace (carried_of t.start) → ⊥
    apart = subst (λ (d : List Datum). AreInPlace d → ⊥) lent-args none

    pub left-wants : is_root board.frame.tree t.name.node ≡ false → MayWant board t full
    left-wants inner = run-wants board t n asked full (run-still board t n asked hand may full left-keeps) inner apart

    pub left-wanted : (next : Next) (new : HandSeat) → EndsWanting board t next full new → HasWanted board t n next hand new
    left-wanted next new wanting = record { want = apart; ends = wanting-after board t next hand full new left-keeps wanting }

  -- where there was memory for a copy the start alone was left, and else what lay there
  module _ (copy : Option (List Datum)) (left : Item) (copies : IfSome copy (λ args. args ≡ carried_of (start_in item.now)))
      (rests : IfSome copy (λ _. left ≡ Rest (start_in item.now) None)) (stays : IfNone copy (left ≡ item.now))
      (in_place : AreInPlace (carried_of (start_in item.now)) → is_some copy ≡ true) (full : HandSeat)
      (ends : EndsWith board t.name hand full (Some item.now) (Some left)) where
    pub copy-may : KnowsIdle t.name n hand.me → IfSome copy (λ args. MayBegin board t n args asked full)
    copy-may idle = if-some copy (λ args same rest. left-may left rest full ends args same idle) copies rests

    pub copy-lies : IfSome copy (λ _. LiesAt board t (Rest t.start None) full.me)
    copy-lies = if-some copy (λ args same rest. left-lies left rest full ends) copies rests

    unchanged : left ≡ item.now → EndsWith board t.name hand full (Some item.now) (Some item.now)
    unchanged same = subst (λ (i : Item). EndsWith board t.name hand full (Some item.now) (Some i)) same ends

    pub copy-wants : is_root board.frame.tree t.name.node ≡ false → IfNone copy (MayWant board t full)
    copy-wants inner = if-none copy (λ same none. left-wants full (unchanged same) none inner) stays in_place

    pub copy-starts : (next : Next) (new : HandSeat) → IfSome copy (λ args. AwaitsChild board t n args asked next full new) →
        IfNone copy (EndsWanting board t next full new) → StartsChild board t n next hand new
    copy-starts next new awaits wanting =
        by-copy copy (λ args same rest begun. inl (left-starts left rest full ends args same next new begun))
        (λ same none ended. inr (left-wanted full (unchanged same) none next new ended)) copies rests awaits stays in_place wanting
