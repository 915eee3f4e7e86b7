-- What a step that makes the hand stop tells it.
use Rattle.std.proofs.Common.{◌≡◌, ◌≢◌, inr, ℕ, ◌<◌, Bool, false, List, [], ◌∷◌, ap, ◌∙◌, subst, arith}
use Rattle.std.specs.Prelude.{Option, Some, None}
use Rattle.life_rules.specs.declared.words.ControlWord.TheVariants.{Busy, ReadyPool}
use Rattle.life_rules.specs.declared.event.Name.{Name}
use Rattle.life_rules.specs.declared.event.Resting.TheVariants.{Pool}
use Rattle.life_rules.specs.Views.{beside}
use Rattle.listed_words.specs.declared.seen.Seen.{Seen}
use Rattle.atomic_table.specs.declared.shared.Seat.{Seat}
use Rattle.table_rules.specs.declared.view.View.{View}
use Rattle.table_steps.specs.declared.report.Report.{Report}
use Rattle.table_steps.specs.declared.report.Report.TheVariants.{Others}
use Rattle.table_steps.specs.Views.{Board, aimed}
use Rattle.table_steps.specs.Seats.{Seated}
use Rattle.table_steps.specs.Readings.{above_it, Holds}
use Rattle.table_steps.specs.Reports.{IsReportedAs}
use Rattle.table_steps.specs.Lefts.{SaysControl, LeavesControl}
use Rattle.table_steps.specs.Rests.{RestsAt}
use Rattle.table_steps.specs.Takes.{rest_word, IsTaken, TakenAt}
use Rattle.op_slot.specs.Puts.{IsPut, IsTakenOut}
use Rattle.op_slot.specs.Tends.{IsCalm}
use Rattle.op_slot.proofs.Tending.{swapped-home}
use Rattle.table_use.specs.declared.cargo.Entry.{Entry}
use Rattle.table_use.specs.declared.cargo.Env.{Env}
use Rattle.table_use.specs.declared.cargo.Item.{Item}
use Rattle.table_use.specs.declared.cargo.Item.TheVariants.{Kept}
use Rattle.table_use.specs.declared.node.Fault.{Fault}
use Rattle.table_use.specs.declared.node.Fault.TheVariants.{Begun, Registered, Order, Lost, OtherItem}
use Rattle.table_use.specs.Uses.{control_at, IsRoot, JustEnded, HasNoted, KeepsNotes}
use Rattle.table_use.specs.Causes.{GoesOn, WasFree, IsNodeCause}
use Rattle.table_use.specs.Ends.{on_control, IsLeft, IsNotLast, IsLost, HasNoValue, StopsAt, StopsIn, IsEndCause}
use Rattle.table_use.specs.contracts.cargo.ItemCargo.TheImpl.{ghosts}
use Rattle.table_use.proofs.Noted.{noted-still}
use Rattle.table_use.proofs.Readings.{just-within, read-on}
use Rattle.table_use.proofs.Reasons.{free-on}
use Rattle.table_use.proofs.Steps.{one-longer}

module _ (board : Board ℕ) (x : Name) (m m1 : Seated Item Entry) where
  -- a report that wasn't the last
  pub others-stops : (item : Item) (answer : Report) → answer ≡ Others → IsReportedAs ghosts board.frame x answer m m1 → JustEnded board.frame x item m →
      IsNotLast board.frame x m1
  others-stops item answer others read done =
      let said = subst (λ a. IsReportedAs ghosts board.frame x a m m1) others read in
      let last = on_control board.frame (above_it board.frame.tree x) said.0 said.1 in
      record {
        read = done.read;
        left = done.left;
        done = done.done;
        found = said.0;
        fewer = said.1;
        newest = (
          done.earlier,
          ap (λ (z : Seated Item Entry). z.0.steps) said.4 ∙ ap (λ (l : List Seen). last ∷ l) done.steps_are,
        );
        counts = said.2;
        others = said.3;
      }

  pub others-calm : IsReportedAs ghosts board.frame x Others m m1 → IsCalm m → IsCalm m1
  others-calm said calm = ap (λ (z : Seated Item Entry). z.0.scans) said.4 ∙ calm

  -- a rest leaves the node's word so
  pub left-rests : LeavesControl (aimed board.frame x) (Busy 0) ReadyPool (RestsAt (aimed board.frame x)) m m1 → IsLeft board.frame x m1
  left-rests left =
      record {
        read = left.read;
        left = left.left;
        newest = (m.0.steps, ap (λ (z : Seated Item Entry). z.0.steps) left.did.me_is);
        rests = left.says;
      }

  -- a take that didn't find the node where the hand left it
  pub lost-stops : (took : Bool) → took ≡ false → IsTaken ghosts board.frame x Pool took m m1 → IsLeft board.frame x m →
      IsLost board.frame x m1
  lost-stops took other told left =
      let said = told.1 other in
      let last = on_control board.frame x said.0 said.0 in
      record {
        read = left.read;
        left = left.left;
        found = said.0;
        newest = (
          left.newest.0,
          ap (λ (z : Seated Item Entry). z.0.steps) said.2 ∙ ap (λ (l : List Seen). last ∷ l) left.newest.1,
        );
        rested = left.rests;
        other = said.1;
      }

  pub lost-on : (took : Bool) → took ≡ false → IsTaken ghosts board.frame x Pool took m m1 → GoesOn m m1
  lost-on took other told = one-longer _ m.0.steps m1.0.steps (ap (λ (z : Seated Item Entry). z.0.steps) (told.1 other).2)

  pub lost-notes : (took : Bool) → took ≡ false → IsTaken ghosts board.frame x Pool took m m1 → KeepsNotes m m1
  lost-notes took other told = ap (λ (z : Seated Item Entry). z.0.noted) (told.1 other).2

  module _ (taken : ℕ) (says : SaysControl x (Busy 0) taken) (took : TakenAt ghosts (aimed board.frame x) (board.frame.over.value ∷ []) (control_at board.frame x) (rest_word x Pool) taken m m1) where
    pub taken-notes : KeepsNotes m m1
    taken-notes = ap (λ (z : Seated Item Entry). z.0.noted) took.me_is

    -- a root that was taken with another item, which was put back into its home
    pub other-stops : (m2 m3 : Seated Item Entry) (home : Option Item) (item : Item) → IsTakenOut board.frame x home m1 m2 →
        IsPut board.frame x item m2 m3 → Holds m3.0 x → ((env : Env) (value : ℕ) → item ≢ Kept env value) →
        HasNoValue board.frame x m3
    other-stops m2 m3 home item out put holds other =
        let steps = λ (z : Seated Item Entry). z.0.steps in
        let back = on_control board.frame x put.word put.word in
        let last = on_control board.frame x out.word out.word in
        record {
          out = out.word;
          back = put.word;
          taken = taken;
          says = says;
          newest = (
            m.0.steps,
            ap steps put.me_is ∙ ap (λ (l : List Seen). back ∷ l) (ap steps out.me_is)
                ∙ ap (λ (l : List Seen). back ∷ last ∷ l) (ap steps took.me_is),
          );
          held = holds;
          item = item;
          home = swapped-home board.frame x (Some item) None m2 m3 put;
          other = other;
        }

low-is : (n : ℕ) → n < 3 → n < 4
low-is n low = omega (arith, low)

-- and how the calls around it tell that on
module _ (board : Board ℕ) where
  stops-at-within : (m m1 m2 : Seated Item Entry) → GoesOn m m1 → (x : Name) (fault : Fault) → StopsAt board m1 m2 x fault → StopsAt board m m2 x fault
  stops-at-within m m1 m2 first x Begun cause = (just-within board _ _ m m1 m2 first cause.0, cause.1)
  stops-at-within m m1 m2 first x Registered cause = (just-within board _ _ m m1 m2 first cause.0, cause.1)
  stops-at-within m m1 m2 first x Order cause = cause
  stops-at-within m m1 m2 first x Lost cause = cause
  stops-at-within m m1 m2 first x OtherItem cause = cause
  stops-at-within m m1 m2 first x fault cause = absurd cause

  pub stops-within : (m m1 m2 : Seated Item Entry) → GoesOn m m1 → (x : Name) (fault : Fault) → StopsIn board m1 m2 x fault → StopsIn board m m2 x fault
  stops-within m m1 m2 first x fault cause = (cause.0, cause.1, stops-at-within m m1 m2 first (beside x cause.0) fault cause.2)

  -- where the hand stopped at a node of this number
  pub stops-here : (m m1 : Seated Item Entry) (x y : Name) (n : ℕ) → n < 4 → y ≡ beside x n → (fault : Fault) → StopsAt board m m1 y fault → StopsIn board m m1 x fault
  stops-here m m1 x y n low name fault cause = (n, low, subst (λ (z : Name). StopsAt board m m1 z fault) name cause)

  -- a node that doesn't wait or end
  pub node-stops : (m m1 : Seated Item Entry) (x : Name) (fault : Fault) → IsNodeCause board m m1 x fault → StopsIn board m m1 x fault
  node-stops m m1 x Begun cause = (cause.0, low-is cause.0 cause.1, cause.2)
  node-stops m m1 x Registered cause = (cause.0, low-is cause.0 cause.1, cause.2)
  node-stops m m1 x fault cause = absurd cause

  -- in the operation whose root the hand began for the number
  pub stops-for : (number : ℕ) (old new : Seat (Option Item) (View Item Entry)) (m : Seated Item Entry) (root : Name) (env : Env) → IsRoot board root →
      WasFree board old.me m root → GoesOn m new.me → env.number ≡ number → HasNoted root env m → KeepsNotes m new.me →
      (fault : Fault) → StopsIn board m new.me root fault → IsEndCause board number old new fault
  stops-for number old new m root env is free more number_is noted keeps fault stops =
      inr
      (record {
        root = root;
        is_root = is;
        free = free-on board root old.me m new.me free more;
        env = env;
        number_is = number_is;
        noted = noted-still root m new.me env keeps noted;
        stops = stops-within old.me m new.me (read-on board _ _ old.me m free) root fault stops;
      })
