-- How a step hears of requests, and a node that has just begun listens to the source above it.
use Rattle.std.proofs.Common.{◌≡◌, Bool, true, false, List, refl, sym, ap, ◌∙◌, subst}
use Rattle.std.specs.Prelude.{Option, Some, None, MatchOption, is_some}
use Rattle.std.proofs.lemmas.Bool.{both_ways}
use Rattle.life_rules.specs.declared.event.Name.{Name}
use Rattle.life_rules.specs.declared.event.SourceRef.{SourceRef}
use Rattle.life_rules.specs.States.{source_for}
use Rattle.node_tree.specs.declared.node.TreeNode.{TreeNode}
use Rattle.node_tree.specs.Tree.{nearest}
use Rattle.plan_shape.specs.Blueprint.{Blueprint}
use Rattle.table_steps.specs.Callbacks.{CanArm}
use Rattle.table_steps.specs.Seats.{Seated}
use Rattle.table_steps.specs.Sights.{IsLookedAt, StillAsked, AgreesWithTold}
use Rattle.table_steps.specs.Views.{Board, Stays}
use Rattle.stop_calls.specs.declared.arming.Armed.{Armed}
use Rattle.stop_calls.specs.Armings.{is_asked, IsArmedSo}
use Rattle.home_items.specs.declared.entry.Entry.{Entry}
use Rattle.home_items.specs.declared.item.Item.{Item}
use Rattle.exec_recv.specs.Seats.{HandSeat}
use Rattle.step_parts.specs.Heard.{hears_one, Looked, LooksOnce}
use Rattle.step_parts.specs.Kids.{KeepsIdle}
use Rattle.step_parts.specs.Listens.{Listens}
use Rattle.step_parts.specs.Stepping.{Stepping}
use Rattle.step_parts.specs.Takes.{HasJustBegun, IsTaken, Keeps}
use Rattle.step_parts.proofs.Asked.{look-keeps, hears-so, arm-keeps, arm-looks, arm-idle, deaf-looked}
use Rattle.step_parts.proofs.Ended.{keeps-same}

-- what was answered is the source that x hears
pub near-is : (board : Board Blueprint) (x : Name) (tree : List TreeNode) (answer : Option SourceRef) → tree ≡ board.frame.tree →
    answer ≡ source_for x (nearest tree x.node) → source_for x (nearest board.frame.tree x.node) ≡ answer
near-is board x tree answer same is = ap (λ (t : List TreeNode). source_for x (nearest t x.node)) (sym same) ∙ sym is

module _ (board : Board Blueprint) (t : Stepping) (source : SourceRef) (answer : Bool) (old new : HandSeat)
    (near : source_for t.name (nearest board.frame.tree t.name.node) ≡ Some source) (looked : IsLookedAt board source None answer old new) where
  pub hear-keeps : Stays board old new → Keeps board t old new
  hear-keeps stays = record { stays = stays; ready = look-keeps board t.name source None answer old new near looked }

  pub hear-looks : IsTaken board t old → StillAsked old.me.0 source answer → AgreesWithTold board.frame.tree old.me.0 source answer →
      Looked board t.name answer old.me new.me
  hear-looks is still told =
      hears-so board t.name source None answer old new near looked is.ready.is.held is.ready.is.tends.holds still told

  pub hear-once : LooksOnce board t.name answer old new
  hear-once =
      subst (λ (o : Option SourceRef). MatchOption o (new ≡ old) (λ s. IsLookedAt board s None answer old new)) (sym near) looked

-- where it hears no source nothing is done
module _ (board : Board Blueprint) (t : Stepping) (hand : HandSeat) (is : IsTaken board t hand)
    (near : source_for t.name (nearest board.frame.tree t.name.node) ≡ None) where
  pub deaf-keeps : Keeps board t hand hand
  deaf-keeps = keeps-same board t hand is.stays.hand

  pub deaf-once : LooksOnce board t.name false hand hand
  deaf-once = subst (λ (o : Option SourceRef). MatchOption o (hand ≡ hand) (λ s. IsLookedAt board s None false hand hand)) (sym near) refl

  pub deaf-looks : Looked board t.name false hand.me hand.me
  deaf-looks = deaf-looked board t.name hand.me near

  pub deaf-listens : (answer : Bool) → answer ≡ false → Listens board t.name answer hand hand
  deaf-listens answer none =
      record {
        arms = λ hears. absurd (both_ways (hears_one board t.name) (ap is_some near) hears);
        deaf = λ deaf. refl;
        looked = subst (λ (b : Bool). Looked board t.name b hand.me hand.me) (sym none) deaf-looks;
      }

-- its callback was never registered, and can be where it hears a source
pub can-arm : (board : Board Blueprint) (x : Name) (m : Seated Item Entry) → HasJustBegun board x m → hears_one board x ≡ true →
    CanArm board.frame.tree m.0 x
can-arm board x m begun hears = record { held = begun.held; holds = begun.holds; never = begun.phase; hears = hears }

-- The callback was registered, and then the source looked at.
module _ (board : Board Blueprint) (t : Stepping) (armed : Armed) (old new : HandSeat) (is : IsArmedSo board t.name armed old new) where
  pub armed-keeps : Stays board old new → Keeps board t old new
  armed-keeps stays = record { stays = stays; ready = arm-keeps board t.name armed old new is }

  pub armed-idle : KeepsIdle t.name old.me new.me
  armed-idle = arm-idle board t.name armed old new is

  pub armed-listens : IsTaken board t old → hears_one board t.name ≡ true → (answer : Bool) → answer ≡ is_asked armed →
      Listens board t.name answer old new
  armed-listens taken hears answer answer_is =
      record {
        arms = λ _. record { armed = armed; is = is; answer_is = answer_is };
        deaf = λ deaf. absurd (both_ways (hears_one board t.name) deaf hears);
        looked = subst (λ (b : Bool). Looked board t.name b old.me new.me) (sym answer_is)
            (arm-looks board t.name armed old new is taken.ready.is.held taken.ready.is.tends.holds);
      }
