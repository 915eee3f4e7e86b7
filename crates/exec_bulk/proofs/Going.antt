-- Where the step of a bulk goes on.
use Rattle.std.proofs.Common.{◌≡◌, ℕ, Bool, false, List, [], ◌∷◌, Option, Some, None, refl, sym, ap, ◌∙◌, subst, arith}
use Rattle.std.specs.Prelude.{Contains, IfSome}
use Rattle.exec_job.specs.declared.job.Job.{Job}
use Rattle.node_tree.specs.Tree.{is_root}
use Rattle.plan_rules.specs.declared.node.Node.TheVariants.{Bulk}
use Rattle.plan_shape.specs.Blueprint.{Blueprint}
use Rattle.table_steps.specs.Views.{Board}
use Rattle.home_items.specs.declared.entry.Entry.{Entry}
use Rattle.home_items.specs.Below.{run_below, asked_below}
use Rattle.home_items.specs.Bounds.{least_of}
use Rattle.home_items.specs.Contents.{Rest}
use Rattle.home_items.specs.Entries.{asked_of}
use Rattle.home_items.specs.Parcels.{Delivery}
use Rattle.exec_recv.specs.Seats.{HandSeat}
use Rattle.exec_recv.specs.Sites.{node_at}
use Rattle.start_laws.specs.Nodes.{IsStartOf}
use Rattle.start_laws.proofs.Bounding.{few-begun}
use Rattle.start_laws.proofs.Pairs.{none-some, below-plain}
use Rattle.step_parts.specs.Starts.{RunsBelow, asked_for_child, MayRun}
use Rattle.step_parts.specs.Stepping.{Stepping}
use Rattle.step_parts.specs.Takes.{HasParcel, IsTaken, TakesBack, TakesChild}
use Rattle.step_parts.proofs.Frames.{ready-less}
use Rattle.step_parts.proofs.Took.{taken-inner, taken-of}
use Rattle.exec_bulk.specs.Begins.{MayGoOn}
use Rattle.exec_bulk.specs.Opens.{MayTakeBack}
use Rattle.exec_bulk.proofs.Backed.{backed}

-- the child of a bulk runs with its arguments
child-runs : (start : List Entry) (child : ℕ) (job : Job) → IsStartOf start (Bulk child job) → RunsBelow start child
child-runs [] child job of = none-some of.node_is
child-runs (p ∷ above) child job of =
    subst (λ o. Contains (run_below o p) child) (sym of.node_is) (below-plain (Bulk child job) p child (0, omega arith, refl))

child-asked : (start : List Entry) (child : ℕ) (job : Job) → IsStartOf start (Bulk child job) → asked_of start ≡ asked_for_child start
child-asked [] child job of = none-some of.node_is
child-asked (p ∷ above) child job of = sym (ap (λ o. asked_below o p.asked) of.node_is)

-- A bulk may start its child.
pub bulk-runs : (board : Board Blueprint) (t : Stepping) (child : ℕ) (job : Job) (hand : HandSeat) → IsTaken board t hand →
    node_at board t.name ≡ Some (Bulk child job) → (asked : Bool) → asked ≡ asked_of t.start → MayRun board t child asked hand
bulk-runs board t child job hand taken at asked asked_is =
    let of = taken-of board t hand taken (Bulk child job) at in
    let none : least_of (Rest t.start None) ≡ 0 = few-begun.idle t.start (Bulk child job) of.node_is refl in
    record {
      taken = taken;
      few = ready-less board t.name t.start hand.me 0 (least_of (Rest t.start None)) (omega (arith, none)) taken.ready;
      least = omega (arith, none);
      runs = child-runs t.start child job of;
      asked_is = asked_is ∙ child-asked t.start child job of;
    }

-- It took what lay in its child's home.
module _ (board : Board Blueprint) (t : Stepping) (child : ℕ) (old new : HandSeat) (may : MayTakeBack board t child old)
    (answer : Option Delivery) (takes : TakesChild board t child answer old new) where
  abbrev back : TakesBack board t child answer old new
  back = backed board t child old new may answer takes

  pub back-inner : is_root board.frame.tree t.name.node ≡ false
  back-inner = taken-inner board t new back.taken (Bulk child may.job) may.node_is

  pub back-runs : (asked : Bool) → asked ≡ asked_of t.start → MayRun board t child asked new
  back-runs asked asked_is = bulk-runs board t child may.job new back.taken may.node_is asked asked_is

  pub back-goes : (parcel : Delivery) → answer ≡ Some parcel → MayGoOn board t parcel new
  back-goes parcel is =
      record {
        taken = back.taken;
        child = child;
        job = may.job;
        node_is = may.node_is;
        has = subst (λ (o : Option Delivery). IfSome o (HasParcel board t new.me)) is back.parcel;
      }
