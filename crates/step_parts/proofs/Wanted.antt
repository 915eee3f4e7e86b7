-- When a node may complete with want of memory, or go on later with its start alone.
use Rattle.std.proofs.Common.{◌≡◌, inl, ◌+◌, true, false, length, arith, refl, ap, ◌∙◌}
use Rattle.std.specs.Prelude.{Some, None}
use Rattle.std.proofs.lemmas.Bool.{both_ways, eq-eqb}
use Rattle.exec_value.specs.declared.outcome.Completion.TheVariants.{NoMemory}
use Rattle.life_rules.specs.declared.event.Name.{Name}
use Rattle.life_rules.specs.declared.event.Resting.TheVariants.{Loop as InLoop}
use Rattle.node_tree.specs.Tree.{is_root}
use Rattle.plan_shape.specs.Blueprint.{Blueprint}
use Rattle.plan_kinds.specs.Small.{IsSmall}
use Rattle.plan_kinds.proofs.Trees.{trees-show}
use Rattle.table_steps.specs.Views.{Board}
use Rattle.home_items.specs.declared.item.Item.{Item}
use Rattle.home_items.specs.Contents.{Rest}
use Rattle.home_items.specs.Bounds.{least_of}
use Rattle.home_items.specs.Entries.{plan_of, carried_of}
use Rattle.home_items.specs.Fits.{KeepsParcel}
use Rattle.home_items.specs.Items.{start_in}
use Rattle.exec_recv.specs.declared.next.Next.{Next}
use Rattle.exec_recv.specs.Over.{IsOver}
use Rattle.exec_recv.specs.Seats.{HandSeat}
use Rattle.exec_recv.specs.Sites.{plan_at}
use Rattle.step_parts.specs.Completes.{MayEnd, Completes}
use Rattle.step_parts.specs.Leaves.{MayLeave, LeavesAt}
use Rattle.step_parts.specs.Midway.{Ready}
use Rattle.step_parts.specs.Stepping.{Stepping}
use Rattle.step_parts.specs.Takes.{IsTaken, Keeps}
use Rattle.step_parts.specs.Wants.{is_text_alone, MayWant, EndsWanting}
use Rattle.step_parts.proofs.Ended.{ready-on, taken-on}

-- want of memory asks for no child: where the plan isn't small, a node may complete so from anywhere in its step
pub want-ends : (board : Board Blueprint) (t : Stepping) (hand : HandSeat) → IsTaken board t hand → is_root board.frame.tree t.name.node ≡ false →
    ¬ IsSmall (plan_of t.start) → MayEnd board t NoMemory false hand
want-ends board t hand is inner large =
    record {
      taken = is;
      inner = inner;
      allowed = inl refl;
      few = is.ready;
      sees = λ none. refl;
      small = λ small. absurd (large small);
    }

none-known : None ≡ Some NoMemory → ⊥
none-known e = cc

-- a node that isn't the receiver node may rest with any item
pub inner-rests : (board : Board Blueprint) (plan : Blueprint) (x : Name) (item : Item) → IsOver board plan → plan_of (start_in item) ≡ board.frame.over.value →
    is_root board.frame.tree x.node ≡ false → IsSmall (plan_of (start_in item)) → x.node ≡ length (plan_of (start_in item)).nodes → KeepsParcel item
inner-rests board plan x item over key inner small last =
    let size : length board.frame.tree ≡ length plan.nodes + 1 = ap length over.tree ∙ (trees-show plan over.is_plan).size in
    let same : length (plan_of (start_in item)).nodes ≡ length plan.nodes = ap (λ (p : Blueprint). length p.nodes) (key ∙ over.over) in
    absurd (both_ways (is_root board.frame.tree x.node) inner
    (eq-eqb (x.node + 1) (length board.frame.tree) (omega (arith, size, same, last))))

-- so it may with its start alone
pub bare-leaves : (board : Board Blueprint) (t : Stepping) (hand : HandSeat) → IsTaken board t hand → is_root board.frame.tree t.name.node ≡ false →
    Ready board t.name t.start (least_of (Rest t.start None)) hand.me → MayLeave board t None hand
bare-leaves board t hand is inner few =
    record {
      keep = record { taken = is; few = few; child = tt; saw = λ none. refl; small = λ small. none-known };
      rests = record {
        rest = tt;
        kept = inner-rests board (plan_at board) t.name (Rest t.start None) is.site.over few.is.key inner;
      };
    }

-- The node's arguments were looked at.
module _ (board : Board Blueprint) (t : Stepping) (hand : HandSeat) (may : MayWant board t hand) (looked : HandSeat) (keeps : Keeps board t hand looked) where
  -- where they are one text, the node may be left with its start alone
  pub look-leaves : MayLeave board t None looked
  look-leaves =
      bare-leaves board t looked (taken-on board t hand looked keeps may.taken) may.inner
      (ready-on board t hand looked keeps (least_of (Rest t.start None)) may.few)

  -- and else it may complete with want of memory
  pub look-wants : is_text_alone (carried_of t.start) ≡ false → MayEnd board t NoMemory false looked
  look-wants none =
      want-ends board t looked (taken-on board t hand looked keeps may.taken) may.inner
      (λ small. both_ways (is_text_alone (carried_of t.start)) none (may.small small))

  module _ (next : Next) (new : HandSeat) where
    pub ends-later : is_text_alone (carried_of t.start) ≡ true → LeavesAt board t None InLoop next looked new → EndsWanting board t next hand new
    ends-later text left =
        record {
          looked = looked;
          keeps = keeps;
          later = λ _. left;
          now = λ none. absurd (both_ways (is_text_alone (carried_of t.start)) none text);
        }

    pub ends-now : is_text_alone (carried_of t.start) ≡ false → Completes board t NoMemory false next looked new → EndsWanting board t next hand new
    ends-now none ended =
        record {
          looked = looked;
          keeps = keeps;
          later = λ text. absurd (both_ways (is_text_alone (carried_of t.start)) none text);
          now = λ _. ended;
        }
