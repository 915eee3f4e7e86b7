-- The step of a let: it takes up the let, and starts its child, or goes on by what has completed.
use Rattle.std.proofs.Common.{◌≡◌, ◌≢◌, inr, true, false, Some, sym, ap, ◌∙◌, subst}
use Rattle.life_rules.specs.declared.event.Name.{Name}
use Rattle.node_tree.specs.Tree.{is_root}
use Rattle.plan_rules.specs.declared.node.Node.{Node}
use Rattle.plan_shape.specs.Blueprint.{Blueprint}
use Rattle.table_steps.specs.Readings.{KnowsIdle}
use Rattle.table_steps.specs.Views.{Board}
use Rattle.home_items.specs.declared.item.State.{State}
use Rattle.home_items.specs.declared.item.State.TheVariants.{Start as Begins}
use Rattle.home_items.specs.Entries.{asked_of}
use Rattle.home_items.specs.Fits.{IsItemOf}
use Rattle.home_items.specs.Items.{is_start, saw_in}
use Rattle.home_items.proofs.States.{state-start}
use Rattle.exec_recv.specs.declared.next.Next.{Next}
use Rattle.exec_recv.specs.Seats.{HandSeat}
use Rattle.exec_recv.specs.Sites.{node_at, MayStep, Steps}
use Rattle.step_parts.specs.Heard.{MaySee}
use Rattle.step_parts.specs.Starts.{MayRun}
use Rattle.step_parts.specs.Stepping.{Stepping}
use Rattle.step_parts.specs.Takes.{HasJustBegun, IsTaken, TakesState}
use Rattle.step_parts.proofs.Reading.{begun-idle}
use Rattle.step_parts.proofs.Took.{taken-inner}
use Rattle.exec_let.specs.Kinds.{IsLet, IsLetNode, let_child}
use Rattle.exec_let.specs.Lets.{StepsBegun, StepsLet}
use Rattle.exec_let.specs.Opens.{MayOpen}
use Rattle.exec_let.proofs.Ended.{let-starts}
use Rattle.exec_let.proofs.Places.{kind-let, child-below}

-- a node of which nothing has begun has its start
module _ (board : Board Blueprint) (x : Name) (node : Node) (t : Stepping) (state : State) (old up : HandSeat) (kind : IsLetNode (node_at board x))
    (may : MayStep board x old) (takes : TakesState board x t state old up) (at : node_at board x ≡ Some node) where
  is : IsLet node
  is = kind-let (node_at board x) node at kind

  here : node_at board t.name ≡ Some node
  here = ap (node_at board) takes.name_is ∙ at

  -- From its start it may start its child.
  module _ (first : state ≡ Begins) where
    unbegun : is_start may.can.item ≡ true
    unbegun = state-start may.can.item (sym first ∙ takes.state_is may.can)

    taken : IsTaken board t up
    taken = takes.fresh may.can unbegun

    pub first-inner : is_root board.frame.tree t.name.node ≡ false
    first-inner = taken-inner board t up taken node here

    pub first-runs : MayRun board t (let_child node) (asked_of t.start) up
    first-runs = let-starts board t node up here is taken

    pub first-idle : KnowsIdle t.name (let_child node) up.me
    first-idle =
        begun-idle board t.name (let_child node) up.me (child-below board t.name node taken.site here is)
        (subst (λ (y : Name). HasJustBegun board y up.me) (sym takes.name_is) (takes.begun may.can unbegun))

  -- Once it has begun, it goes on by what lies in the homes.
  pub may-open : MayOpen board t node up
  may-open = record {
    lies = record { inside = may.can.item; kid = may.can.kid; is = takes.opened may.can };
    of = subst (λ (y : Name). IsItemOf may.can.item y.node) (sym takes.name_is) (takes.of may.can);
    saw = subst (λ (y : Name). MaySee board y (saw_in may.can.item) up.me) (sym takes.name_is) (takes.saw may.can);
    node_is = here;
    is_let = is;
  }

  pub does-on : state ≢ Begins → (next : Next) (new : HandSeat) → StepsBegun board t node next up new → StepsLet board x next old new
  does-on begun next new goes = record {
    node = node;
    node_is = at;
    is_let = is;
    does = inr (record { taken = t; state = state; up = up; takes = takes; begun = begun; goes = goes });
  }

  -- what ends the step began with it
  pub steps-so : (next : Next) (new : HandSeat) → Steps board t.name next t.from new → Steps board x next old new
  steps-so next new steps =
      subst (λ (y : Name). Steps board y next old new) takes.name_is
      (subst (λ (h : HandSeat). Steps board t.name next h new) takes.from_is steps)
