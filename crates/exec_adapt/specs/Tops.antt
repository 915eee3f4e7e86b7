-- What the step of the receiver node takes out of the homes of the node's children.
use Rattle.std.specs.Prelude.{◌≡◌, ℕ, ◌-◌, ◌<◌, length, slice_get, Option, Some, None, IfSome}
use Rattle.plan_rules.specs.declared.node.Node.{Node}
use Rattle.plan_rules.specs.declared.node.Node.TheVariants.{Ahead}
use Rattle.plan_shape.specs.Blueprint.{Blueprint}
use Rattle.table_steps.specs.Views.{Board}
use Rattle.home_items.specs.declared.item.Item.{Item}
use Rattle.exec_recv.specs.Seats.{HandSeat}
use Rattle.exec_recv.specs.Sites.{plan_at}
use Rattle.step_parts.specs.Midway.{ChangesHomes}
use Rattle.step_parts.specs.Stepping.{Stepping}
use Rattle.step_parts.specs.Takes.{IsOpenWith}

-- the first child of an `ahead`
abbrev pub spawned_by : Node → Option ℕ
spawned_by (Ahead first second) = Some first
spawned_by node = None

module _ (board : Board Blueprint) (t : Stepping) where
  -- This is left in the homes of the receiver node's children, once the plan's root was emptied,
  -- and of the first so many nodes each that an `ahead` spawns.
  pub record LeavesTops (count : ℕ) (inside : Item) (hand : HandSeat) : Type 0 where
    pub left : ℕ → Option Item
    pub is : IsOpenWith board t inside left hand
    pub root : left (length (plan_at board).nodes - 1) ≡ None
    pub firsts : (n : ℕ) (node : Node) → n < count →
        slice_get (plan_at board).nodes n ≡ Some node →
        IfSome (spawned_by node) (λ first. left first ≡ None)

  -- The hand took what lay in their homes.
  pub record EmptiesTops (count : ℕ) (old new : HandSeat) : Type 0 where
    pub keeps : ChangesHomes board t.name old new
    pub left : (inside : Item) (kid : ℕ → Option Item) → IsOpenWith board t inside kid old →
        LeavesTops count inside new

  -- so it did with all of them
  abbrev pub EmptiesAll : HandSeat → HandSeat → Type 0
  EmptiesAll old new = EmptiesTops (length (plan_at board).nodes) old new
