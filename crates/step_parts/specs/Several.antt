-- The homes of several children, emptied one after the other.
use Rattle.std.specs.Prelude.{ℕ, List, [], ◌∷◌, Option, None}
use Rattle.plan_shape.specs.Blueprint.{Blueprint}
use Rattle.table_steps.specs.Views.{Board}
use Rattle.op_slot.specs.Tends.{put_at}
use Rattle.home_items.specs.declared.item.Item.{Item}
use Rattle.exec_recv.specs.Seats.{HandSeat}
use Rattle.step_parts.specs.Midway.{ChangesHomes}
use Rattle.step_parts.specs.Stepping.{Stepping}
use Rattle.step_parts.specs.Takes.{IsOpenWith}

-- the homes of these children were emptied
abbrev pub emptied : List ℕ → (ℕ → Option Item) → ℕ → Option Item
emptied [] kid = kid
emptied (n ∷ ns) kid = emptied ns (put_at n None kid)

-- The hand took what lay in the homes of these children of a node that it steps.
pub record Empties (board : Board Blueprint) (t : Stepping) (children : List ℕ)
    (old new : HandSeat) : Type 0 where
  pub keeps : ChangesHomes board t.name old new
  pub left : (inside : Item) (kid : ℕ → Option Item) → IsOpenWith board t inside kid old →
      IsOpenWith board t inside (emptied children kid) new
