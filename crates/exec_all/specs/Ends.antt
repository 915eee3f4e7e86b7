-- How a `when_all` ends, once each of its children has completed ([exec.when.all]).
use Rattle.std.specs.Prelude.{◌≡◌, ◌⊎◌, ℕ, true, false, List, length, Some}
use Rattle.exec_value.specs.declared.limits.TheConstants.{INLINE_DATA}
use Rattle.exec_value.specs.declared.outcome.Completion.TheVariants.{NoMemory}
use Rattle.plan_rules.specs.declared.node.Node.TheVariants.{WhenAll}
use Rattle.plan_shape.specs.Blueprint.{Blueprint}
use Rattle.table_steps.specs.Views.{Board}
use Rattle.home_items.specs.Entries.{asked_of}
use Rattle.exec_recv.specs.declared.next.Next.{Next}
use Rattle.exec_recv.specs.Seats.{HandSeat}
use Rattle.exec_recv.specs.Sites.{node_at}
use Rattle.node_images.specs.Joined.{HasMoreThan}
use Rattle.start_laws.specs.AllEnds.{all_ends, all_saw}
use Rattle.step_parts.specs.Completes.{Completes}
use Rattle.step_parts.specs.Midway.{Ready}
use Rattle.step_parts.specs.Stepping.{Stepping}
use Rattle.step_parts.specs.Takes.{IsTaken}
use Rattle.exec_all.specs.declared.joining.Joining.{Joining}
use Rattle.exec_all.specs.Joined.{some_want}
use Rattle.exec_all.specs.Opens.{HaveJoined}

module _ (board : Board Blueprint) (t : Stepping) (joining : Joining) where
  -- The step has come so far that the node can end: its children's parcels come to this.
  pub record MayEndAll (hand : HandSeat) : Type 0 where
    pub children : List ℕ
    pub taken : IsTaken board t hand
    pub node_is : node_at board t.name ≡ Some (WhenAll children)
    pub ready : Ready board t.name t.start (length children) hand.me
    pub unasked : asked_of t.start ≡ false
    pub have : HaveJoined board t children joining hand.me

  -- Where one wants memory, it completed so. Else with what they come to together, or where that is
  -- values for which there was no memory, with want of memory.
  pub record EndsAll (next : Next) (old new : HandSeat) : Type 0 where
    pub wants : (may : MayEndAll old) → some_want may.have.ends (length may.children) ≡ true →
        Completes board t NoMemory false next old new
    pub ends : (may : MayEndAll old) → some_want may.have.ends (length may.children) ≡ false →
        Completes board t (all_ends may.have.ends (length may.children))
        (all_saw may.have.ends (length may.children)) next old new
        ⊎ (HasMoreThan INLINE_DATA (all_ends may.have.ends (length may.children))
        × Completes board t NoMemory false next old new)
