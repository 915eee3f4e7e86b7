-- How a node delivers its completion ([exec.recv]): what that needs, and what it does.
use Rattle.std.specs.Prelude.{◌≡◌, ℕ, ◌≤◌, Bool, true, false, ◌||◌, Some, None, MatchOption, List, [], Contains}
use Rattle.life_rules.specs.declared.event.Name.{Name}
use Rattle.life_rules.specs.declared.event.SourceRef.TheVariants.{Node}
use Rattle.life_rules.specs.declared.words.ControlWord.TheVariants.{Busy, Done as IsDone}
use Rattle.listed_words.specs.declared.seen.Seen.{Seen}
use Rattle.listed_words.specs.Lists.{entry}
use Rattle.node_tree.specs.declared.node.TreeNode.{TreeNode}
use Rattle.node_tree.specs.Tree.{is_root, has_source}
use Rattle.plan_rules.specs.Allowed.{IsFailure}
use Rattle.plan_shape.specs.Blueprint.{Blueprint}
use Rattle.table_words.specs.Controls.{source_read}
use Rattle.table_words.specs.Layouts.{OfSource, index}
use Rattle.table_rules.specs.declared.view.Held.{Held}
use Rattle.table_steps.specs.Views.{Board, IsHandOf, IsPlaceIn, aim_at, knows}
use Rattle.table_steps.specs.Seats.{Seated}
use Rattle.table_steps.specs.Finishes.{is_settled, FinishesAt}
use Rattle.table_steps.specs.Lefts.{LeavesControl}
use Rattle.table_steps.specs.Readings.{above_it}
use Rattle.table_steps.specs.Reports.{IsReportedAs}
use Rattle.table_steps.specs.Slots.{has_seen, home_at}
use Rattle.table_steps.specs.declared.report.Report.{Report}
use Rattle.table_steps.specs.declared.report.Report.TheVariants.{Last, Others}
use Rattle.op_slot.specs.Tends.{IsCalm, Tends}
use Rattle.home_items.specs.contracts.item.ItemCargo.TheImpl.{ghosts}
use Rattle.home_items.specs.declared.entry.Entry.{Entry}
use Rattle.home_items.specs.declared.item.Item.{Item}
use Rattle.home_items.specs.Contents.{Done}
use Rattle.home_items.specs.Bounds.{least_of}
use Rattle.home_items.specs.Entries.{plan_of}
use Rattle.home_items.specs.Fits.{IsItemOf, SawNoRequest}
use Rattle.home_items.specs.Parcels.{Delivery, IsDelivery}
use Rattle.exec_recv.specs.declared.next.Next.{Next}
use Rattle.exec_recv.specs.declared.next.Next.TheVariants.{Go, Rest}
use Rattle.exec_recv.specs.Actions.{ListsActions}
use Rattle.exec_recv.specs.Asides.{KeepsAll}
use Rattle.exec_recv.specs.Beginnings.{AllCanStart}
use Rattle.exec_recv.specs.Family.{AreOwedElsewhere}
use Rattle.exec_recv.specs.Over.{IsOver}
use Rattle.exec_recv.specs.Seats.{HandSeat}
use Rattle.exec_recv.specs.Sites.{plan_at}

-- The hand holds x, which isn't the receiver node, makes no scan and runs no callback. A parcel
-- lies in the home of x, and says so much of a failure; the homes of its children are empty, and
-- its callback isn't registered. The parcel shows the start of x and fits: it asks for no more
-- children than were awaited, and where it saw a request, or its start rests on one, the hand has
-- seen it, or was told of it. Each start that the hand owes can begin.
pub record CanDeliver (board : Board Blueprint) (x : Name) (failed : Bool) (hand : HandSeat) :
    Type 0 where
  pub of : IsHandOf board hand
  pub over : IsOver board (plan_at board)
  pub place : IsPlaceIn board x
  pub inner : is_root board.frame.tree x.node ≡ false
  pub calm : IsCalm hand.me
  pub unrun : (knows hand).runs ≡ []
  pub held : Held Entry
  pub parcel : Delivery
  pub tends : Tends board.frame x held (Some (Done parcel)) (λ _. None) hand.me
  pub settled : MatchOption held.phase ⊥ (λ phase. is_settled phase ≡ true)
  pub lawful : IsDelivery parcel
  pub on : failed ≡ true → IsFailure parcel.completion
  pub off : IsFailure parcel.completion → failed ≡ true
  pub shows : parcel.start ≡ held.start
  pub item : IsItemOf (Done parcel) x.node
  pub calmly : has_seen board.frame.tree (knows hand) x || held.told ≡ false →
      SawNoRequest (Done parcel)
  pub bound : least_of (Done parcel) ≤ held.named
  pub key : plan_of held.start ≡ plan_at board
  pub elsewhere : AreOwedElsewhere board x hand.me
  pub starts : AllCanStart board hand.me

-- Go on with the parent where the report was the last.
abbrev pub next_after : List TreeNode → Name → Report → Next
next_after tree x Last = Go (above_it tree x).node
next_after tree x Others = Rest

-- Of these steps one marked the node's source as failed and requested.
pub record MarksFailed (board : Board Blueprint) (y : Name) (steps : List Seen) : Type 0 where
  pub read : ℕ
  pub left : ℕ
  pub there : Contains steps (entry (index board.frame.layout (OfSource y.block y.node)) read left)
  pub failed : (source_read left).failed ≡ true
  pub requested : (source_read left).requested ≡ true

-- So the source of y was marked, and its callbacks ran; nothing else changed.
pub record HasStopped (board : Board Blueprint) (y : Name) (m m' : Seated Item Entry) : Type 0 where
  pub keeps : KeepsAll m m'
  pub marks : MarksFailed board y keeps.aside.fresh
  pub acts : ListsActions board board.frame.over.value (Node y) m m'

-- So it was where a child failed and y has a source.
pub record HasTold (board : Board Blueprint) (y : Name) (failed : Bool)
    (m m' : Seated Item Entry) : Type 0 where
  pub keeps : KeepsAll m m'
  pub marks : has_source board.frame.tree y.node ≡ true → failed ≡ true →
      MarksFailed board y keeps.aside.fresh
  pub acts : ListsActions board board.frame.over.value (Node y) m m'

-- The parcel lay in the home of x, and x was finished with it; where it failed and the parent has a
-- stop source, that was then marked so; and last x was reported.
pub record Delivers (board : Board Blueprint) (x : Name) (next : Next)
    (m m' : Seated Item Entry) : Type 0 where
  pub parcel : Delivery
  pub home : home_at board.frame.layout m x ≡ Some (Some (Done parcel))
  pub done : Seated Item Entry
  pub finished : LeavesControl (aim_at board x) (Busy 0) IsDone
      (FinishesAt ghosts (aim_at board x)) m done
  pub last : Seated Item Entry
  pub told : KeepsAll done last
  pub fails : has_source board.frame.tree (above_it board.frame.tree x).node ≡ true →
      IsFailure parcel.completion →
      MarksFailed board (above_it board.frame.tree x) told.aside.fresh
  -- each callback whose run began since did what it does
  pub acts : ListsActions board board.frame.over.value (Node (above_it board.frame.tree x))
      done last
  pub report : Report
  pub reported : IsReportedAs ghosts board.frame x report last m'
  pub next_is : next ≡ next_after board.frame.tree x report
