-- What a crew is, and what becomes of the hands on which its workers serve.
use Rattle.std.specs.Prelude.{◌≡◌, ◌<◌, ◌≤◌, ℕ, List, [], ◌∷◌, ◌++◌, length, slice_get, Option, Some, None}
use Rattle.atomic_table.specs.declared.shared.Seat.{Seat}
use Rattle.life_rules.specs.declared.limits.TheConstants.{MOST_HANDS}
use Rattle.listed_words.specs.declared.seen.Seen.{Seen}
use Rattle.plan_shape.specs.Blueprint.{Blueprint}
use Rattle.table_rules.specs.declared.view.View.{View}
use Rattle.table_rules.specs.Named.{AnyOf}
use Rattle.table_words.specs.Layouts.{TheScope, index}
use Rattle.table_steps.specs.Closings.{HasNothing}
use Rattle.table_steps.specs.Views.{Board, IsHandOf, knows}
use Rattle.home_items.specs.declared.entry.Entry.{Entry}
use Rattle.home_items.specs.declared.item.Item.{Item}
use Rattle.exec_recv.specs.Over.{IsOver}
use Rattle.plan_kinds.specs.Runnable.{IsRunnable}
use Rattle.deck_relay.specs.declared.desk.Desk.{Desk}
use Rattle.deck_relay.specs.Desks.{KeepsDesk}
use Rattle.steal_pool.specs.Works.{SaysJoined}

-- So many workers may serve with so many backends: each has one, and a table has hands for all of
-- them and one more.
pub record IsCrew (workers backends : ℕ) : Type 0 where
  pub each : workers ≤ backends
  pub few : workers < MOST_HANDS

-- The hand is of this table, has nothing, and gave back each block that it claimed.
pub record IsSpare (board : Board Blueprint) (hand : Seat (Option Item) (View Item Entry))
    : Type 0 where
  pub hand_of : IsHandOf board hand
  pub nothing : HasNothing (knows hand)
  pub even : (knows hand).claimed ≡ (knows hand).released

-- A spare hand may serve the pool of a table that is over the plan, whose kinds match.
pub record CanServe (board : Board Blueprint) (plan : Blueprint)
    (hand : Seat (Option Item) (View Item Entry)) : Type 0 where
  pub over : IsOver board plan
  pub kinds : IsRunnable plan
  pub spare : IsSpare board hand

-- The step read the scope's word, which said that the scope is joined.
pub record ReadsJoined (board : Board Blueprint) (e : Seen) : Type 0 where
  pub index_is : e.index ≡ index board.frame.layout TheScope
  pub joined : SaysJoined e.read

-- The hand is spare again, after a step of it read that the scope is joined.
pub record HasServed (board : Board Blueprint) (hand : Seat (Option Item) (View Item Entry))
    : Type 0 where
  pub spare : IsSpare board hand
  pub joined : AnyOf (ReadsJoined board) (knows hand).steps

-- A worker of this hand and this desk gave them back, the desk where it had one: the hand has
-- served, and has claimed no block. Nothing was drained through the desk's post.
pub record GivesBack (board : Board Blueprint) (before : Seat (Option Item) (View Item Entry))
    (old : Option Desk) (hand : Seat (Option Item) (View Item Entry)) (desk : Option Desk)
    : Type 0 where
  pub served : HasServed board hand
  pub claimed : (knows hand).claimed ≡ (knows before).claimed
  pub same : KeepsDesk old desk

-- As many desks as before, each of which was left so at its place.
pub record AreLeft (Same : Desk → Desk → Type 0) (old new : List Desk) : Type 0 where
  pub count : length new ≡ length old
  pub each : (k : ℕ) (before after : Desk) → slice_get old k ≡ Some before →
      slice_get new k ≡ Some after → Same before after

-- These are all: the rest, and this one last where there is one.
abbrev pub IsWith : {A : Type 0} → Option A → List A → List A → Type 0
IsWith (Some last) rest all = all ≡ rest ++ last ∷ []
IsWith None rest all = all ≡ rest
