-- What serving the futures of `ahead` nodes leaves of a hand's view (P3149, spawn_future).
use Rattle.std.specs.Prelude.{◌≡◌, ℕ, ◌+◌, List, length, Option, Some}
use Rattle.atomic_table.specs.declared.shared.Seat.{Seat}
use Rattle.life_rules.specs.declared.event.Name.{Name}
use Rattle.plan_shape.specs.Blueprint.{Blueprint}
use Rattle.table_rules.specs.declared.view.Rooted.{Rooted}
use Rattle.table_rules.specs.declared.view.View.{View}
use Rattle.table_steps.specs.Slots.{noted_at}
use Rattle.table_steps.specs.Views.{Board}
use Rattle.table_steps.specs.Seats.{Seated, view_of}
use Rattle.home_items.specs.declared.entry.Entry.{Entry}
use Rattle.home_items.specs.declared.item.Item.{Item}
use Rattle.exec_recv.specs.Asides.{aside_of, SeesMore}
use Rattle.spawn_future.specs.declared.future.Future.{Future}
use Rattle.spawn_future.specs.Counts.{beside_blocks, IsOfNoFuture}
use Rattle.spawn_future.specs.Slots.{kept_in}
use Rattle.spawn_future.specs.Sweeps.{Sweeps}
use Rattle.spawn_future.specs.Turns.{AreUnparked, Turns}

-- Futures came and went: for each that came an association and a claimed block, and for each that
-- went an association less and a block given back. A note of a root that is of no future stays, and
-- its root is of no future still.
pub record ServesSpawned (board : Board Blueprint) (old new : List (Option Future))
    (m m' : Seated Item Entry) : Type 0 where
  pub begun : ℕ
  pub ended : ℕ
  pub kept : kept_in new + ended ≡ kept_in old + begun
  pub made : (view_of m').made + ended ≡ (view_of m).made + begun
  pub claimed : (view_of m').claimed ≡ (view_of m).claimed + begun
  pub released : (view_of m').released ≡ (view_of m).released + ended
  pub aside : beside_blocks (aside_of (view_of m)) (aside_of (view_of m')) ≡ aside_of (view_of m)
  pub noted : (x : Name) (e : Rooted Entry) → IsOfNoFuture board old x →
      noted_at (view_of m) x ≡ Some e → noted_at (view_of m') x ≡ Some e
  pub apart : (x : Name) (e : Rooted Entry) → IsOfNoFuture board old x →
      noted_at (view_of m) x ≡ Some e → IsOfNoFuture board new x
  pub sees : SeesMore m m'

-- Each `ahead` that is parked was served, and then each future that is abandoned and complete was
-- ended. None was served only where the word of each, in each block, didn't say that it is parked.
pub record ServesFutures (board : Board Blueprint) (plan : Blueprint)
    (old new : List (Option Future)) (hand hand' : Seat (Option Item) (View Item Entry))
    : Type 0 where
  pub between : List (Option Future)
  pub middle : Seat (Option Item) (View Item Entry)
  pub served : ℕ
  pub turns : Turns board plan old between hand middle served
  pub none : served ≡ 0 → AreUnparked board plan (length plan.nodes) hand.me middle.me
  pub ended : ℕ
  pub sweeps : Sweeps board between new middle.me hand'.me ended
