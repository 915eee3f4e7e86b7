-- What beginning an operation with an association leaves of the hand's view.
use Rattle.std.proofs.Common.{◌≡◌, ℕ, ◌+◌, ◌-◌, List, refl, sym, ap, ◌∙◌, arith}
use Rattle.std.specs.Prelude.{Option}
use Rattle.atomic_table.specs.declared.shared.Seat.{Seat}
use Rattle.count_scope.specs.Leaves.{disassociated, HasAssociation, Leaves}
use Rattle.plan_shape.specs.Blueprint.{Blueprint}
use Rattle.table_rules.specs.declared.view.Rooted.{Rooted}
use Rattle.table_rules.specs.declared.view.View.{View}
use Rattle.table_rules.specs.Named.{find_by}
use Rattle.table_steps.specs.declared.block.Block.{Block}
use Rattle.table_steps.specs.ScopeEntries.{MayEnter}
use Rattle.table_steps.specs.Views.{Board}
use Rattle.table_steps.specs.Seats.{Seated}
use Rattle.op_slot.specs.Searches.{IsMissedFrom}
use Rattle.op_slot.proofs.Searching.{missed-from_same}
use Rattle.home_items.specs.declared.entry.Entry.{Entry}
use Rattle.home_items.specs.declared.item.Item.{Item}
use Rattle.exec_recv.specs.Asides.{Aside, aside_of}
use Rattle.node_walks.specs.Emptied.{with_released}
use Rattle.node_walks.specs.Leaves.{LeavesAside}
use Rattle.node_walks.specs.Starts.{BeginsRoot, with_started}
use Rattle.node_walks.proofs.Claimed.{missed-grows}
use Rattle.node_walks.proofs.Growing.{grows-on, leaves-grows, leaves-with}
use Rattle.node_walks.specs.Completes.{EndsRoot}
use Rattle.spawn_future.specs.Keeping.{block_root, Enters, Ends}
use Rattle.node_walks.specs.declared.completing.Ended.{Ended}
use Rattle.spawn_future.proofs.Moved.{Moves, moved-leaves, left-moves}

abbrev with_made : ℕ → Aside → Aside
with_made made aside = record aside { made = made }

-- two calls, the first of which changed how many associations the hand has
module _ (made : ℕ) (m between m' : Seated Item Entry) (moved : Moves made m between) where
  pub moved-then : (change : Aside → Aside) → LeavesAside (change (aside_of between.0)) between m' →
      LeavesAside (change (with_made made (aside_of m.0))) m m'
  moved-then change next =
      let first = moved-leaves made m between moved in
      leaves-with (change (with_made made (aside_of m.0))) m m' (next.is ∙ ap change first.is)
      (grows-on m between m' (leaves-grows (with_made made (aside_of m.0)) m between first)
      (leaves-grows (change (aside_of between.0)) between m' next))

-- or the second
pub then-moved : (aside : Aside) (m between m' : Seated Item Entry) → LeavesAside aside m between →
    Moves (between.0.made - 1) between m' → LeavesAside (with_made (aside.made - 1) aside) m m'
then-moved aside m between m' first moved =
    let next = moved-leaves (between.0.made - 1) between m' moved in
    leaves-with (with_made (aside.made - 1) aside) m m'
    (next.is ∙ ap (λ (a : Aside). with_made (a.made - 1) a) first.is)
    (grows-on m between m' (leaves-grows aside m between first)
    (leaves-grows (with_made (between.0.made - 1) (aside_of between.0)) between m' next))

-- an association was made, and an operation begun
pub entered : (board : Board Blueprint) (b : Block) (start : List Entry) (m between m' : Seated Item Entry) →
    Moves (m.0.made + 1) m between → BeginsRoot board b start between m' → Enters board b start m m'
entered board b start m between m' moved did =
    record {
      within = did.within;
      unnoted = sym (ap (λ (a : Aside). find_by (λ (e : Rooted Entry). e.name) a.noted (block_root board b)) (moved-leaves (m.0.made + 1) m between moved).is) ∙ did.unnoted;
      leaves = moved-then (m.0.made + 1) m between m' moved (with_started (block_root board b) start) did.leaves;
    }

-- no block was free: the hand has the association still
module _ (board : Board Blueprint) (count : ℕ) (m : Seated Item Entry) (old new : Seat (Option Item) (View Item Entry))
    (moved : Moves (m.0.made + 1) m old.me) (missed : IsMissedFrom board 0 count old new) where
  missed-leaves : LeavesAside (aside_of old.me.0) old.me new.me
  missed-leaves =
      leaves-with (aside_of old.me.0) old.me new.me
      (missed-from_same board (λ (z : Seated Item Entry). aside_of z.0) (λ i word z. refl) 0 count old new missed)
      (missed-grows board 0 count old new missed)

  both-leaves : LeavesAside (with_made (m.0.made + 1) (aside_of m.0)) m new.me
  both-leaves = moved-then (m.0.made + 1) m old.me new.me moved (λ (a : Aside). a) missed-leaves

  pub missed-has : MayEnter m.0 → HasAssociation new.me.0
  missed-has settled =
      let made = ap (λ (a : Aside). a.made) both-leaves.is in
      record {
        settled = ap (λ (a : Aside). a.making + a.refused) both-leaves.is ∙ settled;
        one = omega (arith, made);
      }

  -- and when it has left it, all is as it was
  pub missed-back : (end : Seated Item Entry) → Moves (new.me.0.made - 1) new.me end → LeavesAside (aside_of m.0) m end
  missed-back end left =
      let after = then-moved (with_made (m.0.made + 1) (aside_of m.0)) m new.me end both-leaves left in
      let fewer : m.0.made + 1 - 1 ≡ m.0.made = omega arith in
      leaves-with (aside_of m.0) m end (after.is ∙ ap (λ k. with_made k (aside_of m.0)) fewer)
      (leaves-grows (with_made (m.0.made + 1 - 1) (aside_of m.0)) m end after)

-- an operation was ended, and its association left
pub ended : (board : Board Blueprint) (b : Block) (m between m' : Seated Item Entry) (c : Ended) → EndsRoot board b m between c →
    Leaves (disassociated between) m' → Ends board b m m' c
ended board b m between m' c did left =
    record {
      completes = did.completes;
      given = between;
      moves = did.moves;
      left = left;
      leaves = then-moved (with_released (block_root board b) (aside_of m.0)) m between m' did.leaves (left-moves between m' left);
    }
