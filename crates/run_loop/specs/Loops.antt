-- A loop as its callers see it, and what its calls leave of its hand's view.
use Rattle.std.specs.Prelude.{◌≡◌, ℕ, ◌+◌, ◌≤◌, false, List, [], ◌∷◌, length, Option, Some, None, vec_capacity}
use Rattle.life_rules.specs.declared.event.Name.{Name}
use Rattle.atomic_table.specs.Seated.{TableId}
use Rattle.atomic_table.specs.declared.shared.Seat.{Seat}
use Rattle.deck_relay.specs.declared.deck.Deck.{Deck}
use Rattle.timer_wheel.specs.Delays.{DelayList, places, delay_at}
use Rattle.plan_shape.specs.Blueprint.{Blueprint}
use Rattle.node_walks.specs.declared.completing.Collected.{Collected}
use Rattle.run_tally.specs.Gathered.{Gathered, gathered}
use Rattle.table_rules.specs.declared.view.View.{View}
use Rattle.table_steps.specs.Views.{Board, IsHandOf, knows}
use Rattle.home_items.specs.declared.entry.Entry.{Entry}
use Rattle.home_items.specs.declared.item.Item.{Item}
use Rattle.node_walks.specs.Resting.{IsAtRest}
use Rattle.run_loop.specs.declared.looped.Loop.{Loop as Looped}
use Rattle.run_loop.specs.declared.delay_node.DelayNode.{DelayNode}
use Rattle.run_loop.specs.DelayNodes.{AreDelaysOf, nodes_of, place_count}

-- These are the plan's delays. Where there is any, the list of parked ones has room for one in each
-- place.
pub record HasDelays (board : Board Blueprint) (list : DelayList) (nodes : List DelayNode)
    : Type 0 where
  pub room : 1 ≤ length nodes → place_count board ≤ places list
  pub are : AreDelaysOf (nodes_of board) nodes

-- No delay waits, and no turn is over.
pub record HasNoDelay (list : DelayList) : Type 0 where
  pub turn : list.turn ≡ 0
  pub none : (place : ℕ) → delay_at list place ≡ None

-- The deck of its hand, where it has one; and the loop with this deck.
abbrev pub deck_of : Looped → Option Deck
deck_of loop = loop.names.deck

abbrev pub decked : Deck → Looped → Looped
decked deck loop = record loop { names = record loop.names { deck = Some deck } }

-- A new loop on this hand knows no names, has no deck, doesn't help the pool, and has collected
-- nothing. No delay waits, and no turn is over. It leaves out names of roots. There is room for a
-- name of each block before it takes memory.
pub record IsOpened (board : Board Blueprint) (hand : Seat (Option Item) (View Item Entry))
    (loop : Looped)
    : Type 0 where
  pub hand_is : loop.hand ≡ hand
  pub names : loop.names.list.items ≡ []
  pub room : board.frame.layout.blocks ≤ vec_capacity loop.names.list
  pub served_room : board.frame.layout.blocks ≤ vec_capacity loop.served
  pub next : loop.next ≡ 0
  pub helps : loop.helps ≡ false
  pub tally : loop.tally ≡ []
  pub delays : HasDelays board loop.delays loop.delay_nodes.items
  pub waiting : HasNoDelay loop.delays
  pub deck : deck_of loop ≡ None
  pub root : loop.names.root + 1 ≡ length board.frame.tree

-- The names that it was told of.
abbrev pub told : Looped → List Name
told loop = loop.names.list.items

-- These are the names that it knows now. All else is as before.
pub record IsTold (names : List Name) (old new : Looped) : Type 0 where
  pub names_are : told new ≡ names
  pub root : new.names.root ≡ old.names.root
  pub rest : new ≡ record old { names = new.names }

-- The loop's hand is hand 0 of this table, and at rest. It has room for the delays of the table's
-- plan.
pub record IsReady (board : Board Blueprint) (loop : Looped) : Type 0 where
  pub hand : IsHandOf board loop.hand
  pub first : (knows loop.hand).number ≡ 0
  pub rests : IsAtRest (knows loop.hand)
  pub next : loop.next ≤ board.frame.layout.blocks
  pub delays : HasDelays board loop.delays loop.delay_nodes.items

-- It helps as before, and has collected nothing more.
pub record KeepsCounts (old new : Looped) : Type 0 where
  pub helps : new.helps ≡ old.helps
  pub tally : new.tally ≡ old.tally

-- All of its delays wait as before, and no turn is over.
pub record KeepsDelays (old new : Looped) : Type 0 where
  pub delays : new.delays ≡ old.delays
  pub nodes : new.delay_nodes ≡ old.delay_nodes

-- What was collected of an operation that was started over this plan, on this table.
abbrev pub gathered_of : Blueprint → TableId → Collected → Gathered
gathered_of plan table c = gathered plan table c.number c.completion

-- The operation stands in the tally, as one of this table and of its plan, and all that stood there
-- before.
abbrev pub Raises : Board Blueprint → Collected → List Gathered → List Gathered → Type 0
Raises board c old new = new ≡ gathered_of board.frame.over.value board.table_id c ∷ old
