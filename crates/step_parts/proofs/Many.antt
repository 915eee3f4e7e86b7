-- How a step awaits several children of its node.
use Rattle.std.proofs.Common.{inl, inr, ℕ, List, length, refl, sym, ◌∙◌}
use Rattle.std.specs.Prelude.{Option, None}
use Rattle.life_rules.specs.declared.words.ControlWord.TheVariants.{Busy}
use Rattle.plan_shape.specs.Blueprint.{Blueprint}
use Rattle.table_steps.specs.Awaits.{CanAwait, AwaitsAt}
use Rattle.table_steps.specs.Lefts.{LeavesControl}
use Rattle.table_steps.specs.Views.{Board, IsPlaceIn, Stays, aim_at}
use Rattle.op_slot.proofs.Leaving.{GoesOn as GoesOnHeld}
use Rattle.op_slot.proofs.Staying.{stays-on}
use Rattle.home_items.specs.contracts.item.ItemCargo.TheImpl.{ghosts}
use Rattle.home_items.specs.Contents.{Rest}
use Rattle.home_items.specs.Parcels.{Delivery}
use Rattle.exec_recv.specs.Nexts.{OwesNewBelow}
use Rattle.exec_recv.specs.Seats.{HandSeat}
use Rattle.exec_recv.proofs.Asiding.{aside-on}
use Rattle.exec_recv.proofs.Moves.{moves-on}
use Rattle.exec_recv.proofs.Starts.{owes-as}
use Rattle.step_parts.specs.Awaits.{MayAwaitMany, AwaitsMany}
use Rattle.step_parts.specs.Changes.{ChangesTo}
use Rattle.step_parts.specs.Kids.{KnowsAllIdle}
use Rattle.step_parts.specs.Midway.{IsMidway, KeepsOthers}
use Rattle.step_parts.specs.Stepping.{Stepping}
use Rattle.step_parts.proofs.Awaited.{can-await, await-aside, await-moves, await-lets, await-starting, await-owes}
use Rattle.step_parts.proofs.Changing.{put-midway}
use Rattle.op_slot.proofs.Staying.{stays-on}
use Rattle.step_parts.proofs.Frames.{others-on}
use Rattle.step_parts.proofs.Left.{rest-on}
use Rattle.step_parts.proofs.Swapping.{swap-beside, swap-held, swap-heard}

module _ (board : Board Blueprint) (t : Stepping) (kept : Option Delivery) (children : List ℕ) (old full : HandSeat)
    (may : MayAwaitMany board t kept children old) (puts : ChangesTo board t (Rest t.start kept) old full) where
  here : IsMidway board t.name t.start (Rest t.start kept) 0 (λ _. None) full.me
  here =
      put-midway board t.name (Rest t.start kept) puts.was old.me full.me puts.put t.start may.taken.ready.inside 0 (λ _. None)
      may.taken.ready.is (λ e. e) refl

  goes-on : GoesOnHeld ghosts board.frame t.name full.me here.held (Rest t.start kept)
  goes-on =
      rest-on board t.name t.start kept 0 full.me here may.child
      (λ none. may.saw (sym (swap-heard board t.name t.name _ _ old.me full.me puts.put) ∙ none)) may.small

  idle : KnowsAllIdle t.name children (length children) full.me
  idle = record {
    held = may.idle.held;
    holds = swap-held board t.name t.name _ _ old.me full.me puts.put ∙ may.idle.holds;
    idle = may.idle.idle;
  }

  pub many-place : IsPlaceIn board t.name
  many-place = here.place

  pub many-can : CanAwait ghosts board.frame full.me t.name children
  many-can = can-await board t.name t.start kept children full.me here goes-on may.kids may.least may.some idle

  module _ (new : HandSeat) (stays : Stays board full new)
      (awaited : LeavesControl (aim_at board t.name) (Busy 0) (Busy (length children)) (AwaitsAt ghosts (aim_at board t.name) children)
      full.me new.me) where
    beside_it : KeepsOthers board t.name t.from.me full.me
    beside_it =
        others-on board t.name t.from.me old.me full.me may.taken.beside (swap-beside board t.name t.name _ _ old.me full.me puts.put)

    owes : OwesNewBelow board t.name t.from.me new.me
    owes z is =
        elim (await-owes board t.name t.start kept children full.me here goes-on may.kids new.me awaited z is) [
          | inl before ↦ inl (owes-as t.from.me full.me z beside_it.owed before)
          | inr below ↦ inr below
        ]

    pub awaits-many : AwaitsMany board t kept children old new
    awaits-many =
        record {
          stays = stays-on board t.from full new (stays-on board t.from old full may.taken.stays puts.stays) stays;
          full = full.me;
          was = puts.was;
          put = puts.put;
          awaits = awaited;
          aside = aside-on t.from.me full.me new.me beside_it.aside
              (await-aside board t.name t.start kept children full.me here goes-on may.kids new.me awaited);
          moves = moves-on board t.name t.from.me full.me new.me beside_it.moves
              (await-moves board t.name t.start kept children full.me here goes-on may.kids new.me awaited);
          lets_go = await-lets board t.name t.start kept children full.me here goes-on may.kids new.me awaited ∙ beside_it.others;
          owes = owes;
          starting = await-starting board t.name t.start kept children full.me here goes-on may.kids new.me awaited;
        }
