-- A node was left awaiting several children, and their starts are put into their homes, from the last child to the first.
use Rattle.std.proofs.Common.{◌≡◌, ℕ, suc, ◌<◌, List, length, refl, ap, ◌∙◌}
use Rattle.std.specs.Prelude.{ℤ, slice_index, Option}
use Rattle.life_rules.specs.declared.event.Name.{Name}
use Rattle.life_rules.specs.Views.{beside}
use Rattle.plan_shape.specs.Blueprint.{Blueprint}
use Rattle.table_steps.specs.Seats.{Seated}
use Rattle.table_steps.specs.Views.{Board, Stays}
use Rattle.op_slot.specs.Tends.{HasPlaces}
use Rattle.op_slot.proofs.Staying.{stays-here, stays-on}
use Rattle.home_items.specs.declared.entry.Entry.{Entry}
use Rattle.home_items.specs.declared.item.Item.{Item}
use Rattle.home_items.specs.Contents.{Rest}
use Rattle.home_items.specs.Items.{lot_of}
use Rattle.home_items.specs.Parcels.{Delivery}
use Rattle.exec_recv.specs.declared.next.Next.TheVariants.{Rest as IsAtRest}
use Rattle.exec_recv.specs.Areas.{MovesWithin}
use Rattle.exec_recv.specs.Asides.{KeepsAside}
use Rattle.exec_recv.specs.Seats.{HandSeat}
use Rattle.exec_recv.specs.Sites.{Steps}
use Rattle.exec_recv.proofs.Asiding.{aside-here, aside-on}
use Rattle.exec_recv.proofs.Moves.{moves-here, moves-look, moves-on}
use Rattle.exec_recv.proofs.Starts.{owes-as}
use Rattle.step_parts.specs.Awaits.{AwaitsMany}
use Rattle.step_parts.specs.Kids.{AreKids}
use Rattle.step_parts.specs.Puts.{PutsStart}
use Rattle.step_parts.specs.Starting.{IsStarting}
use Rattle.step_parts.specs.Stepping.{Stepping}
use Rattle.step_parts.proofs.Puts.{none-left}

-- The hand owes the starts of the first so many of these children of x, and has put those of the rest.
pub record IsPutting (board : Board Blueprint) (x : Name) (start : List Entry) (lot : List ℤ) (children : List ℕ) (left : ℕ)
    (old new : HandSeat) : Type 0 where
  pub stays : Stays board old new
  pub aside : KeepsAside old.me new.me
  pub moves : MovesWithin board x old.me new.me
  pub held : new.me.0.held ≡ old.me.0.held
  pub owed : new.me.0.owed ≡ old.me.0.owed
  pub starting : IsStarting board x start lot children left new.me

-- none was put yet
pub putting-none : (board : Board Blueprint) (t : Stepping) (kept : Option Delivery) (children : List ℕ) (old new : HandSeat) →
    AwaitsMany board t kept children old new →
    IsPutting board t.name t.start (lot_of (Rest t.start kept)) children (length children) new new
putting-none board t kept children old new awaits =
    record {
      stays = stays-here board new awaits.stays.hand;
      aside = aside-here new.me;
      moves = moves-here board t.name new.me;
      held = refl;
      owed = refl;
      starting = awaits.starting;
    }

-- one more was put
pub putting-more : (board : Board Blueprint) (x : Name) (start : List Entry) (lot : List ℤ) (children : List ℕ) (left : ℕ) (old between new : HandSeat) →
    IsPutting board x start lot children (suc left) old between → HasPlaces board.frame x → AreKids board x children → left < length children →
    (y : Name) → y ≡ beside x (slice_index children left) → (below : List Entry) → Stays board between new →
    PutsStart board y below between.me new.me → IsPutting board x start lot children left old new
putting-more board x start lot children left old between new was places kids within y at below stays puts =
    record {
      stays = stays-on board old between new was.stays stays;
      aside = aside-on old.me between.me new.me was.aside puts.aside;
      moves = moves-on board x old.me between.me new.me was.moves
          (moves-look board x _ puts.put.word between.me new.me (ap (λ (z : Seated Item Entry). z.0.steps) puts.put.me_is));
      held = puts.held ∙ was.held;
      owed = puts.owed ∙ was.owed;
      starting = puts.less x start lot children left places kids within at was.starting;
    }

-- all were: the step has ended
pub putting-all : (board : Board Blueprint) (t : Stepping) (kept : Option Delivery) (children : List ℕ) (old waiting new : HandSeat) →
    AwaitsMany board t kept children old waiting →
    IsPutting board t.name t.start (lot_of (Rest t.start kept)) children 0 waiting new → Steps board t.name IsAtRest t.from new
putting-all board t kept children old waiting new awaits puts =
    record {
      stays = stays-on board t.from waiting new awaits.stays puts.stays;
      stepped = record {
        aside = aside-on t.from.me waiting.me new.me awaits.aside puts.aside;
        moves = moves-on board t.name t.from.me waiting.me new.me awaits.moves puts.moves;
        starts = none-left board t.name t.start (lot_of (Rest t.start kept)) children new.me puts.starting;
        owes = λ y owes. awaits.owes y (owes-as waiting.me new.me y puts.owed owes);
        goes = puts.held ∙ awaits.lets_go;
      };
    }
