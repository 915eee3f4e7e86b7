-- What becomes of the name of a node that a worker's own step left ready.
use Rattle.std.specs.Prelude.{◌≡◌, ◌⊎◌, ℕ, ◌+◌, ◌-◌, ◌^◌, min, Bool, true, false, Option, Some, None, ⊤}
use Rattle.life_rules.specs.declared.event.Name.{Name}
use Rattle.node_tree.specs.declared.context.Context.{Context}
use Rattle.node_tree.specs.declared.context.Context.TheVariants.{Loop, Pool}
use Rattle.deck_relay.specs.declared.desk.Desk.{Desk}
use Rattle.deck_relay.specs.DeskMoves.{EntersDeck, LeavesDeck, TellsPost}
use Rattle.pool_backends.specs.Stocks.{Stock, Submits}
use Rattle.pool_backends.specs.Stocks.{HandsBack as IsHandedBack}

-- So it was where there is a desk.
abbrev pub TellsLoop : Name → Option Desk → Option Desk → Type 0
TellsLoop name (Some old) (Some new) = TellsPost name old new
TellsLoop name (Some old) None = ⊥
TellsLoop name None (Some new) = ⊥
TellsLoop name None None = ⊤

-- So it was where there is a desk. Where there is none it comes back.
abbrev pub EntersDesk : Name → Option Desk → Option Desk → Type 0
EntersDesk name (Some old) (Some new) = EntersDeck name old new
EntersDesk name (Some old) None = ⊥
EntersDesk name None new = ⊥

abbrev pub Leaves : Name → Option Desk → Option Desk → Name → Type 0
Leaves name (Some old) (Some new) back = LeavesDeck name old new back
Leaves name (Some old) None back = ⊥
Leaves name None (Some new) back = ⊥
Leaves name None None back = back ≡ name

-- What a worker has of its backend: how many names it counts there, whether the backend is lawful,
-- and what that keeps.
pub record Backing : Type 0 where
  pub held : ℕ
  pub lawful : Bool
  pub stock : Stock

abbrev pub backing : ℕ → Bool → Stock → Backing
backing held lawful stock = record { held = held; lawful = lawful; stock = stock }

-- The backend took the name, and the worker counts it.
pub record IsTakenBy (name : Name) (old new : Backing) : Type 0 where
  pub held : new.held ≡ min (old.held + 1) (2 ^ 32 - 1)
  pub lawful : old.lawful ≡ true → new.lawful ≡ true
  pub submits : old.lawful ≡ true → Submits name old.stock new.stock

-- It handed a name back, and one that is lawful this one.
pub record IsRefusedBy (name : Name) (old new : Backing) (back : Name) : Type 0 where
  pub held : new.held ≡ old.held
  pub lawful : old.lawful ≡ true → new.lawful ≡ true
  pub hands : old.lawful ≡ true → IsHandedBack name old.stock new.stock back

-- The deck was given the name, or handed it back; and so the backend.
abbrev pub AsksDeck : Name → Option Desk → Option Desk → Type 0
AsksDeck name old new = EntersDesk name old new ⊎ ((back : Name) × Leaves name old new back)

abbrev pub AsksBackend : Name → Backing → Backing → Type 0
AsksBackend name old new = IsTakenBy name old new ⊎ ((back : Name) × IsRefusedBy name old new back)

-- Where a worker keeps names, and whether its backend was submitted one that its own step left
-- ready since it was asked for one.
pub record Stores : Type 0 where
  pub desk : Option Desk
  pub has_own : Bool
  pub backing : Backing

abbrev pub stores : Option Desk → Bool → Backing → Stores
stores desk has_own backed = record { desk = desk; has_own = has_own; backing = backed }

-- The deck was given the name; and where it handed one back the backend was asked to take that.
abbrev pub GoesToDeck : Name → Stores → Stores → Type 0
GoesToDeck name old new =
    (EntersDesk name old.desk new.desk × (new.backing ≡ old.backing))
    ⊎ ((back : Name) × Leaves name old.desk new.desk back
    × AsksBackend back old.backing new.backing)

-- The backend took the name; and where it handed one back the deck was given that.
abbrev pub GoesToBackend : Name → Stores → Stores → Type 0
GoesToBackend name old new =
    ((new.desk ≡ old.desk) × IsTakenBy name old.backing new.backing)
    ⊎ ((back : Name) × IsRefusedBy name old.backing new.backing back
    × AsksDeck back old.desk new.desk)

-- The first name since the backend was asked goes there, and others to the deck.
abbrev pub KeepsWhere : Bool → Name → Stores → Stores → Type 0
KeepsWhere true name old new = GoesToDeck name old new
KeepsWhere false name old new = GoesToBackend name old new

-- What is ready in the loop is told there, and what is ready in the pool is kept.
abbrev pub HearsOffer : Name → Context → Stores → Stores → Type 0
HearsOffer name Loop old new =
    TellsLoop name old.desk new.desk × (new.backing ≡ old.backing) × (new.has_own ≡ old.has_own)
HearsOffer name Pool old new = KeepsWhere old.has_own name old new × (new.has_own ≡ true)
