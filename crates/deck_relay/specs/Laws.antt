-- What the calls of a deck come to.
use Rattle.std.specs.Prelude.{◌≡◌, ℕ, ◌+◌, ◌⊎◌, List, ◌∷◌, sum_by}
use Rattle.life_rules.specs.declared.event.Name.{Name}
use Rattle.deck_relay.specs.declared.deck.Deck.{Deck}
use Rattle.deck_relay.specs.Decks.{given_of, taken_of}
use Rattle.deck_relay.specs.Moves.{GivesOwn, GivesShared, TakesOwn, TakesShared, TakesStolen, MovesNothing}

-- Among these names this one stands once more than before.
abbrev pub IsOnceMore : Name → List Name → List Name → Type 0
IsOnceMore name old new = (weight : Name → ℕ) → sum_by weight new ≡ sum_by weight old + weight name

-- The deck gave the name, once, and took nothing.
pub record GivesOnce (name : Name) (old new : Deck) : Type 0 where
  pub given : IsOnceMore name (given_of old) (given_of new)
  pub taken : taken_of new ≡ taken_of old

-- The deck took the name, once, and gave nothing.
pub record TakesOnce (name : Name) (old new : Deck) : Type 0 where
  pub taken : IsOnceMore name (taken_of old) (taken_of new)
  pub given : given_of new ≡ given_of old

-- Among these names each of `more` stands as much more often as it stands in `more`, and each other
-- one as often as before.
abbrev pub AreMore : List Name → List Name → List Name → Type 0
AreMore more old new =
    (weight : Name → ℕ) → sum_by weight new ≡ sum_by weight old + sum_by weight more

-- The deck took the name, once, and each name that moved as often as it gave it.
pub record TakesAndMoves (name : Name) (moved : List Name) (old new : Deck) : Type 0 where
  pub taken : AreMore (name ∷ moved) (taken_of old) (taken_of new)
  pub given : AreMore moved (given_of old) (given_of new)

abbrev pub OwnIsOnce : Type 0
OwnIsOnce = (name : Name) (old new : Deck) → GivesOwn name old new → GivesOnce name old new

abbrev pub SharedIsOnce : Type 0
SharedIsOnce = (name : Name) (old new : Deck) → GivesShared name old new → GivesOnce name old new

abbrev pub TakenIsOnce : Type 0
TakenIsOnce = (name : Name) (old new : Deck) →
    TakesOwn name old new ⊎ TakesShared name old new → TakesOnce name old new

abbrev pub StolenIsOnce : Type 0
StolenIsOnce = (name : Name) (old new : Deck) (by : TakesStolen name old new) →
    TakesAndMoves name by.more old new

abbrev pub NothingIsMoved : Type 0
NothingIsMoved = (old new : Deck) → MovesNothing old new →
    (given_of new ≡ given_of old) × (taken_of new ≡ taken_of old)
