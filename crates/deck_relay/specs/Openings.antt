-- The decks of a relay before they have thefts.
use Rattle.std.specs.Prelude.{◌≡◌, ℕ, List, [], length, sum_by, slice_get, Some}
use Rattle.atomic_table.specs.Seated.{TableId}
use Rattle.deck_relay.specs.declared.deck.Deck.{Deck}
use Rattle.deck_relay.specs.Rule.{at_first}
use Rattle.deck_relay.specs.Decks.{own_view, queue_view}

-- The deck of this place: its deque is new, it has no theft, and gave and took nothing.
pub record IsBareAt (of : TableId) (at : ℕ) (deck : Deck) : Type 0 where
  pub place : deck.place ≡ at
  pub own : own_view deck ≡ at_first
  pub thefts : deck.thefts.items ≡ []
  pub queue : deck.pass.table_id ≡ of
  pub given : (queue_view deck).given ≡ []
  pub taken : (queue_view deck).taken ≡ []

-- So many decks, each at its place, and they have all shares of the queue.
pub record AreBare (hands : ℕ) (decks : List Deck) : Type 0 where
  pub of : TableId
  pub count : length decks ≡ hands
  pub each : (k : ℕ) (deck : Deck) → slice_get decks k ≡ Some deck → IsBareAt of k deck
  pub shares : sum_by (λ deck. (queue_view deck).share) decks ≡ 32
