-- What a deck does with a theft, and what it comes to when it is settled.
use Rattle.std.specs.Prelude.{◌≡◌, ℕ, List, [], ◌∷◌, ◌++◌, length}
use Rattle.crossbeam_queue.specs.Passes.{Pass, view}
use Rattle.life_rules.specs.declared.event.Name.{Name}
use Rattle.sleepers.specs.declared.sleeper.Sleeper.{Sleeper}
use Rattle.deck_relay.specs.declared.tokens.Tokens.{Tokens}
use Rattle.deck_relay.specs.declared.thefts.Theft.{Theft}
use Rattle.deck_relay.specs.declared.deck.Deck.{Deck}
use Rattle.deck_relay.specs.Rule.{Tells, at_first, without_one, with_one, both}
use Rattle.deck_relay.specs.Decks.{theft_view, theft_deque, own_view, queue_view, own_deque}

-- It has its place, its deque and all that it has of the queue.
pub record IsStill (old new : Deck) : Type 0 where
  pub place : new.place ≡ old.place
  pub own : own_deque new ≡ own_deque old
  pub queue : new.pass.table_id ≡ old.pass.table_id
  pub queued : queue_view new ≡ queue_view old

-- The deck lent a share of its deque to this theft.
pub record Lends (theft : Theft) (old new : Deck) : Type 0 where
  pub still : IsStill old new
  pub thefts : new.thefts.items ≡ old.thefts.items
  pub left : own_view new ≡ without_one (own_view old)
  pub of : theft_deque theft ≡ own_deque old
  pub lent : theft_view theft ≡ with_one

-- It got back what this theft has.
pub record GetsBack (theft : Theft) (old new : Deck) : Type 0 where
  pub still : IsStill old new
  pub thefts : new.thefts.items ≡ old.thefts.items
  pub back : own_view new ≡ both (own_view old) (theft_view theft)

-- It has this theft more, the last one.
pub record HasMore (theft : Theft) (old new : Deck) : Type 0 where
  pub still : IsStill old new
  pub own : own_view new ≡ own_view old
  pub more : new.thefts.items ≡ old.thefts.items ++ theft ∷ []

-- Its deque held so many names, and what it gave there is what it took there and these.
pub record Counts (count : ℕ) (old new : Deck) : Type 0 where
  pub still : IsStill old new
  pub thefts : new.thefts.items ≡ old.thefts.items
  pub own : own_view new ≡ own_view old
  pub left : List Name
  pub lefts : length left ≡ count
  pub tells : Tells (own_view old) left

-- A deck over this pass and this sleeper, with an empty deque and no theft.
pub record IsBare (over : Pass Name Tokens) (sleeper : Sleeper) (deck : Deck) : Type 0 where
  pub place : deck.place ≡ sleeper.place
  pub own : own_view deck ≡ at_first
  pub thefts : deck.thefts.items ≡ []
  pub queue : deck.pass.table_id ≡ over.table_id
  pub queued : queue_view deck ≡ view over
