-- What a deck is seen as.
use Rattle.std.specs.Prelude.{◌≡◌, List, [], ◌∷◌, ◌++◌, map}
use Rattle.atomic_blocks.specs.Lent.{RowsId}
use Rattle.std.specs.declared.alloc.Global.{Global}
use Rattle.crossbeam_deque.specs.Handles.{worker_deque, worker_view, view as deque_view}
use Rattle.crossbeam_queue.specs.Passes.{view}
use Rattle.life_rules.specs.declared.event.Name.{Name}
use Rattle.deck_relay.specs.declared.tokens.Tokens.{Tokens}
use Rattle.deck_relay.specs.declared.thefts.Theft.{Theft}
use Rattle.deck_relay.specs.declared.deck.Deck.{Deck}

-- what the pass of a theft knows, and which deque it steals from
abbrev pub theft_view : Theft → Tokens
theft_view theft = deque_view theft.pass

abbrev pub theft_deque : Theft → RowsId × Global
theft_deque theft = (theft.pass.rows, theft.pass.heap)

-- what the owner's pass of the deck's deque knows, its pass of the shared queue, and what it steals
-- through
abbrev pub own_view : Deck → Tokens
own_view deck = worker_view deck.own

abbrev pub queue_view : Deck → Tokens
queue_view deck = view deck.pass

abbrev pub thefts_view : Deck → List Tokens
thefts_view deck = map theft_view deck.thefts.items

-- which deque is the deck's own, and which it steals from, in the order of the places
abbrev pub own_deque : Deck → RowsId × Global
own_deque deck = worker_deque deck.own

abbrev pub row_of : Deck → List (RowsId × Global)
row_of deck = map theft_deque deck.thefts.items

-- the names that the deck offered or pushed, and those that it took
abbrev pub given_of : Deck → List Name
given_of deck = (own_view deck).given ++ (queue_view deck).given

abbrev pub all_taken : List Tokens → List Name
all_taken [] = []
all_taken (v ∷ views) = v.taken ++ all_taken views

abbrev pub stolen_of : List Theft → List Name
stolen_of thefts = all_taken (map theft_view thefts)

abbrev pub taken_of : Deck → List Name
taken_of deck = ((own_view deck).taken ++ (queue_view deck).taken) ++ stolen_of deck.thefts.items

-- It is the same deck of the same relay.
pub record IsSameDeck (old new : Deck) : Type 0 where
  pub place : new.place ≡ old.place
  pub own : own_deque new ≡ own_deque old
  pub share : (own_view new).share ≡ (own_view old).share
  pub row : row_of new ≡ row_of old
  pub queue : new.pass.table_id ≡ old.pass.table_id
  pub queued : (queue_view new).share ≡ (queue_view old).share
