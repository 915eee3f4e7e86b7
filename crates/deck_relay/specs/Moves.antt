-- What a call of a deck does, and why a name comes back or none is found.
use Rattle.std.specs.Prelude.{◌≡◌, ◌≤◌, ◌⊎◌, List, [], ◌∷◌}
use Rattle.crossbeam_deque.specs.Handles.{worker_capacity, worker_index}
use Rattle.crossbeam_queue.specs.Fifo.{Held}
use Rattle.life_rules.specs.declared.event.Name.{Name}
use Rattle.deck_relay.specs.declared.deck.Deck.{Deck}
use Rattle.deck_relay.specs.Rule.{giving, taking, Stood}
use Rattle.deck_relay.specs.Decks.{own_view, queue_view, thefts_view}
use Rattle.deck_relay.specs.Steals.{StealsInTurn, AllMissed}

-- The name came in at the back of the deck's own deque, and all else is as before.
pub record GivesOwn (name : Name) (old new : Deck) : Type 0 where
  pub own : own_view new ≡ giving (own_view old) (name ∷ [])
  pub queue : queue_view new ≡ queue_view old
  pub thefts : thefts_view new ≡ thefts_view old

-- The name came in at the back of the shared queue, and all else is as before.
pub record GivesShared (name : Name) (old new : Deck) : Type 0 where
  pub own : own_view new ≡ own_view old
  pub queue : queue_view new ≡ giving (queue_view old) (name ∷ [])
  pub thefts : thefts_view new ≡ thefts_view old

-- As many names had come into the deck's own deque as its newest ring has slots.
abbrev pub IsOwnFull : Deck → Type 0
IsOwnFull deck = worker_capacity deck.own ≤ worker_index deck.own

-- Its own deque was full, and the name came into the shared queue.
pub record PassesOn (name : Name) (old new : Deck) : Type 0 where
  pub full : IsOwnFull old
  pub gives : GivesShared name old new

-- The name came into the deck's own deque, or into the shared queue where that was full.
abbrev pub Pushes : Name → Deck → Deck → Type 0
Pushes name old new = GivesOwn name old new ⊎ PassesOn name old new

-- The deck gave and took nothing.
pub record MovesNothing (old new : Deck) : Type 0 where
  pub own : own_view new ≡ own_view old
  pub queue : queue_view new ≡ queue_view old
  pub thefts : thefts_view new ≡ thefts_view old

-- This is the name, and the deck gave and took nothing: the shared queue was full at a step of the
-- call.
pub record HandsBack (name : Name) (old new : Deck) (back : Name) : Type 0 where
  pub is : back ≡ name
  pub nothing : MovesNothing old new
  pub full : Held 4096 (Stood (queue_view old))

-- The name left the deck's own deque, and all else is as before.
pub record TakesOwn (name : Name) (old new : Deck) : Type 0 where
  pub own : own_view new ≡ taking (own_view old) (name ∷ [])
  pub queue : queue_view new ≡ queue_view old
  pub thefts : thefts_view new ≡ thefts_view old

-- The deck's deque was empty at a step of the call, and then the name left the shared queue.
pub record TakesShared (name : Name) (old new : Deck) : Type 0 where
  pub own_empty : Stood (own_view old) []
  pub own : own_view new ≡ own_view old
  pub queue : queue_view new ≡ taking (queue_view old) (name ∷ [])
  pub thefts : thefts_view new ≡ thefts_view old

-- The deck's deque and the shared queue were empty, each at a step of the call. Then the name and
-- these more were stolen. These more came in at the back of the deck's own deque, in the order in
-- which they left the other.
pub record TakesStolen (name : Name) (old new : Deck) : Type 0 where
  pub own_empty : Stood (own_view old) []
  pub queue_empty : Held 0 (Stood (queue_view old))
  pub more : List Name
  pub own : own_view new ≡ giving (own_view old) more
  pub queue : queue_view new ≡ queue_view old
  pub steals : StealsInTurn old.place old.thefts.items new.thefts.items name more

-- The deck took the name: of its own deque, else of the shared queue, else of another deque.
abbrev pub Takes : Name → Deck → Deck → Type 0
Takes name old new = TakesOwn name old new ⊎ (TakesShared name old new ⊎ TakesStolen name old new)

-- No name was found, each at a step of the call: the deck's deque was empty, and so was the shared
-- queue, and each other deque was empty or the steal from it was lost.
pub record FindsNone (old new : Deck) : Type 0 where
  pub own : Stood (own_view old) []
  pub queue : Held 0 (Stood (queue_view old))
  pub others : AllMissed old.place old.thefts.items new.thefts.items
  pub nothing : MovesNothing old new
