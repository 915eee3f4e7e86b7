-- How far a relay is with its thefts: the first columns are whole, and of the next one some decks
-- have theirs.
use Rattle.std.specs.Prelude.{◌≡◌, ℕ, ◌+◌, ◌<◌, ◌≤◌, List, length, map, sum_by, slice_get, Some}
use Rattle.life_rules.specs.declared.event.Name.{Name}
use Rattle.deck_relay.specs.declared.deck.Deck.{Deck}
use Rattle.deck_relay.specs.Decks.{own_view, queue_view, own_deque, row_of, given_of, taken_of}
use Rattle.deck_relay.specs.Relays.{Marks, IsRow}

-- The deck at a place: so many columns are whole, in the next one so many decks have their theft,
-- and so many shares of its deque are lent.
pub record Stands (marks : Marks) (hands columns ahead lent place : ℕ) (deck : Deck) : Type 0 where
  pub own : own_deque deck ≡ marks.deque place
  pub queue : deck.pass.table_id ≡ marks.queue
  pub seats : IsRow marks (row_of deck)
  pub longer : place < ahead → length (row_of deck) ≡ columns + 1
  pub long : ahead ≤ place → length (row_of deck) ≡ columns
  pub whole : place < columns → (own_view deck).share + hands ≡ 32
  pub lends : place ≡ columns → (own_view deck).share + lent ≡ 32
  pub lone : columns < place → (own_view deck).share ≡ 32

-- The decks of a relay.
pub record AreStanding (hands columns ahead : ℕ) (decks : List Deck) : Type 0 where
  pub marks : Marks
  pub count : length decks ≡ hands
  pub each : (k : ℕ) (deck : Deck) → slice_get decks k ≡ Some deck →
      Stands marks hands columns ahead ahead k deck

-- what all names weigh that the decks gave, and that they took
abbrev pub given_by : (Name → ℕ) → List Deck → ℕ
given_by weight decks = sum_by (λ deck. sum_by weight (given_of deck)) decks

abbrev pub taken_by : (Name → ℕ) → List Deck → ℕ
taken_by weight decks = sum_by (λ deck. sum_by weight (taken_of deck)) decks

-- All together they gave and took what they had before, and have the same shares of the queue; each
-- is in its place.
pub record KeepAll (old new : List Deck) : Type 0 where
  pub given : (weight : Name → ℕ) → given_by weight new ≡ given_by weight old
  pub taken : (weight : Name → ℕ) → taken_by weight new ≡ taken_by weight old
  pub shares : sum_by (λ deck. (queue_view deck).share) new
      ≡ sum_by (λ deck. (queue_view deck).share) old
  pub places : map (λ deck. deck.place) new ≡ map (λ deck. deck.place) old
