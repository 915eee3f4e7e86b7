-- Which decks make a relay, and its law.
use Rattle.std.specs.Prelude.{◌≡◌, ℕ, ◌+◌, ◌-◌, ◌^◌, List, [], length, min, sum_by, count_by, slice_get, Some}
use Rattle.atomic_blocks.specs.Lent.{RowsId}
use Rattle.atomic_table.specs.Seated.{TableId}
use Rattle.std.specs.declared.alloc.Global.{Global}
use Rattle.life_rules.specs.declared.event.Name.{Name}
use Rattle.life_rules.specs.Views.{same}
use Rattle.deck_relay.specs.declared.deck.Deck.{Deck}
use Rattle.deck_relay.specs.Decks.{own_view, queue_view, own_deque, row_of, given_of, taken_of}

-- the deques of a relay by their places, and its queue
pub record Marks : Type 0 where
  pub deque : ℕ → RowsId × Global
  pub queue : TableId

-- Each deque of the row is the one at its place.
abbrev pub IsRow : Marks → List (RowsId × Global) → Type 0
IsRow marks row = (k : ℕ) (deque : RowsId × Global) →
    slice_get row k ≡ Some deque → deque ≡ marks.deque k

-- The deck at a place of a relay of so many: it steals from each deque, in their order, and has the
-- shares of its own deque but one for each deck.
pub record IsWhole (marks : Marks) (hands place : ℕ) (deck : Deck) : Type 0 where
  pub own : own_deque deck ≡ marks.deque place
  pub queue : deck.pass.table_id ≡ marks.queue
  pub seats : IsRow marks (row_of deck)
  pub long : length (row_of deck) ≡ hands
  pub share : (own_view deck).share + hands ≡ 32

-- All decks of a relay came back, each in its place, and they have all shares of its queue.
pub record CameBack (decks : List Deck) : Type 0 where
  pub marks : Marks
  pub each : (k : ℕ) (deck : Deck) → slice_get decks k ≡ Some deck →
      IsWhole marks (length decks) k deck
  pub shares : sum_by (λ deck. (queue_view deck).share) decks ≡ 32

-- It is the deck of this place, and gave and took no name.
pub record IsNew (at : ℕ) (deck : Deck) : Type 0 where
  pub place : deck.place ≡ at
  pub given : given_of deck ≡ []
  pub taken : taken_of deck ≡ []

-- The decks with which a relay opens: so many, and each is new.
pub record AreOpened (opened : ℕ) (decks : List Deck) : Type 0 where
  pub count : length decks ≡ opened
  pub new : (k : ℕ) (deck : Deck) → slice_get decks k ≡ Some deck → IsNew k deck
  pub all : CameBack decks

-- how often the name stands in the list
abbrev pub times : Name → List Name → ℕ
times name names = count_by (λ other. same name other) names

-- So many names are left, as far as the number counts; and each name was taken and is left,
-- together, exactly as often as it was offered or pushed.
pub record TakenAndLeft (count : ℕ) (decks : List Deck) : Type 0 where
  pub left : List Name
  pub lefts : count ≡ min (length left) (2 ^ 32 - 1)
  pub law : (name : Name) →
      sum_by (λ deck. times name (given_of deck)) decks
      ≡ sum_by (λ deck. times name (taken_of deck)) decks + times name left
