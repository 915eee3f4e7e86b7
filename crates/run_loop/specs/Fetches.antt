-- What a loop takes of its hand's deck, and what it is told of.
use Rattle.std.specs.Prelude.{◌≡◌, ◌≢◌, ◌≤◌, ◌⊎◌, Bool, true, false, [], ◌∷◌, ◌++◌, Option, Some, None, ⊤, vec_capacity, vec_len}
use Rattle.life_rules.specs.declared.event.Name.{Name}
use Rattle.node_tree.specs.declared.context.Context.{Context}
use Rattle.node_tree.specs.declared.context.Context.TheVariants.{Loop, Pool}
use Rattle.deck_relay.specs.declared.deck.Deck.{Deck}
use Rattle.deck_relay.specs.Moves.{FindsNone, HandsBack, IsOwnFull, Pushes, Takes}
use Rattle.run_loop.specs.declared.loop_mail.LoopMail.{LoopMail}

-- The name left the deck, where there is one.
abbrev pub TakesOf : Name → Option Deck → Option Deck → Type 0
TakesOf name (Some old) (Some new) = Takes name old new
TakesOf name (Some old) None = ⊥
TakesOf name None new = ⊥

-- No name was found in it, or there is none.
abbrev pub FindsNoneOf : Option Deck → Option Deck → Type 0
FindsNoneOf (Some old) (Some new) = FindsNone old new
FindsNoneOf (Some old) None = ⊥
FindsNoneOf None (Some new) = ⊥
FindsNoneOf None None = ⊤

-- A name left the deck, and went to the back of the list.
pub record FetchesOne (old new : LoopMail) : Type 0 where
  pub name : Name
  pub takes : TakesOf name old.deck new.deck
  pub list : new.list.items ≡ old.list.items ++ name ∷ []
  pub root : new.root ≡ old.root

-- The list is as it was. No name was found in the deck, or the list is full and the deck is as it
-- was.
pub record FetchesNone (old new : LoopMail) : Type 0 where
  pub list : new.list.items ≡ old.list.items
  pub root : new.root ≡ old.root
  pub cause : FindsNoneOf old.deck new.deck
      ⊎ ((vec_capacity old.list ≤ vec_len old.list) × (new.deck ≡ old.deck))

-- The list was empty, and a name went there, or none did; or it had names, and nothing was done.
abbrev pub Fetches : LoopMail → LoopMail → Type 0
Fetches old new =
    ((old.list.items ≡ []) × (FetchesOne old new ⊎ FetchesNone old new))
    ⊎ ((old.list.items ≢ []) × (new ≡ old))

-- So it was where the loop helps the pool; else nothing was done.
abbrev pub FetchesWhere : Bool → LoopMail → LoopMail → Type 0
FetchesWhere true old new = Fetches old new
FetchesWhere false old new = new ≡ old

-- The name went to the back of the list; or it is of a root, or the list is full, and the list is
-- as it was.
abbrev pub IsNameListed : Name → LoopMail → LoopMail → Type 0
IsNameListed name old new =
    (new.list.items ≡ old.list.items ++ name ∷ [])
    ⊎ ((new.list.items ≡ old.list.items)
    × ((name.node ≡ old.root) ⊎ (vec_capacity old.list ≤ vec_len old.list)))

-- The name came into the deck, or came back from it.
abbrev pub IsPushed : Name → Deck → Deck → Type 0
IsPushed name old new =
    Pushes name old new ⊎ ((back : Name) × HandsBack name old new back × IsOwnFull old)

-- The list is as it was, and the name was pushed to the deck; or there is none, and it was listed.
abbrev pub IsShared : Name → LoopMail → LoopMail → Option Deck → Option Deck → Type 0
IsShared name old new (Some deck) (Some deck') =
    (new.list ≡ old.list) × IsPushed name deck deck'
IsShared name old new (Some deck) None = ⊥
IsShared name old new None (Some deck') = ⊥
IsShared name old new None None = IsNameListed name old new

-- What is ready in the loop was listed. What is ready in the pool was pushed to the deck, where
-- there is one.
abbrev pub GoesTo : Name → Context → LoopMail → LoopMail → Type 0
GoesTo name Loop old new = (new.deck ≡ old.deck) × IsNameListed name old new
GoesTo name Pool old new = IsShared name old new old.deck new.deck

-- So the name went there. Which node is of roots stays.
pub record HearsName (name : Name) (on : Context) (old new : LoopMail) : Type 0 where
  pub root : new.root ≡ old.root
  pub goes : GoesTo name on old new
