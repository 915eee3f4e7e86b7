-- What a round of steals does.
use Rattle.std.specs.Prelude.{◌≡◌, ◌≢◌, ℕ, ◌<◌, ◌⊎◌, List, [], ◌∷◌, length, map, slice_get, slice_set, Some}
use Rattle.std.specs.declared.alloc.Global.{Global}
use Rattle.crossbeam_deque.specs.Handles.{taken, worker_deque, worker_flavor, worker_view}
use Rattle.crossbeam_deque.specs.declared.handles.Worker.{Worker}
use Rattle.life_rules.specs.declared.event.Name.{Name}
use Rattle.deck_relay.specs.declared.tokens.Tokens.{Tokens}
use Rattle.deck_relay.specs.declared.deques.Even.{Even}
use Rattle.deck_relay.specs.declared.thefts.Theft.{Theft}
use Rattle.deck_relay.specs.declared.stealing.TheConstants.{MOST_STOLEN}
use Rattle.deck_relay.specs.Rule.{giving, taking, Stood}
use Rattle.deck_relay.specs.Decks.{theft_view}

-- the owner's side of a deque
abbrev pub Owner : Type 0
Owner = Worker Name Global Tokens Even

-- It is the owner of the same deque, with the same share of it.
pub record IsSameOwner (old new : Owner) : Type 0 where
  pub deque : worker_deque new ≡ worker_deque old
  pub flavor : worker_flavor new ≡ worker_flavor old
  pub share : (worker_view new).share ≡ (worker_view old).share

-- The theft took the name and these more, in this order, at most `MOST_STOLEN` together. These more
-- came in at the back of the thief's own deque.
pub record Steals (old new : Theft) (was is : Owner) (name : Name) : Type 0 where
  pub more : List Name
  pub few : length more < MOST_STOLEN
  pub took : theft_view new ≡ taking (theft_view old) (name ∷ more)
  pub own : worker_view is ≡ giving (worker_view was) more

-- A steal found none: its deque was empty at a step of the call, or a name left it first.
abbrev pub Missed : Theft → Theft → Type 0
Missed old new = Stood (theft_view old) [] ⊎ (taken old.pass < taken new.pass)

-- So did the steal from each deque below this place, but the one that is passed over.
abbrev pub MissedBelow : ℕ → ℕ → List Theft → List Theft → Type 0
MissedBelow below passed old new = (k : ℕ) (before after : Theft) → k < below → k ≢ passed →
    slice_get old k ≡ Some before → slice_get new k ≡ Some after → Missed before after

-- And so did the steal from each deque but that one.
abbrev pub AllMissed : ℕ → List Theft → List Theft → Type 0
AllMissed passed old new = (k : ℕ) (before after : Theft) → k ≢ passed →
    slice_get old k ≡ Some before → slice_get new k ≡ Some after → Missed before after

-- The name and these more were stolen, in this order, at most `MOST_STOLEN` together. They were in
-- another deque than the one that is passed over, and the steal from each deque before it missed.
-- No other theft took anything.
pub record StealsInTurn (passed : ℕ) (old new : List Theft) (name : Name) (more : List Name)
    : Type 0 where
  pub few : length more < MOST_STOLEN
  pub from : ℕ
  pub other : from ≢ passed
  pub theft : Theft
  pub there : slice_get old from ≡ Some theft
  pub views : map theft_view new
      ≡ slice_set (map theft_view old) from (taking (theft_view theft) (name ∷ more))
  pub before : MissedBelow from passed old new

-- So they were, and these more came in at the back of the thief's own deque.
pub record BringsHome (passed : ℕ) (old new : List Theft) (was is : Owner) (name : Name)
    : Type 0 where
  pub more : List Name
  pub steals : StealsInTurn passed old new name more
  pub own : worker_view is ≡ giving (worker_view was) more
