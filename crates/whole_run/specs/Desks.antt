-- The desks of a run, and what they are closed with.
use Rattle.std.specs.Prelude.{◌≡◌, ◌⊎◌, ◌<◌, ◌≤◌, ℕ, ◌+◌, List, [], length, slice_get, Option, Some, None, vec_capacity}
use Rattle.std.specs.Arc.{arc_value}
use Rattle.deck_relay.specs.Relays.{CameBack as AreAllDecks, TakenAndLeft}
use Rattle.loop_queue.specs.Posts.{CameBack as AreAllPosts, drained_of}
use Rattle.run_workers.specs.Crews.{AreLeft}
use Rattle.deck_relay.specs.declared.desk.Desk.{Desk}
use Rattle.deck_relay.specs.Desks.{IsSameDesk}
use Rattle.whole_run.specs.DeskEnds.{ClosedSo, GoInOrder, decks_of, posts_of}
use Rattle.whole_run.specs.declared.desks.DeskEnd.{DeskEnd}
use Rattle.whole_run.specs.declared.desks.DeskRoom.{DeskRoom}
use Rattle.whole_run.specs.declared.desks.TheConstants.{MOST_DESKS}

-- These are all desks of a run with this room: their decks are all decks of a relay, and their
-- posts all posts of its queue. The room is empty, and enough for them.
pub record AreDesksOf (room : DeskRoom) (desks : List Desk) : Type 0 where
  pub all_decks : AreAllDecks (decks_of desks)
  pub all_posts : AreAllPosts (arc_value room.queue) (posts_of desks)
  pub no_deck : room.decks.items ≡ []
  pub no_post : room.posts.items ≡ []
  pub decks_fit : length desks ≤ vec_capacity room.decks
  pub posts_fit : length desks ≤ vec_capacity room.posts

-- So they are where there is a room. Where there is none, there are no desks.
abbrev pub CanClose : Option DeskRoom → List Desk → Type 0
CanClose (Some room) desks = AreDesksOf room desks
CanClose None desks = desks ≡ []

-- With so many workers a run has no desks: without workers, and with more than may have desks.
abbrev pub HasNoDesks : ℕ → Type 0
HasNoDesks workers = (workers ≡ 0) ⊎ (MOST_DESKS < workers)

-- With others it has a desk for each, and last one for hand 0. Nothing was drained through a post.
pub record AreFreshDesks (workers : ℕ) (desks : List Desk) : Type 0 where
  pub count : length desks ≡ workers + 1
  pub undrained : (k : ℕ) (desk : Desk) → slice_get desks k ≡ Some desk → drained_of desk.post ≡ []

abbrev pub HasDesks : ℕ → Option DeskRoom → List Desk → Type 0
HasDesks workers (Some room) desks = AreFreshDesks workers desks
HasDesks workers None desks = HasNoDesks workers

-- Nothing was drained through their posts but that of the last, hand 0's.
abbrev pub LastDrains : List Desk → List Desk → Type 0
LastDrains old new = (k : ℕ) (before after : Desk) → k + 1 < length old →
    slice_get old k ≡ Some before → slice_get new k ≡ Some after →
    drained_of after.post ≡ drained_of before.post

-- So they come back from a run, each the same in its place.
pub record ComeBack (old new : List Desk) : Type 0 where
  pub same : AreLeft IsSameDesk old new
  pub last : LastDrains old new

-- These desks were closed, and the laws hold.
pub record ClosesAll (desks : List Desk) (end : DeskEnd) : Type 0 where
  pub all : end.desks ≡ desks
  pub so : ClosedSo end

-- So they were, where there is a room.
abbrev pub Closes : Option DeskRoom → List Desk → Option DeskEnd → Type 0
Closes (Some room) desks (Some end) = ClosesAll desks end
Closes (Some room) desks None = ⊥
Closes None desks (Some end) = ⊥
Closes None desks None = Unit {0}

-- The desks of so many workers, and that of hand 0, were closed. Both laws hold of them: that of
-- the decks, and that of the posts, of which hand 0's alone was drained through.
pub record AllClosed (workers : ℕ) (end : DeskEnd) : Type 0 where
  pub count : length end.desks ≡ workers + 1
  pub decks : TakenAndLeft end.names (decks_of end.desks)
  pub posts : GoInOrder workers end.entries (posts_of end.desks)

-- So they were; or there were none.
abbrev pub AreClosedFor : ℕ → Option DeskEnd → Type 0
AreClosedFor workers (Some end) = AllClosed workers end
AreClosedFor workers None = HasNoDesks workers
