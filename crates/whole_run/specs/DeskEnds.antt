-- What is known of desks that were closed.
use Rattle.std.specs.Prelude.{◌≡◌, ℕ, List, ◌++◌, length, map, slice_get, Some}
use Rattle.deck_relay.specs.declared.deck.Deck.{Deck}
use Rattle.deck_relay.specs.Relays.{TakenAndLeft}
use Rattle.loop_queue.specs.declared.entry.Entry.{Entry}
use Rattle.loop_queue.specs.declared.post.LoopPost.{LoopPost}
use Rattle.loop_queue.specs.Law.{ComeAndGoInOrder}
use Rattle.loop_queue.specs.Posts.{drained_of, posted_of}
use Rattle.loop_queue.specs.Rule.{of_post}
use Rattle.deck_relay.specs.declared.desk.Desk.{Desk}

-- the decks of desks, and their posts, each in its place
abbrev pub decks_of : List Desk → List Deck
decks_of desks = map (λ (desk : Desk). desk.deck) desks

abbrev pub posts_of : List Desk → List LoopPost
posts_of desks = map (λ (desk : Desk). desk.post) desks

-- How many names were left in decks, and how many entries in the queue of posts; and the desks, as
-- they came back.
pub record ClosedDesks : Type 0 where
  pub names : ℕ
  pub entries : ℕ
  pub desks : List Desk

-- Each name was taken and is left, together, exactly as often as it was offered or pushed. What was
-- drained and then what is left is, of each post, what it posted, in order and each once, where all
-- draining went through one post.
pub record ClosedSo (end : ClosedDesks) : Type 0 where
  pub decks : TakenAndLeft end.names (decks_of end.desks)
  pub posts : ComeAndGoInOrder end.entries (posts_of end.desks)

-- So many entries are left. What was drained through the post at this place, and then what is left,
-- is of each post what it posted, in order and each once.
pub record GoInOrder (place lefts : ℕ) (posts : List LoopPost) : Type 0 where
  pub left : List Entry
  pub count : length left ≡ lefts
  pub order : (drainer : LoopPost) → slice_get posts place ≡ Some drainer →
      (k : ℕ) (post : LoopPost) → slice_get posts k ≡ Some post →
      posted_of post ≡ of_post post.number (drained_of drainer ++ left)
