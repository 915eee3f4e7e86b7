-- What hand 0 has beside its hand, which stays the same whatever names come and go.
use Rattle.std.specs.Prelude.{Option, Some, None, ⊤}
use Rattle.deck_relay.specs.declared.deck.Deck.{Deck}
use Rattle.deck_relay.specs.SameDecks.{KeepsDeck}
use Rattle.loop_queue.specs.declared.post.LoopPost.{LoopPost}
use Rattle.loop_queue.specs.Posts.{IsSamePost}

-- It is the same post, where there is one. Where there is none, none comes.
abbrev pub KeepsPost : Option LoopPost → Option LoopPost → Type 0
KeepsPost (Some old) (Some new) = IsSamePost old new
KeepsPost (Some old) None = ⊥
KeepsPost None (Some new) = ⊥
KeepsPost None None = ⊤

-- So it is with the deck and the post.
pub record KeepsBoth (deck : Option Deck) (post : Option LoopPost) (deck' : Option Deck)
    (post' : Option LoopPost) : Type 0 where
  pub same_deck : KeepsDeck deck deck'
  pub same_post : KeepsPost post post'
