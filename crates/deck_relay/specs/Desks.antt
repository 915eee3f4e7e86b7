-- What stays of a hand's desk, whatever names come and go.
use Rattle.std.specs.Prelude.{◌≡◌, Option, Some, None, ⊤}
use Rattle.std.specs.Option.{option_map}
use Rattle.std.proofs.Common.{refl, ◌∙◌}
use Rattle.deck_relay.specs.declared.deck.Deck.{Deck}
use Rattle.deck_relay.specs.Decks.{IsSameDeck}
use Rattle.deck_relay.specs.SameDecks.{deck-here, deck-on}
use Rattle.loop_queue.specs.declared.post.LoopPost.{LoopPost}
use Rattle.loop_queue.specs.Posts.{IsSamePost, drained_of}
use Rattle.deck_relay.specs.declared.desk.Desk.{Desk}

-- It has the same deck and the same post.
pub record IsSameDesk (old new : Desk) : Type 0 where
  pub deck : IsSameDeck old.deck new.deck
  pub post : IsSamePost old.post new.post

-- So does a worker leave it: it posts, and drains nothing through the post.
pub record OnlyPosts (old new : Desk) : Type 0 where
  pub same : IsSameDesk old new
  pub undrained : drained_of new.post ≡ drained_of old.post

-- A desk is left so, where there is one. Where there is none, none comes.
abbrev pub KeepsBy : (Desk → Desk → Type 0) → Option Desk → Option Desk → Type 0
KeepsBy Same (Some old) (Some new) = Same old new
KeepsBy Same (Some old) None = ⊥
KeepsBy Same None (Some new) = ⊥
KeepsBy Same None None = ⊤

-- A worker's desk is kept so, and hand 0's, which may drain.
abbrev pub KeepsDesk : Option Desk → Option Desk → Type 0
KeepsDesk = KeepsBy OnlyPosts

abbrev pub KeepsOwn : Option Desk → Option Desk → Type 0
KeepsOwn = KeepsBy IsSameDesk

-- Its deck and its post, where there is one.
abbrev pub deck_in : Option Desk → Option Deck
deck_in = option_map (λ (d : Desk). d.deck)

abbrev pub post_in : Option Desk → Option LoopPost
post_in = option_map (λ (d : Desk). d.post)

pub post-here : (post : LoopPost) → IsSamePost post post
post-here post = record { number = refl; queue = refl; share = refl }

pub post-on : (first second third : LoopPost) → IsSamePost first second → IsSamePost second third →
    IsSamePost first third
post-on first second third one next =
    record {
      number = next.number ∙ one.number;
      queue = next.queue ∙ one.queue;
      share = next.share ∙ one.share;
    }

pub same-here : (desk : Desk) → IsSameDesk desk desk
same-here desk = record { deck = deck-here desk.deck; post = post-here desk.post }

pub same-on : (first second third : Desk) → IsSameDesk first second → IsSameDesk second third →
    IsSameDesk first third
same-on first second third one next =
    record {
      deck = deck-on first.deck second.deck third.deck one.deck next.deck;
      post = post-on first.post second.post third.post one.post next.post;
    }

pub posts-here : (desk : Desk) → OnlyPosts desk desk
posts-here desk = record { same = same-here desk; undrained = refl }

pub posts-on : (first second third : Desk) → OnlyPosts first second → OnlyPosts second third →
    OnlyPosts first third
posts-on first second third one next =
    record {
      same = same-on first second third one.same next.same;
      undrained = next.undrained ∙ one.undrained;
    }

-- it stays where no name comes, and where names come after others
pub desk-here : (desk : Option Desk) → KeepsDesk desk desk
desk-here (Some desk) = posts-here desk
desk-here None = tt

pub desk-on : (first second third : Option Desk) → KeepsDesk first second →
    KeepsDesk second third → KeepsDesk first third
desk-on (Some first) (Some second) (Some third) one next = posts-on first second third one next
desk-on (Some first) (Some second) None one next = absurd next
desk-on (Some first) None third one next = absurd one
desk-on None (Some second) third one next = absurd one
desk-on None None (Some third) one next = absurd next
desk-on None None None one next = tt
