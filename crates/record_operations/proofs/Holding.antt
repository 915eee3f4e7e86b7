-- A deck and a post stay the same where nothing happens, and through one call after the other.
use Rattle.std.proofs.Common.{◌≡◌, refl, sym, ◌∙◌, subst}
use Rattle.std.specs.Prelude.{Option, Some, None, is_some}
use Rattle.deck_relay.specs.declared.deck.Deck.{Deck}
use Rattle.deck_relay.specs.declared.desk.Desk.{Desk}
use Rattle.deck_relay.specs.Desks.{KeepsOwn, deck_in, post_in}
use Rattle.deck_relay.specs.SameDecks.{KeepsDeck, keeps-here, keeps-on}
use Rattle.loop_queue.specs.declared.post.LoopPost.{LoopPost}
use Rattle.record_operations.specs.Owns.{KeepsPost, KeepsBoth}

pub post-here : (post : Option LoopPost) → KeepsPost post post
post-here (Some post) = record { number = refl; queue = refl; share = refl }
post-here None = tt

post-on : (first second third : Option LoopPost) → KeepsPost first second → KeepsPost second third → KeepsPost first third
post-on (Some first) (Some second) (Some third) one next =
    record { number = next.number ∙ one.number; queue = next.queue ∙ one.queue; share = next.share ∙ one.share }
post-on (Some first) (Some second) None one next = absurd next
post-on (Some first) None third one next = absurd one
post-on None (Some second) third one next = absurd one
post-on None None (Some third) one next = absurd next
post-on None None None one next = tt

module _ (deck : Option Deck) (post : Option LoopPost) where
  pub both-here : KeepsBoth deck post deck post
  both-here = record { same_deck = keeps-here deck; same_post = post-here post }

  -- those with which a run is opened
  pub both-are : (deck' : Option Deck) (post' : Option LoopPost) → deck ≡ deck' → post ≡ post' → KeepsBoth deck post deck' post'
  both-are deck' post' same same' =
      record { same_deck = subst (KeepsDeck deck) same (keeps-here deck); same_post = subst (KeepsPost post) same' (post-here post) }

  module _ (deck' : Option Deck) (post' : Option LoopPost) (kept : KeepsBoth deck post deck' post') where
    pub both-on : (deck'' : Option Deck) (post'' : Option LoopPost) → KeepsBoth deck' post' deck'' post'' → KeepsBoth deck post deck'' post''
    both-on deck'' post'' next =
        record { same_deck = keeps-on deck deck' deck'' kept.same_deck next.same_deck; same_post = post-on post post' post'' kept.same_post next.same_post }

    -- and where only the deck was used
    pub deck-on : (deck'' : Option Deck) → KeepsDeck deck' deck'' → KeepsBoth deck post deck'' post'
    deck-on deck'' next = record { same_deck = keeps-on deck deck' deck'' kept.same_deck next; same_post = kept.same_post }

-- Both are there, or neither.
pub both-together : (desk : Option Desk) (deck : Option Deck) (post : Option LoopPost) → KeepsBoth (deck_in desk) (post_in desk) deck post →
    is_some deck ≡ is_some post
both-together (Some desk) (Some deck) (Some post) both = refl
both-together (Some desk) (Some deck) None both = absurd both.same_post
both-together (Some desk) None post both = absurd both.same_deck
both-together None (Some deck) post both = absurd both.same_deck
both-together None None (Some post) both = absurd both.same_post
both-together None None None both = refl

-- and they are the same desk
desk-kept : (desk back : Option Desk) → KeepsBoth (deck_in desk) (post_in desk) (deck_in back) (post_in back) → KeepsOwn desk back
desk-kept (Some desk) (Some back) both = record { deck = both.same_deck; post = both.same_post }
desk-kept (Some desk) None both = absurd both.same_deck
desk-kept None (Some back) both = absurd both.same_deck
desk-kept None None both = tt

pub both-desk : (desk : Option Desk) (deck : Option Deck) (post : Option LoopPost) (back : Option Desk) → deck_in back ≡ deck → post_in back ≡ post →
    KeepsBoth (deck_in desk) (post_in desk) deck post → KeepsOwn desk back
both-desk desk deck post back is is' both =
    desk-kept desk back
    (subst (λ (t : Option Deck × Option LoopPost). KeepsBoth (deck_in desk) (post_in desk) t.0 t.1) (λ j. (sym is j, sym is' j)) both)
