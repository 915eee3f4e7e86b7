-- What stays of a deck, whatever names come and go.
use Rattle.std.specs.Prelude.{Option, Some, None, ⊤}
use Rattle.std.proofs.Common.{refl, ◌∙◌}
use Rattle.deck_relay.specs.declared.deck.Deck.{Deck}
use Rattle.deck_relay.specs.Decks.{IsSameDeck}

-- It is the same deck where there is one. Where there is none, none comes.
abbrev pub KeepsDeck : Option Deck → Option Deck → Type 0
KeepsDeck (Some old) (Some new) = IsSameDeck old new
KeepsDeck (Some old) None = ⊥
KeepsDeck None (Some new) = ⊥
KeepsDeck None None = ⊤

pub deck-here : (deck : Deck) → IsSameDeck deck deck
deck-here deck = record {
  place = refl;
  own = refl;
  share = refl;
  row = refl;
  queue = refl;
  queued = refl;
}

pub deck-on : (first second third : Deck) → IsSameDeck first second → IsSameDeck second third →
    IsSameDeck first third
deck-on first second third one next =
    record {
      place = next.place ∙ one.place;
      own = next.own ∙ one.own;
      share = next.share ∙ one.share;
      row = next.row ∙ one.row;
      queue = next.queue ∙ one.queue;
      queued = next.queued ∙ one.queued;
    }

-- it stays where no name comes, and where names come after others
pub keeps-here : (deck : Option Deck) → KeepsDeck deck deck
keeps-here (Some deck) = deck-here deck
keeps-here None = tt

pub keeps-on : (first second third : Option Deck) → KeepsDeck first second →
    KeepsDeck second third → KeepsDeck first third
keeps-on (Some first) (Some second) (Some third) one next = deck-on first second third one next
keeps-on (Some first) (Some second) None one next = absurd next
keeps-on (Some first) None third one next = absurd one
keeps-on None (Some second) third one next = absurd one
keeps-on None None (Some third) one next = absurd next
keeps-on None None None one next = tt
