-- All decks of a relay stay so, whatever is offered, pushed and taken.
use Rattle.std.proofs.Common.{◌≡◌, ℕ, ◌+◌, List, length, set, sum_by, arith, sym, ap, ◌∙◌, subst}
use Rattle.std.specs.Prelude.{slice_get, Some}
use Rattle.std.proofs.Math.ListN.{length-set}
use Rattle.deck_relay.specs.declared.deck.Deck.{Deck}
use Rattle.deck_relay.specs.Decks.{IsSameDeck}
use Rattle.deck_relay.specs.Relays.{IsRow, IsWhole, CameBack}
use Rattle.deck_relay.proofs.Seats.{each-set, sum-set}
use Rattle.deck_relay.proofs.Totals.{queued}

same-sum : (before after was is : ℕ) → after + was ≡ before + is → is ≡ was → after ≡ before
same-sum before after was is sums same = omega (arith, sums, same)

-- a deck that is the same as one of them, in its place
pub back-kept : (decks : List Deck) (place : ℕ) (old new : Deck) → CameBack decks → slice_get decks place ≡ Some old → IsSameDeck old new →
    CameBack (set decks place new)
back-kept decks place old new back at same =
    let hands : length (set decks place new) ≡ length decks = length-set decks place new in
    let was = back.each place old at in
    record {
      marks = back.marks;
      each = subst (λ n. (k : ℕ) (deck : Deck) → slice_get (set decks place new) k ≡ Some deck → IsWhole back.marks n k deck) (sym hands)
          (each-set (IsWhole back.marks (length decks)) (IsWhole back.marks (length decks)) decks place new
          (record {
            own = same.own ∙ was.own;
            queue = same.queue ∙ was.queue;
            seats = subst (IsRow back.marks) (sym same.row) was.seats;
            long = ap length same.row ∙ was.long;
            share = ap (λ s. s + length decks) same.share ∙ was.share;
          })
          (λ k deck apart e. back.each k deck e));
      shares = same-sum (sum_by queued decks) (sum_by queued (set decks place new)) (queued old) (queued new)
          (sum-set queued decks place old new at) same.queued ∙ back.shares;
    }
