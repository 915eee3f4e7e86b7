-- A step of a column, by what the indices read.
use Rattle.std.proofs.Common.{◌≡◌, ℕ, ◌+◌, ◌<◌, ◌≤◌, List, length, get_or, set, arith}
use Rattle.std.specs.Prelude.{slice_get, Some}
use Rattle.std.proofs.Math.ListN.{length-set}
use Rattle.deck_relay.specs.declared.thefts.Theft.{Theft}
use Rattle.deck_relay.specs.declared.deck.Deck.{Deck}
use Rattle.deck_relay.specs.Decks.{theft_deque, own_view, own_deque}
use Rattle.deck_relay.specs.Lending.{Lends, GetsBack, HasMore}
use Rattle.deck_relay.specs.Columns.{AreStanding, KeepAll}
use Rattle.deck_relay.proofs.Seats.{there}
use Rattle.deck_relay.proofs.Stands as stands
use Rattle.deck_relay.proofs.Totals as totals

longer-still : (k n m : ℕ) → k < n → m ≡ n → k < m
longer-still k n m near same = omega (arith, near, same)

some-of : (share : ℕ) → 1 < share → 0 < share
some-of share more = omega (arith, more)

there-after : (decks : List Deck) (i k : ℕ) (new x : Deck) → k < length decks → x ≡ get_or (set decks i new) k x →
    slice_get (set decks i new) k ≡ Some x
there-after decks i k new x near e =
    there (set decks i new) k x (longer-still k (length decks) (length (set decks i new)) near (length-set decks i new)) e

module _ (orig decks : List Deck) (column : ℕ) (long : length decks ≡ length orig) (keep : KeepAll orig decks) where
  pub shares : (thief : ℕ) (lender : Deck) → AreStanding (length orig) column thief decks → column < length decks →
      lender ≡ get_or decks column lender → thief < length orig → length orig ≤ 17 → 1 < (own_view lender).share
  shares thief lender is near at before few =
      stands.has-shares (length orig) column thief decks lender is (there decks column lender near at) before few

  pub add-stands : (thief : ℕ) (lender lent taker new : Deck) (theft : Theft) → AreStanding (length orig) column thief decks →
      column < length decks → lender ≡ get_or decks column lender → Lends theft lender lent → 1 < (own_view lender).share →
      thief < length decks → taker ≡ get_or (set decks column lent) thief taker → HasMore theft taker new →
      AreStanding (length orig) column (thief + 1) (set (set decks column lent) thief new)
  add-stands thief lender lent taker new theft is near at by some there-too at-taker more =
      stands.adds (length orig) column thief decks lender lent taker new theft is (there decks column lender near at) by (some-of (own_view lender).share some)
      (there-after decks column thief lent taker there-too at-taker) more

  pub add-keeps : (thief : ℕ) (lender lent taker new : Deck) (theft : Theft) →
      column < length decks → lender ≡ get_or decks column lender → Lends theft lender lent →
      thief < length decks → taker ≡ get_or (set decks column lent) thief taker → HasMore theft taker new →
      KeepAll orig (set (set decks column lent) thief new)
  add-keeps thief lender lent taker new theft near at by there-too at-taker more =
      totals.keep-on orig decks (set (set decks column lent) thief new) keep
      (totals.adds decks column thief lender lent taker new theft (there decks column lender near at) by
      (there-after decks column thief lent taker there-too at-taker) more)

  module _ (ahead : ℕ) (giver gave owner new : Deck) (theft : Theft) (is : AreStanding (length orig) column (ahead + 1) decks)
      (near : ahead < length decks) (at : giver ≡ get_or decks ahead giver) (more : HasMore theft gave giver)
      (there-too : column < length decks) (at-owner : owner ≡ get_or (set decks ahead gave) column owner) where
    pub comes-home : theft_deque theft ≡ own_deque owner
    comes-home =
        stands.comes-home (length orig) column ahead decks giver gave owner theft is (there decks ahead giver near at) more
        (there-after decks ahead column gave owner there-too at-owner)

    pub take-stands : GetsBack theft owner new → AreStanding (length orig) column ahead (set (set decks ahead gave) column new)
    take-stands by =
        stands.takes (length orig) column ahead decks giver gave owner new theft is (there decks ahead giver near at) more
        (there-after decks ahead column gave owner there-too at-owner) by

    pub take-keeps : GetsBack theft owner new → KeepAll orig (set (set decks ahead gave) column new)
    take-keeps by =
        totals.keep-on orig decks (set (set decks ahead gave) column new) keep
        (totals.takes decks ahead column giver gave owner new theft (there decks ahead giver near at) more
        (there-after decks ahead column gave owner there-too at-owner) by)
