-- How far a relay is with its thefts, from step to step.
use Rattle.std.proofs.Common.{◌≡◌, ◌≢◌, ℕ, ◌+◌, ◌-◌, ◌<◌, ◌≤◌, List, [], ◌∷◌, ◌++◌, length, map, set, ⊎_elim, arith, refl, sym, ap, ◌∙◌, subst, length-append}
use Rattle.std.specs.Prelude.{slice_get, Some}
use Rattle.std.proofs.Math.ListN.{length-set}
use Rattle.std.proofs.lemmas.List.{map-append}
use Rattle.std.proofs.lemmas.Bool.{cases_eq}
use Rattle.atomic_blocks.specs.Lent.{RowsId}
use Rattle.std.specs.declared.alloc.Global.{Global}
use Rattle.deck_relay.specs.declared.tokens.Tokens.{Tokens}
use Rattle.deck_relay.specs.declared.thefts.Theft.{Theft}
use Rattle.deck_relay.specs.declared.deck.Deck.{Deck}
use Rattle.deck_relay.specs.Decks.{theft_deque, own_view, own_deque, row_of}
use Rattle.deck_relay.specs.Relays.{Marks, IsRow}
use Rattle.deck_relay.specs.Lending.{Lends, GetsBack, HasMore}
use Rattle.deck_relay.specs.Columns.{Stands, AreStanding}
use Rattle.deck_relay.proofs.Seats.{at-last, in-first, in-last, each-set, within}

-- numbers, apart from the records that they stand in
add-one-less : (share hands lent : ℕ) → 0 < share → share + lent ≡ 32 → (share - 1) + (lent + 1) ≡ 32
add-one-less share hands lent some all = omega (arith, some, all)

less-one-more : (share lent : ℕ) → share + (lent + 1) ≡ 32 → (share + 1) + lent ≡ 32
less-one-more share lent all = omega (arith, all)

no-less-than-itself : (a b : ℕ) → a ≡ b → a < b → ⊥
no-less-than-itself a b same less = omega (arith, same, less)

before-or-at : (a b : ℕ) → a < b + 1 → a ≢ b → a < b
before-or-at a b less apart = omega (arith, less, apart)

behind-or-at : (a b : ℕ) → b ≤ a → a ≢ b → b + 1 ≤ a
behind-or-at a b more apart = omega (arith, more, apart)

sooner : (a b : ℕ) → a < b → a < b + 1
sooner a b less = omega (arith, less)

later : (a b : ℕ) → b + 1 ≤ a → b ≤ a
later a b more = omega (arith, more)

pub at-least : (a b : ℕ) → a ≡ b → b ≤ a
at-least a b same = omega (arith, same)

at-most : (a b : ℕ) → a ≡ b → a < b + 1
at-most a b same = omega (arith, same)

never-past : (a b : ℕ) → a ≡ b → b + 1 ≤ a → ⊥
never-past a b same more = omega (arith, same, more)

none-and-one : (a b : ℕ) → a ≡ b + 1 → a ≡ 0 → ⊥
none-and-one a b more none = omega (arith, more, none)

enough : (share ahead hands : ℕ) → share + ahead ≡ 32 → ahead < hands → hands ≤ 17 → 1 < share
enough share ahead hands all near few = omega (arith, all, near, few)

one-less : (a b : ℕ) → a + 1 ≡ b + 1 → a ≡ b
one-less a b same = omega (arith, same)

pub never-below : (k : ℕ) → k < 0 → ⊥
never-below k less = omega (arith, less)

pub above : (k : ℕ) → 0 ≤ k
above k = omega arith

past-it : (k columns : ℕ) → k ≡ columns + 1 → columns < k
past-it k columns same = omega (arith, same)

past-next : (k columns : ℕ) → columns + 1 < k → columns < k
past-next k columns more = omega (arith, more)

next-or-past : (k columns : ℕ) → columns < k → k ≢ columns + 1 → columns + 1 < k
next-or-past k columns more apart = omega (arith, more, apart)

pub never-both : (k hands : ℕ) → k < hands → hands ≤ k → ⊥
never-both k hands near far = omega (arith, near, far)

pub and-none : (share : ℕ) → share ≡ 32 → share + 0 ≡ 32
and-none share all = omega (arith, all)

but-none : (share : ℕ) → share + 0 ≡ 32 → share ≡ 32
but-none share all = omega (arith, all)

pub in-hands : (k count hands : ℕ) → k < count → count ≡ hands → k < hands
in-hands k count hands near same = omega (arith, near, same)

-- rows
longer-row : (row : List (RowsId × Global)) (deque : RowsId × Global) → length (row ++ deque ∷ []) ≡ length row + 1
longer-row row deque = length-append row (deque ∷ [])

row-more : (marks : Marks) (row : List (RowsId × Global)) (deque : RowsId × Global) → IsRow marks row → deque ≡ marks.deque (length row) →
    IsRow marks (row ++ deque ∷ [])
row-more marks row deque is next k other e =
    ⊎_elim (λ t. sym t.1 ∙ next ∙ ap marks.deque (sym t.0)) (λ t. is k other t) (at-last row deque other k e)

row-less : (marks : Marks) (row : List (RowsId × Global)) (deque : RowsId × Global) → IsRow marks (row ++ deque ∷ []) → IsRow marks row
row-less marks row deque is k other e = is k other (in-first row (deque ∷ []) k other e)

pub row-last : (marks : Marks) (row : List (RowsId × Global)) (deque : RowsId × Global) → IsRow marks (row ++ deque ∷ []) →
    deque ≡ marks.deque (length row)
row-last marks row deque is = is (length row) deque (in-last row deque)

pub row-is : (theft : Theft) (old new : Deck) → HasMore theft old new → row_of new ≡ row_of old ++ theft_deque theft ∷ []
row-is theft old new more =
    ap (map theft_deque) more.more ∙ map-append theft_deque old.thefts.items (theft ∷ [])

module _ (marks : Marks) (hands columns ahead lent : ℕ) where
  -- the deck whose deque it is lends a share
  lends : (old new : Deck) (theft : Theft) → Stands marks hands columns ahead lent columns old → Lends theft old new →
      0 < (own_view old).share → Stands marks hands columns ahead (lent + 1) columns new
  lends old new theft is by some =
      let row : row_of new ≡ row_of old = ap (map theft_deque) by.thefts in
      let share : (own_view new).share ≡ (own_view old).share - 1 = ap (λ (v : Tokens). v.share) by.left in
      record {
        own = by.still.own ∙ is.own;
        queue = by.still.queue ∙ is.queue;
        seats = subst (IsRow marks) (sym row) is.seats;
        longer = λ near. ap length row ∙ is.longer near;
        long = λ far. ap length row ∙ is.long far;
        whole = λ less. absurd (no-less-than-itself columns columns refl less);
        lends = λ same. ap (λ s. s + (lent + 1)) share ∙ add-one-less (own_view old).share hands lent some (is.lends refl);
        lone = λ less. absurd (no-less-than-itself columns columns refl less);
      }

  -- and it gets one back
  returns : (old new : Deck) (theft : Theft) → Stands marks hands columns ahead (lent + 1) columns old → GetsBack theft old new →
      Stands marks hands columns ahead lent columns new
  returns old new theft is by =
      let row : row_of new ≡ row_of old = ap (map theft_deque) by.thefts in
      let share : (own_view new).share ≡ (own_view old).share + 1 = ap (λ (v : Tokens). v.share) by.back ∙ ap (λ s. (own_view old).share + s) theft.part in
      record {
        own = by.still.own ∙ is.own;
        queue = by.still.queue ∙ is.queue;
        seats = subst (IsRow marks) (sym row) is.seats;
        longer = λ near. ap length row ∙ is.longer near;
        long = λ far. ap length row ∙ is.long far;
        whole = λ less. absurd (no-less-than-itself columns columns refl less);
        lends = λ same. ap (λ s. s + lent) share ∙ less-one-more (own_view old).share lent (is.lends refl);
        lone = λ less. absurd (no-less-than-itself columns columns refl less);
      }

  -- the others don't see it
  lends-else : (more k : ℕ) (deck : Deck) → k ≢ columns → Stands marks hands columns ahead lent k deck → Stands marks hands columns ahead more k deck
  lends-else more k deck apart is =
      record {
        own = is.own;
        queue = is.queue;
        seats = is.seats;
        longer = is.longer;
        long = is.long;
        whole = is.whole;
        lends = λ same. absurd (apart same);
        lone = is.lone;
      }

  -- the next deck has its theft
  keeps : (old new : Deck) (theft : Theft) → Stands marks hands columns ahead lent ahead old → HasMore theft old new →
      theft_deque theft ≡ marks.deque columns → Stands marks hands columns (ahead + 1) lent ahead new
  keeps old new theft is by of =
      let row : row_of new ≡ row_of old ++ theft_deque theft ∷ [] = row-is theft old new by in
      let long : length (row_of old) ≡ columns = is.long (at-least ahead ahead refl) in
      let share : (own_view new).share ≡ (own_view old).share = ap (λ (v : Tokens). v.share) by.own in
      record {
        own = by.still.own ∙ is.own;
        queue = by.still.queue ∙ is.queue;
        seats = subst (IsRow marks) (sym row)
            (row-more marks (row_of old) (theft_deque theft) is.seats (of ∙ ap marks.deque (sym long)));
        longer = λ near. ap length row ∙ longer-row (row_of old) (theft_deque theft) ∙ ap (λ n. n + 1) long;
        long = λ far. absurd (never-past ahead ahead refl far);
        whole = λ less. ap (λ s. s + hands) share ∙ is.whole less;
        lends = λ same. ap (λ s. s + lent) share ∙ is.lends same;
        lone = λ less. share ∙ is.lone less;
      }

  keeps-else : (k : ℕ) (deck : Deck) → k ≢ ahead → Stands marks hands columns ahead lent k deck → Stands marks hands columns (ahead + 1) lent k deck
  keeps-else k deck apart is =
      record {
        own = is.own;
        queue = is.queue;
        seats = is.seats;
        longer = λ near. is.longer (before-or-at k ahead near apart);
        long = λ far. is.long (later k ahead far);
        whole = is.whole;
        lends = is.lends;
        lone = is.lone;
      }

  -- or the last deck that has one gives it up
  gives-up : (old new : Deck) (theft : Theft) → Stands marks hands columns (ahead + 1) lent ahead old → HasMore theft new old →
      Stands marks hands columns ahead lent ahead new
  gives-up old new theft is by =
      let row : row_of old ≡ row_of new ++ theft_deque theft ∷ [] = row-is theft new old by in
      let long : length (row_of new) + 1 ≡ columns + 1 =
      sym (longer-row (row_of new) (theft_deque theft)) ∙ sym (ap length row) ∙ is.longer (at-most ahead ahead refl) in
      let share : (own_view new).share ≡ (own_view old).share = sym (ap (λ (v : Tokens). v.share) by.own) in
      record {
        own = sym by.still.own ∙ is.own;
        queue = sym by.still.queue ∙ is.queue;
        seats = row-less marks (row_of new) (theft_deque theft) (subst (IsRow marks) row is.seats);
        longer = λ near. absurd (no-less-than-itself ahead ahead refl near);
        long = λ far. one-less (length (row_of new)) columns long;
        whole = λ less. ap (λ s. s + hands) share ∙ is.whole less;
        lends = λ same. ap (λ s. s + lent) share ∙ is.lends same;
        lone = λ less. share ∙ is.lone less;
      }

  gives-up-else : (k : ℕ) (deck : Deck) → k ≢ ahead → Stands marks hands columns (ahead + 1) lent k deck → Stands marks hands columns ahead lent k deck
  gives-up-else k deck apart is =
      record {
        own = is.own;
        queue = is.queue;
        seats = is.seats;
        longer = λ near. is.longer (sooner k ahead near);
        long = λ far. is.long (behind-or-at k ahead far apart);
        whole = is.whole;
        lends = is.lends;
        lone = is.lone;
      }

-- the theft that is given up is one of the column's deque
pub given-up-is : (marks : Marks) (hands columns ahead lent : ℕ) (old new : Deck) (theft : Theft) →
    Stands marks hands columns (ahead + 1) lent ahead old → HasMore theft new old → theft_deque theft ≡ marks.deque columns
given-up-is marks hands columns ahead lent old new theft is by =
    let row : row_of old ≡ row_of new ++ theft_deque theft ∷ [] = row-is theft new old by in
    let long : length (row_of new) + 1 ≡ columns + 1 =
    sym (longer-row (row_of new) (theft_deque theft)) ∙ sym (ap length row) ∙ is.longer (at-most ahead ahead refl) in
    row-last marks (row_of new) (theft_deque theft) (subst (IsRow marks) row is.seats) ∙ ap marks.deque (one-less (length (row_of new)) columns long)

module _ (hands columns ahead : ℕ) (decks : List Deck) where
  -- one deck lends, and the next one has its theft
  pub adds : (lender lent taker new : Deck) (theft : Theft) → AreStanding hands columns ahead decks → slice_get decks columns ≡ Some lender →
      Lends theft lender lent → 0 < (own_view lender).share → slice_get (set decks columns lent) ahead ≡ Some taker → HasMore theft taker new →
      AreStanding hands columns (ahead + 1) (set (set decks columns lent) ahead new)
  adds lender lent taker new theft is at-lender by some at-taker more =
      let F : ℕ → ℕ → ℕ → Deck → Type 0 = λ a b. Stands is.marks hands columns a b in
      let one = each-set (F ahead ahead) (F ahead (ahead + 1)) decks columns lent
      (lends is.marks hands columns ahead ahead lender lent theft (is.each columns lender at-lender) by some)
      (λ k deck apart e. lends-else is.marks hands columns ahead ahead (ahead + 1) k deck apart (is.each k deck e)) in
      record {
        marks = is.marks;
        count = length-set (set decks columns lent) ahead new ∙ length-set decks columns lent ∙ is.count;
        each = each-set (F ahead (ahead + 1)) (F (ahead + 1) (ahead + 1)) (set decks columns lent) ahead new
            (keeps is.marks hands columns ahead (ahead + 1) taker new theft (one ahead taker at-taker) more
            (by.of ∙ (is.each columns lender at-lender).own))
            (λ k deck apart e. keeps-else is.marks hands columns ahead (ahead + 1) k deck apart (one k deck e));
      }

  -- the last deck that has one gives its theft up, and it comes back
  pub takes : (giver gave owner new : Deck) (theft : Theft) → AreStanding hands columns (ahead + 1) decks → slice_get decks ahead ≡ Some giver →
      HasMore theft gave giver → slice_get (set decks ahead gave) columns ≡ Some owner → GetsBack theft owner new →
      AreStanding hands columns ahead (set (set decks ahead gave) columns new)
  takes giver gave owner new theft is at-giver more at-owner by =
      let F : ℕ → ℕ → ℕ → Deck → Type 0 = λ a b. Stands is.marks hands columns a b in
      let one = each-set (F (ahead + 1) (ahead + 1)) (F ahead (ahead + 1)) decks ahead gave
      (gives-up is.marks hands columns ahead (ahead + 1) giver gave theft (is.each ahead giver at-giver) more)
      (λ k deck apart e. gives-up-else is.marks hands columns ahead (ahead + 1) k deck apart (is.each k deck e)) in
      record {
        marks = is.marks;
        count = length-set (set decks ahead gave) columns new ∙ length-set decks ahead gave ∙ is.count;
        each = each-set (F ahead (ahead + 1)) (F ahead ahead) (set decks ahead gave) columns new
            (returns is.marks hands columns ahead ahead owner new theft (one columns owner at-owner) by)
            (λ k deck apart e. lends-else is.marks hands columns ahead (ahead + 1) ahead k deck apart (one k deck e));
      }

  -- the deque that gets a theft back is the one that it steals from
  pub comes-home : (giver gave owner : Deck) (theft : Theft) → AreStanding hands columns (ahead + 1) decks → slice_get decks ahead ≡ Some giver →
      HasMore theft gave giver → slice_get (set decks ahead gave) columns ≡ Some owner → theft_deque theft ≡ own_deque owner
  comes-home giver gave owner theft is at-giver more at-owner =
      let F : ℕ → ℕ → ℕ → Deck → Type 0 = λ a b. Stands is.marks hands columns a b in
      let one = each-set (F (ahead + 1) (ahead + 1)) (F ahead (ahead + 1)) decks ahead gave
      (gives-up is.marks hands columns ahead (ahead + 1) giver gave theft (is.each ahead giver at-giver) more)
      (λ k deck apart e. gives-up-else is.marks hands columns ahead (ahead + 1) k deck apart (is.each k deck e)) in
      given-up-is is.marks hands columns ahead (ahead + 1) giver gave theft (is.each ahead giver at-giver) more
      ∙ sym (one columns owner at-owner).own

  -- one that has its theft has one to give up
  pub has-one : (giver : Deck) → AreStanding hands columns (ahead + 1) decks → slice_get decks ahead ≡ Some giver → giver.thefts.items ≡ [] → ⊥
  has-one giver is at none =
      let long : length (row_of giver) ≡ columns + 1 = (is.each ahead giver at).longer (at-most ahead ahead refl) in
      let nothing : length (row_of giver) ≡ 0 = ap (λ (l : List Theft). length (map theft_deque l)) none in
      none-and-one (length (row_of giver)) columns long nothing

  -- the owner of the next column's deque has shares to lend
  pub has-shares : (lender : Deck) → AreStanding hands columns ahead decks → slice_get decks columns ≡ Some lender → ahead < hands → hands ≤ 17 →
      1 < (own_view lender).share
  has-shares lender is at near few =
      enough (own_view lender).share ahead hands ((is.each columns lender at).lends refl) near few

module _ (marks : Marks) (hands columns k : ℕ) (deck : Deck) where
  roll-one : Stands marks hands columns hands hands k deck → k < hands → Stands marks hands (columns + 1) 0 0 k deck
  roll-one s near =
      record {
        own = s.own;
        queue = s.queue;
        seats = s.seats;
        longer = λ less. absurd (never-below k less);
        long = λ far. s.longer near;
        whole = λ less. ⊎_elim (λ same. s.lends same) (λ apart. s.whole (before-or-at k columns less apart)) (cases_eq k columns);
        lends = λ same. and-none (own_view deck).share (s.lone (past-it k columns same));
        lone = λ more. s.lone (past-next k columns more);
      }

  unroll-one : Stands marks hands (columns + 1) 0 0 k deck → k < hands → Stands marks hands columns hands hands k deck
  unroll-one s near =
      record {
        own = s.own;
        queue = s.queue;
        seats = s.seats;
        longer = λ less. s.long (above k);
        long = λ far. absurd (never-both k hands near far);
        whole = λ less. s.whole (sooner k columns less);
        lends = λ same. s.whole (at-most k columns same);
        lone = λ more. ⊎_elim (λ same. but-none (own_view deck).share (s.lends same))
            (λ apart. s.lone (next-or-past k columns more apart)) (cases_eq k (columns + 1));
      }

module _ (hands columns : ℕ) (decks : List Deck) where
  -- a column is whole where all decks have their thefts
  pub rolls : AreStanding hands columns hands decks → AreStanding hands (columns + 1) 0 decks
  rolls is =
      record {
        marks = is.marks;
        count = is.count;
        each = λ k deck e. roll-one is.marks hands columns k deck (is.each k deck e) (in-hands k (length decks) hands (within decks k deck e) is.count);
      }

  pub unrolls : AreStanding hands (columns + 1) 0 decks → AreStanding hands columns hands decks
  unrolls is =
      record {
        marks = is.marks;
        count = is.count;
        each = λ k deck e. unroll-one is.marks hands columns k deck (is.each k deck e) (in-hands k (length decks) hands (within decks k deck e) is.count);
      }
