-- What all decks together gave and took, from step to step.
use Rattle.std.proofs.Common.{◌≡◌, ℕ, ◌+◌, List, [], ◌∷◌, ◌++◌, map, set, sum_by, arith, refl, sym, ap, ◌∙◌, append-nil}
use Rattle.std.specs.Prelude.{slice_get, Some}
use Rattle.std.proofs.lemmas.List.{map-append}
use Rattle.std.proofs.lemmas.List.Sums.{sum_by-append}
use Rattle.life_rules.specs.declared.event.Name.{Name}
use Rattle.deck_relay.specs.declared.tokens.Tokens.{Tokens}
use Rattle.deck_relay.specs.declared.thefts.Theft.{Theft}
use Rattle.deck_relay.specs.declared.deck.Deck.{Deck}
use Rattle.deck_relay.specs.Decks.{theft_view, own_view, queue_view, given_of, taken_of, all_taken, stolen_of}
use Rattle.deck_relay.specs.Lending.{Lends, GetsBack, HasMore}
use Rattle.deck_relay.specs.Columns.{KeepAll}
use Rattle.deck_relay.proofs.Seats.{sum-set, map-same}

abbrev pub queued : Deck → ℕ
queued deck = (queue_view deck).share

abbrev place_of : Deck → ℕ
place_of deck = deck.place

-- what one deck gave and took weighs
pub weight-given : (weight : Name → ℕ) (deck : Deck) →
    sum_by weight (given_of deck) ≡ sum_by weight (own_view deck).given + sum_by weight (queue_view deck).given
weight-given weight deck = sum_by-append weight (own_view deck).given (queue_view deck).given

pub weight-taken : (weight : Name → ℕ) (deck : Deck) →
    sum_by weight (taken_of deck)
    ≡ (sum_by weight (own_view deck).taken + sum_by weight (queue_view deck).taken) + sum_by weight (stolen_of deck.thefts.items)
weight-taken weight deck =
    sum_by-append weight ((own_view deck).taken ++ (queue_view deck).taken) (stolen_of deck.thefts.items)
    ∙ ap (λ n. n + sum_by weight (stolen_of deck.thefts.items)) (sum_by-append weight (own_view deck).taken (queue_view deck).taken)

all-more : (weight : Name → ℕ) (views : List Tokens) (v : Tokens) →
    sum_by weight (all_taken (views ++ v ∷ [])) ≡ sum_by weight (all_taken views) + sum_by weight v.taken
all-more weight [] v =
    let a : sum_by weight (v.taken ++ []) ≡ sum_by weight v.taken = ap (sum_by weight) (append-nil v.taken) in
    omega (arith, a)
all-more weight (x ∷ xs) v =
    let a = sum_by-append weight x.taken (all_taken (xs ++ v ∷ [])) in
    let b = sum_by-append weight x.taken (all_taken xs) in
    let c = all-more weight xs v in
    omega (arith, a, b, c)

pub stolen-more : (weight : Name → ℕ) (theft : Theft) (old new : Deck) → HasMore theft old new →
    sum_by weight (stolen_of new.thefts.items) ≡ sum_by weight (stolen_of old.thefts.items) + sum_by weight (theft_view theft).taken
stolen-more weight theft old new more =
    ap (λ (l : List Theft). sum_by weight (stolen_of l)) more.more
    ∙ ap (λ (l : List Tokens). sum_by weight (all_taken l)) (map-append theft_view old.thefts.items (theft ∷ []))
    ∙ all-more weight (map theft_view old.thefts.items) (theft_view theft)

-- a deck that lends a share gave and took what it had
module _ (old new : Deck) (theft : Theft) (by : Lends theft old new) where
  lends-given : (weight : Name → ℕ) → sum_by weight (given_of new) ≡ sum_by weight (given_of old)
  lends-given weight =
      ap (λ (v : Tokens). sum_by weight (v.given ++ (queue_view new).given)) by.left
      ∙ ap (λ (v : Tokens). sum_by weight ((own_view old).given ++ v.given)) by.still.queued

  lends-taken : (weight : Name → ℕ) → sum_by weight (taken_of new) ≡ sum_by weight (taken_of old)
  lends-taken weight =
      weight-taken weight new
      ∙ ap (λ (v : Tokens). (sum_by weight v.taken + sum_by weight (queue_view new).taken) + sum_by weight (stolen_of new.thefts.items)) by.left
      ∙ ap (λ (v : Tokens). (sum_by weight (own_view old).taken + sum_by weight v.taken) + sum_by weight (stolen_of new.thefts.items)) by.still.queued
      ∙ ap (λ (l : List Theft). (sum_by weight (own_view old).taken + sum_by weight (queue_view old).taken) + sum_by weight (stolen_of l)) by.thefts
      ∙ sym (weight-taken weight old)

more-in-all : (new old own_new own_old queue_new queue_old stolen_new stolen_old moved : ℕ) → new ≡ (own_new + queue_new) + stolen_new →
    old ≡ (own_old + queue_old) + stolen_old → own_new ≡ own_old → queue_new ≡ queue_old → stolen_new ≡ stolen_old + moved → new ≡ old + moved
more-in-all new old own_new own_old queue_new queue_old stolen_new stolen_old moved a b c d e = omega (arith, a, b, c, d, e)

more-of-own : (new old own_new own_old queue_new queue_old stolen_new stolen_old moved : ℕ) → new ≡ (own_new + queue_new) + stolen_new →
    old ≡ (own_old + queue_old) + stolen_old → own_new ≡ own_old + moved → queue_new ≡ queue_old → stolen_new ≡ stolen_old → new ≡ old + moved
more-of-own new old own_new own_old queue_new queue_old stolen_new stolen_old moved a b c d e = omega (arith, a, b, c, d, e)

same-in-all : (new old own_new own_old queue_new queue_old : ℕ) → new ≡ own_new + queue_new → old ≡ own_old + queue_old →
    own_new ≡ own_old → queue_new ≡ queue_old → new ≡ old
same-in-all new old own_new own_old queue_new queue_old a b c d = omega (arith, a, b, c, d)

none-more : (new old moved : ℕ) → new ≡ old + moved → moved ≡ 0 → new ≡ old
none-more new old moved a b = omega (arith, a, b)

-- one that has a theft more took what the theft did
module _ (old new : Deck) (theft : Theft) (by : HasMore theft old new) where
  more-given : (weight : Name → ℕ) → sum_by weight (given_of new) ≡ sum_by weight (given_of old)
  more-given weight =
      ap (λ (v : Tokens). sum_by weight (v.given ++ (queue_view new).given)) by.own
      ∙ ap (λ (v : Tokens). sum_by weight ((own_view old).given ++ v.given)) by.still.queued

  more-taken : (weight : Name → ℕ) →
      sum_by weight (taken_of new) ≡ sum_by weight (taken_of old) + sum_by weight (theft_view theft).taken
  more-taken weight =
      more-in-all (sum_by weight (taken_of new)) (sum_by weight (taken_of old)) (sum_by weight (own_view new).taken) (sum_by weight (own_view old).taken)
      (sum_by weight (queue_view new).taken) (sum_by weight (queue_view old).taken) (sum_by weight (stolen_of new.thefts.items)) (sum_by weight (stolen_of old.thefts.items))
      (sum_by weight (theft_view theft).taken) (weight-taken weight new) (weight-taken weight old)
      (ap (λ (v : Tokens). sum_by weight v.taken) by.own) (ap (λ (v : Tokens). sum_by weight v.taken) by.still.queued) (stolen-more weight theft old new by)

-- and one that gets a theft back took what that had, and gave what it had
module _ (old new : Deck) (theft : Theft) (by : GetsBack theft old new) where
  back-given : (weight : Name → ℕ) → sum_by weight (given_of new) ≡ sum_by weight (given_of old)
  back-given weight =
      same-in-all (sum_by weight (given_of new)) (sum_by weight (given_of old)) (sum_by weight (own_view new).given) (sum_by weight (own_view old).given)
      (sum_by weight (queue_view new).given) (sum_by weight (queue_view old).given) (weight-given weight new) (weight-given weight old)
      (ap (λ (v : Tokens). sum_by weight v.given) by.back
      ∙ ap (λ (l : List Name). sum_by weight ((own_view old).given ++ l)) theft.bare
      ∙ ap (sum_by weight) (append-nil (own_view old).given))
      (ap (λ (v : Tokens). sum_by weight v.given) by.still.queued)

  back-taken : (weight : Name → ℕ) →
      sum_by weight (taken_of new) ≡ sum_by weight (taken_of old) + sum_by weight (theft_view theft).taken
  back-taken weight =
      more-of-own (sum_by weight (taken_of new)) (sum_by weight (taken_of old)) (sum_by weight (own_view new).taken) (sum_by weight (own_view old).taken)
      (sum_by weight (queue_view new).taken) (sum_by weight (queue_view old).taken) (sum_by weight (stolen_of new.thefts.items)) (sum_by weight (stolen_of old.thefts.items))
      (sum_by weight (theft_view theft).taken) (weight-taken weight new) (weight-taken weight old)
      (ap (λ (v : Tokens). sum_by weight v.taken) by.back ∙ sum_by-append weight (own_view old).taken (theft_view theft).taken)
      (ap (λ (v : Tokens). sum_by weight v.taken) by.still.queued) (ap (λ (l : List Theft). sum_by weight (stolen_of l)) by.thefts)

pub keep-same : (decks : List Deck) → KeepAll decks decks
keep-same decks = record { given = λ weight. refl; taken = λ weight. refl; shares = refl; places = refl }

pub keep-on : (a b c : List Deck) → KeepAll a b → KeepAll b c → KeepAll a c
keep-on a b c first second =
    record {
      given = λ weight. second.given weight ∙ first.given weight;
      taken = λ weight. second.taken weight ∙ first.taken weight;
      shares = second.shares ∙ first.shares;
      places = second.places ∙ first.places;
    }

-- numbers of a list where one is changed
same-sum : (before after was is : ℕ) → after + was ≡ before + is → is ≡ was → after ≡ before
same-sum before after was is sums same = omega (arith, sums, same)

-- and then another, one by as much more as the other by less
moved-sum : (first second third was less had more moved : ℕ) → second + was ≡ first + less → third + had ≡ second + more →
    was ≡ less + moved → more ≡ had + moved → third ≡ first
moved-sum first second third was less had more moved one two out back = omega (arith, one, two, out, back)

module _ (decks : List Deck) (here there : ℕ) where
  -- one deck lends, and another has the theft
  pub adds : (lender lent taker new : Deck) (theft : Theft) → slice_get decks here ≡ Some lender → Lends theft lender lent →
      slice_get (set decks here lent) there ≡ Some taker → HasMore theft taker new →
      KeepAll decks (set (set decks here lent) there new)
  adds lender lent taker new theft at by at-taker more =
      let none : (weight : Name → ℕ) → sum_by weight (taken_of new) ≡ sum_by weight (taken_of taker) =
      λ weight. none-more (sum_by weight (taken_of new)) (sum_by weight (taken_of taker)) (sum_by weight (theft_view theft).taken)
      (more-taken taker new theft more weight) (ap (λ (v : Tokens). sum_by weight v.taken) by.lent) in
      let once : (f : Deck → ℕ) → f lent ≡ f lender → f new ≡ f taker → sum_by f (set (set decks here lent) there new) ≡ sum_by f decks =
      λ f one two. same-sum (sum_by f (set decks here lent)) (sum_by f (set (set decks here lent) there new)) (f taker) (f new)
      (sum-set f (set decks here lent) there taker new at-taker) two
      ∙ same-sum (sum_by f decks) (sum_by f (set decks here lent)) (f lender) (f lent) (sum-set f decks here lender lent at) one in
      record {
        given = λ weight. once (λ deck. sum_by weight (given_of deck)) (lends-given lender lent theft by weight) (more-given taker new theft more weight);
        taken = λ weight. once (λ deck. sum_by weight (taken_of deck)) (lends-taken lender lent theft by weight) (none weight);
        shares = once queued (ap (λ (v : Tokens). v.share) by.still.queued) (ap (λ (v : Tokens). v.share) more.still.queued);
        places = map-same place_of (set decks here lent) there taker new at-taker more.still.place
            ∙ map-same place_of decks here lender lent at by.still.place;
      }

  -- one deck gives a theft up, and it comes back to another
  pub takes : (giver gave owner new : Deck) (theft : Theft) → slice_get decks here ≡ Some giver → HasMore theft gave giver →
      slice_get (set decks here gave) there ≡ Some owner → GetsBack theft owner new →
      KeepAll decks (set (set decks here gave) there new)
  takes giver gave owner new theft at more at-owner by =
      let once : (f : Deck → ℕ) → f gave ≡ f giver → f new ≡ f owner → sum_by f (set (set decks here gave) there new) ≡ sum_by f decks =
      λ f one two. same-sum (sum_by f (set decks here gave)) (sum_by f (set (set decks here gave) there new)) (f owner) (f new)
      (sum-set f (set decks here gave) there owner new at-owner) two
      ∙ same-sum (sum_by f decks) (sum_by f (set decks here gave)) (f giver) (f gave) (sum-set f decks here giver gave at) one in
      record {
        given = λ weight. once (λ deck. sum_by weight (given_of deck)) (sym (more-given gave giver theft more weight)) (back-given owner new theft by weight);
        taken = λ weight.
            let f : Deck → ℕ = λ deck. sum_by weight (taken_of deck) in
            moved-sum (sum_by f decks) (sum_by f (set decks here gave)) (sum_by f (set (set decks here gave) there new))
            (f giver) (f gave) (f owner) (f new) (sum_by weight (theft_view theft).taken)
            (sum-set f decks here giver gave at) (sum-set f (set decks here gave) there owner new at-owner)
            (more-taken gave giver theft more weight) (back-taken owner new theft by weight);
        shares = once queued (sym (ap (λ (v : Tokens). v.share) more.still.queued)) (ap (λ (v : Tokens). v.share) by.still.queued);
        places = map-same place_of (set decks here gave) there owner new at-owner by.still.place
            ∙ map-same place_of decks here giver gave at (sym more.still.place);
      }
