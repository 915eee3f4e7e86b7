-- What a deck gave and took after a call, name by name.
use Rattle.std.proofs.Common.{◌≡◌, List, [], ◌∷◌, ◌++◌, map, ⊎_elim, inr, sym, ap, ◌∙◌, subst}
use Rattle.std.specs.Prelude.{Option, Some, None, IfSome, IfNone}
use Rattle.crossbeam_deque.specs.Handles.{worker_view}
use Rattle.crossbeam_queue.specs.Fifo.{Held}
use Rattle.life_rules.specs.declared.event.Name.{Name}
use Rattle.deck_relay.specs.declared.tokens.Tokens.{Tokens}
use Rattle.deck_relay.specs.declared.thefts.Theft.{Theft}
use Rattle.deck_relay.specs.declared.deck.Deck.{Deck}
use Rattle.deck_relay.specs.Rule.{Stood, giving}
use Rattle.deck_relay.specs.Decks.{theft_view, own_view, queue_view, given_of, taken_of, all_taken, stolen_of}
use Rattle.deck_relay.specs.Steals.{AllMissed, BringsHome, Owner, StealsInTurn}
use Rattle.deck_relay.specs.Moves.{TakesOwn, TakesShared, Takes, FindsNone}
use Rattle.deck_relay.specs.Laws.{AreMore, IsOnceMore, TakesOnce, OwnIsOnce, SharedIsOnce, TakenIsOnce, StolenIsOnce, NothingIsMoved}
use Rattle.deck_relay.proofs.Weights.{in-first, in-second, before, all-behind, all-in-first}
use Rattle.deck_relay.proofs.Rounds.{stolen-once}

once-along : (name : Name) (a b c : List Name) → c ≡ b → IsOnceMore name a b → IsOnceMore name a c
once-along name a b c is once = subst (IsOnceMore name a) (sym is) once

-- the deck's own deque, the shared queue, or a theft changed, and the others stayed
pub own-is-once : OwnIsOnce
own-is-once name old new by =
    record {
      given = once-along name (given_of old) (((own_view old).given ++ name ∷ []) ++ (queue_view old).given) (given_of new)
          (λ i. (by.own i).given ++ (by.queue i).given) (in-first name (own_view old).given (queue_view old).given);
      taken = λ i. ((by.own i).taken ++ (by.queue i).taken) ++ all_taken (by.thefts i);
    }

pub shared-is-once : SharedIsOnce
shared-is-once name old new by =
    record {
      given = once-along name (given_of old) ((own_view old).given ++ ((queue_view old).given ++ name ∷ [])) (given_of new)
          (λ i. (by.own i).given ++ (by.queue i).given) (in-second name (own_view old).given (queue_view old).given);
      taken = λ i. ((by.own i).taken ++ (by.queue i).taken) ++ all_taken (by.thefts i);
    }

module _ (name : Name) (old new : Deck) where
  takes-own : TakesOwn name old new → TakesOnce name old new
  takes-own by =
      record {
        taken = once-along name (taken_of old) ((((own_view old).taken ++ name ∷ []) ++ (queue_view old).taken) ++ stolen_of old.thefts.items) (taken_of new)
            (λ i. ((by.own i).taken ++ (by.queue i).taken) ++ all_taken (by.thefts i))
            (before name ((own_view old).taken ++ (queue_view old).taken) (((own_view old).taken ++ name ∷ []) ++ (queue_view old).taken) (stolen_of old.thefts.items)
            (in-first name (own_view old).taken (queue_view old).taken));
        given = λ i. (by.own i).given ++ (by.queue i).given;
      }

  takes-shared : TakesShared name old new → TakesOnce name old new
  takes-shared by =
      record {
        taken = once-along name (taken_of old) (((own_view old).taken ++ ((queue_view old).taken ++ name ∷ [])) ++ stolen_of old.thefts.items) (taken_of new)
            (λ i. ((by.own i).taken ++ (by.queue i).taken) ++ all_taken (by.thefts i))
            (before name ((own_view old).taken ++ (queue_view old).taken) ((own_view old).taken ++ ((queue_view old).taken ++ name ∷ [])) (stolen_of old.thefts.items)
            (in-second name (own_view old).taken (queue_view old).taken));
        given = λ i. (by.own i).given ++ (by.queue i).given;
      }

pub taken-is-once : TakenIsOnce
taken-is-once name old new by = ⊎_elim (takes-own name old new) (takes-shared name old new) by

-- what moved came to the deck's own deque, and left the other
pub stolen-is-once : StolenIsOnce
stolen-is-once name old new by =
    record {
      taken = subst (AreMore (name ∷ by.more) (taken_of old))
          (sym (λ i. ((by.own i).taken ++ (by.queue i).taken) ++ stolen_of new.thefts.items))
          (all-behind (name ∷ by.more) ((own_view old).taken ++ (queue_view old).taken) (stolen_of old.thefts.items) (stolen_of new.thefts.items)
          (stolen-once old.place old.thefts.items new.thefts.items name by.more by.steals));
      given = subst (AreMore by.more (given_of old)) (sym (λ i. (by.own i).given ++ (by.queue i).given))
          (all-in-first by.more (own_view old).given (queue_view old).given);
    }

pub nothing-is-moved : NothingIsMoved
nothing-is-moved old new by = (
  λ i. (by.own i).given ++ (by.queue i).given,
  λ i. ((by.own i).taken ++ (by.queue i).taken) ++ all_taken (by.thefts i),
)

-- a round found a name
pub finds-some : (r : Option Name) (old new : Deck) (was now : List Theft) (mid is : Owner) → Stood (own_view old) [] → Held 0 (Stood (queue_view old)) →
    worker_view mid ≡ own_view old → own_view new ≡ worker_view is → queue_view new ≡ queue_view old →
    was ≡ old.thefts.items → new.thefts.items ≡ now → IfSome r (BringsHome old.place was now mid is) → IfSome r (λ name. Takes name old new)
finds-some None old new was now mid is empty none own home queue before after stolen = tt
finds-some (Some name) old new was now mid is empty none own home queue before after stolen =
    inr (inr (record {
      own_empty = empty;
      queue_empty = none;
      more = stolen.more;
      own = home ∙ stolen.own ∙ ap (λ (v : Tokens). giving v stolen.more) own;
      queue = queue;
      steals = subst (λ (y : List Theft × List Theft). StealsInTurn old.place y.0 y.1 name stolen.more) (λ j. (before j, sym after j)) stolen.steals;
    }))

-- where a round found none, and the deck's deque and the queue were empty
all-none : (r : Option Name) (A B C D : Type 0) → (A → B → C → D) → IfNone r A → IfNone r B → IfNone r C → IfNone r D
all-none None A B C D f a b c = f a b c
all-none (Some x) A B C D f a b c = tt

abbrev views_of : List Theft → List Tokens
views_of thefts = map theft_view thefts

pub finds-none : (r : Option Name) (old new : Deck) (was now : List Theft) (mid : Owner) → Stood (own_view old) [] → Held 0 (Stood (queue_view old)) →
    worker_view mid ≡ own_view old → queue_view new ≡ queue_view old → was ≡ old.thefts.items → new.thefts.items ≡ now →
    IfNone r (own_view new ≡ worker_view mid) → IfNone r (views_of now ≡ views_of was) → IfNone r (AllMissed old.place was now) → IfNone r (FindsNone old new)
finds-none r old new was now mid empty none own queue before after kept stolen missed =
    all-none r (own_view new ≡ worker_view mid) (views_of now ≡ views_of was) (AllMissed old.place was now) (FindsNone old new)
    (λ home same others. record {
      own = empty;
      queue = none;
      others = subst (λ (y : List Theft × List Theft). AllMissed old.place y.0 y.1) (λ j. (before j, sym after j)) others;
      nothing = record { own = home ∙ own; queue = queue; thefts = ap views_of after ∙ same ∙ ap views_of before };
    }) kept stolen missed
