use Rattle.std.proofs.Common.{◌≡◌, List, length, inl, inr, refl, sym, ap, ◌∙◌}
use Rattle.std.proofs.lemmas.List.{length-map, with_items_is}
use Rattle.deck_relay.specs.declared.thefts.Theft.{Theft}
use Rattle.deck_relay.specs.Decks.{theft_deque}
use Rattle.deck_relay.proofs.Balances.{takes, finds, fetches, stands}
use Rattle.deck_relay.proofs.Effects.{finds-some, finds-none}
use Rattle.deck_relay.proofs.deck.Deck.take.Goals as goal

pub pop_as-requires-clause-fifo : goal.pop_as-requires-clause-fifo
pop_as-requires-clause-fifo g c = λ _. takes 1 _ _ c.args.self.now.part

pub pop_as-requires-clause-empty : goal.pop_as-requires-clause-empty
pop_as-requires-clause-empty g c = finds _ _

pub pop_as-requires-2-clause-rule : goal.pop_as-requires-2-clause-rule
pop_as-requires-2-clause-rule g c = (fetches _ _ c.args.self.now.queued, stands _ _)

pub returns-in-Some-clause-taken : goal.returns-in-Some-clause-taken
returns-in-Some-clause-taken g c = inl (record { own = c.in-Some.ensures.rule; queue = refl; thefts = refl })

pub returns-in-Some-pop_as-clause-taken : goal.returns-in-Some-pop_as-clause-taken
returns-in-Some-pop_as-clause-taken g c =
    inr (inl (record {
      own_empty = c.in-None.ensures.rule.1;
      own = c.in-None.ensures.rule.0;
      queue = c.in-Some-pop_as.ensures.rule;
      thefts = refl;
    }))

pub returns-clause-taken : goal.returns-clause-taken
returns-clause-taken g c =
    let deck = c.args.self.now in
    let was : List Theft = c.as_mut_slice.result.now in
    let now : List Theft = c.steal_round.new.thefts in
    let long : length now ≡ deck.thefts.len =
    sym (length-map now theft_deque) ∙ ap length c.steal_round.ensures.deques ∙ length-map was theft_deque ∙ c.as_mut_slice.ensures.len in
    finds-some c.steal_round.result deck _ was now c.pop_as.new.self c.steal_round.new.own c.in-None.ensures.rule.1
    c.in-None-pop_as.ensures.rule.1 c.in-None.ensures.rule.0 refl c.in-None-pop_as.ensures.rule.0
    c.as_mut_slice.ensures.value (with_items_is deck.thefts now long) c.steal_round.ensures.stolen

pub returns-clause-none : goal.returns-clause-none
returns-clause-none g c =
    let deck = c.args.self.now in
    let was : List Theft = c.as_mut_slice.result.now in
    let now : List Theft = c.steal_round.new.thefts in
    let long : length now ≡ deck.thefts.len =
    sym (length-map now theft_deque) ∙ ap length c.steal_round.ensures.deques ∙ length-map was theft_deque ∙ c.as_mut_slice.ensures.len in
    finds-none c.steal_round.result deck _ was now c.pop_as.new.self c.in-None.ensures.rule.1 c.in-None-pop_as.ensures.rule.1
    c.in-None.ensures.rule.0 c.in-None-pop_as.ensures.rule.0 c.as_mut_slice.ensures.value (with_items_is deck.thefts now long)
    c.steal_round.ensures.kept c.steal_round.ensures.same c.steal_round.ensures.missed
