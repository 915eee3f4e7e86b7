use Rattle.std.proofs.Common.{◌≡◌, ◌+◌, ◌-◌, List, length, arith, sym, ap, ◌∙◌, subst, refl}
use Rattle.std.specs.Arc.{arc_value}
use Rattle.crossbeam_queue.specs.Passes.{Pass, IsPassOf}
use Rattle.life_rules.specs.declared.event.Name.{Name}
use Rattle.deck_relay.specs.declared.tokens.Tokens.{Tokens}
use Rattle.deck_relay.specs.declared.queues.Shared.{Shared}
use Rattle.deck_relay.specs.declared.deck.Deck.{Deck}
use Rattle.deck_relay.specs.Columns.{AreStanding}
use Rattle.deck_relay.proofs.Balances.{merges, tells}
use Rattle.deck_relay.proofs.Totals.{keep-same, keep-on}
use Rattle.deck_relay.proofs.Settles.{queue_of, IsAlone, begins, all-alone, some-there, sits, joins, last-too, starts, goes-on, has-all, settles}
use Rattle.deck_relay.proofs.relay.Relay.close.Goals as goal

pub columns-init : goal.columns-init
columns-init g c =
    let decks : List Deck = c.args.decks.items in
    let all : length decks ≡ c.len-column.result = omega arith in
    record {
      long = refl;
      most = omega arith;
      stand = subst (λ k. AreStanding (length decks) k 0 decks) all (begins decks c.requires.all);
      keep = keep-same decks;
    }

pub take_column-requires-clause-stand : goal.take_column-requires-clause-stand
take_column-requires-clause-stand g c =
    let is = c.columns.invariant in
    let decks : List Deck = c.columns.decks.items in
    let next : c.columns.column ≡ (c.columns.column - 1) + 1 = omega arith in
    subst (λ hands. AreStanding hands ((c.columns.column - 1) + 1) 0 decks) (sym is.long)
    (subst (λ k. AreStanding (length c.args.decks.items) k 0 decks) next is.stand)

pub columns-preserved : goal.columns-preserved
columns-preserved g c =
    let is = c.columns.invariant in
    let now : List Deck = c.take_column.new.decks.items in
    record {
      long = c.take_column.ensures.stand.count ∙ is.long;
      most = omega arith;
      stand = subst (λ hands. AreStanding hands (c.columns.column - 1) 0 now) is.long c.take_column.ensures.stand;
      keep = keep-on c.args.decks.items c.columns.decks.items now is.keep c.take_column.ensures.keep;
    }

pub unreachable-requires : goal.unreachable-requires
unreachable-requires g c =
    let is = c.columns.invariant in
    let all = all-alone c.args.decks.items c.columns.decks.items c.columns.column (omega arith) c.requires.all is.keep is.stand in
    some-there c.columns.decks.items all (omega (arith, c.in_default.ensures.cases, c.columns.decks.ok.0))

pub count-requires : goal.count-requires
count-requires g c =
    let is = c.columns.invariant in
    let all = all-alone c.args.decks.items c.columns.decks.items c.columns.column (omega arith) c.requires.all is.keep is.stand in
    (last-too c.columns.decks.items c.pop.new.self.items c.in-Some.last c.in-Some.ensures.items (λ deck. IsAlone all.of deck) all.each).share

pub loop-deck-init : goal.loop-deck-init
loop-deck-init g c =
    let is = c.columns.invariant in
    let all = all-alone c.args.decks.items c.columns.decks.items c.columns.column (omega arith) c.requires.all is.keep is.stand in
    let parts = c.into_parts-queue in
    let of : Shared = arc_value parts.result.0 in
    let seated : IsPassOf of.line parts.result.1 =
    sits (arc_value c.count.new.self.queue) of c.count.new.self.pass parts.result.1 (ap (λ q. arc_value q) parts.ensures.queue) parts.ensures.pass
    c.count.new.self.seated in
    starts c.args.decks.items c.columns.decks.items c.pop.new.self.items c.in-Some.last c.count.new.self c.count.result c.counted-left.result
    of parts.result.1 is.keep all c.in-Some.ensures.items c.count.ensures seated parts.ensures.pass c.counted-left.ensures

pub count-requires-in-Some-pop : goal.count-requires-in-Some-pop
count-requires-in-Some-pop g c =
    let of : Shared = arc_value c.into_parts-queue.result.0 in
    (last-too c.loop-deck.decks.items c.pop-in-loop-deck.new.self.items c.in-Some-pop.deck c.in-Some-pop.ensures.items
    (λ deck. IsAlone (queue_of of) deck) c.loop-deck.invariant.each).share

pub absorb-requires-clause-queue : goal.absorb-requires-clause-queue
absorb-requires-clause-queue g c =
    let of : Shared = arc_value c.into_parts-queue.result.0 in
    let pass : Pass Name Tokens = c.into_parts-same.result.1 in
    let lone = last-too c.loop-deck.decks.items c.pop-in-loop-deck.new.self.items c.in-Some-pop.deck c.in-Some-pop.ensures.items
    (λ deck. IsAlone (queue_of of) deck) c.loop-deck.invariant.each in
    let other : IsPassOf of.line pass =
    joins of c.in-Some-pop.deck c.count-in-Some-pop.new.self c.count-in-Some-pop.result pass lone c.count-in-Some-pop.ensures c.into_parts-same.ensures.pass in
    let whole : IsPassOf of.line c.loop-deck.whole = c.loop-deck.invariant.seated in
    subst (λ (q : Shared). IsPassOf q.line c.loop-deck.whole × IsPassOf q.line pass) (sym c.deref.ensures) (whole, other)

pub absorb-requires-clause-rule : goal.absorb-requires-clause-rule
absorb-requires-clause-rule g c = merges _ _ _ _

pub loop-deck-preserved : goal.loop-deck-preserved
loop-deck-preserved g c =
    goes-on c.args.decks.items c.loop-deck.decks.items c.pop-in-loop-deck.new.self.items c.in-Some-pop.deck c.count-in-Some-pop.new.self
    c.count-in-Some-pop.result c.loop-deck.left c.counted-left-in-Some-pop.result (arc_value c.into_parts-queue.result.0) c.loop-deck.whole
    c.absorb.new.pass c.into_parts-same.result.1 c.loop-deck.invariant c.in-Some-pop.ensures.items c.count-in-Some-pop.ensures
    c.into_parts-same.ensures.pass c.absorb.ensures.queue c.absorb.ensures.rule c.counted-left-in-Some-pop.ensures

pub len_as-requires-clause-rule : goal.len_as-requires-clause-rule
len_as-requires-clause-rule g c =
    let none : length c.loop-deck.decks.items ≡ 0 = omega (arith, c.in_default-pop.ensures.cases, c.loop-deck.decks.ok.0) in
    tells _ _ (has-all c.args.decks.items c.loop-deck.decks.items (arc_value c.into_parts-queue.result.0) c.loop-deck.whole c.loop-deck.left
    c.loop-deck.invariant none)

pub returns : goal.returns
returns g c =
    let none : length c.loop-deck.decks.items ≡ 0 = omega (arith, c.in_default-pop.ensures.cases, c.loop-deck.decks.ok.0) in
    let held = c.len_as.ensures.rule.1 in
    record {
      law = settles c.args.decks.items c.loop-deck.decks.items (arc_value c.into_parts-queue.result.0) c.loop-deck.whole c.loop-deck.left
          c.len_as.result c.counted.result held.0 c.loop-deck.invariant none held.1 held.2 c.counted.ensures;
    }
