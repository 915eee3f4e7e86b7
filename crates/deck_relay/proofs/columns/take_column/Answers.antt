use Rattle.std.proofs.Common.{◌≡◌, ◌+◌, ◌-◌, ℕ, List, length, set, arith, refl, ◌∙◌, subst}
use Rattle.std.proofs.Math.ListN.{length-set}
use Rattle.deck_relay.specs.declared.deck.Deck.{Deck}
use Rattle.deck_relay.specs.Columns.{AreStanding}
use Rattle.deck_relay.proofs.Stands.{unrolls, has-one}
use Rattle.deck_relay.proofs.Seats.{there}
use Rattle.deck_relay.proofs.Totals.{keep-same}
use Rattle.deck_relay.proofs.Steps.{comes-home, take-stands, take-keeps}
use Rattle.deck_relay.proofs.columns.take_column.Goals as goal

pub back-init : goal.back-init
back-init c =
    let n : ℕ = length c.args.decks.now.items in
    let all : n ≡ c.len-ahead.result = omega arith in
    record {
      long = refl;
      most = omega arith;
      stand = subst (λ k. AreStanding n c.args.column k c.args.decks.now.items) all
          (unrolls n c.args.column c.args.decks.now.items c.requires.stand);
      keep = keep-same c.args.decks.now.items;
    }

-- the invariant before the step, where one deck more has its theft
before : (hands column ahead less : ℕ) (decks : List Deck) → ahead ≡ less + 1 → AreStanding hands column ahead decks → AreStanding hands column (less + 1) decks
before hands column ahead less decks same is = subst (λ k. AreStanding hands column k decks) same is

pub unreachable-requires : goal.unreachable-requires
unreachable-requires c =
    let is = c.back.invariant in
    let n : ℕ = length c.args.decks.now.items in
    has-one n c.args.column (c.back.ahead - 1) c.back.decks.items c.index_mut.result.now
    (before n c.args.column c.back.ahead (c.back.ahead - 1) c.back.decks.items (omega arith) is.stand)
    (there c.back.decks.items (c.back.ahead - 1) c.index_mut.result.now (omega arith) c.index_mut.ensures.value) c.in_default.ensures.none

pub take_back-requires : goal.take_back-requires
take_back-requires c =
    let is = c.back.invariant in
    let n : ℕ = length c.args.decks.now.items in
    comes-home c.args.decks.now.items c.back.decks.items c.args.column is.long is.keep (c.back.ahead - 1)
    c.index_mut.result.now c.give_up.new.self c.index_mut-in-back.result.now c.index_mut-in-back.result.now c.in-Some.theft
    (before n c.args.column c.back.ahead (c.back.ahead - 1) c.back.decks.items (omega arith) is.stand)
    (omega arith) c.index_mut.ensures.value c.in-Some.ensures.some (omega arith) c.index_mut-in-back.ensures.value

pub back-preserved : goal.back-preserved
back-preserved c =
    let is = c.back.invariant in
    let n : ℕ = length c.args.decks.now.items in
    let was = before n c.args.column c.back.ahead (c.back.ahead - 1) c.back.decks.items (omega arith) is.stand in
    record {
      long = length-set (set c.back.decks.items (c.back.ahead - 1) c.give_up.new.self) c.args.column c.take_back.new.self
          ∙ length-set c.back.decks.items (c.back.ahead - 1) c.give_up.new.self ∙ is.long;
      most = omega arith;
      stand = take-stands c.args.decks.now.items c.back.decks.items c.args.column is.long is.keep (c.back.ahead - 1)
          c.index_mut.result.now c.give_up.new.self c.index_mut-in-back.result.now c.take_back.new.self c.in-Some.theft was
          (omega arith) c.index_mut.ensures.value c.in-Some.ensures.some (omega arith) c.index_mut-in-back.ensures.value c.take_back.ensures;
      keep = take-keeps c.args.decks.now.items c.back.decks.items c.args.column is.long is.keep (c.back.ahead - 1)
          c.index_mut.result.now c.give_up.new.self c.index_mut-in-back.result.now c.take_back.new.self c.in-Some.theft was
          (omega arith) c.index_mut.ensures.value c.in-Some.ensures.some (omega arith) c.index_mut-in-back.ensures.value c.take_back.ensures;
    }

pub returns : goal.returns
returns c =
    let is = c.back.invariant in
    let none : c.back.ahead ≡ 0 = omega arith in
    record {
      stand = subst (λ k. AreStanding (length c.args.decks.now.items) c.args.column k c.back.decks.items) none is.stand;
      keep = is.keep;
    }
