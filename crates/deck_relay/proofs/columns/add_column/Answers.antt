use Rattle.std.proofs.Common.{◌≡◌, ◌<◌, ℕ, length, set, arith, ◌∙◌, subst}
use Rattle.std.proofs.Math.ListN.{length-set}
use Rattle.deck_relay.specs.Decks.{own_view}
use Rattle.deck_relay.specs.Columns.{AreStanding}
use Rattle.deck_relay.proofs.Stands.{rolls}
use Rattle.deck_relay.proofs.Steps.{shares, add-stands, add-keeps}
use Rattle.deck_relay.proofs.columns.add_column.Goals as goal

pub lend-requires : goal.lend-requires
lend-requires c =
    let is = c.loop-thief.invariant in
    shares c.args.decks.now.items c.loop-thief.decks.items c.args.column is.long is.keep c.loop-thief.thief c.index_mut.result.now is.stand
    (omega arith) c.index_mut.ensures.value (omega arith) c.requires.most

pub loop-thief-preserved : goal.loop-thief-preserved
loop-thief-preserved c =
    let is = c.loop-thief.invariant in
    let orig = c.args.decks.now.items in
    let decks = c.loop-thief.decks.items in
    let lender = c.index_mut.result.now in
    let some : 1 < (own_view lender).share =
    shares orig decks c.args.column is.long is.keep c.loop-thief.thief lender is.stand (omega arith) c.index_mut.ensures.value (omega arith) c.requires.most in
    record {
      long = length-set (set decks c.args.column c.lend.new.self) c.loop-thief.thief c.keep.new.self
          ∙ length-set decks c.args.column c.lend.new.self ∙ is.long;
      stand = add-stands orig decks c.args.column is.long is.keep c.loop-thief.thief lender c.lend.new.self c.index_mut-in-loop-thief.result.now c.keep.new.self c.in_ok-theft.theft
          is.stand (omega arith) c.index_mut.ensures.value c.in_ok-theft.ensures some (omega arith) c.index_mut-in-loop-thief.ensures.value c.in_ok-keep.ensures;
      keep = add-keeps orig decks c.args.column is.long is.keep c.loop-thief.thief lender c.lend.new.self c.index_mut-in-loop-thief.result.now c.keep.new.self c.in_ok-theft.theft
          (omega arith) c.index_mut.ensures.value c.in_ok-theft.ensures (omega arith) c.index_mut-in-loop-thief.ensures.value c.in_ok-keep.ensures;
    }

pub returns : goal.returns
returns c =
    let n : ℕ = length c.args.decks.now.items in
    let is = c.loop-thief.invariant in
    let all : c.loop-thief.thief ≡ n = omega arith in
    record {
      stand = rolls n c.args.column c.loop-thief.decks.items
          (subst (λ k. AreStanding n c.args.column k c.loop-thief.decks.items) all is.stand);
      keep = is.keep;
    }
