use Rattle.std.proofs.Common.{◌≡◌, ◌+◌, arith, ◌∙◌, subst}
use Rattle.deck_relay.specs.Columns.{AreStanding}
use Rattle.deck_relay.proofs.Opens.{stands, opened}
use Rattle.deck_relay.proofs.Totals.{keep-same, keep-on}
use Rattle.deck_relay.proofs.relay.Relay.open.Goals as goal

pub loop-column-init : goal.loop-column-init
loop-column-init c =
    record {
      long = c.in_ok-decks.ensures.count;
      stand = stands (c.args.workers + 1) c.in_ok-decks.decks.items c.in_ok-decks.ensures (omega arith);
      keep = keep-same c.in_ok-decks.decks.items;
    }

pub loop-column-preserved : goal.loop-column-preserved
loop-column-preserved c =
    let is = c.loop-column.invariant in
    let now = c.add_column.new.decks.items in
    record {
      long = c.in_ok-add_column.ensures.stand.count ∙ is.long;
      stand = subst (λ hands. AreStanding hands (c.loop-column.column + 1) 0 now) is.long c.in_ok-add_column.ensures.stand;
      keep = keep-on c.in_ok-decks.decks.items c.loop-column.decks.items now is.keep c.in_ok-add_column.ensures.keep;
    }

pub returns : goal.returns
returns c =
    let is = c.loop-column.invariant in
    let all : c.loop-column.column ≡ c.args.workers + 1 = omega (arith, is.long, c.in_ok-decks.ensures.count) in
    opened (c.args.workers + 1) c.in_ok-decks.decks.items c.loop-column.decks.items c.in_ok-decks.ensures is.keep
    (subst (λ k. AreStanding (c.args.workers + 1) k 0 c.loop-column.decks.items) all is.stand)
