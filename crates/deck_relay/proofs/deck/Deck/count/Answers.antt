use Rattle.std.proofs.Common.{refl}
use Rattle.deck_relay.proofs.Balances.{tells}
use Rattle.deck_relay.proofs.deck.Deck.count.Goals as goal

pub len_as-requires : goal.len_as-requires
len_as-requires c = tells _ _ c.requires

pub returns : goal.returns
returns c =
    let same = c.len_as.ensures.same in
    let held = c.len_as.ensures.rule in
    record {
      still = record { place = refl; own = same.0.0; queue = refl; queued = refl };
      thefts = refl;
      own = same.2;
      left = held.0;
      lefts = held.1;
      tells = held.2;
    }
