use Rattle.std.proofs.Common.{false, refl, rules}
use Rattle.std.proofs.lemmas.Bool.{both_ways}
use Rattle.op_slot.proofs.Staying.{stays-here}
use Rattle.exec_recv.proofs.Asiding.{aside-here}
use Rattle.node_walks.proofs.Read.{looks-here}
use Rattle.deck_relay.specs.Desks.{desk-here}
use Rattle.steal_pool.proofs.taking.serve_name.Goals as goal

pub returns-then-not-is_place : goal.returns-then-not-is_place
returns-then-not-is_place g c =
    record {
      stays = stays-here c.args.site.now c.args.hand.now c.requires.hand;
      rests = c.requires.rests;
      aside = aside-here c.args.hand.now.me;
      served = λ is. absurd (both_ways false refl is);
      looks = λ _. looks-here c.args.hand.now.me;
      desk = desk-here c.args.offers.now.desk;
    }

pub returns-clause-served : goal.returns-clause-served
returns-clause-served g c = search rules

pub returns-clause-looks : goal.returns-clause-looks
returns-clause-looks g c = search rules
