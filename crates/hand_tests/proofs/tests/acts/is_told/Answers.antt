use Rattle.spawn_future.proofs.Served.{keeping-on}
use Rattle.hand_tests.proofs.Ready.{closes-keeping}
use Rattle.hand_tests.proofs.tests.acts.is_told.Goals as goal

pub returns-in-Abandons : goal.returns-in-Abandons
returns-in-Abandons g c = record { keeping = c.abandon.ensures.keeps c.args.site.now c.args.hand.now c.requires.keeping }

pub returns-else-node-size : goal.returns-else-node-size
returns-else-node-size g c =
    let did = c.serve_place.ensures in
    record {
      keeping = keeping-on c.args.site.now c.args.futures.now c.args.hand.now c.serve_place.new.hand c.requires.keeping did.stays.hand
          did.rests did.aside;
    }

pub returns-in-Closes : goal.returns-in-Closes
returns-in-Closes g c = record {
  keeping = closes-keeping c.args.site.now c.args.futures.now c.args.hand.now c.close.new.hand c.requires.keeping
      (rw c.site.view_is at c.close.ensures.stays.hand) c.close.ensures.closed;
}
