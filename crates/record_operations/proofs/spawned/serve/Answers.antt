use Rattle.std.proofs.Common.{subst}
use Rattle.std.specs.Prelude.{length}
use Rattle.plan_shape.specs.Blueprint.{Blueprint}
use Rattle.spawn_future.specs.Turns.{AreUnparked, Turns}
use Rattle.exec_recv.proofs.Sites.{over-site}
use Rattle.record_operations.proofs.Spawning.{turned-serves, swept-serves, serves-on}
use Rattle.record_operations.proofs.spawned.serve.Goals as goal

pub turn-served-requires-clause-keeping : goal.turn-served-requires-clause-keeping
turn-served-requires-clause-keeping g c κs within = rw c.of.ensures c.requires.keeping

pub turn-served-requires-clause-site : goal.turn-served-requires-clause-site
turn-served-requires-clause-site g c κs within =
    rw c.of.ensures (over-site c.args.table.now (g.T.Stepper.plan c.args.stepper.now) c.requires.over c.requires.kinds)

pub sweep-ended-requires-clause-keeping : goal.sweep-ended-requires-clause-keeping
sweep-ended-requires-clause-keeping g c = rw c.of.ensures at c.turn-served.ensures.keeping

pub returns-clause-serves : goal.returns-clause-serves
returns-clause-serves g c =
    let board = c.args.table.now in
    serves-on board c.args.futures.now c.turn-served.new.self c.sweep-ended.new.self c.args.hand.now.me c.turn-served.new.hand.me
    c.sweep-ended.new.hand.me
    (turned-serves board c.args.futures.now c.turn-served.new.self c.args.hand.now.me c.turn-served.new.hand.me
    (rw c.of.ensures at c.turn-served.ensures.turns).leaves)
    (swept-serves board c.turn-served.new.self c.sweep-ended.new.self c.turn-served.new.hand.me c.sweep-ended.new.hand.me
    c.sweep-ended.result c.sweep-ended.ensures.swept)

pub returns-clause-turned : goal.returns-clause-turned
returns-clause-turned g c =
    let board = c.args.table.now in
    record {
      between = c.turn-served.new.self;
      middle = c.turn-served.new.hand;
      served = c.turn-served.result;
      turns = subst
          (λ (p : Blueprint).
          Turns board p c.args.futures.now c.turn-served.new.self c.args.hand.now c.turn-served.new.hand c.turn-served.result)
          c.requires.over.over (rw c.of.ensures at c.turn-served.ensures.turns);
      none = λ few.
          subst (λ (p : Blueprint). AreUnparked board p (length p.nodes) c.args.hand.now.me c.turn-served.new.hand.me) c.requires.over.over
          ((rw c.of.ensures at c.turn-served.ensures.none) few);
      ended = c.sweep-ended.result;
      sweeps = c.sweep-ended.ensures.swept;
    }
