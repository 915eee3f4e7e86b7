use Rattle.std.proofs.Common.{arith, refl, ap, ◌∙◌, ◌∷◌}
use Rattle.plan_shape.specs.Blueprint.{Blueprint}
use Rattle.exec_recv.specs.Asides.{Aside}
use Rattle.node_walks.proofs.Unready.{unready-leaves}
use Rattle.deck_relay.specs.SameDecks.{keeps-here}
use Rattle.run_loop.specs.Loops.{deck_of, gathered_of}
use Rattle.run_loop.proofs.looped.Loop.collect.Goals as goal

pub returns-clause-ready : goal.returns-clause-ready
returns-clause-ready g c =
    let within = c.requires.listed.within in
    record {
      hand = c.end_root.ensures.stays.hand;
      first = ap (λ (a : Aside). a.number) c.in_ok-env.ensures.ends.leaves.is ∙ c.requires.ready.first;
      rests = c.end_root.ensures.rests;
      next = omega (arith, within);
      delays = c.requires.ready.delays;
    }

pub returns-clause-collected : goal.returns-clause-collected
returns-clause-collected g c =
    record {
      is_for = c.in_ok-env.ensures.ends.completes.is_for;
      leaves = c.in_ok-env.ensures.ends.leaves;
      moves = c.in_ok-env.ensures.ends.moves;
      next = refl;
      helps = refl;
      names = refl;
      delays = record { delays = refl; nodes = refl };
      tally =
          c.raise.ensures
          ∙ ap (λ (p : Blueprint).
          gathered_of p c.args.table.now.table_id c.in_ok-env.field-0.collected ∷ c.args.self.now.tally)
          c.in_ok-env.ensures.ends.completes.key;
    }

pub returns-in_err-env-clause-ready : goal.returns-in_err-env-clause-ready
returns-in_err-env-clause-ready g c =
    let read = c.in_err-env.ensures.none in
    record {
      hand = c.end_root.ensures.stays.hand;
      first = ap (λ (a : Aside). a.number)
          (unready-leaves c.args.table.now c.args.block c.args.self.now.hand.me c.end_root.new.hand.me read).is
          ∙ c.requires.ready.first;
      rests = c.end_root.ensures.rests;
      next = c.requires.ready.next;
      delays = c.requires.ready.delays;
    }

pub returns-clause-deck : goal.returns-clause-deck
returns-clause-deck g c = keeps-here (deck_of c.args.self.now)

pub returns-in_err-env-clause-deck : goal.returns-in_err-env-clause-deck
returns-in_err-env-clause-deck g c = keeps-here (deck_of c.args.self.now)
