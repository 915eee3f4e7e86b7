use Rattle.std.proofs.Common.{rules, refl}
use Rattle.exec_recv.proofs.Asiding.{aside-here, tells-stopped}
use Rattle.exec_recv.proofs.Actions.{lists-here}
use Rattle.exec_recv.proofs.delivering.tell_failure.Goals as goal

pub returns-then-node-clause-told : goal.returns-then-node-clause-told
returns-then-node-clause-told g c =
    tells-stopped c.args.site.now c.args.node c.args.failed c.args.hand.now.me c.stop_siblings.new.hand.me c.stop_siblings.ensures.stopped

pub returns-else-failed-clause-told : goal.returns-else-failed-clause-told
returns-else-failed-clause-told g c =
    record {
      keeps = record { aside = aside-here c.args.hand.now.me; held = refl; owed = refl; homes = refl };
      marks = search rules;
      acts = lists-here c.args.site.now c.args.site.now.frame.over.value _ c.args.hand.now.me;
    }
