use Rattle.std.proofs.Common.{Option, Some, arith, sym, ap, ◌∙◌, subst}
use Rattle.plan_rules.specs.declared.node.Node.{Node}
use Rattle.exec_recv.specs.Sites.{plan_at}
use Rattle.op_slot.proofs.Staying.{stays-here}
use Rattle.spawn_future.proofs.Turned.{turns-none, same-node}
use Rattle.spawn_future.proofs.futures.Futures.serve_node.Goals as goal

pub serve_blocks-requires-clause-node : goal.serve_blocks-requires-clause-node
serve_blocks-requires-clause-node g c κs within =
    record {
      first = _;
      second = _;
      is = (rw c.site.view_is at (rw c.site.invariant at c.node.ensures)) ∙ ap (λ (n : Node). Some n) c.in-Ahead.is;
    }

pub returns-in-Ahead-clause-none : goal.returns-in-Ahead-clause-none
returns-in-Ahead-clause-none g c zero first second stands = c.serve_blocks.ensures.none zero

pub returns-in-Ahead-clause-visited : goal.returns-in-Ahead-clause-visited
returns-in-Ahead-clause-visited g c first second stands = c.serve_blocks.ensures.visited

pub returns-in_default : goal.returns-in_default
returns-in_default g c = record {
  keeping = c.requires.keeping;
  stays = stays-here c.args.site.now c.args.hand.now c.requires.keeping.hand_of;
  mail = g.met.M.Mail.none c.args.mail.now;
  turns = turns-none c.args.site.now (plan_at c.args.site.now) c.args.self.now c.args.hand.now;
  none = λ zero first second stands. absurd (c.in_default.not-Ahead first second (same-node _ _ (sym (rw c.site.view_is at (rw c.site.invariant at c.node.ensures)) ∙ stands)));
  visited = λ first second stands. absurd (c.in_default.not-Ahead first second (same-node _ _ (sym (rw c.site.view_is at (rw c.site.invariant at c.node.ensures)) ∙ stands)));
  few = omega arith;
}
