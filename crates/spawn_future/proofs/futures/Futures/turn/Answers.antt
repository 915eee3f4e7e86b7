use Rattle.std.proofs.Common.{ℕ, ◌+◌, ◌≡◌, arith, sym, subst}
use Rattle.exec_recv.specs.Sites.{plan_at}
use Rattle.op_slot.proofs.Staying.{stays-here, stays-on}
use Rattle.spawn_future.specs.Turns.{AreUnparked}
use Rattle.spawn_future.proofs.Turned.{turns-none, turns-on, nodes-more}
use Rattle.spawn_future.proofs.Visited.{nodes-visited}
use Rattle.spawn_future.proofs.futures.Futures.turn.Goals as goal

pub loop-node-init : goal.loop-node-init
loop-node-init g c = record {
  all = rw c.site.view_is at (rw c.site.invariant at c.size-node-end.ensures.size);
  most = c.size-node-end.ensures.bound;
  within = omega arith;
  few = omega arith;
  keeping = c.requires.keeping;
  stays = stays-here c.args.site.now c.args.hand.now c.requires.keeping.hand_of;
  mail = g.met.M.Mail.none c.args.mail.now;
  turns = turns-none c.args.site.now (plan_at c.args.site.now) c.args.self.now c.args.hand.now;
  none = λ zero n below. absurd (omega (arith, below));
  visited = λ n below. absurd (omega (arith, below));
}

pub serve_node-taken-requires-clause-node : goal.serve_node-taken-requires-clause-node
serve_node-taken-requires-clause-node g c κs within =
    let all = c.loop-node.invariant.all in
    let below = c.loop-node-test.true in
    omega (arith, all, below)

pub overflow_add-taken : goal.overflow_add-taken
overflow_add-taken g c =
    let most = c.loop-node.invariant.most in
    let few = c.loop-node.invariant.few in
    let below = c.loop-node-test.true in
    let here = c.serve_node-taken.ensures.few in
    omega (arith, most, few, below, here)

pub loop-node-preserved : goal.loop-node-preserved
loop-node-preserved g c =
    let board = c.args.site.now in
    let plan = plan_at c.args.site.now in
    let before = c.loop-node.invariant in
    let first = c.args.self.now in
    let between = c.loop-node.self in
    let later = c.serve_node-taken.new.self in
    let old = c.args.hand.now in
    let round = c.loop-node.hand in
    let new = c.serve_node-taken.new.hand in
    let did = c.serve_node-taken.ensures in
    let few = before.few in
    let here = did.few in
    let below = c.loop-node-test.true in
    record {
      all = before.all;
      most = before.most;
      within = omega (arith, below);
      few = omega (arith, few, here);
      keeping = did.keeping;
      stays = stays-on board old round new before.stays did.stays;
      mail = g.met.M.Mail.on _ _ _ before.mail did.mail;
      turns = turns-on board plan first between later old round new c.loop-node.taken c.serve_node-taken.result before.turns did.turns;
      none = nodes-more board plan c.loop-node.node c.loop-node.taken c.serve_node-taken.result first between later old round new before.turns
          did.turns before.none did.none;
      visited = nodes-visited board first between later old.me round.me new.me before.turns.leaves did.turns.leaves plan c.loop-node.node
          before.visited did.visited;
    }

pub returns-clause-none : goal.returns-clause-none
returns-clause-none g c zero n below =
    let is = c.loop-node.invariant in
    let all = is.all in
    let past = c.loop-node-test.false in
    is.none zero n (omega (arith, all, past, below))

pub returns-clause-visited : goal.returns-clause-visited
returns-clause-visited g c n below =
    let is = c.loop-node.invariant in
    let all = is.all in
    let past = c.loop-node-test.false in
    is.visited n (omega (arith, all, past, below))
