use Rattle.std.proofs.Common.{ℕ, ◌+◌, ◌≡◌, arith, sym, subst}
use Rattle.std.specs.Bool.{OnTrue, OnFalse}
use Rattle.exec_recv.specs.Sites.{plan_at}
use Rattle.op_slot.proofs.Staying.{stays-here, stays-on}
use Rattle.spawn_future.specs.Turns.{PassesPlace, ServesPlace, Turns}
use Rattle.spawn_future.proofs.Turned.{turns-none, turns-one, turns-passed, turns-on, blocks-more}
use Rattle.spawn_future.proofs.Visited.{blocks-visited}
use Rattle.spawn_future.proofs.futures.Futures.serve_blocks.Goals as goal
use Rattle.spawn_future.proofs.futures.Futures.serve_blocks.Goals.{then-serve_place, else-serve_place}

pub loop-block-init : goal.loop-block-init
loop-block-init g c = record {
  all = rw c.site.view_is at c.blocks-block-end.ensures.blocks;
  most = c.blocks-block-end.ensures.most;
  within = omega arith;
  few = omega arith;
  keeping = c.requires.keeping;
  stays = stays-here c.args.site.now c.args.hand.now c.requires.keeping.hand_of;
  mail = g.met.M.Mail.none c.args.mail.now;
  turns = turns-none c.args.site.now (plan_at c.args.site.now) c.args.self.now c.args.hand.now;
  none = λ zero b below. absurd (omega (arith, below));
  visited = λ b below. absurd (omega (arith, below));
}

pub serve_place-requires-clause-block : goal.serve_place-requires-clause-block
serve_place-requires-clause-block g c κs within =
    let all = c.loop-block.invariant.all in
    let below = c.loop-block-test.true in
    omega (arith, all, below)

pub overflow_add-taken : goal.overflow_add-taken
overflow_add-taken g c =
    let most = c.loop-block.invariant.most in
    let few = c.loop-block.invariant.few in
    let below = c.loop-block-test.true in
    omega (arith, most, few, below)

pub loop-block-preserved : goal.loop-block-preserved
loop-block-preserved g c =
    let board = c.args.site.now in
    let plan = plan_at c.args.site.now in
    let before = c.loop-block.invariant in
    let first = c.args.self.now in
    let between = c.loop-block.self in
    let later = c.serve_place.new.self in
    let old = c.args.hand.now in
    let round = c.loop-block.hand in
    let new = c.serve_place.new.hand in
    let did = c.serve_place.ensures in
    let few = before.few in
    let below = c.loop-block-test.true in
    record {
      all = before.all;
      most = before.most;
      within = omega (arith, below);
      few = elim c.if-serve_place.branch [
        | then-serve_place w ↦ let is = w.taken-is in omega (arith, is, few)
        | else-serve_place w ↦ let is = w.taken-is in omega (arith, is, few)
      ];
      keeping = did.keeping;
      stays = stays-on board old round new before.stays did.stays;
      mail = g.met.M.Mail.on _ _ _ before.mail did.mail;
      turns = elim c.if-serve_place.branch [
        | then-serve_place w ↦
            subst (λ n. Turns board plan first later old new n) (sym w.taken-is)
            (turns-on board plan first between later old round new c.loop-block.taken 1 before.turns
            (turns-one board plan between later round new did.leaves
            (subst (λ b. OnTrue b (ServesPlace board plan between later round new)) w.if-serve_place.true did.served)))
        | else-serve_place w ↦
            subst (λ n. Turns board plan first later old new n) (sym w.taken-is)
            (subst (λ n. Turns board plan first later old new n) (omega arith)
            (turns-on board plan first between later old round new c.loop-block.taken 0 before.turns
            (turns-passed board plan c.loop-block.block c.args.node between later round new did.leaves
            (subst (λ b. OnFalse b (PassesPlace board c.loop-block.block c.args.node between later round.me new.me)) w.if-serve_place.false
            did.passed))))
      ];
      none = elim c.if-serve_place.branch [
        | then-serve_place w ↦ λ zero. let is = w.taken-is in absurd (omega (arith, is, zero))
        | else-serve_place w ↦
            let passed = subst (λ b. OnFalse b (PassesPlace board c.loop-block.block c.args.node between later round.me new.me)) w.if-serve_place.false
            did.passed in
            λ zero.
            blocks-more board plan c.args.node c.loop-block.block c.loop-block.taken 0 first between later old round new before.turns
            (turns-passed board plan c.loop-block.block c.args.node between later round new did.leaves passed) before.none
            (λ _. passed.unparked) (let is = w.taken-is in omega (arith, is, zero))
      ];
      visited = blocks-visited board first between later old.me round.me new.me before.turns.leaves did.leaves c.args.node c.loop-block.block
          before.visited did.visited;
    }

pub returns-clause-none : goal.returns-clause-none
returns-clause-none g c zero b below =
    let is = c.loop-block.invariant in
    let all = is.all in
    let past = c.loop-block-test.false in
    is.none zero b (omega (arith, all, past, below))

pub returns-clause-visited : goal.returns-clause-visited
returns-clause-visited g c b below =
    let is = c.loop-block.invariant in
    let all = is.all in
    let past = c.loop-block-test.false in
    is.visited b (omega (arith, all, past, below))

pub returns-clause-few : goal.returns-clause-few
returns-clause-few g c =
    let most = c.loop-block.invariant.most in
    let few = c.loop-block.invariant.few in
    let count = c.loop-block.invariant.within in
    omega (arith, most, few, count)
