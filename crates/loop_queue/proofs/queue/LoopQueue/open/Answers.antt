use Rattle.std.proofs.Common.{◌≡◌, ℕ, ◌-◌, ◌+◌, List, arith, sym, ◌∙◌, subst}
use Rattle.std.specs.Arc.{arc_value}
use Rattle.loop_queue.specs.declared.queue.LoopQueue.{LoopQueue}
use Rattle.loop_queue.specs.declared.post.LoopPost.{LoopPost}
use Rattle.loop_queue.specs.Posts.{AreOpened, IsNewPost}
use Rattle.loop_queue.proofs.Moves.{begins}
use Rattle.loop_queue.proofs.Opens.{Opening, splits, goes-on, opened}
use Rattle.loop_queue.proofs.queue.LoopQueue.open.Goals as goal

pub ruled-requires-clause-rule : goal.ruled-requires-clause-rule
ruled-requires-clause-rule c = begins

pub another-pass-requires-clause-rule : goal.another-pass-requires-clause-rule
another-pass-requires-clause-rule c = splits _ c.loop-number.number _ c.loop-number.invariant.knows (omega arith)

pub loop-number-preserved : goal.loop-number-preserved
loop-number-preserved c =
    let of : LoopQueue = arc_value c.in_ok-queue.queue in
    let same = c.another-pass.ensures.queue.0 in
    let is = c.loop-number.invariant in
    subst (λ (l : List LoopPost). Opening of (c.loop-number.number + 1) c.another-pass.new.pass l) (sym c.in_ok-push.ensures.items)
    (goes-on of c.loop-number.number c.loop-number.rest c.another-pass.new.pass c.another-pass.result c.loop-number.all.items c.in_ok-seat.field-0 is
    (same.0 ∙ is.seated.0, same.2 ∙ is.seated.1) c.another-pass.ensures.rule.0 c.another-pass.ensures.rule.1 c.in_ok-seat.ensures)

pub returns : goal.returns
returns c =
    let of : LoopQueue = arc_value c.in_ok-queue.queue in
    let last : c.args.posts - 1 ≡ c.loop-number.number = omega arith in
    let post : IsNewPost of c.loop-number.rest c.loop-number.number c.in_ok-seat-2.field-0 =
    subst (λ (n : ℕ). IsNewPost of c.loop-number.rest n c.in_ok-seat-2.field-0) last c.in_ok-seat-2.ensures in
    subst (λ (l : List LoopPost). AreOpened c.args.posts of l) (sym c.in_ok-push-2.ensures.items)
    (opened of c.loop-number.number c.args.posts c.loop-number.rest c.loop-number.all.items c.in_ok-seat-2.field-0 c.loop-number.invariant post (omega arith) (omega arith))
