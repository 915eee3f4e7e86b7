use Rattle.std.proofs.Common.{◌≡◌, List, [], ◌∷◌, length, arith, sym, ap, ◌∙◌, subst}
use Rattle.std.specs.Arc.{arc_value}
use Rattle.crossbeam_queue.specs.Passes.{Pass, view, IsPassOf}
use Rattle.loop_queue.specs.declared.entry.Entry.{Entry}
use Rattle.loop_queue.specs.declared.queue.Known.{Known}
use Rattle.loop_queue.specs.declared.queue.LoopQueue.{LoopQueue}
use Rattle.loop_queue.specs.declared.post.LoopPost.{LoopPost}
use Rattle.loop_queue.specs.Rule.{both}
use Rattle.loop_queue.proofs.Moves.{merges, tells}
use Rattle.loop_queue.proofs.Closes.{Gathering, starts, seats, all-of, goes-on, has-all, settles, none-left}
use Rattle.loop_queue.proofs.queue.LoopQueue.close.Goals as goal

pub loop-post-init : goal.loop-post-init
loop-post-init g c = starts _ _ _ c.in-Some.last _ c.requires.all c.in-Some.ensures.items c.into_pass-whole.ensures

pub absorb-requires-clause-queue : goal.absorb-requires-clause-queue
absorb-requires-clause-queue g c =
    let is = c.loop-post.invariant in
    let of : LoopQueue = arc_value c.args.queue in
    let mine : IsPassOf of.line c.in-Some-pop.post.pass =
    seats of c.args.posts.items c.pop-in-loop-post.new.self.items c.in-Some-pop.post (is.first ∷ is.rest) c.requires.all
    (all-of of c.args.posts.items c.loop-post.posts.items c.pop-in-loop-post.new.self.items c.in-Some-pop.post c.loop-post.whole is c.in-Some-pop.ensures.items) in
    let whole : IsPassOf of.line c.loop-post.whole = is.seated in
    let other : IsPassOf of.line c.into_pass.result = subst (λ (p : Pass Entry Known). IsPassOf of.line p) (sym c.into_pass.ensures) mine in
    subst (λ (q : LoopQueue). IsPassOf q.line c.loop-post.whole × IsPassOf q.line c.into_pass.result) (sym c.deref.ensures) (whole, other)

pub absorb-requires-clause-rule : goal.absorb-requires-clause-rule
absorb-requires-clause-rule g c = merges _ _ _ _

pub loop-post-preserved : goal.loop-post-preserved
loop-post-preserved g c =
    goes-on (arc_value c.args.queue) c.args.posts.items c.loop-post.posts.items c.pop-in-loop-post.new.self.items c.in-Some-pop.post c.loop-post.whole
    c.absorb.new.pass c.loop-post.invariant c.in-Some-pop.ensures.items c.absorb.ensures.queue
    (c.absorb.ensures.rule ∙ ap (λ (p : Pass Entry Known). both (view c.loop-post.whole) (view p)) c.into_pass.ensures)

-- all posts came back
gathered : (of : LoopQueue) (posts left : List LoopPost) (whole : Pass Entry Known) → Gathering of posts left whole → length left ≡ 0 → Gathering of posts [] whole
gathered of posts left whole is none = subst (λ (l : List LoopPost). Gathering of posts l whole) (none-left left none) is

pub len_as-requires-clause-rule : goal.len_as-requires-clause-rule
len_as-requires-clause-rule g c =
    let none : length c.loop-post.posts.items ≡ 0 = omega (arith, c.in_default-pop.ensures.cases, c.loop-post.posts.ok.0) in
    tells _ _ (has-all (arc_value c.args.queue) c.args.posts.items c.loop-post.whole c.requires.all
    (gathered (arc_value c.args.queue) c.args.posts.items c.loop-post.posts.items c.loop-post.whole c.loop-post.invariant none))

pub returns : goal.returns
returns g c =
    let none : length c.loop-post.posts.items ≡ 0 = omega (arith, c.in_default-pop.ensures.cases, c.loop-post.posts.ok.0) in
    let held = c.len_as.ensures.rule.1 in
    record {
      law = settles (arc_value c.args.queue) c.args.posts.items c.loop-post.whole c.len_as.result held.0 c.requires.all
          (gathered (arc_value c.args.queue) c.args.posts.items c.loop-post.posts.items c.loop-post.whole c.loop-post.invariant none) held.1 held.2;
    }
