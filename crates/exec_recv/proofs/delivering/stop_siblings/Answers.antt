use Rattle.std.proofs.Common.{true, [], refl, sym, ap, subst}
use Rattle.life_rules.specs.declared.event.SourceRef.{SourceRef}
use Rattle.life_rules.specs.declared.event.SourceRef.TheVariants.{Node}
use Rattle.stop_calls.specs.declared.scanning.Scan.{Scan}
use Rattle.stop_calls.specs.declared.requesting.Request.{Request}
use Rattle.stop_calls.specs.Requests.{IsAskedFor}
use Rattle.stop_calls.proofs.Keeping.{already-back}
use Rattle.stop_calls.proofs.Passing.{MakesScan, own-source, idle-may, asked-nests, asked-back}
use Rattle.exec_recv.specs.Actions.{ListsActions}
use Rattle.exec_recv.proofs.Actions.{lists-here, asked-acts}
use Rattle.exec_recv.proofs.Stopping.{has-stopped}
use Rattle.exec_recv.proofs.delivering.stop_siblings.Goals as goal

pub run_scan-requires-clause-over : goal.run_scan-requires-clause-over
run_scan-requires-clause-over g c = rw c.site.invariant (rw (← c.site.view_is) at c.requires.over)

pub run_scan-requires-clause-nests : goal.run_scan-requires-clause-nests
run_scan-requires-clause-nests g c =
    let board = c.site.inside.table.now in
    let requires = rw (← c.site.view_is) at c.requires in
    let makes : MakesScan _ _ board (Node c.args.node) = record {
      tree = requires.over.is_tree;
      is_one = own-source board c.args.node requires.place requires.source;
      failure = true;
      scan = c.in-Made.scan;
      old = c.args.hand.now;
      new = c.fail_stop-request.new.hand;
      may = idle-may c.args.hand.now.me.0 (Node c.args.node) requires.unrun requires.calm;
      asked = subst (λ (r : Request). IsAskedFor board (Node c.args.node) true r c.args.hand.now c.fail_stop-request.new.hand) c.in-Made.is
          c.fail_stop-request.ensures.failed.asked;
    } in
    asked-nests makes

pub returns-in-Made-clause-stopped : goal.returns-in-Made-clause-stopped
returns-in-Made-clause-stopped g c =
    let board = c.site.inside.table.now in
    let requires = rw (← c.site.view_is) at c.requires in
    let source = own-source board c.args.node requires.place requires.source in
    let makes : MakesScan _ _ board (Node c.args.node) = record {
      tree = requires.over.is_tree;
      is_one = source;
      failure = true;
      scan = c.in-Made.scan;
      old = c.args.hand.now;
      new = c.fail_stop-request.new.hand;
      may = idle-may c.args.hand.now.me.0 (Node c.args.node) requires.unrun requires.calm;
      asked = subst (λ (r : Request). IsAskedFor board (Node c.args.node) true r c.args.hand.now c.fail_stop-request.new.hand) c.in-Made.is
          c.fail_stop-request.ensures.failed.asked;
    } in
    rw (← c.site.view_is)
    (has-stopped board c.args.node _ c.args.hand.now c.fail_stop-request.new.hand makes.asked c.run_scan.new.hand.me
    (asked-back makes c.run_scan.new.hand.me c.run_scan.ensures.ended) c.run_scan.ensures.ended.passed.aside.steps
    (asked-acts board board.frame.over.value (Node c.args.node) c.args.hand.now c.fail_stop-request.new.hand source true _ makes.asked
    c.run_scan.new.hand.me
    (subst (λ (s : SourceRef). ListsActions board board.frame.over.value s c.fail_stop-request.new.hand.me c.run_scan.new.hand.me)
    (ap (λ (s : Scan). s.source) makes.asked.answer_is.1) (rw c.site.invariant at c.run_scan.ensures.acts))))

pub returns-in-Already-clause-stopped : goal.returns-in-Already-clause-stopped
returns-in-Already-clause-stopped g c =
    let board = c.site.inside.table.now in
    let requires = rw (← c.site.view_is) at c.requires in
    let asked = subst (λ (r : Request). IsAskedFor board (Node c.args.node) true r c.args.hand.now c.fail_stop-request.new.hand) c.in-Already.is
    c.fail_stop-request.ensures.failed.asked in
    rw (← c.site.view_is)
    (has-stopped board c.args.node _ c.args.hand.now c.fail_stop-request.new.hand asked c.fail_stop-request.new.hand.me
    (already-back board c.args.hand.now c.fail_stop-request.new.hand (Node c.args.node) true asked) (record { made = []; is = refl })
    (asked-acts board board.frame.over.value (Node c.args.node) c.args.hand.now c.fail_stop-request.new.hand
    (own-source board c.args.node requires.place requires.source) true _ asked c.fail_stop-request.new.hand.me
    (lists-here board board.frame.over.value (Node c.args.node) c.fail_stop-request.new.hand.me)))
