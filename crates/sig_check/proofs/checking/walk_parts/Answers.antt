use Rattle.std.proofs.Common.{Some, sym, ap, ◌∙◌, subst, arith}
use Rattle.std.proofs.lemmas.Option.{same_Some, slice_get_within}
use Rattle.plan_kinds.specs.Reached.{Reaches}
use Rattle.sig_check.proofs.CheckLemmas.{parts-walked, parts-passed}
use Rattle.sig_check.proofs.checking.walk_parts.Goals as goal
use Rattle.sig_check.proofs.checking.walk_parts.Goals.{in-Part+in_ok-walk, in_default}

pub walk-requires-clause-runs : goal.walk-requires-clause-runs
walk-requires-clause-runs c =
    let plan = c.args.plan.now in
    subst (λ l. Reaches plan.nodes plan.settings.input c.loop-node.node (Some l)) (sym c.list_of.ensures)
    (Reaches.part (c.node.ensures ∙ ap Some c.in-Part.is))

pub loop-node-preserved : goal.loop-node-preserved
loop-node-preserved c =
    let plan = c.args.plan.now in
    let old = c.loop-node.findings.items in
    elim c.match-node.branch [
      | in-Part+in_ok-walk w ↦ rw w.findings-is (record {
        right = w.in_ok-walk.ensures.finds.right;
        found = parts-walked plan.nodes plan.settings.input old w.walk.new.findings.items c.loop-node.node
            c.loop-node.invariant.found w.in_ok-walk.ensures.finds;
      })
      | in_default w ↦ rw w.findings-is (record {
        right = c.loop-node.invariant.right;
        found = parts-passed plan.nodes old c.loop-node.node c.loop-node.invariant.found
            (λ bulk part at. w.in_default.not-Part bulk part (same_Some _ _ (sym c.node.ensures ∙ at)));
      })
    ]

pub returns : goal.returns
returns c =
    let within = c.loop-node-test.false in
    let size = c.size-node-end.ensures.size in
    record {
      right = c.loop-node.invariant.right;
      found = λ n bulk part at.
          let less = slice_get_within c.args.plan.now.nodes n _ at in
          c.loop-node.invariant.found n bulk part (omega (arith, within, size, less)) at;
    }
