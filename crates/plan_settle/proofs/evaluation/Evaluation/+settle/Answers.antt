use Rattle.std.specs.Prelude.{Contains, Some}
use Rattle.std.proofs.Common.{◌<◌, ◌≤◌, [], ◌∷◌, length, get_or, refl, sym, ap, ◌∙◌, subst, arith}
use Rattle.std.proofs.lemmas.List.Elements.{All-contains_itself}
use Rattle.plan_rules.specs.Images.{value_data, error_data, stopped_data, then_of, upon_error_of, upon_stopped_of, as_optional, as_error}
use Rattle.plan_rules.specs.Bulks.{bulk_of}
use Rattle.node_images.specs.Picks.{picked_body}
use Rattle.plan_kinds.specs.Runnable.{IsRunnable, RunsWith}
use Rattle.plan_settle.specs.Settles.{settled_by, settled_case}
use Rattle.plan_kinds.proofs.Runnable.{first, second}
use Rattle.plan_settle.proofs.Operands.{then-taken, upon_error-taken, let_value-may, let_error-may, let_stopped-may}
use Rattle.plan_settle.proofs.Together.{ahead-fits}
use Rattle.plan_settle.proofs.Arms.{child-runs, case-settles, made-settles, bulk-settles, let-settles}
use Rattle.plan_settle.proofs.LetArms.{body-settles}
use Rattle.plan_settle.proofs.AllArms.{all-more, all-settles, all-limit, all-no_memory, ahead-settles}
use Rattle.plan_settle.proofs.evaluation.Evaluation.+settle.Goals as goal

pub settle-returns : goal.settle-returns
settle-returns t c =
    case-settles c.args.self.now c.requires.runnable c.requires.runs c.node.ensures refl
    _ c.settle_one.result c.settle_one.ensures

pub settle_one-settle-requires : goal.settle_one-settle-requires
settle_one-settle-requires t c =
    let below = child-runs c.requires.runnable c.requires.runs c.requires.node_is c.in-Then.is
    c.in-Then.child (first _ []) in
    (omega (arith, below.0, c.decreases), (c.requires.runnable, below.1))

pub settle_one-settle-requires-in-UponError : goal.settle_one-settle-requires-in-UponError
settle_one-settle-requires-in-UponError t c =
    let below = child-runs c.requires.runnable c.requires.runs c.requires.node_is c.in-UponError.is
    c.in-UponError.child (first _ []) in
    (omega (arith, below.0, c.decreases), (c.requires.runnable, below.1))

pub settle_one-settle-requires-in-UponStopped : goal.settle_one-settle-requires-in-UponStopped
settle_one-settle-requires-in-UponStopped t c =
    let below = child-runs c.requires.runnable c.requires.runs c.requires.node_is c.in-UponStopped.is
    c.in-UponStopped.child (first _ []) in
    (omega (arith, below.0, c.decreases), (c.requires.runnable, below.1))

pub settle_let-settle-requires : goal.settle_let-settle-requires
settle_let-settle-requires t c =
    let below = child-runs c.requires.runnable c.requires.runs c.requires.node_is c.in-LetValue.is
    c.in-LetValue.child (first _ []) in
    (omega (arith, below.0, c.decreases), (c.requires.runnable, below.1))

pub settle_let-settle-requires-in-LetError : goal.settle_let-settle-requires-in-LetError
settle_let-settle-requires-in-LetError t c =
    let below = child-runs c.requires.runnable c.requires.runs c.requires.node_is c.in-LetError.is
    c.in-LetError.child (first _ []) in
    (omega (arith, below.0, c.decreases), (c.requires.runnable, below.1))

pub settle_let-settle-requires-in-LetStopped : goal.settle_let-settle-requires-in-LetStopped
settle_let-settle-requires-in-LetStopped t c =
    let below = child-runs c.requires.runnable c.requires.runs c.requires.node_is c.in-LetStopped.is
    c.in-LetStopped.child (first _ []) in
    (omega (arith, below.0, c.decreases), (c.requires.runnable, below.1))

pub settle_one-settle-requires-in-StoppedAsOptional : goal.settle_one-settle-requires-in-StoppedAsOptional
settle_one-settle-requires-in-StoppedAsOptional t c =
    let below = child-runs c.requires.runnable c.requires.runs c.requires.node_is c.in-StoppedAsOptional.is
    c.in-StoppedAsOptional.child (first _ []) in
    (omega (arith, below.0, c.decreases), (c.requires.runnable, below.1))

pub settle_one-settle-requires-in-StoppedAsError : goal.settle_one-settle-requires-in-StoppedAsError
settle_one-settle-requires-in-StoppedAsError t c =
    let below = child-runs c.requires.runnable c.requires.runs c.requires.node_is c.in-StoppedAsError.is
    c.in-StoppedAsError.child (first _ []) in
    (omega (arith, below.0, c.decreases), (c.requires.runnable, below.1))

pub settle_one-settle-requires-in-Bulk : goal.settle_one-settle-requires-in-Bulk
settle_one-settle-requires-in-Bulk t c =
    let below = child-runs c.requires.runnable c.requires.runs c.requires.node_is c.in-Bulk.is
    c.in-Bulk.child (first _ []) in
    (omega (arith, below.0, c.decreases), (c.requires.runnable, below.1))

pub settle_one-settle_hop-requires : goal.settle_one-settle_hop-requires
settle_one-settle_hop-requires t c =
    let below = child-runs c.requires.runnable c.requires.runs c.requires.node_is c.in-StartsOn.is
    c.in-StartsOn.child (first _ []) in
    (omega (arith, below.0, c.decreases), (c.requires.runnable, below.1))

pub settle_one-settle_hop-requires-in-ContinuesOn : goal.settle_one-settle_hop-requires-in-ContinuesOn
settle_one-settle_hop-requires-in-ContinuesOn t c =
    let below = child-runs c.requires.runnable c.requires.runs c.requires.node_is c.in-ContinuesOn.is
    c.in-ContinuesOn.child (first _ []) in
    (omega (arith, below.0, c.decreases), (c.requires.runnable, below.1))

pub settle_one-settle-requires-in-Unstoppable : goal.settle_one-settle-requires-in-Unstoppable
settle_one-settle-requires-in-Unstoppable t c =
    let plan = sym c.unasked.ensures.plan in
    let below = child-runs c.requires.runnable c.requires.runs c.requires.node_is c.in-Unstoppable.is
    c.in-Unstoppable.child (first _ []) in (
      omega (arith, below.0, c.decreases),
      (
        subst IsRunnable plan c.requires.runnable,
        subst (λ p. RunsWith p c.in-Unstoppable.child c.args.args.now) plan below.1,
      ),
    )

pub settle_one-then-requires : goal.settle_one-then-requires
settle_one-then-requires t c =
    then-taken c.args.self.now c.requires.runnable c.requires.runs
    (c.requires.node_is ∙ ap Some c.in-Then.is)
    c.in_ok-settle-in-Then.ensures.exact

pub settle_one-upon_error-requires : goal.settle_one-upon_error-requires
settle_one-upon_error-requires t c =
    upon_error-taken c.args.self.now c.requires.runnable c.requires.runs
    (c.requires.node_is ∙ ap Some c.in-UponError.is)
    c.in_ok-settle-in-UponError.ensures.exact

pub settle_let-settle_body-requires : goal.settle_let-settle_body-requires
settle_let-settle_body-requires t c = (
  omega (arith, c.decreases),
  (
    c.requires.runnable,
    let_value-may c.args.self.now c.requires.runnable c.requires.runs
        (c.requires.node_is ∙ ap Some c.in-LetValue.is)
        c.in_ok-settle-in-LetValue.ensures.exact c.take_value-values.ensures.taken,
  ),
)

pub settle_let-settle_body-requires-in-LetError : goal.settle_let-settle_body-requires-in-LetError
settle_let-settle_body-requires-in-LetError t c = (
  omega (arith, c.decreases),
  (
    c.requires.runnable,
    let_error-may c.args.self.now c.requires.runnable c.requires.runs
        (c.requires.node_is ∙ ap Some c.in-LetError.is)
        c.in_ok-settle-in-LetError.ensures.exact c.take_error-name.ensures.taken,
  ),
)

pub settle_let-settle_body-requires-in-LetStopped : goal.settle_let-settle_body-requires-in-LetStopped
settle_let-settle_body-requires-in-LetStopped t c = (
  omega (arith, c.decreases),
  (
    c.requires.runnable,
    let_stopped-may c.args.self.now c.requires.runnable c.requires.runs
        (c.requires.node_is ∙ ap Some c.in-LetStopped.is)
        c.in_ok-settle-in-LetStopped.ensures.exact c.take_stopped-none.ensures.taken,
  ),
)

pub settle_one-returns-in-Input : goal.settle_one-returns-in-Input
settle_one-returns-in-Input t c =
    made-settles c.args.self.now c.requires.runnable c.requires.runs c.requires.node_is
    c.in-Input.is refl c.put_value.ensures

pub settle_one-returns-in-Just : goal.settle_one-returns-in-Just
settle_one-returns-in-Just t c =
    made-settles c.args.self.now c.requires.runnable c.requires.runs c.requires.node_is
    c.in-Just.is refl c.put_value-in-Just.ensures

pub settle_one-returns-in-JustError : goal.settle_one-returns-in-JustError
settle_one-returns-in-JustError t c =
    made-settles c.args.self.now c.requires.runnable c.requires.runs c.requires.node_is
    c.in-JustError.is refl c.put_error.ensures

pub settle_one-returns-in_ok-settle-in-Then : goal.settle_one-returns-in_ok-settle-in-Then
settle_one-returns-in_ok-settle-in-Then t c =
    made-settles c.args.self.now c.requires.runnable c.requires.runs c.requires.node_is
    c.in-Then.is
    (ap (then_of c.in-Then.job) c.in_ok-settle-in-Then.ensures.exact) c.then.ensures

pub settle_one-returns-in_ok-settle-in-UponError : goal.settle_one-returns-in_ok-settle-in-UponError
settle_one-returns-in_ok-settle-in-UponError t c =
    made-settles c.args.self.now c.requires.runnable c.requires.runs c.requires.node_is
    c.in-UponError.is
    (ap (upon_error_of c.in-UponError.job) c.in_ok-settle-in-UponError.ensures.exact) c.upon_error.ensures

pub settle_one-returns-in_ok-settle-in-UponStopped : goal.settle_one-returns-in_ok-settle-in-UponStopped
settle_one-returns-in_ok-settle-in-UponStopped t c =
    made-settles c.args.self.now c.requires.runnable c.requires.runs c.requires.node_is
    c.in-UponStopped.is
    (ap (upon_stopped_of c.in-UponStopped.job) c.in_ok-settle-in-UponStopped.ensures.exact)
    c.upon_stopped.ensures

pub settle_one-returns-in_ok-settle-in-StoppedAsOptional : goal.settle_one-returns-in_ok-settle-in-StoppedAsOptional
settle_one-returns-in_ok-settle-in-StoppedAsOptional t c =
    made-settles c.args.self.now c.requires.runnable c.requires.runs c.requires.node_is
    c.in-StoppedAsOptional.is
    (ap as_optional c.in_ok-settle-in-StoppedAsOptional.ensures.exact) c.stopped_as_optional.ensures

pub settle_one-returns-in_ok-settle-in-StoppedAsError : goal.settle_one-returns-in_ok-settle-in-StoppedAsError
settle_one-returns-in_ok-settle-in-StoppedAsError t c =
    made-settles c.args.self.now c.requires.runnable c.requires.runs c.requires.node_is
    c.in-StoppedAsError.is
    (ap (as_error c.in-StoppedAsError.error) c.in_ok-settle-in-StoppedAsError.ensures.exact)
    c.stopped_as_error.ensures

pub settle_one-returns-in_ok-settle-in-Bulk : goal.settle_one-returns-in_ok-settle-in-Bulk
settle_one-returns-in_ok-settle-in-Bulk t c =
    bulk-settles c.args.self.now c.args.at c.args.args.now c.requires.node_is c.in-Bulk.is
    (ap (bulk_of c.in-Bulk.job) c.in_ok-settle-in-Bulk.ensures.exact) c.apply_to_row.ensures

pub settle_let-returns-in_ok-settle-in-LetValue : goal.settle_let-returns-in_ok-settle-in-LetValue
settle_let-returns-in_ok-settle-in-LetValue t c =
    let-settles c.args.self.now c.args.args.now c.in-LetValue.child c.in-LetValue.pick c.in-LetValue.bodies value_data
    _ _ _ _ _ _ (ap (λ x. settled_case c.args.self.now x c.args.args.now) (sym c.in-LetValue.is))
    c.in_ok-settle-in-LetValue.ensures.exact c.take_value-values.ensures.taken c.take_value-values.ensures.stays
    c.settle_body.ensures

pub settle_let-returns-in_ok-settle-in-LetError : goal.settle_let-returns-in_ok-settle-in-LetError
settle_let-returns-in_ok-settle-in-LetError t c =
    let-settles c.args.self.now c.args.args.now c.in-LetError.child c.in-LetError.pick c.in-LetError.bodies error_data
    _ _ _ _ _ _ (ap (λ x. settled_case c.args.self.now x c.args.args.now) (sym c.in-LetError.is))
    c.in_ok-settle-in-LetError.ensures.exact c.take_error-name.ensures.taken c.take_error-name.ensures.stays
    c.settle_body-in-LetError.ensures

pub settle_let-returns-in_ok-settle-in-LetStopped : goal.settle_let-returns-in_ok-settle-in-LetStopped
settle_let-returns-in_ok-settle-in-LetStopped t c =
    let-settles c.args.self.now c.args.args.now c.in-LetStopped.child c.in-LetStopped.pick c.in-LetStopped.bodies stopped_data
    _ _ _ _ _ _ (ap (λ x. settled_case c.args.self.now x c.args.args.now) (sym c.in-LetStopped.is))
    c.in_ok-settle-in-LetStopped.ensures.exact c.take_stopped-none.ensures.taken c.take_stopped-none.ensures.stays
    c.settle_body-in-LetStopped.ensures

pub settle_all-settle-requires : goal.settle_all-settle-requires
settle_all-settle-requires t c =
    let items = c.as_slice-child-items.result.now in
    let child = get_or items c.loop-child.child-index 0 in
    let among : Contains c.args.children.now child =
    subst (λ l. Contains l child) c.as_slice-child-items.ensures
    (All-contains_itself items c.loop-child.child-index 0 c.loop-child-test.true) in
    let below = child-runs c.requires.runnable c.requires.runs c.requires.node_is refl
    child among in
    (omega (arith, below.0, c.decreases), (c.requires.runnable, below.1))

pub settle_all-loop-child-preserved : goal.settle_all-loop-child-preserved
settle_all-loop-child-preserved t c =
    let run = c.args.self.now in
    let index = c.loop-child.child-index in
    let items = c.as_slice-child-items.ensures in
    all-more run c.requires.runnable c.requires.runs c.requires.node_is c.if-self.false index
    (subst (λ l. index < length l) items c.loop-child-test.true)
    c.loop-child.together c.join_child.new.together c.settle.new.done
    (c.in_ok-settle.ensures.exact ∙ ap (λ l. settled_by run (get_or l index 0) c.args.args.now) items)
    c.loop-child.invariant c.join_child.ensures

pub settle_ahead-settle-requires : goal.settle_ahead-settle-requires
settle_ahead-settle-requires t c =
    let below = child-runs c.requires.runnable c.requires.runs c.requires.node_is refl
    c.args.second (second _ _) in
    (omega (arith, below.0, c.decreases), (c.requires.runnable, below.1))

pub settle_ahead-settle-requires-in-Some : goal.settle_ahead-settle-requires-in-Some
settle_ahead-settle-requires-in-Some t c =
    let below = child-runs c.requires.runnable c.requires.runs c.requires.node_is refl
    c.args.first (first _ (c.args.second ∷ [])) in
    (omega (arith, below.0, c.decreases), (c.requires.runnable, below.1))

pub settle_ahead-put_behind-requires : goal.settle_ahead-put_behind-requires
settle_ahead-put_behind-requires t c =
    ahead-fits c.args.self.now c.requires.runnable c.requires.runs c.requires.node_is
    c.in_ok-settle-in-Some.ensures.exact c.in_ok-settle.ensures.exact
    (sym c.take_value.ensures.taken ∙ c.in-Some.is)

pub settle_ahead-returns-in_ok-settle-in-Some : goal.settle_ahead-returns-in_ok-settle-in-Some
settle_ahead-returns-in_ok-settle-in-Some t c =
    ahead-settles c.args.self.now c.args.at c.args.args.now c.requires.node_is
    c.in_ok-settle-in-Some.ensures.exact c.in_ok-settle.ensures.exact
    (sym c.take_value.ensures.taken ∙ c.in-Some.is) c.put_behind.ensures

pub settle_all-unreachable-requires : goal.settle_all-unreachable-requires
settle_all-unreachable-requires t c =
    all-limit c.args.self.now c.requires.runnable c.requires.runs c.requires.node_is c.if-self.false
    c.loop-child.child-index
    (subst (λ l. length l ≤ c.loop-child.child-index) c.as_slice-child-items.ensures c.loop-child-test.false)
    c.loop-child.together c.loop-child.invariant _ c.in-Err-Limit.ensures.err c.in-Err-Limit.field-0-is

pub settle_all-returns-in-Ok : goal.settle_all-returns-in-Ok
settle_all-returns-in-Ok t c =
    all-settles c.args.self.now c.requires.runnable c.requires.runs c.requires.node_is c.if-self.false
    c.loop-child.child-index
    (subst (λ l. length l ≤ c.loop-child.child-index) c.as_slice-child-items.ensures c.loop-child-test.false)
    c.loop-child.together c.loop-child.invariant c.put_together.new.done c.in-Ok.ensures.ok

pub settle_all-returns-in-Err-Memory : goal.settle_all-returns-in-Err-Memory
settle_all-returns-in-Err-Memory t c =
    all-no_memory c.args.self.now c.requires.runnable c.requires.runs c.requires.node_is c.if-self.false
    c.loop-child.child-index
    (subst (λ l. length l ≤ c.loop-child.child-index) c.as_slice-child-items.ensures c.loop-child-test.false)
    c.loop-child.together c.loop-child.invariant _ c.in-Err-Memory.ensures.err c.in-Err-Memory.field-0-is _ (record {})

pub settle_body-returns-in-Some-2 : goal.settle_body-returns-in-Some-2
settle_body-returns-in-Some-2 t c =
    let bodies = ap (picked_body c.pick_body.new.done) (sym c.as_slice.ensures) in
    body-settles c.args.self.now c.args.pick.now c.args.bodies.now c.in-Some.is c.args.done.now
    c.in_ok-body.ensures.answer (bodies ∙ sym c.in_ok-body.ensures.body ∙ c.in-Some-2.is)
    c.settle.new.done c.settle.result c.settle.ensures
