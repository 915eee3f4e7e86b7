use Rattle.std.proofs.Common.{◌≡◌, ◌+◌, ◌++◌, length, sym, ap, ◌∙◌, arith}
use Rattle.plan_shape.specs.Depths.{depth_over, depth_of}
use Rattle.plan_builder.proofs.RefusalLemmas.{front_within, back_within, depth_over-append, refusal-deep, refusal-None}
use Rattle.plan_builder.proofs.builder.PlanBuilder.check.Goals as goal

pub deepest-requires : goal.deepest-requires
deepest-requires c =
    front_within c.args.self.now c.args.front.now c.args.back.now (sym c.used_child.ensures ∙ c.in_default.is)

pub deepest-requires-2 : goal.deepest-requires-2
deepest-requires-2 c =
    back_within c.args.self.now c.args.front.now c.args.back.now (sym c.used_child.ensures ∙ c.in_default.is)

pub returns-then-depth-gt-MOST_DEPTH : goal.returns-then-depth-gt-MOST_DEPTH
returns-then-depth-gt-MOST_DEPTH c =
    let nodes = c.args.self.now in
    let named = c.args.front.now ++ c.args.back.now in
    let same = ap length c.self.view_is in
    let most = depth_over-append (depth_of nodes) c.args.front.now c.args.back.now in
    refusal-deep nodes named c.args.parts (sym c.used_child.ensures ∙ c.in_default.is) (omega (arith, same))
    (omega (arith, most, c.if-depth-gt-MOST_DEPTH.true, c.max-depth.ensures, c.deepest.ensures.deepest, c.deepest-2.ensures.deepest))

pub returns : goal.returns
returns c =
    let nodes = c.args.self.now in
    let named = c.args.front.now ++ c.args.back.now in
    let same = ap length c.self.view_is in
    let most = depth_over-append (depth_of nodes) c.args.front.now c.args.back.now in
    let depth : 1 + c.max-depth.result ≡ depth_over (depth_of nodes) named =
    omega (arith, most, c.max-depth.ensures, c.deepest.ensures.deepest, c.deepest-2.ensures.deepest) in (
      refusal-None nodes named c.args.parts (sym c.used_child.ensures ∙ c.in_default.is) (omega (arith, same))
          (omega (arith, depth, c.if-depth-gt-MOST_DEPTH.false)),
      depth,
    )
