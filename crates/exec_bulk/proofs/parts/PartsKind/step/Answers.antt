use Rattle.std.proofs.Common.{Some, ap, ◌∙◌}
use Rattle.plan_rules.specs.declared.node.Node.{Node}
use Rattle.exec_bulk.proofs.Parted.{part-leaves, part-runs}
use Rattle.exec_bulk.proofs.parts.PartsKind.step.Goals as goal

pub leave_at_rest-requires : goal.leave_at_rest-requires
leave_at_rest-requires g c =
    let up = c.take_up-taken in
    record {
      may = part-leaves c.args.site.now c.args.name up.result.0 up.result.1 c.args.hand.now up.new.hand up.ensures c.requires.may.can c.in-Part.bulk
          c.in-Part.part (c.node.ensures ∙ ap (λ (n : Node). Some n) c.in-Part.is);
    }

pub run_part-requires : goal.run_part-requires
run_part-requires g c =
    let up = c.take_up-taken in
    record {
      may = part-runs c.args.site.now c.args.name up.result.0 up.result.1 c.args.hand.now up.new.hand up.ensures c.requires.may.can c.in-Part.bulk
          c.in-Part.part (c.node.ensures ∙ ap (λ (n : Node). Some n) c.in-Part.is);
    }
