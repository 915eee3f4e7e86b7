use Rattle.std.proofs.Common.{◌≡◌, drop}
use Rattle.serde_json.specs.View.{items_view}
use Rattle.plan_reasons.specs.Sentences.{first_bad}
use Rattle.plan_reasons.proofs.sentence.first_bad.Given as goal

abbrev pub invariant-loop-index : goal.invariant-loop-index
invariant-loop-index l =
    first_bad l.fault 0 (items_view l.values) ≡ first_bad l.fault l.index (items_view (drop l.index l.values))
