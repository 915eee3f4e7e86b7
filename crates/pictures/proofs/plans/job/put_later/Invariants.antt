use Rattle.std.proofs.Common.{take}
use Rattle.std.specs.List.{flat_map}
use Rattle.pictures.specs.Adding.{Adds}
use Rattle.pictures.specs.Plans.Words.{later_text}
use Rattle.pictures.proofs.plans.job.put_later.Given as goal

abbrev pub invariant-loop-number : goal.invariant-loop-number
invariant-loop-number l =
    Adds l.initial.text.items l.text.items (flat_map later_text (take l.number-index l.numbers))
