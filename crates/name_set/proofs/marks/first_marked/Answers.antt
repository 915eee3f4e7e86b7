use Rattle.std.proofs.Common.{refl, rules}
use Rattle.name_set.proofs.Bits.{none-further, first-found}
use Rattle.name_set.proofs.marks.first_marked.Goals as goal

pub returns-then-word-ne0 : goal.returns-then-word-ne0
returns-then-word-ne0 c =
    first-found c.args.bits.now c.loop-index.index _ refl (search rules) (search rules) c.loop-index.invariant

pub loop-index-preserved : goal.loop-index-preserved
loop-index-preserved c = none-further c.args.bits.now c.loop-index.index (search rules) c.loop-index.invariant

pub returns : goal.returns
returns c = search rules
