use Rattle.std.proofs.Common.{sym, subst, arith}
use Rattle.exec_value.specs.Kinds.{HasKind}
use Rattle.plain_runs.specs.PlainWork.{Plain}
use Rattle.plain_runs.proofs.BlockLaws.{length-sets, sound-puts}
use Rattle.plain_runs.proofs.plain.PlainRunsOperations.start.Goals as goal

pub invariant_of-self : goal.invariant_of-self
invariant_of-self g c =
    let sound = c.self.invariant in
    let same = length-sets c.self.inside.blocks.items c.self.inside.next _ c.put_block.ensures.items in
    sound-puts c.self.inside.blocks.items c.self.inside.next
    (record { number = c.args.number; datum = c.args.datum; asked = c.self.inside.requested })
    c.put_block.ensures.items sound sound.within (subst (λ (p : Plain). HasKind c.args.datum p.plan.settings.input) (sym c.self.view_is) c.requires.kind) (omega (arith, sound.within, same))
