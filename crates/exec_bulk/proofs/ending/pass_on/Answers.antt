use Rattle.std.proofs.Common.{Bool, refl, subst}
use Rattle.step_parts.specs.Completes.{Completes}
use Rattle.exec_bulk.proofs.Ended.{passed-ends}
use Rattle.exec_bulk.proofs.ending.pass_on.Goals as goal

pub complete-requires : goal.complete-requires
complete-requires g c = record { may = passed-ends _ _ _ _ c.requires.may _ _ refl c.saw-saw.ensures }

pub returns : goal.returns
returns g c =
    subst (λ (s : Bool). Completes c.args.site.now c.args.taken c.args.done.now s c.complete.result c.args.hand.now c.complete.new.hand)
    c.saw-saw.ensures c.complete.ensures
