use Rattle.std.proofs.Common.{Bool, sym, ◌∙◌, subst}
use Rattle.step_parts.specs.Heard.{Looked}
use Rattle.exec_delay.proofs.Begun.{look-stops, look-parks}
use Rattle.exec_delay.proofs.beginning.begin_delay.Goals as goal

pub complete_stopped-requires : goal.complete_stopped-requires
complete_stopped-requires g c =
    record {
      may = look-stops c.args.site.now c.args.taken c.args.hand.now c.listen.new.hand c.requires.may.delay c.listen.ensures.keeps
          (subst (λ (b : Bool). Looked c.args.site.now c.args.taken.name b c.args.hand.now.me c.listen.new.hand.me) c.if-listen.true
          c.listen.ensures.listens.looked);
    }

pub leave_parked-requires : goal.leave_parked-requires
leave_parked-requires g c =
    record { may = look-parks c.args.site.now c.args.taken c.args.hand.now c.listen.new.hand c.requires.may.delay c.listen.ensures.keeps }
