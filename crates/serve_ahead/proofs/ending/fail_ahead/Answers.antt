use Rattle.std.proofs.Common.{Bool, Some, sym, subst}
use Rattle.exec_value.specs.declared.outcome.Completion.{Completion}
use Rattle.home_items.specs.Parcels.{MayDeliver}
use Rattle.step_parts.specs.Completes.{MayEnd, Completes}
use Rattle.node_walks.proofs.Walked.{walked-anyhow}
use Rattle.serve_ahead.proofs.AtHand.{has-stepped, rests-since, may-end, may-fail}
use Rattle.serve_ahead.proofs.ending.fail_ahead.Goals as goal

pub complete-next-requires : goal.complete-next-requires
complete-next-requires g c =
    record {
      may =
          let board = c.args.site.now in
          let has = c.requires.has in
          subst (λ (done : Completion). MayEnd board c.args.taken done c.saw-saw.result c.args.hand.now) (sym c.into_completion-done.ensures)
          (subst (λ (saw : Bool). MayEnd board c.args.taken c.args.parcel.completion saw c.args.hand.now) (sym c.saw-saw.ensures)
          (may-end board c.args.at c.args.taken c.args.parcel c.args.hand.now has c.args.parcel.completion c.args.parcel.saw
          (may-fail board c.args.at c.args.taken c.args.parcel c.args.hand.now has c.requires.fails) has.parcel.from.saw));
    }

pub go_after-requires-clause-after : goal.go_after-requires-clause-after
go_after-requires-clause-after g c κs within =
    has-stepped c.args.site.now c.args.at c.args.taken (Some c.args.parcel) c.args.hand.now c.requires.has c.complete-next.new.hand
    c.complete-next.result c.complete-next.ensures.steps

pub returns-clause-serves : goal.returns-clause-serves
returns-clause-serves g c = record {
  next = c.complete-next.result;
  completed = c.complete-next.new.hand;
  completes =
      subst (λ (saw : Bool). Completes c.args.site.now c.args.taken c.args.parcel.completion saw c.complete-next.result c.args.hand.now c.complete-next.new.hand)
      c.saw-saw.ensures
      (subst (λ (done : Completion). Completes c.args.site.now c.args.taken done c.saw-saw.result c.complete-next.result c.args.hand.now c.complete-next.new.hand)
      c.into_completion-done.ensures c.complete-next.ensures);
  after = walked-anyhow g.T.Stepper.does c.args.site.now c.args.at.name c.args.taken.name c.complete-next.result c.complete-next.new.hand.me
      c.go_after.new.hand.me c.requires.has.name_is c.go_after.ensures.walks;
}

pub returns-clause-rests : goal.returns-clause-rests
returns-clause-rests g c =
    rests-since c.args.site.now c.args.taken c.complete-next.result c.complete-next.new.hand c.complete-next.ensures.steps c.go_after.new.hand
    c.go_after.ensures.stays c.go_after.ensures.rests c.go_after.ensures.aside
