use Rattle.std.proofs.Common.{Bool, Some, None, inl, inr, refl, sym, ap, ◌∙◌, subst}
use Rattle.exec_value.specs.declared.outcome.Completion.{Completion}
use Rattle.plan_rules.specs.Settle.{ahead_of}
use Rattle.step_parts.specs.Completes.{Completes}
use Rattle.node_walks.proofs.Walked.{walked-anyhow}
use Rattle.serve_ahead.proofs.AtHand.{of, has-stepped, has-still, has-bare, may-end, rests-since}
use Rattle.serve_ahead.proofs.Both.{plan-same, room-there-is, joined-allowed, joined-sees}
use Rattle.serve_ahead.proofs.joining.join_both.Goals as goal

pub may_join-requires-clause-taken : goal.may_join-requires-clause-taken
may_join-requires-clause-taken g c =
    (has-still c.args.site.now c.args.at c.args.taken (Some c.args.parcel) c.args.hand.now c.requires.has c.hear-heard.new.hand
    c.hear-heard.ensures.keeps).taken

pub may_join-requires-clause-of : goal.may_join-requires-clause-of
may_join-requires-clause-of g c =
    of c.args.site.now c.args.at c.args.taken (Some c.args.parcel) c.args.hand.now c.requires.has

pub may_join-requires-clause-plan : goal.may_join-requires-clause-plan
may_join-requires-clause-plan g c =
    plan-same c.args.site.now c.args.at c.args.taken c.args.parcel c.args.hand.now c.requires.has c.args.ended c.requires.ended

pub give_up-requires-clause-has : goal.give_up-requires-clause-has
give_up-requires-clause-has g c κs within =
    let board = c.args.site.now in
    let heard = c.hear-heard.new.hand in
    let has = has-still board c.args.at c.args.taken (Some c.args.parcel) c.args.hand.now c.requires.has heard c.hear-heard.ensures.keeps in
    has-bare board c.args.at c.args.taken c.args.parcel c.may_join.new.hand
    (has-still board c.args.at c.args.taken (Some c.args.parcel) heard has c.may_join.new.hand c.may_join.ensures.keeps)

pub put_together-requires : goal.put_together-requires
put_together-requires g c =
    room-there-is c.args.site.now c.args.at c.args.taken c.args.parcel c.args.hand.now c.requires.has c.args.ended c.requires.ended
    (c.may_join.ensures.same c.if-not-may_join.false)

pub complete-next-requires : goal.complete-next-requires
complete-next-requires g c =
    let board = c.args.site.now in
    let at = c.args.at in
    let t = c.args.taken in
    let parcel = c.args.parcel in
    let ended = c.args.ended in
    let heard = c.hear-heard.new.hand in
    let middle = c.may_join.new.hand in
    let has = has-still board at t (Some parcel) heard
    (has-still board at t (Some parcel) c.args.hand.now c.requires.has heard c.hear-heard.ensures.keeps) middle c.may_join.ensures.keeps in
    record {
      may = may-end board at t parcel middle has c.in-Some.joined.done c.in-Some.joined.saw
          (joined-allowed board at t parcel c.args.hand.now c.requires.has ended c.requires.ended (c.may_join.ensures.same c.if-not-may_join.false) _
          c.in-Some.ensures)
          (joined-sees board at t parcel middle has ended c.requires.ended _ c.in-Some.ensures c.hear-heard.result c.args.hand.now heard
          c.hear-heard.ensures.looked c.may_join.ensures.keeps.ready (c.may_join.ensures.heard c.if-not-may_join.false));
    }

pub give_up-requires-in-None-clause-has : goal.give_up-requires-in-None-clause-has
give_up-requires-in-None-clause-has g c κs within =
    let board = c.args.site.now in
    let heard = c.hear-heard.new.hand in
    let has = has-still board c.args.at c.args.taken (Some c.args.parcel) c.args.hand.now c.requires.has heard c.hear-heard.ensures.keeps in
    has-bare board c.args.at c.args.taken c.args.parcel c.may_join.new.hand
    (has-still board c.args.at c.args.taken (Some c.args.parcel) heard has c.may_join.new.hand c.may_join.ensures.keeps)

pub go_after-requires-clause-after : goal.go_after-requires-clause-after
go_after-requires-clause-after g c κs within =
    has-stepped c.args.site.now c.args.at c.args.taken (Some c.args.parcel) c.args.hand.now c.requires.has c.complete-next.new.hand
    c.complete-next.result c.complete-next.ensures.steps

pub returns-then-not-may_join-clause-joins : goal.returns-then-not-may_join-clause-joins
returns-then-not-may_join-clause-joins g c = record {
  heard = c.hear-heard.result;
  looked = c.hear-heard.new.hand;
  looks = c.hear-heard.ensures.looked;
  middle = c.may_join.new.hand;
  keeps = c.may_join.ensures.keeps;
  how = inr c.give_up.ensures.serves;
}

pub returns-in-Some-clause-joins : goal.returns-in-Some-clause-joins
returns-in-Some-clause-joins g c = record {
  heard = c.hear-heard.result;
  looked = c.hear-heard.new.hand;
  looks = c.hear-heard.ensures.looked;
  middle = c.may_join.new.hand;
  keeps = c.may_join.ensures.keeps;
  how = inl (record {
    next = c.complete-next.result;
    completed = c.complete-next.new.hand;
    completes =
        subst
        (λ (saw : Bool).
        Completes c.args.site.now c.args.taken (ahead_of c.args.ended.collected.completion c.args.parcel.completion) saw c.complete-next.result c.may_join.new.hand c.complete-next.new.hand)
        c.in-Some.ensures.saw_is
        (subst (λ (done : Completion). Completes c.args.site.now c.args.taken done c.in-Some.joined.saw c.complete-next.result c.may_join.new.hand c.complete-next.new.hand)
        c.in-Some.ensures.done_is c.complete-next.ensures);
    after = walked-anyhow g.T.Stepper.does c.args.site.now c.args.at.name c.args.taken.name c.complete-next.result c.complete-next.new.hand.me
        c.go_after.new.hand.me c.requires.has.name_is c.go_after.ensures.walks;
  });
}

pub returns-in-Some-clause-rests : goal.returns-in-Some-clause-rests
returns-in-Some-clause-rests g c =
    rests-since c.args.site.now c.args.taken c.complete-next.result c.complete-next.new.hand c.complete-next.ensures.steps c.go_after.new.hand
    c.go_after.ensures.stays c.go_after.ensures.rests c.go_after.ensures.aside
