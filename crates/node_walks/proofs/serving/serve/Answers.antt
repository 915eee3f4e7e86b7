use Rattle.std.proofs.Common.{Bool, true, false, refl, subst}
use Rattle.std.proofs.lemmas.Bool.{both_ways}
use Rattle.table_steps.specs.Steps.{control_index}
use Rattle.op_slot.proofs.Staying.{stays-on}
use Rattle.exec_recv.proofs.Asiding.{aside-here, aside-on}
use Rattle.node_walks.specs.Serving.{TakesUp, TakesWord}
use Rattle.exec_recv.proofs.Since.{moved-after}
use Rattle.node_walks.proofs.Read.{looked-rests, looked-aside, looked-only, looks-here, lost-missed}
use Rattle.node_walks.proofs.Took.{took-aside, took-can, took-moved}
use Rattle.node_walks.proofs.serving.serve.Goals as goal

pub returns-then-not-take_up : goal.returns-then-not-take_up
returns-then-not-take_up g c =
    let lost = c.take_up.ensures.taken.1 c.if-not-take_up.true in
    let old = c.args.hand.now.me in
    let new = c.take_up.new.hand.me in
    record {
      stays = rw (← c.site.view_is) c.take_up.ensures.stays;
      rests = looked-rests _ _ old new lost.2 c.requires.rests;
      aside = looked-aside _ _ old new lost.2;
      served = λ is. absurd (both_ways false refl is);
      only = λ is. absurd (both_ways false refl is);
      missed = λ _. rw (← c.site.view_is) (lost-missed c.site.inside.table.now c.args.from c.args.name old new lost);
      looks = λ _. looked-only _ _ old new lost.2;
      unheard = λ _. refl;
      mail = g.met.M.Mail.none c.args.mail.now;
    }

pub take_up-requires-clause-hand : goal.take_up-requires-clause-hand
take_up-requires-clause-hand g c = rw (← c.site.view_is) at c.requires.hand

pub go_on-requires-clause-hand : goal.go_on-requires-clause-hand
go_on-requires-clause-hand g c κs within = rw (← c.site.view_is) c.take_up.ensures.stays.hand

pub go_on-requires-clause-can : goal.go_on-requires-clause-can
go_on-requires-clause-can g c κs within =
    let site = rw (← c.site.view_is) at c.requires.site in
    let place = rw (← c.site.view_is) at c.requires.place in
    let hand = rw (← c.site.view_is) at c.requires.hand in
    rw (← c.site.view_is)
    (took-can c.site.inside.table.now _ site.over c.args.name place _ _ _ c.args.hand.now.me c.take_up.new.hand.me
    (c.take_up.ensures.taken.0 c.if-not-take_up.false).2 hand.seated c.requires.rests)

pub returns : goal.returns
returns g c =
    let board = c.site.inside.table.now in
    let over = (rw (← c.site.view_is) at c.requires.site).over in
    let place = rw (← c.site.view_is) at c.requires.place in
    let seated = (rw (← c.site.view_is) at c.requires.hand).seated in
    let x = c.args.name in
    let old = c.args.hand.now in
    let held = c.take_up.new.hand in
    let new = c.go_on.new.hand in
    let won = c.take_up.ensures.taken.0 c.if-not-take_up.false in
    let aside = took-aside board _ over x place _ _ _ old.me held.me won.2 seated c.requires.rests in
    let took = subst (λ (answer : Bool). TakesUp board x c.args.from answer old.me held.me) c.if-not-take_up.false c.take_up.ensures.taken in
    let moved = took-moved board _ over x place _ _ _ old.me held.me won.2 seated c.requires.rests in
    record {
      stays = rw (← c.site.view_is) (stays-on board old held new c.take_up.ensures.stays (rw (← c.site.view_is) at c.go_on.ensures.stays));
      rests = c.go_on.ensures.rests;
      aside = aside-on old.me held.me new.me aside c.go_on.ensures.aside;
      served = λ _.
          rw (← c.site.view_is)
          (record {
            before = old.me;
            kept = aside-here old.me;
            held = held.me;
            took = took;
            taken = moved-after (control_index board x) (TakesWord c.args.from x) old.me held.me new.me
                (moved (TakesWord c.args.from x) (refl, won.1)) c.go_on.ensures.aside;
            stepped = rw (← c.site.view_is) at c.go_on.ensures.first;
          });
      only = λ _.
          let only = rw (← c.site.view_is) at c.go_on.ensures.only in
          rw (← c.site.view_is)
          (record {
            ready = only.ready;
            leaves = record {
              before = old.me;
              looks = looks-here old.me;
              held = held.me;
              took = took;
              steps = only.leaves;
            };
            heard = only.heard;
          });
      missed = λ is. absurd (both_ways true is refl);
      looks = λ is. absurd (both_ways true is refl);
      unheard = λ is. absurd (both_ways true is refl);
      mail = c.go_on.ensures.mail;
    }
