use Rattle.std.proofs.Common.{refl, sym, subst}
use Rattle.plan_shape.specs.Blueprint.{Blueprint}
use Rattle.table_steps.specs.Views.{Board}
use Rattle.op_slot.proofs.Staying.{stays-on}
use Rattle.node_walks.specs.Starts.{MissesEach}
use Rattle.node_walks.proofs.Walked.{any-goes}
use Rattle.spawn_future.proofs.Entered.{entered, missed-has, missed-back}
use Rattle.spawn_future.proofs.Moved.{associated-moves, refused-moves, left-moves, moved-rests, moved-leaves}
use Rattle.spawn_future.proofs.entering.enter.Goals as goal

pub associate-requires-clause-table : goal.associate-requires-clause-table
associate-requires-clause-table g c κs = rw (← c.site.view_is) at c.requires.hand

pub begin_root-requires-clause-hand : goal.begin_root-requires-clause-hand
begin_root-requires-clause-hand g c κs within = (rw c.site.view_is at c.associate.ensures.stays).hand

pub disassociate-requires-clause-table : goal.disassociate-requires-clause-table
disassociate-requires-clause-table g c κs = (rw (← c.site.view_is) at c.begin_root.ensures.stays).hand

pub returns-in-Err-clause-stays : goal.returns-in-Err-clause-stays
returns-in-Err-clause-stays g c = rw c.site.view_is at c.associate.ensures.stays

pub returns-in-Err-clause-mail : goal.returns-in-Err-clause-mail
returns-in-Err-clause-mail g c = g.met.M.Mail.none c.args.mail.now

pub returns-in-Ok-begin_root-clause-stays : goal.returns-in-Ok-begin_root-clause-stays
returns-in-Ok-begin_root-clause-stays g c =
    stays-on c.args.site.now c.args.hand.now c.associate.new.hand c.begin_root.new.hand (rw c.site.view_is at c.associate.ensures.stays)
    c.begin_root.ensures.stays

pub returns-in-Err-begin_root-clause-stays : goal.returns-in-Err-begin_root-clause-stays
returns-in-Err-begin_root-clause-stays g c =
    let board = c.args.site.now in
    let old = c.args.hand.now in
    stays-on board old c.begin_root.new.hand c.disassociate.new.hand
    (stays-on board old c.associate.new.hand c.begin_root.new.hand (rw c.site.view_is at c.associate.ensures.stays) c.begin_root.ensures.stays)
    (rw c.site.view_is at c.disassociate.ensures.stays)

pub begin_root-requires-clause-rests : goal.begin_root-requires-clause-rests
begin_root-requires-clause-rests g c κs within =
    let old = c.args.hand.now.me in
    let made = associated-moves old c.associate.new.hand.me c.site.inside.table.now.frame.most c.in-Ok.association c.in-Ok.ensures.associated in
    moved-rests _ old c.associate.new.hand.me made c.requires.rests

pub returns-in-Err-clause-rests : goal.returns-in-Err-clause-rests
returns-in-Err-clause-rests g c =
    let old = c.args.hand.now.me in
    let moved = refused-moves old c.associate.new.hand.me c.site.inside.table.now.frame.most c.in-Err.cause c.in-Err.ensures.associated in
    moved-rests _ old c.associate.new.hand.me moved c.requires.rests

pub returns-in-Err-clause-out : goal.returns-in-Err-clause-out
returns-in-Err-clause-out g c =
    let old = c.args.hand.now.me in
    let moved = refused-moves old c.associate.new.hand.me c.site.inside.table.now.frame.most c.in-Err.cause c.in-Err.ensures.associated in
    rw (← c.site.view_is)
    (record {
      back_is = refl;
      because = record {
        refused = c.in-Err.ensures.associated;
        same = moved-leaves _ old c.associate.new.hand.me moved;
      };
    })

pub disassociate-requires-clause-has : goal.disassociate-requires-clause-has
disassociate-requires-clause-has g c κs =
    let board = c.site.inside.table.now in
    let old = c.args.hand.now.me in
    let made = associated-moves old c.associate.new.hand.me board.frame.most c.in-Ok.association c.in-Ok.ensures.associated in
    let none = subst (λ (b : Board Blueprint). MissesEach b 0 c.associate.new.hand c.begin_root.new.hand) (sym c.site.view_is)
    c.in-Err-begin_root.ensures.none in
    missed-has board board.frame.layout.blocks old c.associate.new.hand c.begin_root.new.hand made none c.requires.settled

pub returns-in-Ok-begin_root-clause-entered : goal.returns-in-Ok-begin_root-clause-entered
returns-in-Ok-begin_root-clause-entered g c =
    let board = c.site.inside.table.now in
    let old = c.args.hand.now.me in
    let made = associated-moves old c.associate.new.hand.me board.frame.most c.in-Ok.association c.in-Ok.ensures.associated in
    rw (← c.site.view_is)
    (entered board c.in-Ok-begin_root.block c.args.env old c.associate.new.hand.me c.begin_root.new.hand.me made
    (rw (← c.site.view_is) at c.in-Ok-begin_root.ensures.begun))

pub returns-in-Ok-begin_root-clause-only : goal.returns-in-Ok-begin_root-clause-only
returns-in-Ok-begin_root-clause-only g c =
    let board = c.args.site.now in
    let first = c.in-Ok-begin_root.ensures.first in
    record {
      association = c.in-Ok.association;
      entered = c.associate.new.hand;
      made = rw c.site.view_is at c.in-Ok.ensures.associated;
      ready = first.ready;
      goes = any-goes g.T.Stepper.does board 0 c.in-Ok-begin_root.block c.args.env c.associate.new.hand c.begin_root.new.hand.me first.ready
          first.leaves;
    }

pub returns-in-Err-begin_root-clause-rests : goal.returns-in-Err-begin_root-clause-rests
returns-in-Err-begin_root-clause-rests g c =
    let left = left-moves c.begin_root.new.hand.me c.disassociate.new.hand.me c.disassociate.ensures.left in
    moved-rests _ c.begin_root.new.hand.me c.disassociate.new.hand.me left c.begin_root.ensures.rests

pub returns-in-Err-begin_root-clause-out : goal.returns-in-Err-begin_root-clause-out
returns-in-Err-begin_root-clause-out g c =
    let board = c.site.inside.table.now in
    let old = c.args.hand.now.me in
    let made = associated-moves old c.associate.new.hand.me board.frame.most c.in-Ok.association c.in-Ok.ensures.associated in
    let none = subst (λ (b : Board Blueprint). MissesEach b 0 c.associate.new.hand c.begin_root.new.hand) (sym c.site.view_is)
    c.in-Err-begin_root.ensures.none in
    let left = left-moves c.begin_root.new.hand.me c.disassociate.new.hand.me c.disassociate.ensures.left in
    rw (← c.site.view_is)
    (record {
      back_is = c.in-Err-begin_root.ensures.back;
      because = record {
        association = c.in-Ok.association;
        entered = c.associate.new.hand;
        made = c.in-Ok.ensures.associated;
        searched = c.begin_root.new.hand;
        missed = none;
        left = c.disassociate.ensures.left;
        same = missed-back board board.frame.layout.blocks old c.associate.new.hand c.begin_root.new.hand made none c.disassociate.new.hand.me left;
      };
    })
