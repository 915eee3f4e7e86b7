use Rattle.std.proofs.Common.{◌≡◌, true, sym, subst}
use Rattle.life_rules.specs.declared.event.Name.{Name}
use Rattle.node_tree.specs.Tree.{is_child}
use Rattle.table_steps.specs.Requests.{OwesFailed}
use Rattle.table_steps.specs.Views.{IsPlaceIn}
use Rattle.table_steps.specs.declared.report.Report.TheVariants.{Last, Others}
use Rattle.op_slot.proofs.Staying.{stays-on}
use Rattle.home_items.specs.contracts.item.ItemCargo.TheImpl.{ghosts}
use Rattle.exec_recv.specs.declared.next.Next.TheVariants.{Go}
use Rattle.exec_recv.specs.Deliveries.{HasTold, Delivers}
use Rattle.exec_recv.specs.Sites.{Steps}
use Rattle.exec_recv.proofs.Completing.{can-finish}
use Rattle.exec_recv.proofs.Delivered.{may-mark, can-report, delivered, stepped}
use Rattle.exec_recv.proofs.delivering.deliver.Goals as goal

pub finish-requires-clause-needs : goal.finish-requires-clause-needs
finish-requires-clause-needs g c κs =
    can-finish c.site.inside.table.now c.args.name c.args.failed c.args.hand.now (rw (← c.site.view_is) at c.requires.can)

pub tell_failure-requires-clause-failed : goal.tell_failure-requires-clause-failed
tell_failure-requires-clause-failed g c is =
    let board = c.site.inside.table.now in
    let can = rw (← c.site.view_is) at c.requires.can in
    let above = c.parent_of-parent.ensures in
    rw (← c.site.view_is)
    (subst (λ (y : Name). OwesFailed ghosts board.frame.tree c.finish.new.hand.me.0 y) (sym above.name)
    (may-mark board c.args.name c.args.failed c.args.hand.now c.finish.new.hand.me can c.finish.ensures.finished
    (subst (λ (y : Name). is_child board.frame.tree y.node c.args.name.node ≡ true) above.name above.below) (can.on is)))

pub report_below-requires-clause-above : goal.report_below-requires-clause-above
report_below-requires-clause-above g c κs = c.parent_of-parent.ensures.name

pub report_below-requires-clause-within : goal.report_below-requires-clause-within
report_below-requires-clause-within g c κs = c.parent_of-parent.ensures.place

pub report_below-requires-clause-needs : goal.report_below-requires-clause-needs
report_below-requires-clause-needs g c κs =
    let board = c.site.inside.table.now in
    let above = c.parent_of-parent.ensures in
    can-report board c.args.name c.args.failed c.args.hand.now c.finish.new.hand.me (rw (← c.site.view_is) at c.requires.can)
    c.finish.ensures.finished c.tell_failure.new.hand.me
    (subst (λ (y : Name). HasTold board y c.args.failed c.finish.new.hand.me c.tell_failure.new.hand.me) above.name
    (rw (← c.site.view_is) at c.tell_failure.ensures.told))
    (subst (λ (y : Name). is_child board.frame.tree y.node c.args.name.node ≡ true) above.name above.below)

pub returns-in-Last-clause-steps : goal.returns-in-Last-clause-steps
returns-in-Last-clause-steps g c =
    let board = c.site.inside.table.now in
    let above = c.parent_of-parent.ensures in
    let told = rw (← c.site.view_is) at c.tell_failure.ensures in
    rw (← c.site.view_is)
    (subst (λ (y : Name). Steps board c.args.name (Go y.node) c.args.hand.now c.report_below.new.hand) (sym above.name)
    (record {
      stays = stays-on board c.args.hand.now c.finish.new.hand c.report_below.new.hand c.finish.ensures.stays
          (stays-on board c.finish.new.hand c.tell_failure.new.hand c.report_below.new.hand told.stays c.report_below.ensures.stays);
      stepped = stepped board c.args.name c.args.failed c.args.hand.now c.finish.new.hand.me (rw (← c.site.view_is) at c.requires.can)
          c.finish.ensures.finished c.tell_failure.new.hand.me
          (subst (λ (y : Name). HasTold board y c.args.failed c.finish.new.hand.me c.tell_failure.new.hand.me) above.name told.told)
          c.report_below.new.hand.me told.stays.hand.seated (subst (IsPlaceIn board) above.name above.place)
          (subst (λ (y : Name). is_child board.frame.tree y.node c.args.name.node ≡ true) above.name above.below)
          Last c.in-Last.ensures.reported;
    }))

pub returns-in-Last-clause-delivers : goal.returns-in-Last-clause-delivers
returns-in-Last-clause-delivers g c =
    let board = c.site.inside.table.now in
    let above = c.parent_of-parent.ensures in
    rw (← c.site.view_is)
    (subst (λ (y : Name). Delivers board c.args.name (Go y.node) c.args.hand.now.me c.report_below.new.hand.me) (sym above.name)
    (delivered board c.args.name c.args.failed c.args.hand.now c.finish.new.hand.me (rw (← c.site.view_is) at c.requires.can)
    c.finish.ensures.finished c.tell_failure.new.hand.me
    (subst (λ (y : Name). HasTold board y c.args.failed c.finish.new.hand.me c.tell_failure.new.hand.me) above.name
    (rw (← c.site.view_is) at c.tell_failure.ensures.told))
    c.report_below.new.hand.me Last c.in-Last.ensures.reported))

pub returns-in-Others-clause-steps : goal.returns-in-Others-clause-steps
returns-in-Others-clause-steps g c =
    let board = c.site.inside.table.now in
    let above = c.parent_of-parent.ensures in
    let told = rw (← c.site.view_is) at c.tell_failure.ensures in
    rw (← c.site.view_is)
    (record {
      stays = stays-on board c.args.hand.now c.finish.new.hand c.report_below.new.hand c.finish.ensures.stays
          (stays-on board c.finish.new.hand c.tell_failure.new.hand c.report_below.new.hand told.stays c.report_below.ensures.stays);
      stepped = stepped board c.args.name c.args.failed c.args.hand.now c.finish.new.hand.me (rw (← c.site.view_is) at c.requires.can)
          c.finish.ensures.finished c.tell_failure.new.hand.me
          (subst (λ (y : Name). HasTold board y c.args.failed c.finish.new.hand.me c.tell_failure.new.hand.me) above.name told.told)
          c.report_below.new.hand.me told.stays.hand.seated (subst (IsPlaceIn board) above.name above.place)
          (subst (λ (y : Name). is_child board.frame.tree y.node c.args.name.node ≡ true) above.name above.below)
          Others c.in-Others.ensures.reported;
    })

pub returns-in-Others-clause-delivers : goal.returns-in-Others-clause-delivers
returns-in-Others-clause-delivers g c =
    let board = c.site.inside.table.now in
    let above = c.parent_of-parent.ensures in
    rw (← c.site.view_is)
    (delivered board c.args.name c.args.failed c.args.hand.now c.finish.new.hand.me (rw (← c.site.view_is) at c.requires.can)
    c.finish.ensures.finished c.tell_failure.new.hand.me
    (subst (λ (y : Name). HasTold board y c.args.failed c.finish.new.hand.me c.tell_failure.new.hand.me) above.name
    (rw (← c.site.view_is) at c.tell_failure.ensures.told))
    c.report_below.new.hand.me Others c.in-Others.ensures.reported)
