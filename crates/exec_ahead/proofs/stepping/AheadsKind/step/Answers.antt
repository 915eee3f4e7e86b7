use Rattle.std.proofs.Common.{Option, Some, sym, ap, ◌∙◌, subst}
use Rattle.std.specs.Prelude.{IfSome}
use Rattle.life_rules.specs.declared.event.Resting.TheVariants.{Parked as IsParked}
use Rattle.plan_rules.specs.declared.node.Node.{Node}
use Rattle.plan_rules.specs.declared.node.Node.TheVariants.{Ahead}
use Rattle.home_items.specs.Parcels.{Delivery}
use Rattle.exec_recv.specs.Sites.{node_at}
use Rattle.step_parts.specs.Leaves.{LeavesAt}
use Rattle.step_parts.specs.Takes.{HasParcel}
use Rattle.step_parts.proofs.Took.{taken-leaves}
use Rattle.exec_ahead.specs.Parks.{ParksAs}
use Rattle.exec_ahead.proofs.Seconds.{ahead-only}
use Rattle.exec_ahead.proofs.stepping.AheadsKind.step.Goals as goal

pub take_one-taken-requires-clause-only : goal.take_one-taken-requires-clause-only
take_one-taken-requires-clause-only g c =
    ahead-only c.args.site.now c.args.name c.in-Ahead.first c.in-Ahead.second c.requires.may.site
    (c.node.ensures ∙ ap (λ (n : Node). Some n) c.in-Ahead.is)

pub leave_parked-requires : goal.leave_parked-requires
leave_parked-requires g c =
    let took = c.take_one-taken.ensures in
    record {
      may = taken-leaves c.args.site.now c.take_one-taken.result.taken c.take_one-taken.new.hand took.is
          (Ahead c.in-Ahead.first c.in-Ahead.second)
          (ap (node_at c.args.site.now) took.name_is ∙ c.node.ensures ∙ ap (λ (n : Node). Some n) c.in-Ahead.is)
          tt c.into_parcel.result
          (subst (λ (o : Option Delivery). IfSome o (HasParcel c.args.site.now c.take_one-taken.result.taken c.take_one-taken.new.hand.me))
          (sym c.into_parcel.ensures) took.parcel);
    }

pub returns-clause-does : goal.returns-clause-does
returns-clause-does g c =
    let board = c.args.site.now in
    let up = c.take_one-taken.result in
    let next = c.leave_parked.result in
    subst (λ (o : Option Node). ParksAs board c.args.name o next c.args.hand.now c.leave_parked.new.hand)
    (sym (c.node.ensures ∙ ap (λ (n : Node). Some n) c.in-Ahead.is))
    (record {
      up = up;
      middle = c.take_one-taken.new.hand;
      takes = c.take_one-taken.ensures;
      parks = subst (λ (o : Option Delivery). LeavesAt board up.taken o IsParked next c.take_one-taken.new.hand c.leave_parked.new.hand)
          c.into_parcel.ensures c.leave_parked.ensures;
    })
