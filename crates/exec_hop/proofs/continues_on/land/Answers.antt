use Rattle.std.proofs.Common.{Some, false, refl}
use Rattle.plan_rules.specs.declared.node.Node.{Node}
use Rattle.plan_rules.specs.declared.node.Node.TheVariants.{ContinuesOn as IsContinuesOn}
use Rattle.step_parts.proofs.Asked.{look-sees}
use Rattle.step_parts.proofs.Ended.{parcel-on, taken-on}
use Rattle.step_parts.proofs.Took.{taken-of}
use Rattle.step_parts.proofs.Unkept.{rests-one, unkept-taken, kept-has}
use Rattle.exec_hop.proofs.Landed.{hop-lands, hop-starts}
use Rattle.exec_hop.proofs.continues_on.land.Goals as goal

pub hear-saw-requires : goal.hear-saw-requires
hear-saw-requires g c =
    let board = c.args.site.now in
    let t = c.args.taken in
    let may = c.requires.may in
    let middle = c.take_kept.new.hand in
    let taken = unkept-taken board t may.inside c.args.hand.now middle may.is c.take_kept.result c.take_kept.ensures in
    record { taken = taken }

pub pass_unless_stopped-requires : goal.pass_unless_stopped-requires
pass_unless_stopped-requires g c =
    let board = c.args.site.now in
    let t = c.args.taken in
    let may = c.requires.may in
    let node : Node = IsContinuesOn c.args.child may.on in
    let middle = c.take_kept.new.hand in
    let taken = unkept-taken board t may.inside c.args.hand.now middle may.is c.take_kept.result c.take_kept.ensures in
    let heard = c.hear-saw.new.hand in
    let keeps = c.hear-saw.ensures.keeps in
    let has = kept-has board t may.inside c.args.hand.now middle may.is (Some c.in-Some.parcel) c.in-Some.ensures
    (rests-one t.start node (taken-of board t middle taken node may.node).node_is tt) may.of may.saw in
    record {
      may = hop-lands board t heard (taken-on board t middle heard keeps taken) node may.node tt c.args.child refl c.in-Some.parcel
          (parcel-on board t middle heard keeps c.in-Some.parcel has) tt tt c.hear-saw.result
          (look-sees board t.name c.hear-saw.result middle.me heard.me c.hear-saw.ensures.looked);
    }

pub start_unless_stopped-requires : goal.start_unless_stopped-requires
start_unless_stopped-requires g c =
    let board = c.args.site.now in
    let t = c.args.taken in
    let may = c.requires.may in
    let node : Node = IsContinuesOn c.args.child may.on in
    let middle = c.take_kept.new.hand in
    let taken = unkept-taken board t may.inside c.args.hand.now middle may.is c.take_kept.result c.take_kept.ensures in
    record { may = hop-starts board t middle taken node may.node tt c.args.child refl tt refl false (λ none. refl) }
