use Rattle.std.proofs.Common.{Some, sym, ap, subst, ◌∙◌}
use Rattle.std.specs.Prelude.{slice_get}
use Rattle.std.proofs.lemmas.Option.{same_Some, slice_get_within}
use Rattle.op_slot.proofs.Loans.{if-there}
use Rattle.plan_rules.specs.declared.node.Node.{Node}
use Rattle.plan_rules.specs.declared.node.Node.TheVariants.{Bulk}
use Rattle.plan_shape.specs.Blueprint.{Blueprint}
use Rattle.table_steps.specs.Views.{Board}
use Rattle.node_images.specs.Makes.{CompletesInPlace}
use Rattle.exec_value.specs.declared.outcome.Completion.{Completion}
use Rattle.home_items.specs.Entries.{carried_of}
use Rattle.step_parts.proofs.Changing.{lent-keeps, lent-start, taken-home}
use Rattle.exec_recv.specs.Sites.{plan_at}
use Rattle.exec_bulk.proofs.Parted.{its-bulk, mapped, part-within, row-carried, share-is}
use Rattle.exec_bulk.proofs.Places.{bulk-element}
use Rattle.exec_bulk.proofs.parts.make_share.Goals as goal

pub item_mut-requires-clause-home : goal.item_mut-requires-clause-home
item_mut-requires-clause-home g c κs =
    rw (c.site.view_is, c.name.ensures) (taken-home c.args.site.now c.args.taken.now c.args.hand.now c.requires.may.taken)

pub node-requires : goal.node-requires
node-requires g c =
    let bulk = its-bulk c.args.site.now c.args.taken.now c.args.bulk c.args.part c.args.hand.now c.requires.may in
    let same = c.site.invariant ∙ ap (λ (b : Board Blueprint). plan_at b) c.site.view_is in
    slice_get_within c.site.inside.plan.now.nodes c.args.bulk (Bulk bulk.0 bulk.1)
    (ap (λ (b : Blueprint). slice_get b.nodes c.args.bulk) same ∙ bulk.2)

pub end_share-requires-clause-element : goal.end_share-requires-clause-element
end_share-requires-clause-element g c =
    let same = c.site.invariant ∙ ap (λ (b : Board Blueprint). plan_at b) c.site.view_is in
    bulk-element (plan_at c.args.site.now) c.requires.may.taken.site.over.is_plan c.args.bulk c.in-Bulk.child c.in-Bulk.job
    (sym (ap (λ (b : Blueprint). slice_get b.nodes c.args.bulk) same) ∙ c.node.ensures ∙ ap (λ (n : Node). Some n) c.in-Bulk.is)

pub end_share-requires-clause-part : goal.end_share-requires-clause-part
end_share-requires-clause-part g c = part-within c.args.site.now c.args.taken.now c.args.bulk c.args.part c.args.hand.now c.requires.may

pub end_share-requires-clause-row : goal.end_share-requires-clause-row
end_share-requires-clause-row g c =
    row-carried c.args.site.now c.args.taken.now c.args.bulk c.args.part c.args.hand.now c.requires.may c.args-row.result.now
    (c.args-row.ensures
    ∙ ap carried_of (lent-start c.args.site.now c.args.taken.now c.args.hand.now c.requires.may.taken c.item_mut.result
    (rw (c.site.view_is, c.name.ensures) at c.item_mut.ensures.value) c.in-Some.item c.in-Some.is))

pub unreachable-requires-in_default : goal.unreachable-requires-in_default
unreachable-requires-in_default g c =
    let bulk = its-bulk c.args.site.now c.args.taken.now c.args.bulk c.args.part c.args.hand.now c.requires.may in
    let same = c.site.invariant ∙ ap (λ (b : Board Blueprint). plan_at b) c.site.view_is in
    c.in_default.not-Bulk _ _
    (same_Some c.node.result.now (Bulk bulk.0 bulk.1)
    (sym c.node.ensures ∙ ap (λ (b : Blueprint). slice_get b.nodes c.args.bulk) same ∙ bulk.2))

pub returns : goal.returns
returns g c =
    let board = c.args.site.now in
    let may = c.requires.may in
    let same = c.site.invariant ∙ ap (λ (b : Board Blueprint). plan_at b) c.site.view_is in
    let at = sym (ap (λ (b : Blueprint). slice_get b.nodes c.args.bulk) same) ∙ c.node.ensures ∙ ap (λ (n : Node). Some n) c.in-Bulk.is in
    let value = rw (c.site.view_is, c.name.ensures) at c.item_mut.ensures.value in
    let row = c.args-row.ensures
    ∙ ap carried_of (lent-start board c.args.taken.now c.args.hand.now may.taken c.item_mut.result value c.in-Some.item c.in-Some.is) in
    let is = share-is board c.args.taken.now c.args.bulk c.args.part c.args.hand.now may c.in-Bulk.job c.in-Bulk.child at c.args-row.result.now row in
    record {
      keeps = lent-keeps board c.args.taken.now c.args.hand.now may.taken c.item_mut.result value c.in-Some.item c.in-Some.is _
          (rw (c.site.view_is, c.name.ensures) at (if-there _ (c.item_mut.follows.holds c.in-Some.item.now) c.in-Some.is));
      exact = mapped c.end_share.result _ _ is c.end_share.ensures.exact;
      in_place = λ stands. c.end_share.ensures.in_place (subst (λ (d : Completion). CompletesInPlace d) (sym is) stands);
    }
