use Rattle.std.proofs.Common.{sym, ap, ◌∙◌, subst}
use Rattle.std.specs.Cmp.Lexicographic.{pointwise_decides}
use Rattle.exec_value.specs.Equal.{Decides-datum_eq}
use Rattle.life_rules.specs.declared.event.Name.{Name}
use Rattle.op_slot.proofs.Loans.{if-there}
use Rattle.home_items.specs.Entries.{carried_of}
use Rattle.step_parts.proofs.Changing.{taken-home, lent-keeps, lent-start}
use Rattle.serve_ahead.proofs.joining.has_args.Goals as goal

pub item_mut-requires-clause-home : goal.item_mut-requires-clause-home
item_mut-requires-clause-home g c κs =
    rw c.name.ensures (taken-home _ c.args.taken.now c.args.hand.now (rw (← c.site.view_is) at c.requires.taken))

pub returns-clause-keeps : goal.returns-clause-keeps
returns-clause-keeps g c =
    rw (← c.site.view_is)
    (lent-keeps _ c.args.taken.now c.args.hand.now (rw (← c.site.view_is) at c.requires.taken) c.item_mut.result
    (rw c.name.ensures at c.item_mut.ensures.value) c.in-Some.item c.in-Some.is _
    (rw c.name.ensures at (if-there _ (c.item_mut.follows.holds c.in-Some.item.now) c.in-Some.is)))

pub returns-clause-same : goal.returns-clause-same
returns-clause-same g c t =
    let same = (pointwise_decides Decides-datum_eq c.args-theirs.result.now c.args-own.result.now).0 (sym c.eq.ensures ∙ t) in
    sym c.args-theirs.ensures ∙ same ∙ c.args-own.ensures
    ∙ ap carried_of
    (lent-start _ c.args.taken.now c.args.hand.now (rw (← c.site.view_is) at c.requires.taken) c.item_mut.result
    (rw c.name.ensures at c.item_mut.ensures.value) c.in-Some.item c.in-Some.is)
