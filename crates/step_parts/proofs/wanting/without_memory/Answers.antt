use Rattle.std.proofs.Common.{sym, ap, ◌∙◌}
use Rattle.home_items.specs.Entries.{carried_of}
use Rattle.op_slot.proofs.Loans.{if-there}
use Rattle.step_parts.specs.Wants.{is_text_alone}
use Rattle.step_parts.proofs.Changing.{taken-home, lent-keeps, lent-start}
use Rattle.step_parts.proofs.Wanted.{look-leaves, look-wants, ends-later, ends-now}
use Rattle.step_parts.proofs.wanting.without_memory.Goals as goal

pub item_mut-requires-clause-home : goal.item_mut-requires-clause-home
item_mut-requires-clause-home g c κs = taken-home _ _ _ (rw (← c.site.view_is, ← c.taken.view_is) at c.requires.may).taken

pub leave_at_rest-requires : goal.leave_at_rest-requires
leave_at_rest-requires g c = record {
  may = rw (← c.site.view_is, ← c.taken.view_is)
      (look-leaves _ _ _ (rw (← c.site.view_is, ← c.taken.view_is) at c.requires.may) _ (lent-keeps _ _ _ (rw (← c.site.view_is, ← c.taken.view_is) at c.requires.may).taken c.item_mut.result c.item_mut.ensures.value
      c.in-Some.item c.in-Some.is _
      (if-there _ (c.item_mut.follows.holds c.in-Some.item.now) c.in-Some.is)));
}

pub want_memory-requires : goal.want_memory-requires
want_memory-requires g c = record {
  may = rw (← c.site.view_is, ← c.taken.view_is)
      (look-wants _ _ _ (rw (← c.site.view_is, ← c.taken.view_is) at c.requires.may) _ (lent-keeps _ _ _ (rw (← c.site.view_is, ← c.taken.view_is) at c.requires.may).taken c.item_mut.result c.item_mut.ensures.value
      c.in-Some.item c.in-Some.is _
      (if-there _ (c.item_mut.follows.holds c.in-Some.item.now) c.in-Some.is))
      (sym (c.is_text_alone-later.ensures ∙ ap is_text_alone (c.args-in-Some.ensures
      ∙ ap carried_of (lent-start _ _ _ (rw (← c.site.view_is, ← c.taken.view_is) at c.requires.may).taken c.item_mut.result c.item_mut.ensures.value
      c.in-Some.item c.in-Some.is)))
      ∙ c.if-later.false));
}

pub returns-then-later : goal.returns-then-later
returns-then-later g c =
    rw (← c.site.view_is, ← c.taken.view_is)
    (ends-later _ _ _ (rw (← c.site.view_is, ← c.taken.view_is) at c.requires.may) _ (lent-keeps _ _ _ (rw (← c.site.view_is, ← c.taken.view_is) at c.requires.may).taken c.item_mut.result c.item_mut.ensures.value
    c.in-Some.item c.in-Some.is _
    (if-there _ (c.item_mut.follows.holds c.in-Some.item.now) c.in-Some.is)) _ _
    (sym (c.is_text_alone-later.ensures ∙ ap is_text_alone (c.args-in-Some.ensures
    ∙ ap carried_of (lent-start _ _ _ (rw (← c.site.view_is, ← c.taken.view_is) at c.requires.may).taken c.item_mut.result c.item_mut.ensures.value
    c.in-Some.item c.in-Some.is)))
    ∙ c.if-later.true)
    (rw (← c.site.view_is, ← c.taken.view_is) at c.leave_at_rest.ensures))

pub returns : goal.returns
returns g c =
    rw (← c.site.view_is, ← c.taken.view_is)
    (ends-now _ _ _ (rw (← c.site.view_is, ← c.taken.view_is) at c.requires.may) _ (lent-keeps _ _ _ (rw (← c.site.view_is, ← c.taken.view_is) at c.requires.may).taken c.item_mut.result c.item_mut.ensures.value
    c.in-Some.item c.in-Some.is _
    (if-there _ (c.item_mut.follows.holds c.in-Some.item.now) c.in-Some.is)) _ _
    (sym (c.is_text_alone-later.ensures ∙ ap is_text_alone (c.args-in-Some.ensures
    ∙ ap carried_of (lent-start _ _ _ (rw (← c.site.view_is, ← c.taken.view_is) at c.requires.may).taken c.item_mut.result c.item_mut.ensures.value
    c.in-Some.item c.in-Some.is)))
    ∙ c.if-later.false)
    (rw (← c.site.view_is, ← c.taken.view_is) at c.want_memory.ensures))

pub item_mut-requires-clause-table : goal.item_mut-requires-clause-table
item_mut-requires-clause-table g c κs = (rw (← c.site.view_is) at c.requires.may.taken.stays).hand

pub item_mut-requires-clause-place : goal.item_mut-requires-clause-place
item_mut-requires-clause-place g c κs = rw (← c.site.view_is, ← c.taken.view_is) at c.requires.may.taken.ready.is.place
