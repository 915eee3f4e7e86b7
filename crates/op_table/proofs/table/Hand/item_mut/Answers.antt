use Rattle.std.proofs.Common.{refl, sym, ap, ◌∙◌}
use Rattle.std.specs.Prelude.{Some}
use Rattle.table_words.specs.Layouts.{OfControl, index}
use Rattle.table_steps.specs.Views.{aim_at}
use Rattle.table_life_kept.proofs.Turn.Swapping.{turned-first}
use Rattle.op_table.proofs.Exchange.{lends-old, ends-with_item, ends-with_none}
use Rattle.op_table.proofs.Remembered.{remembers-turned}
use Rattle.op_table.proofs.table.Hand.item_mut.Goals as goal

pub slot_mut-requires-clause-table : goal.slot_mut-requires-clause-table
slot_mut-requires-clause-table g c =
    c.turn_to-slot.ensures.same.0 ∙ ap (λ s. s.table_id) c.self.view_is
    ∙ c.requires.table.table_is ∙ sym (ap (λ b. b.table_id) c.table.view_is)

pub slot_mut-requires-clause-taken : goal.slot_mut-requires-clause-taken
slot_mut-requires-clause-taken g c =
    turned-first c.turn_to-slot.result (aim_at c.args.table.now c.args.name)
    (index c.args.table.now.frame.layout (OfControl c.args.name.block c.args.name.node))
    c.turn_to-slot.ensures.turned.0 c.self.inside.seat.me c.turn_to-slot.new.seat.me
    c.turn_to-slot.ensures.turned.1 c.turn_to-slot.ensures.slot

pub invariant_of-self-lent : goal.invariant_of-self-lent
invariant_of-self-lent g c =
    λ _. (
      λ w. remembers-turned c.turn_to-slot.new.seat c.self.invariant c.turn_to-slot.ensures.same.0
          c.turn_to-slot.ensures.turned.1 c.turn_to-slot.result (Some w),
      remembers-turned c.turn_to-slot.new.seat c.self.invariant c.turn_to-slot.ensures.same.0
          c.turn_to-slot.ensures.turned.1 c.turn_to-slot.result c.slot_mut.result.now,
    )

pub returns : goal.returns
returns g c = (
  (
    refl,
    ends-with_item c.args.table.now c.args.name c.turn_to-slot.new.seat c.requires.table
        c.self.view_is c.turn_to-slot.ensures.same c.turn_to-slot.ensures.turned
        c.turn_to-slot.ensures.slot c.slot_mut.ensures.value
        c.as_mut.result c.as_mut.ensures.value,
    ends-with_none c.args.table.now c.args.name c.turn_to-slot.new.seat c.requires.table
        c.self.view_is c.turn_to-slot.ensures.same c.turn_to-slot.ensures.turned
        c.turn_to-slot.ensures.slot c.slot_mut.ensures.value
        c.as_mut.result c.as_mut.ensures.value,
  ),
  record {
    writes_back = tt;
    value = lends-old c.args.table.now c.args.name c.turn_to-slot.new.seat c.requires.table
        c.self.view_is c.turn_to-slot.ensures.same c.turn_to-slot.ensures.turned
        c.turn_to-slot.ensures.slot c.slot_mut.ensures.value
        ∙ ap Some (sym c.as_mut.ensures.value);
  },
)
