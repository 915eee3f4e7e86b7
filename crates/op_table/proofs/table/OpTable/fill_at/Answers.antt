use Rattle.std.proofs.Common.{sym, ap, ◌∙◌, refl}
use Rattle.std.proofs.lemmas.Bool.{true≢false}
use Rattle.std.specs.Prelude.{Some, None, is_some, unwrap_or}
use Rattle.table_words.specs.Layouts.{OfControl, index}
use Rattle.table_steps.specs.Views.{aim_at}
use Rattle.table_hands_kept.proofs.Hands.{hand-seated}
use Rattle.table_life_kept.proofs.Turn.Swapping.{turned-first, swapped-told, swapped-seated}
use Rattle.op_table.proofs.Exchange.{exchange}
use Rattle.op_table.proofs.table.OpTable.fill_at.Goals as goal

pub turn_to-slot-requires-clause-home : goal.turn_to-slot-requires-clause-home
turn_to-slot-requires-clause-home g c = λ κs _. record { inside = None; home = c.requires.empty }

pub slot_mut-home-requires-clause-table : goal.slot_mut-home-requires-clause-table
slot_mut-home-requires-clause-table g c =
    c.turn_to-slot.ensures.same.0 ∙ (c.requires.table.table_is ∙ sym (ap (λ b. b.table_id) c.self.view_is))

pub slot_mut-home-requires-clause-taken : goal.slot_mut-home-requires-clause-taken
slot_mut-home-requires-clause-taken g c =
    turned-first c.turn_to-slot.result (aim_at c.args.self.now c.args.name)
    (index c.args.self.now.frame.layout (OfControl c.args.name.block c.args.name.node))
    c.turn_to-slot.ensures.turned.0 c.args.seat.now.me c.turn_to-slot.new.seat.me
    c.turn_to-slot.ensures.turned.1 c.turn_to-slot.ensures.slot

pub unreachable-requires : goal.unreachable-requires
unreachable-requires g c =
    let did = swapped-told c.args.self.now.frame
    (exchange c.args.self.now.frame c.args.name {inside = c.args.seat.now} None refl c.turn_to-slot.ensures.turned
    c.turn_to-slot.ensures.slot c.slot_mut-home.ensures.value refl) in
    let vacant = ap (λ z. is_some (unwrap_or z None)) (sym did.home ∙ c.requires.empty) in
    true≢false (sym c.if-is_some.true ∙ (c.is_some.ensures ∙ vacant))

pub returns-clause-filled : goal.returns-clause-filled
returns-clause-filled g c =
    let did = swapped-told c.args.self.now.frame
    (exchange c.args.self.now.frame c.args.name {inside = c.args.seat.now} (Some c.args.item) refl c.turn_to-slot.ensures.turned
    c.turn_to-slot.ensures.slot c.slot_mut-home.ensures.value refl) in
    record { word = did.word; home = c.requires.empty; me_is = did.me_is }

pub returns-clause-stays : goal.returns-clause-stays
returns-clause-stays g c =
    hand-seated c.args.self.now c.args.seat.now _ c.requires.table c.turn_to-slot.ensures.same
    (swapped-seated c.args.self.now.frame
    (exchange c.args.self.now.frame c.args.name {inside = c.args.seat.now} (Some c.args.item) refl c.turn_to-slot.ensures.turned
    c.turn_to-slot.ensures.slot c.slot_mut-home.ensures.value refl))
