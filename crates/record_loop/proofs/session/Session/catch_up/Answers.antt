use Rattle.std.proofs.Common.{refl, ap, ◌∙◌}
use Rattle.circular_buffer.specs.Buffer.{Buffer}
use Rattle.record_lines.specs.Lines.{whole_lines}
use Rattle.record_loop.specs.declared.slot.Slot.{Slot}
use Rattle.record_loop.proofs.PrintingLaws.{Printed-same}
use Rattle.record_loop.proofs.StandingLaws.{Standing-hands}
use Rattle.record_loop.proofs.ReadingLaws.{TakenAt-stays}
use Rattle.record_loop.proofs.session.Session.catch_up.Goals as goal

pub returns-clause-stays : goal.returns-clause-stays
returns-clause-stays g c = λ opening bytes taken.
    let handed = c.hand_on.ensures in
    TakenAt-stays
    (λ lines standing.
    Standing-hands (λ outcomes. Printed-same handed.form handed.summary handed.none (λ text. handed.wrote text opening.sink)) handed.grows
    handed.slots handed.requested handed.settings (c.write_all.ensures.stays opening lines standing))
    refl refl taken

pub write_all-requires-clause-going : goal.write_all-requires-clause-going
write_all-requires-clause-going g c = λ κs lives.
    let going = c.requires.going in
    record { opening = going.opening; lines = whole_lines going.bytes; standing = going.taken.standing }

pub returns-clause-none : goal.returns-clause-none
returns-clause-none g c = ap (λ (b : Buffer Slot). b.items) c.hand_on.ensures.slots ∙ c.write_all.ensures.none

pub returns-clause-settled : goal.returns-clause-settled
returns-clause-settled g c = c.hand_on.ensures.settled
