use Rattle.std.proofs.Common.{refl}
use Rattle.record_lines.specs.Lines.{whole_lines}
use Rattle.record_loop.proofs.ReadingLaws.{TakenAt-stays}
use Rattle.record_loop.proofs.session.Session.make_room.Goals as goal

pub make_room-requires-clause-going : goal.make_room-requires-clause-going
make_room-requires-clause-going g c = λ κs lives.
    let going = c.requires.going in
    record { opening = going.opening; lines = whole_lines going.bytes; standing = going.taken.standing }

pub returns-clause-stays : goal.returns-clause-stays
returns-clause-stays g c = λ opening bytes taken.
    TakenAt-stays (λ lines standing. c.make_room.ensures.stays opening lines standing) refl refl taken
