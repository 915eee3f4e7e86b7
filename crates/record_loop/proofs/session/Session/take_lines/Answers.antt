use Rattle.std.proofs.Common.{rules, refl, ◌++◌, arith}
use Rattle.record_lines.specs.Lines.{whole_lines}
use Rattle.record_loop.proofs.ReadingLaws.{Advances-none, Advances-stays, Advances-trans, TakenAt-all, PassesLimit-left, BreaksOff-left, some_left}
use Rattle.record_loop.proofs.session.Session.take_lines.Goals as goal

pub loop-left-init : goal.loop-left-init
loop-left-init g c = record {
  taken = refl;
  advances = λ opening bytes taken. Advances-none bytes c.args.piece.now taken;
}

pub make_room-requires-clause-going : goal.make_room-requires-clause-going
make_room-requires-clause-going g c = λ κs lives.
    let going = c.requires.going in
    let advances = c.loop-left.invariant.advances going.opening going.bytes going.taken in
    record { opening = going.opening; bytes = going.bytes ++ advances.front; taken = advances.taken }

pub take_line-left-requires-clause-going : goal.take_line-left-requires-clause-going
take_line-left-requires-clause-going g c = λ κs lives.
    let going = c.requires.going in
    let advances = c.loop-left.invariant.advances going.opening going.bytes going.taken in
    let taken = c.make_room.ensures.stays going.opening (going.bytes ++ advances.front) advances.taken in
    record {
      sink = g.K.Sink.told c.make_room.new.out;
      going = record { opening = going.opening; lines = whole_lines (going.bytes ++ advances.front); standing = taken.standing };
    }

pub loop-left-preserved : goal.loop-left-preserved
loop-left-preserved g c = record {
  taken = omega (arith, c.take_line-left.ensures.taken, c.make_room.ensures.taken, c.loop-left.invariant.taken);
  advances = λ opening bytes taken.
      Advances-trans bytes c.args.piece.now c.loop-left.left.now c.take_line-left.result.now
      (Advances-stays (c.make_room.ensures.stays opening) (c.loop-left.invariant.advances opening bytes taken))
      (c.take_line-left.ensures.advances (g.K.Sink.told c.make_room.new.out) (search rules) opening);
}

pub returns-clause-takes : goal.returns-clause-takes
returns-clause-takes g c = λ opening bytes taken.
    TakenAt-all bytes c.args.piece.now c.loop-left.left.now (c.loop-left.invariant.advances opening bytes taken) (search rules)

pub returns-then-breaks_off-clause-takes : goal.returns-then-breaks_off-clause-takes
returns-then-breaks_off-clause-takes g c = λ opening bytes taken.
    BreaksOff-left bytes c.args.piece.now c.loop-left.left.now (c.loop-left.invariant.advances opening bytes taken) c.make_room.ensures.stays (search rules)

pub returns-then-count_read-eq-MOST_RECORDS-clause-takes : goal.returns-then-count_read-eq-MOST_RECORDS-clause-takes
returns-then-count_read-eq-MOST_RECORDS-clause-takes g c = λ opening bytes taken.
    PassesLimit-left bytes c.args.piece.now c.loop-left.left.now (c.loop-left.invariant.advances opening bytes taken)
    (some_left c.loop-left.left.now (search rules)) (search rules) c.loop-left.self.few_bytes
