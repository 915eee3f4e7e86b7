use Rattle.std.proofs.Common.{◌≤◌, length, arith}
use Rattle.exec_bulk.specs.Rows.{numbers_in}
use Rattle.exec_bulk.proofs.Joined.{joins-none, joins-some}
use Rattle.exec_bulk.proofs.Making.{numbers-none}
use Rattle.exec_bulk.proofs.Opened.{all-able, all-made, kept, may-look, opened-back, opened-ends, seen-open, shows}
use Rattle.exec_bulk.proofs.stepping.join_parts.Goals as goal

pub look_row-room-requires : goal.look_row-room-requires
look_row-room-requires g c = record { may = may-look c.args.site.now c.args.taken c.args.child c.args.hand.now c.requires.up }

pub step_begun-requires : goal.step_begun-requires
step_begun-requires g c =
    let board = c.args.site.now in
    let up = c.requires.up in
    let row = c.look_row-room in
    let at = (shows board c.args.taken c.args.child c.args.hand.now up row.result row.new.hand row.ensures).room_is in
    record {
      may = opened-back board c.args.taken c.args.child c.args.hand.now up row.result row.new.hand row.ensures
          (numbers-none (numbers_in (kept board c.args.taken c.args.child c.args.hand.now up).completion) (omega (arith, at)));
    }

pub gather_parts-requires-clause-opened : goal.gather_parts-requires-clause-opened
gather_parts-requires-clause-opened g c =
    seen-open c.args.site.now c.args.taken c.args.child c.args.hand.now c.requires.up c.look_row-room.result c.look_row-room.new.hand
    c.look_row-room.ensures

pub end_parts-requires : goal.end_parts-requires
end_parts-requires g c =
    let board = c.args.site.now in
    let up = c.requires.up in
    let row = c.look_row-room in
    let at = (shows board c.args.taken c.args.child c.args.hand.now up row.result row.new.hand row.ensures).room_is in
    record {
      may = opened-ends board c.args.taken c.args.child c.args.hand.now up row.result row.new.hand row.ensures (omega (arith, at))
          c.parts_of.result c.parts_of.ensures c.gather_parts.new.made c.gather_parts.new.hand c.gather_parts.ensures;
    }

pub returns-then-room-eq0 : goal.returns-then-room-eq0
returns-then-room-eq0 g c =
    let board = c.args.site.now in
    let up = c.requires.up in
    let row = c.look_row-room in
    let at = (shows board c.args.taken c.args.child c.args.hand.now up row.result row.new.hand row.ensures).room_is in
    joins-none board c.args.taken c.args.child c.args.hand.now up row.new.hand c.step_begun.result c.step_begun.new.hand (omega (arith, at))
    c.step_begun.ensures

pub returns : goal.returns
returns g c =
    let board = c.args.site.now in
    let t = c.args.taken in
    let child = c.args.child in
    let old = c.args.hand.now in
    let up = c.requires.up in
    let row = c.look_row-room in
    let parts = c.gather_parts in
    let count = c.parts_of.result in
    let is = shows board t child old up row.result row.new.hand row.ensures in
    let at = is.room_is in
    let some : 1 ≤ length (numbers_in (kept board t child old up).completion) = omega (arith, at) in
    joins-some board t child old up parts.new.hand c.end_parts.result c.end_parts.new.hand some parts.new.made row.result.saw is.saw_is
    (all-made board t child old up row.result row.new.hand row.ensures some count c.parts_of.ensures parts.new.made parts.new.hand parts.ensures)
    (all-able board t child old up row.result row.new.hand row.ensures some count c.parts_of.ensures parts.new.made parts.new.hand parts.ensures)
    c.end_parts.ensures
