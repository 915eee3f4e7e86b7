use Rattle.std.proofs.Common.{sym, ap, length, ◌∙◌, arith}
use Rattle.record_lines.specs.Lines.{whole_lines, rest_of, without_cr}
use Rattle.record_loop.specs.Reading.{on}
use Rattle.record_loop.proofs.ReadingLaws.{stands-as}
use Rattle.record_loop.proofs.ClosingLaws.{AllTaken-stopped, AllTaken-ended, halted-through, last-few}
use Rattle.record_loop.proofs.session.Session.take_rest.Goals as goal

pub returns-then-not-has_ended-clause-all : goal.returns-then-not-has_ended-clause-all
returns-then-not-has_ended-clause-all g c = λ sink opening source left halts.
    AllTaken-stopped c.args.end (c.has_ended.ensures.no c.if-not-has_ended.true) halts

pub returns-in_default-clause-all : goal.returns-in_default-clause-all
returns-in_default-clause-all g c = λ sink opening source left halts.
    AllTaken-ended c.args.end c.args.self.flight (c.has_ended.ensures.yes c.if-not-has_ended.false) halts
    (λ stands kept standing. stands-as _ (sym (c.in_default.ensures.last halts.bytes stands)) standing)

pub take-requires-clause-few : goal.take-requires-clause-few
take-requires-clause-few g c = λ κs lives.
    let halted = c.requires.halted in
    let through = halted-through c.args.end (c.has_ended.ensures.yes c.if-not-has_ended.false) halted in
    last-few (on (g.O.Operations.state c.args.operations.now) halted.sink c.args.self) c.finish.new.self c.in-Some.last through.taken (c.in-Some.ensures.last halted.halts.bytes through.taken.stands)

pub take-requires-clause-room : goal.take-requires-clause-room
take-requires-clause-room g c = λ κs lives.
    let through = halted-through c.args.end (c.has_ended.ensures.yes c.if-not-has_ended.false) c.requires.halted in
    omega (arith, ap length through.none, c.args.self.flight.some)

pub take-requires-clause-going : goal.take-requires-clause-going
take-requires-clause-going g c = λ κs lives.
    let halted = c.requires.halted in
    let through = halted-through c.args.end (c.has_ended.ensures.yes c.if-not-has_ended.false) halted in
    record {
      sink = halted.sink;
      going = record { opening = halted.opening; lines = whole_lines halted.halts.bytes; standing = through.taken.standing };
    }

pub returns-clause-all : goal.returns-clause-all
returns-clause-all g c = λ sink opening source left halts.
    AllTaken-ended c.args.end c.take.new.self (c.has_ended.ensures.yes c.if-not-has_ended.false) halts
    (λ stands kept standing.
    let ends = c.in-Some.ensures.last halts.bytes stands in
    stands-as _ (sym ends.lines)
    (c.take.ensures.takes sink opening (whole_lines halts.bytes) (without_cr (rest_of halts.bytes)) (c.text.ensures.value ∙ ends.line.text) kept standing))
