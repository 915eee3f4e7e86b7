use Rattle.std.proofs.Common.{refl, ◌∙◌, arith}
use Rattle.record_loop.proofs.ReadingLaws.{Advances-goes_on, Advances-ends}
use Rattle.record_loop.proofs.session.Session.take_line.Goals as goal

pub returns-in-Some-clause-advances : goal.returns-in-Some-clause-advances
returns-in-Some-clause-advances g c = λ sink kept opening bytes taken.
    Advances-ends c.args.piece.now c.in-Some.end taken c.requires.few (c.in-Some.ensures.lines bytes taken.stands) c.in-Some.ensures.split.whole
    (λ lines line has. c.take-in-Some.ensures.takes sink opening lines line (c.text-text.ensures.value ∙ has.text) kept)
    (omega (arith, c.in-Some.ensures.shorter))

pub returns-in-None-clause-advances : goal.returns-in-None-clause-advances
returns-in-None-clause-advances g c = λ sink kept opening bytes taken.
    Advances-goes_on c.args.piece.now taken c.requires.few (c.in-None.ensures.lines bytes taken.stands) refl refl
