use Rattle.std.proofs.Common.{ap, sym, ◌∙◌}
use Rattle.timer_wheel.specs.Pairs.{Pairs}
use Rattle.timer_wheel.proofs.WheelLaws.{removed-is, added-is, on-added, same-places, seen-is}
use Rattle.timer_wheel.proofs.delays.Delays.saw_parked.Goals as goal

pub invariant_of-self : goal.invariant_of-self
invariant_of-self c =
    let wheel = c.self.inside.wheel in
    let waiting = c.self.inside.waiting.items in
    let gone = removed-is wheel c.remove.new.self c.args.place c.remove.result c.remove.ensures.answer
    c.remove.ensures.removed c.remove.ensures.absent in
    let within = same-places wheel waiting c.self.invariant c.args.place (rw (← c.self.view_is) at c.requires.place) in
    on-added wheel waiting c.self.invariant c.add.new.self c.args.place c.args.turns c.args.generation c.turn-since.result
    (added-is wheel c.remove.new.self c.add.new.self c.args.place c.args.turns c.add.result within gone c.add.ensures.answer
    c.add.ensures.added)
    c.turn-since.ensures.turn

pub returns-clause-seen : goal.returns-clause-seen
returns-clause-seen c =
    let wheel = c.self.inside.wheel in
    let waiting = c.self.inside.waiting.items in
    let gone = removed-is wheel c.remove.new.self c.args.place c.remove.result c.remove.ensures.answer
    c.remove.ensures.removed c.remove.ensures.absent in
    let within = same-places wheel waiting c.self.invariant c.args.place (rw (← c.self.view_is) at c.requires.place) in
    let made = added-is wheel c.remove.new.self c.add.new.self c.args.place c.args.turns c.add.result within gone
    c.add.ensures.answer c.add.ensures.added in
    rw (← c.self.view_is)
    (seen-is (record { turn = wheel.turn; waiting = waiting }) c.args.place c.args.generation c.args.turns c.turn-since.result
    c.add.new.self.turn (rw (← c.self.view_is) at (sym c.knows.ensures ∙ c.if-knows.false))
    (ap (λ (p : Pairs). p.turn) made) c.turn-since.ensures.turn)
