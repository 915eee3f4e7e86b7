use Rattle.std.proofs.Common.{ℕ, arith, sym, ap, ◌∙◌, subst}
use Rattle.table_words.specs.Layouts.{OfControl, index}
use Rattle.table_steps.specs.Slots.{Aim, slot_of}
use Rattle.table_steps.specs.Swaps.{TurnsTo}
use Rattle.table_life_kept.proofs.Turn.Allowed.{turns-at}
use Rattle.op_table.proofs.table.OpTable.turn_to.Goals as goal

pub load-requires-clause-table : goal.load-requires-clause-table
load-requires-clause-table g c =
    c.requires.table.table_is ∙ sym (ap (λ b. b.table_id) c.self.view_is)

pub load-requires-clause-within : goal.load-requires-clause-within
load-requires-clause-within g c =
    let counts = c.self.invariant.2 in
    let within = c.control-index.ensures.within in
    omega (arith, counts, within)

pub load-requires-clause-allows : goal.load-requires-clause-allows
load-requires-clause-allows g c =
    turns-at g.P.Cargo c.args.self.now.frame c.self.inside.table.key _ c.args.seat.now.id
    c.control-index.result c.args.name g.K.Subject.aim c.args.seat.now.me
    (sym (ap (λ b. b.frame) c.self.view_is) ∙ sym c.self.invariant.0) c.requires.subject c.requires.table.seated
    c.requires.home c.requires.table.seated.itself

pub returns-clause-slot : goal.returns-clause-slot
returns-clause-slot g c =
    c.place-slot.ensures.value ∙ ap (λ b. slot_of b.frame.layout c.args.name) c.self.view_is

pub returns-clause-turned : goal.returns-clause-turned
returns-clause-turned g c =
    let cell_is = c.control-index.ensures.value
    ∙ ap (λ b. index b.frame.layout (OfControl c.args.name.block c.args.name.node)) c.self.view_is in (
      c.load.result,
      subst (λ (z : ℕ × Aim). TurnsTo z.1 z.0 c.load.result c.args.seat.now.me c.load.new.hand.me)
          (λ k. (cell_is k, c.requires.subject k)) c.load.ensures.2.rest,
    )
