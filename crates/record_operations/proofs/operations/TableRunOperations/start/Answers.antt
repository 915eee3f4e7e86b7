use Rattle.std.proofs.Common.{◌≡◌, ◌+◌, ◌%◌, List, [], ◌∷◌, length, get_or, refl, sym, ap, ◌∙◌, subst, arith}
use Rattle.std.specs.Prelude.{Some}
use Rattle.std.proofs.lemmas.List.{length-set}
use Rattle.deck_relay.specs.Desks.{deck_in, post_in}
use Rattle.exec_value.specs.declared.data.Datum.{Datum}
use Rattle.exec_value.specs.Kinds.{HasKind}
use Rattle.home_items.specs.Entries.{carried_of}
use Rattle.exec_recv.specs.Asides.{Aside}
use Rattle.exec_recv.specs.Over.{IsOver}
use Rattle.node_walks.specs.Starts.{CanRun}
use Rattle.run_loop.specs.Loops.{deck_of}
use Rattle.plan_kinds.specs.Runnable.{IsRunnable}
use Rattle.plan_shape.specs.Blueprint.{Blueprint}
use Rattle.record_loop.specs.Works.{BeginsTicket, KeepsWork}
use Rattle.record_operations.specs.Runs.{Run, run_of, work_of}
use Rattle.record_operations.proofs.Changed.{shown-free, shown-start, entered-by, has-entered-sound, has-entered-begins}
use Rattle.record_operations.proofs.Holding.{deck-on}
use Rattle.record_operations.proofs.Sounding.{turned-sound}
use Rattle.record_operations.proofs.Starting.{can-run, carries-datum}
use Rattle.record_operations.proofs.Worked.{keeps-work}
use Rattle.record_operations.proofs.operations.TableRunOperations.start.Goals as goal

pub enter-requires-clause-start : goal.enter-requires-clause-start
enter-requires-clause-start g c κs within =
    let inside = c.self.inside in
    let sound = c.self.invariant.sound in
    subst (CanRun inside.table.now)
    (sym (shown-start inside.plan.now c.of_record-env.result c.one.result c.args.number c.args.datum inside.requested c.of_record-env.ensures c.one.ensures))
    (can-run inside.plan.now sound.table.over.is_plan c.args.datum c.args.number inside.requested inside.table.now sound.table.over
    (subst (λ (run : Run). HasKind c.args.datum run.plan.settings.input) (sym c.self.view_is) c.requires.kind))

pub invariant_of-self-in-Ok : goal.invariant_of-self-in-Ok
invariant_of-self-in-Ok g c =
    let inside = c.self.inside in
    let sound = c.self.invariant.sound in
    let run = run_of inside.table.now inside.plan.now inside.looped inside.operations.items inside.requested inside.futures in
    let lent : c.deref.result.now ≡ inside.operations.items = cc in
    let count : length c.put.new.operations.items ≡ length inside.operations.items =
    ap length c.put.ensures ∙ length-set inside.operations.items inside.next (Some c.in-Ok.operation) in
    let here = sound.tickets.within in
    record {
      sound = has-entered-sound g.B.OnTable.is g.B.OnTable.claimed run (g.T.Stepper.plan inside.stepper.now) inside.next sound inside.next c.args.number c.args.datum
          (entered-by run inside.next c.args.number c.args.datum here
          (shown-free c.deref.result.now inside.operations.items inside.next c.is_free.result lent c.is_free.ensures c.if-not-is_free.false)
          c.in-Ok.operation c.enter.new.looped c.in-Ok.ensures.ready c.in-Ok.ensures.counts.tally c.of_record-env.result
          (shown-start inside.plan.now c.of_record-env.result c.one.result c.args.number c.args.datum inside.requested c.of_record-env.ensures c.one.ensures)
          c.in-Ok.ensures.entered c.put.new.operations.items c.put.ensures)
          ((inside.next + 1) % c.len.result) (omega (arith, count, here));
      spawns_is = c.self.invariant.spawns_is;
      both = deck-on (deck_in g.B.OnTable.desk) (post_in g.B.OnTable.desk) (deck_of inside.looped) inside.post c.self.invariant.both (deck_of c.enter.new.looped)
          c.in-Ok.ensures.deck;
    }

pub returns-in-Ok-clause-started : goal.returns-in-Ok-clause-started
returns-in-Ok-clause-started g c =
    let inside = c.self.inside in
    let sound = c.self.invariant.sound in
    let run = run_of inside.table.now inside.plan.now inside.looped inside.operations.items inside.requested inside.futures in
    let lent : c.deref.result.now ≡ inside.operations.items = cc in
    let grown : Run = record run { looped = c.enter.new.looped; operations = c.put.new.operations.items } in
    subst (λ (r : Run). BeginsTicket (work_of r) (work_of grown) c.args.number c.args.datum inside.next) c.self.view_is
    (has-entered-begins g.B.OnTable.is g.B.OnTable.claimed run (g.T.Stepper.plan inside.stepper.now) inside.next sound inside.next c.args.number c.args.datum
    (entered-by run inside.next c.args.number c.args.datum sound.tickets.within
    (shown-free c.deref.result.now inside.operations.items inside.next c.is_free.result lent c.is_free.ensures c.if-not-is_free.false)
    c.in-Ok.operation c.enter.new.looped c.in-Ok.ensures.ready c.in-Ok.ensures.counts.tally c.of_record-env.result
    (shown-start inside.plan.now c.of_record-env.result c.one.result c.args.number c.args.datum inside.requested c.of_record-env.ensures c.one.ensures)
    c.in-Ok.ensures.entered c.put.new.operations.items c.put.ensures))

pub invariant_of-self-in-Err : goal.invariant_of-self-in-Err
invariant_of-self-in-Err g c =
    let inside = c.self.inside in
    record {
      sound = turned-sound g.B.OnTable.is g.B.OnTable.claimed
          (run_of inside.table.now inside.plan.now inside.looped inside.operations.items inside.requested inside.futures)
          (g.T.Stepper.plan inside.stepper.now) inside.next c.self.invariant.sound c.enter.new.looped c.in-Err.ensures.ready c.in-Err.ensures.counts.tally
          c.in-Err.ensures.same;
      spawns_is = c.self.invariant.spawns_is;
      both = deck-on (deck_in g.B.OnTable.desk) (post_in g.B.OnTable.desk) (deck_of inside.looped) inside.post c.self.invariant.both (deck_of c.enter.new.looped)
          c.in-Err.ensures.deck;
    }

pub returns-in-Err-clause-refused : goal.returns-in-Err-clause-refused
returns-in-Err-clause-refused g c =
    let inside = c.self.inside in
    let run = run_of inside.table.now inside.plan.now inside.looped inside.operations.items inside.requested inside.futures in
    let began = shown-start inside.plan.now c.of_record-env.result c.one.result c.args.number c.args.datum inside.requested c.of_record-env.ensures c.one.ensures in
    let carried : c.into_one.result ∷ [] ≡ c.args.datum ∷ [] =
    sym c.into_one.ensures ∙ c.into_args.ensures ∙ ap carried_of (c.in-Err.ensures.back ∙ began)
    ∙ carries-datum inside.plan.now c.self.invariant.sound.table.over.is_plan c.args.datum c.args.number inside.requested in (
      ap (λ (l : List Datum). get_or l 0 c.args.datum) carried,
      subst (λ (r : Run). KeepsWork (work_of r) (work_of (record run { looped = c.enter.new.looped }))) c.self.view_is
          (keeps-work run (record run { looped = c.enter.new.looped })
          (record {
            board = refl;
            plan = refl;
            operations = refl;
            requested = refl;
            tally = c.in-Err.ensures.counts.tally;
            noted = ap (λ (a : Aside). a.noted) c.in-Err.ensures.same.is;
          })),
    )

pub enter-requires-clause-over : goal.enter-requires-clause-over
enter-requires-clause-over g c κs within =
    let table = c.self.invariant.sound.table in
    subst (λ (p : Blueprint). IsOver c.self.inside.table.now p) (sym table.stepped_is) table.over

pub enter-requires-clause-kinds : goal.enter-requires-clause-kinds
enter-requires-clause-kinds g c κs within =
    let table = c.self.invariant.sound.table in
    subst IsRunnable (sym table.stepped_is) table.kinds

pub put-requires-clause-free : goal.put-requires-clause-free
put-requires-clause-free g c =
    let inside = c.self.inside in
    let lent : c.deref.result.now ≡ inside.operations.items = cc in
    shown-free c.deref.result.now inside.operations.items inside.next c.is_free.result lent c.is_free.ensures c.if-not-is_free.false

pub overflow_add-self : goal.overflow_add-self
overflow_add-self g c =
    let tickets = c.self.invariant.sound.tickets in
    let within = tickets.within in
    let few = tickets.few in
    omega (arith, within, few)

pub nonzero_rem-self : goal.nonzero_rem-self
nonzero_rem-self g c =
    let items = c.self.inside.operations.items in
    let count : length c.put.new.operations.items ≡ length items =
    ap length c.put.ensures ∙ length-set items c.self.inside.next (Some c.in-Ok.operation) in
    let within = c.self.invariant.sound.tickets.within in
    omega (arith, count, within)

pub overflow_cast-result : goal.overflow_cast-result
overflow_cast-result g c =
    let tickets = c.self.invariant.sound.tickets in
    let within = tickets.within in
    let few = tickets.few in
    omega (arith, within, few)

pub into_one-requires : goal.into_one-requires
into_one-requires g c =
    let plan = c.self.inside.plan.now in
    let asked = c.self.inside.requested in
    let began = shown-start plan c.of_record-env.result c.one.result c.args.number c.args.datum asked c.of_record-env.ensures c.one.ensures in
    ap length
    (c.into_args.ensures ∙ ap carried_of (c.in-Err.ensures.back ∙ began)
    ∙ carries-datum plan c.self.invariant.sound.table.over.is_plan c.args.datum c.args.number asked)
