use Rattle.std.proofs.Common.{◌≡◌, List, refl, sym, subst, ◌∙◌}
use Rattle.std.specs.Prelude.{IfErr}
use Rattle.std.specs.List.{AllZip}
use Rattle.exec_status.specs.declared.status.Status.{Status}
use Rattle.part_lines.specs.declared.tally.Tally.{Tally}
use Rattle.part_lines.specs.Tallies.{Tallies}
use Rattle.join_commands.specs.declared.ask.Asked.TheVariants.{Lines}
use Rattle.join_commands.specs.declared.fault.JoinFault.TheVariants.{WriteFault}
use Rattle.join_commands.specs.Faults.{IsJoinFault}
use Rattle.join_commands.specs.Joins.{LeavesFront}
use Rattle.part_lines.specs.Streams.{in_order}
use Rattle.join_commands.proofs.EndLaws.{cause_else, front_finished, front_put, handed_err, joined_or, put_fault, tallied_parts, untouched}
use Rattle.join_commands.proofs.lines.join_ordered.Goals as goal

pub returns-in_err-tallies-clause-writes : goal.returns-in_err-tallies-clause-writes
returns-in_err-tallies-clause-writes g c =
    let handed = handed_err c.from_residual.result c.in_err-tallies.field-0.0 c.from_residual.ensures.0 c.from_residual.ensures.1 in
    cause_else WriteFault _ _ c.from_residual.result refl (λ is. c.in_err-tallies.ensures.quiet (let e : c.in_err-tallies.field-0.0 ≡ WriteFault = cc in e))

pub returns-in_err-put_in_order-clause-fault : goal.returns-in_err-put_in_order-clause-fault
returns-in_err-put_in_order-clause-fault g c = λ all known.
    let tallied = tallied_parts all c.args.names.now c.in_ok-tallies.tallies.items (c.in_ok-tallies.ensures.whole all known) in
    let each = subst (λ (l : List Tally). AllZip Tallies l tallied.0) (sym c.deref.ensures.value) tallied.2 in
    let handed = handed_err c.from_residual-in_err-put_in_order.result c.in_err-put_in_order.field-0.0 c.from_residual-in_err-put_in_order.ensures.0 c.from_residual-in_err-put_in_order.ensures.1 in
    subst (λ r. IfErr {T = Status} r (IsJoinFault all c.args.names.now)) (sym handed)
    (put_fault all c.args.names.now (in_order tallied.0) (g.K.Sink.told c.args.out.now) (g.K.Sink.told c.put_in_order.new.out) c.in_err-put_in_order.field-0.0
    (c.in_err-put_in_order.ensures.puts all tallied.0 (c.in_ok-tallies.ensures.same ∙ known) tallied.1 each))

pub returns-in_err-tallies-clause-front : goal.returns-in_err-tallies-clause-front
returns-in_err-tallies-clause-front g c = λ all known.
    let handed = handed_err c.from_residual.result c.in_err-tallies.field-0.0 c.from_residual.ensures.0 c.from_residual.ensures.1 in
    subst (λ r. IfErr {T = Status} r (LeavesFront all Lines c.args.names.now (g.K.Sink.told c.args.out.now) (g.K.Sink.told c.args.out.now))) (sym handed)
    (untouched all Lines c.args.names.now (g.K.Sink.told c.args.out.now) c.in_err-tallies.field-0.0)

pub returns-in_err-put_in_order-clause-front : goal.returns-in_err-put_in_order-clause-front
returns-in_err-put_in_order-clause-front g c = λ all known.
    let tallied = tallied_parts all c.args.names.now c.in_ok-tallies.tallies.items (c.in_ok-tallies.ensures.whole all known) in
    let each = subst (λ (l : List Tally). AllZip Tallies l tallied.0) (sym c.deref.ensures.value) tallied.2 in
    let handed = handed_err c.from_residual-in_err-put_in_order.result c.in_err-put_in_order.field-0.0 c.from_residual-in_err-put_in_order.ensures.0 c.from_residual-in_err-put_in_order.ensures.1 in
    subst (λ r. IfErr {T = Status} r (LeavesFront all Lines c.args.names.now (g.K.Sink.told c.args.out.now) (g.K.Sink.told c.put_in_order.new.out))) (sym handed)
    (front_put all Lines c.args.names.now tallied.0 (in_order tallied.0) (g.K.Sink.told c.args.out.now) (g.K.Sink.told c.put_in_order.new.out) c.in_err-put_in_order.field-0.0
    tallied.1 refl (c.in_err-put_in_order.ensures.puts all tallied.0 (c.in_ok-tallies.ensures.same ∙ known) tallied.1 each))

pub returns-clause-front : goal.returns-clause-front
returns-clause-front g c = λ all known.
    let tallied = tallied_parts all c.args.names.now c.in_ok-tallies.tallies.items (c.in_ok-tallies.ensures.whole all known) in
    let each = subst (λ (l : List Tally). AllZip Tallies l tallied.0) (sym c.deref.ensures.value) tallied.2 in
    front_finished all Lines c.args.names.now tallied.0 (in_order tallied.0) (g.K.Sink.told c.args.out.now) (g.K.Sink.told c.put_in_order.new.out) (g.K.Sink.told c.finish_lines.new.out) c.finish_lines.result
    tallied.1 refl (c.in_ok-put_in_order.ensures.puts all tallied.0 (c.in_ok-tallies.ensures.same ∙ known) tallied.1 each) c.finish_lines.ensures.wrote c.finish_lines.ensures.err

pub returns-clause-joined : goal.returns-clause-joined
returns-clause-joined g c = λ all known.
    let tallied = tallied_parts all c.args.names.now c.in_ok-tallies.tallies.items (c.in_ok-tallies.ensures.whole all known) in
    let each = subst (λ (l : List Tally). AllZip Tallies l tallied.0) (sym c.deref.ensures.value) tallied.2 in
    let again = subst (λ (l : List Tally). AllZip Tallies l tallied.0) (sym c.deref-2.ensures.value) tallied.2 in
    joined_or all c.args.names.now tallied.0 c.sum_of.result (g.K.Sink.told c.args.out.now) (g.K.Sink.told c.put_in_order.new.out) (g.K.Sink.told c.finish_lines.new.out) c.finish_lines.result
    tallied.1 (c.in_ok-put_in_order.ensures.puts all tallied.0 (c.in_ok-tallies.ensures.same ∙ known) tallied.1 each) c.finish_lines.ensures.ok (c.sum_of.ensures.sum tallied.0 again) c.finish_lines.ensures.status
