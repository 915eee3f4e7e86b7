use Rattle.std.proofs.Common.{List, sym, subst, ◌∙◌}
use Rattle.std.specs.Prelude.{IfErr}
use Rattle.std.specs.List.{AllZip}
use Rattle.exec_status.specs.declared.status.Status.{Status}
use Rattle.part_lines.specs.declared.tally.Tally.{Tally}
use Rattle.part_lines.specs.Tallies.{Tallies}
use Rattle.join_commands.specs.declared.ask.Asked.TheVariants.{Dealt}
use Rattle.join_commands.specs.Faults.{IsJoinFault}
use Rattle.join_commands.specs.Joins.{AreTallied, LeavesFront}
use Rattle.join_commands.proofs.DealtLaws.{Level, are_dealt, dealt, level_of, tallies_dealt}
use Rattle.join_commands.proofs.EndLaws.{front_finished, front_put, handed_err, joined_dealt, put_fault, tallied_parts, uneven_fault, untouched}
use Rattle.join_commands.proofs.lines.join_dealt.Goals as goal

pub returns-in_err-check_dealt-clause-fault : goal.returns-in_err-check_dealt-clause-fault
returns-in_err-check_dealt-clause-fault g c = λ all known.
    let handed = handed_err c.from_residual-in_err-check_dealt.result c.in_err-check_dealt.field-0.0 c.from_residual-in_err-check_dealt.ensures.0 c.from_residual-in_err-check_dealt.ensures.1 in
    subst (λ r. IfErr {T = Status} r (IsJoinFault all c.args.names.now)) (sym handed)
    (uneven_fault all c.args.names.now c.deref.result.now c.in_err-check_dealt.field-0.0
    (subst (λ (l : List Tally). AreTallied all c.args.names.now l) (sym c.deref.ensures.value) (c.in_ok-tallies.ensures.whole all known)) c.in_err-check_dealt.ensures.uneven)

pub returns-in_err-put_in_turn-clause-fault : goal.returns-in_err-put_in_turn-clause-fault
returns-in_err-put_in_turn-clause-fault g c = λ all known.
    let tallied = tallied_parts all c.args.names.now c.in_ok-tallies.tallies.items (c.in_ok-tallies.ensures.whole all known) in
    let each = subst (λ (l : List Tally). AllZip Tallies l tallied.0) (sym c.deref.ensures.value) tallied.2 in
    let again = subst (λ (l : List Tally). AllZip Tallies l tallied.0) (sym c.deref-2.ensures.value) tallied.2 in
    let even = c.in_ok-check_dealt.ensures.level in
    let level : Level even.rounds even.more tallied.0 = level_of even.rounds even.more c.deref.result.now tallied.0 even.each each in
    let counted = tallies_dealt c.sum_of-sum.result even.rounds even.more tallied.0 level (c.sum_of-sum.ensures.sum tallied.0 again) in
    let handed = handed_err c.from_residual-in_err-put_in_turn.result c.in_err-put_in_turn.field-0.0 c.from_residual-in_err-put_in_turn.ensures.0 c.from_residual-in_err-put_in_turn.ensures.1 in
    subst (λ r. IfErr {T = Status} r (IsJoinFault all c.args.names.now)) (sym handed)
    (put_fault all c.args.names.now (dealt even.rounds tallied.0) (g.K.Sink.told c.args.out.now) (g.K.Sink.told c.put_in_turn.new.out) c.in_err-put_in_turn.field-0.0
    (c.in_err-put_in_turn.ensures.puts all tallied.0 (dealt even.rounds tallied.0) (c.in_ok-tallies.ensures.same ∙ known) tallied.1 (are_dealt even.rounds even.more tallied.0 level) (c.lines.ensures ∙ counted.lines)))

pub returns-in_err-tallies-clause-front : goal.returns-in_err-tallies-clause-front
returns-in_err-tallies-clause-front g c = λ all known.
    let handed = handed_err c.from_residual.result c.in_err-tallies.field-0.0 c.from_residual.ensures.0 c.from_residual.ensures.1 in
    subst (λ r. IfErr {T = Status} r (LeavesFront all Dealt c.args.names.now (g.K.Sink.told c.args.out.now) (g.K.Sink.told c.args.out.now))) (sym handed)
    (untouched all Dealt c.args.names.now (g.K.Sink.told c.args.out.now) c.in_err-tallies.field-0.0)

pub returns-in_err-check_dealt-clause-front : goal.returns-in_err-check_dealt-clause-front
returns-in_err-check_dealt-clause-front g c = λ all known.
    let handed = handed_err c.from_residual-in_err-check_dealt.result c.in_err-check_dealt.field-0.0 c.from_residual-in_err-check_dealt.ensures.0 c.from_residual-in_err-check_dealt.ensures.1 in
    subst (λ r. IfErr {T = Status} r (LeavesFront all Dealt c.args.names.now (g.K.Sink.told c.args.out.now) (g.K.Sink.told c.args.out.now))) (sym handed)
    (untouched all Dealt c.args.names.now (g.K.Sink.told c.args.out.now) c.in_err-check_dealt.field-0.0)

pub returns-in_err-put_in_turn-clause-front : goal.returns-in_err-put_in_turn-clause-front
returns-in_err-put_in_turn-clause-front g c = λ all known.
    let tallied = tallied_parts all c.args.names.now c.in_ok-tallies.tallies.items (c.in_ok-tallies.ensures.whole all known) in
    let each = subst (λ (l : List Tally). AllZip Tallies l tallied.0) (sym c.deref.ensures.value) tallied.2 in
    let again = subst (λ (l : List Tally). AllZip Tallies l tallied.0) (sym c.deref-2.ensures.value) tallied.2 in
    let even = c.in_ok-check_dealt.ensures.level in
    let level : Level even.rounds even.more tallied.0 = level_of even.rounds even.more c.deref.result.now tallied.0 even.each each in
    let counted = tallies_dealt c.sum_of-sum.result even.rounds even.more tallied.0 level (c.sum_of-sum.ensures.sum tallied.0 again) in
    let are = are_dealt even.rounds even.more tallied.0 level in
    let handed = handed_err c.from_residual-in_err-put_in_turn.result c.in_err-put_in_turn.field-0.0 c.from_residual-in_err-put_in_turn.ensures.0 c.from_residual-in_err-put_in_turn.ensures.1 in
    subst (λ r. IfErr {T = Status} r (LeavesFront all Dealt c.args.names.now (g.K.Sink.told c.args.out.now) (g.K.Sink.told c.put_in_turn.new.out))) (sym handed)
    (front_put all Dealt c.args.names.now tallied.0 (dealt even.rounds tallied.0) (g.K.Sink.told c.args.out.now) (g.K.Sink.told c.put_in_turn.new.out) c.in_err-put_in_turn.field-0.0
    tallied.1 are (c.in_err-put_in_turn.ensures.puts all tallied.0 (dealt even.rounds tallied.0) (c.in_ok-tallies.ensures.same ∙ known) tallied.1 are (c.lines.ensures ∙ counted.lines)))

pub returns-clause-front : goal.returns-clause-front
returns-clause-front g c = λ all known.
    let tallied = tallied_parts all c.args.names.now c.in_ok-tallies.tallies.items (c.in_ok-tallies.ensures.whole all known) in
    let each = subst (λ (l : List Tally). AllZip Tallies l tallied.0) (sym c.deref.ensures.value) tallied.2 in
    let again = subst (λ (l : List Tally). AllZip Tallies l tallied.0) (sym c.deref-2.ensures.value) tallied.2 in
    let even = c.in_ok-check_dealt.ensures.level in
    let level : Level even.rounds even.more tallied.0 = level_of even.rounds even.more c.deref.result.now tallied.0 even.each each in
    let counted = tallies_dealt c.sum_of-sum.result even.rounds even.more tallied.0 level (c.sum_of-sum.ensures.sum tallied.0 again) in
    let are = are_dealt even.rounds even.more tallied.0 level in
    front_finished all Dealt c.args.names.now tallied.0 (dealt even.rounds tallied.0) (g.K.Sink.told c.args.out.now) (g.K.Sink.told c.put_in_turn.new.out) (g.K.Sink.told c.finish_lines.new.out) c.finish_lines.result
    tallied.1 are (c.in_ok-put_in_turn.ensures.puts all tallied.0 (dealt even.rounds tallied.0) (c.in_ok-tallies.ensures.same ∙ known) tallied.1 are (c.lines.ensures ∙ counted.lines)) c.finish_lines.ensures.wrote c.finish_lines.ensures.err

pub returns-clause-joined : goal.returns-clause-joined
returns-clause-joined g c = λ all known.
    let tallied = tallied_parts all c.args.names.now c.in_ok-tallies.tallies.items (c.in_ok-tallies.ensures.whole all known) in
    let each = subst (λ (l : List Tally). AllZip Tallies l tallied.0) (sym c.deref.ensures.value) tallied.2 in
    let again = subst (λ (l : List Tally). AllZip Tallies l tallied.0) (sym c.deref-2.ensures.value) tallied.2 in
    let even = c.in_ok-check_dealt.ensures.level in
    let level : Level even.rounds even.more tallied.0 = level_of even.rounds even.more c.deref.result.now tallied.0 even.each each in
    let counted = tallies_dealt c.sum_of-sum.result even.rounds even.more tallied.0 level (c.sum_of-sum.ensures.sum tallied.0 again) in
    let are = are_dealt even.rounds even.more tallied.0 level in
    joined_dealt all c.args.names.now tallied.0 (dealt even.rounds tallied.0) c.sum_of-sum.result (g.K.Sink.told c.args.out.now) (g.K.Sink.told c.put_in_turn.new.out) (g.K.Sink.told c.finish_lines.new.out) c.finish_lines.result
    tallied.1 are (c.in_ok-put_in_turn.ensures.puts all tallied.0 (dealt even.rounds tallied.0) (c.in_ok-tallies.ensures.same ∙ known) tallied.1 are (c.lines.ensures ∙ counted.lines)) c.finish_lines.ensures.ok counted c.finish_lines.ensures.status
