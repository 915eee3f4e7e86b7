use Rattle.std.proofs.Common.{◌≡◌, ◌<◌, ◌+◌, ℕ, [], List, length, get_or, set, Some, refl, sym, ap, subst, ◌∙◌, arith}
use Rattle.std.specs.Prelude.{slice_get}
use Rattle.std.specs.Borrow.{Bor}
use Rattle.std.proofs.lemmas.Option.{slice_get-get_or}
use Rattle.std.proofs.lemmas.Slice.Zip.{AllZip-long}
use Rattle.part_lines.specs.Readers.{ReaderView}
use Rattle.join_commands.specs.declared.fault.JoinFault.TheVariants.{WriteFault}
use Rattle.join_commands.specs.Joins.{PutsJoined}
use Rattle.join_commands.specs.Parts.{IsWholePart}
use Rattle.join_commands.specs.Turns.{IsAt}
use Rattle.join_commands.proofs.EndLaws.{cause_else, handed_err}
use Rattle.join_commands.proofs.TurnLaws.{Stands, all_turned, begun, same_part, stopped, turn_line, turned, turned_round}
use Rattle.join_commands.proofs.turns.put_in_turn.Goals.{then-at-len, else-at-len}
use Rattle.join_commands.proofs.turns.put_in_turn.Goals as goal

pub returns-in_err-readers-clause-writes : goal.returns-in_err-readers-clause-writes
returns-in_err-readers-clause-writes g c =
    let handed = handed_err c.from_residual.result c.in_err-readers.field-0.0 c.from_residual.ensures.0 c.from_residual.ensures.1 in
    cause_else WriteFault _ _ c.from_residual.result refl (λ is. c.in_err-readers.ensures.quiet (let e : c.in_err-readers.field-0.0 ≡ WriteFault = cc in e))

pub loop-written-init : goal.loop-written-init
loop-written-init g c = record {
  long = c.in_ok-readers.ensures.many;
  place = c.requires;
  stands = λ all parts lines known whole dealt total.
      begun parts lines c.in_ok-readers.readers.items (g.K.Sink.told c.args.out.now) (c.in_ok-readers.ensures.starts all parts known whole);
  read_faults = c.in_ok-readers.ensures.cause.still (λ e. cc);
  write_faults = refl;
}

pub returns-in_err-put_next-clause-puts : goal.returns-in_err-put_next-clause-puts
returns-in_err-put_next-clause-puts g c = λ all parts lines known whole dealt total.
    let at : ℕ = c.loop-written.at in
    let written : ℕ = c.loop-written.written in
    let readers : List ReaderView = c.loop-written.readers.items in
    let stands = c.loop-written.invariant.stands all parts lines known whole dealt total in
    let long : length parts ≡ length c.args.names.now = AllZip-long (λ (n : Bor (List ℕ)) s. IsWholePart all n.now s) c.args.names.now parts whole in
    let below : at < length parts = omega (arith, long, c.loop-written.invariant.place) in
    let within : at < length readers = omega (arith, c.loop-written.invariant.long, c.loop-written.invariant.place, c.loop-written.readers.ok) in
    let here : slice_get readers at ≡ Some c.index_mut.result.now = slice_get-get_or readers at c.index_mut.result.now within ∙ ap Some (sym c.index_mut.ensures.value) in
    let turn = turn_line parts lines (get_or parts at []) at written readers c.index_mut.result.now (g.K.Sink.told c.args.out.now) (g.K.Sink.told c.loop-written.out) stands dealt (slice_get-get_or parts at [] below) here in
    let words : slice_get lines written ≡ Some (get_or lines written []) = slice_get-get_or lines written [] (omega (arith, total, c.loop-written-test.true)) in
    let put = c.in_err-put_next.ensures.puts (get_or parts at []) (get_or lines written []) turn.0 (turn.1 ∙ words) in
    let handed = handed_err c.from_residual-in_err-put_next.result c.in_err-put_next.field-0.0 c.from_residual-in_err-put_next.ensures.0 c.from_residual-in_err-put_next.ensures.1 in
    subst (PutsJoined lines (g.K.Sink.told c.args.out.now) (g.K.Sink.told c.put_next.new.out)) (sym handed)
    (stopped parts lines at written readers (get_or lines written []) (g.K.Sink.told c.args.out.now) (g.K.Sink.told c.loop-written.out) (g.K.Sink.told c.put_next.new.out) stands words c.in_err-put_next.field-0.0 put)

pub loop-written-preserved : goal.loop-written-preserved
loop-written-preserved g c =
    let at : ℕ = c.loop-written.at in
    let written : ℕ = c.loop-written.written in
    let readers : List ReaderView = c.loop-written.readers.items in
    let old = g.K.Sink.told c.args.out.now in
    let mid = g.K.Sink.told c.loop-written.out in
    let new = g.K.Sink.told c.put_next.new.out in
    record {
      long = c.loop-written.invariant.long;
      place = elim c.if-at-len.branch [
        | then-at-len w ↦ omega (arith, w.at-is, c.requires)
        | else-at-len w ↦ omega (arith, w.at-is, w.if-at-len.false, c.len.ensures, c.loop-written.invariant.place, c.loop-written.invariant.long)
      ];
      stands = λ all parts lines known whole dealt total.
          let stands = c.loop-written.invariant.stands all parts lines known whole dealt total in
          let long : length parts ≡ length c.args.names.now = AllZip-long (λ (n : Bor (List ℕ)) s. IsWholePart all n.now s) c.args.names.now parts whole in
          let below : at < length parts = omega (arith, long, c.loop-written.invariant.place) in
          let within : at < length readers = omega (arith, c.loop-written.invariant.long, c.loop-written.invariant.place, c.loop-written.readers.ok) in
          let here : slice_get readers at ≡ Some c.index_mut.result.now = slice_get-get_or readers at c.index_mut.result.now within ∙ ap Some (sym c.index_mut.ensures.value) in
          let turn = turn_line parts lines (get_or parts at []) at written readers c.index_mut.result.now old mid stands dealt (slice_get-get_or parts at [] below) here in
          let words : slice_get lines written ≡ Some (get_or lines written []) = slice_get-get_or lines written [] (omega (arith, total, c.loop-written-test.true)) in
          let put = c.in_ok-put_next.ensures.puts (get_or parts at []) (get_or lines written []) turn.0 (turn.1 ∙ words) in
          let round : c.index_mut.result.now.passed ≡ stands.round = (stands.readers_at at (get_or parts at []) c.index_mut.result.now (slice_get-get_or parts at [] below) here).2 (omega arith) in
          let passed : c.put_next.new.reader.passed ≡ stands.round + 1 = omega (arith, round, c.in_ok-put_next.ensures.passed) in
          let on : (said : List (List ℕ)) → slice_get parts at ≡ Some said → IsAt said c.put_next.new.reader =
          λ said is. same_part parts at (get_or parts at []) said c.put_next.new.reader (slice_get-get_or parts at [] below) is (c.in_ok-put_next.ensures.on (get_or parts at []) turn.0) in
          let after = turned parts lines at written readers (get_or lines written []) old mid new stands words c.put_next.new.reader passed on put in
          elim c.if-at-len.branch [
            | then-at-len w ↦
                let all_had : at + 1 ≡ length parts = omega (arith, w.if-at-len.true, c.len.ensures, c.loop-written.invariant.long, long) in
                subst (λ (n : ℕ). Stands parts lines n (written + 1) (set readers at c.put_next.new.reader) old new) (sym w.at-is) (turned_round parts lines (at + 1) (written + 1) (set readers at c.put_next.new.reader) old new after all_had)
            | else-at-len w ↦ subst (λ (n : ℕ). Stands parts lines n (written + 1) (set readers at c.put_next.new.reader) old new) (sym w.at-is) after
          ];
      read_faults = c.in_ok-put_next.ensures.reads.still (λ e. cc) ∙ c.loop-written.invariant.read_faults;
      write_faults = c.in_ok-put_next.ensures.writes.still (λ e. cc) ∙ c.loop-written.invariant.write_faults;
    }

pub returns-clause-puts : goal.returns-clause-puts
returns-clause-puts g c = λ all parts lines known whole dealt total.
    all_turned parts lines c.loop-written.at c.loop-written.written c.loop-written.readers.items (g.K.Sink.told c.args.out.now) (g.K.Sink.told c.loop-written.out)
    (c.loop-written.invariant.stands all parts lines known whole dealt total) (omega (arith, total, c.loop-written-test.false))
