use Rattle.std.proofs.Common.{◌∷◌, Err, refl}
use Rattle.exec_value.specs.Bytes.{blank}
use Rattle.outcome_lines.specs.Line.{text_of}
use Rattle.exec_io.proofs.PutsLemmas.{Puts-then, Puts-stop, Puts-item, Puts-item_stop}
use Rattle.outcome_lines.proofs.line.put_values.Goals as goal

pub returns-in_err-put_bytes : goal.returns-in_err-put_bytes
returns-in_err-put_bytes g c =
    Puts-item_stop (λ datum. blank ∷ text_of datum) c.args.values.now c.loop-datum.datum-index c.datum-item.result c.datum-item.result c.datum-item.is c.loop-datum-test.true c.from_residual.ensures.0 c.loop-datum.invariant (Puts-stop _ refl c.in_err-put_bytes.ensures)

pub returns-in_err-put_datum : goal.returns-in_err-put_datum
returns-in_err-put_datum g c =
    Puts-item_stop (λ datum. blank ∷ text_of datum) c.args.values.now c.loop-datum.datum-index c.datum-item.result c.datum-item.result c.datum-item.is c.loop-datum-test.true c.from_residual-in_err-put_datum.ensures.0 c.loop-datum.invariant (Puts-then {r = Err c.in_err-put_datum.field-0.0} c.in_ok-put_bytes.ensures c.in_err-put_datum.ensures)

pub loop-datum-preserved : goal.loop-datum-preserved
loop-datum-preserved g c =
    Puts-item (λ datum. blank ∷ text_of datum) c.args.values.now c.loop-datum.datum-index c.datum-item.result c.datum-item.result c.datum-item.is c.loop-datum-test.true c.loop-datum.invariant (Puts-then c.in_ok-put_bytes.ensures c.in_ok-put_datum.ensures)
